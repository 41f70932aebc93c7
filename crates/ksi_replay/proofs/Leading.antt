-- What one event leads to, in a world of this plan.
use Rattle.ksi_schedule.specs.Plans.{core_plan_of}
use Rattle.std.proofs.Common.{◌≡◌, ℕ, zero, suc, ◌<◌, ◌≤◌, ◌&&◌, eqb, List, [], ◌∷◌, ◌++◌, map, Option, Some, None, refl, sym, subst, arith, is_some, slice_get, append-nil, length}
use Rattle.std.proofs.lemmas.Bool.{cond_both, eqb-true, and_parts}
use Rattle.ksi_aggtree.specs.declared.item.Item.{Item}
use Rattle.ksi_aggtree.specs.declared.entries.Entry.{Entry}
use Rattle.ksi_aggtree.specs.declared.entries.Origin.{Origin}
use Rattle.ksi_aggtree.specs.declared.entries.Origin.TheVariants as origins
use Rattle.ksi_aggtree.specs.Entries.{items_of, has_from, is_full}
use Rattle.ksi_synod.specs.declared.messages.SynodMessage.{SynodMessage}
use Rattle.ksi_synod.specs.declared.messages.SynodMessage.TheVariants as message
use Rattle.ksi_synod.specs.Rows.{try_ballot, ballot_told, receive, held_told}
use Rattle.ksi_signature.specs.declared.above.Above.{Above}
use Rattle.ksi_signature.specs.declared.answer.Answer.{Answer}
use Rattle.ksi_signature.specs.declared.answer.Answer.TheVariants as answers
use Rattle.ksi_corenode.specs.SecondState.{SecondState, fresh_second}
use Rattle.ksi_corenode.specs.Turns.{Turn, still}
use Rattle.ksi_calendar.specs.Covered.{Roots, first_missing, covered_seconds}
use Rattle.ksi_corenode.specs.declared.step.Send as core_step
use Rattle.ksi_corenode.specs.declared.step.Send.TheVariants as core_sends
use Rattle.ksi_corenode.specs.Rows.{submission_row, submitted, item_taken, seal_row, sealed_now, ballot_row, receive_row, tell_row, respond_row, respond_where, responded, above_item, is_mine, restart_row}
use Rattle.ksi_aggregator.specs.Responses.{responses, responses_from, told_to, below}
use Rattle.ksi_aggregator.specs.Rows.{RoundState, RoundTurn, fresh_round, round_still, round_added, closed_now, answered_now, request_entry, submitted_entry, round_request, round_submission, round_close, round_response, response_where, round_restarted, submission_of}
use Rattle.ksi_schedule.specs.declared.actor.Actor.{Actor}
use Rattle.ksi_schedule.specs.declared.actor.Actor.TheVariants as actors
use Rattle.ksi_schedule.specs.declared.event.Event.{Event}
use Rattle.ksi_schedule.specs.declared.event.Event.TheVariants as events
use Rattle.ksi_schedule.specs.Plans.{parent_of}
use Rattle.ksi_world.specs.declared.outcome.Asked.{Asked}
use Rattle.ksi_world.specs.declared.message.Content.{Content}
use Rattle.ksi_world.specs.declared.message.Content.TheVariants as contents
use Rattle.ksi_world.specs.declared.message.Message.{Message}
use Rattle.ksi_world.specs.Histories.{WorldState, core_message, round_message, at_core, at_round, accepted_where, request_happens, delivered, happens, held_in, first_world}
use Rattle.ksi_world.specs.Histories as histories
use Rattle.ksi_replay.specs.Generate.{header}
use Rattle.ksi_replay.proofs.Weights.{led_below, led_below_few, led_by_vote, led_by, heavy, heavy_told, led_by_received, led_by_ballot, led_by_tell, heavy_core, heavy_round}
use Rattle.ksi_replay.proofs.Thin.{IsThin, thin_none, thin_request, thin_item}

-- ---- the world

pub record IsThinSecond (j : ℕ) (s : SecondState) : Type 0 where
  pub open_items : IsThin (actors.Core j) s.open_items
  pub sealed : (entries : List Entry) → s.sealed ≡ Some entries → IsThin (actors.Core j) entries

pub record IsThinRound (k : ℕ) (r : RoundState) : Type 0 where
  pub open_items : IsThin (actors.Aggregator k) r.open_items
  pub closed : (entries : List Entry) → r.closed ≡ Some entries → IsThin (actors.Aggregator k) entries

-- an aggregator's submission goes to its parent
abbrev pub IsPosted : (sender addressee : Actor) → Content → Type 0
IsPosted (actors.Core j) to content = Unit {0}
IsPosted (actors.Aggregator from) to (contents.Synod m) = Unit {0}
IsPosted (actors.Aggregator from) to (contents.Response above) = Unit {0}
IsPosted (actors.Aggregator from) to (contents.Submission item) = (from < 6) × (to ≡ parent_of header from)

abbrev pub ArePosted : List Message → Type 0
ArePosted [] = Unit {0}
ArePosted (m ∷ ms) = IsPosted m.sender m.addressee m.content × ArePosted ms

posted_both : (xs ys : List Message) → ArePosted xs → ArePosted ys → ArePosted (xs ++ ys)
posted_both [] ys are more = more
posted_both (x ∷ xs) ys are more = (are.0, posted_both xs ys are.1 more)

posted_at : (xs : List Message) (k : ℕ) (m : Message) → ArePosted xs → slice_get xs k ≡ Some m → IsPosted m.sender m.addressee m.content
posted_at [] k m are at = absurd (cc at)
posted_at (x ∷ xs) zero m are at = let same : x ≡ m = cc at in subst (λ (m : Message). IsPosted m.sender m.addressee m.content) same are.0
posted_at (x ∷ xs) (suc k) m are at = posted_at xs k m are.1 at

pub record IsThinWorld (w : WorldState) : Type 0 where
  pub seconds : (j t : ℕ) → IsThinSecond j (w.seconds j t)
  pub rounds : (k t : ℕ) → IsThinRound k (w.rounds k t)
  pub wire : ArePosted w.wire

-- the world goes on, and what is sent is not heavier
pub record Goes (most : ℕ) (w next : WorldState) : Type 0 where
  pub thin : IsThinWorld next
  pub sent : List Message
  pub wire : next.wire ≡ w.wire ++ sent
  pub light : heavy sent ≤ most

stays : (w : WorldState) → IsThinWorld w → Goes 0 w w
stays w thin = record { thin = thin; sent = []; wire = sym (append-nil w.wire); light = omega arith }

lighter : (least most : ℕ) (w next : WorldState) → least ≤ most → Goes least w next → Goes most w next
lighter least most w next le goes = record { thin = goes.thin; sent = goes.sent; wire = goes.wire; light = omega (arith, le, goes.light) }

-- ---- a turn of a core

core_posted : (j t : ℕ) (sends : List core_step.Send) → ArePosted (map (core_message j t) sends)
core_posted j t [] = tt
core_posted j t (core_sends.Synod to m ∷ sends) = (tt, core_posted j t sends)
core_posted j t (core_sends.Response to above ∷ sends) = (tt, core_posted j t sends)

core_goes : (most : ℕ) (w : WorldState) (j t : ℕ) (turn : Turn) → IsThinSecond j turn.after → heavy (map (core_message j t) turn.sends) ≤ most → IsThinWorld w → Goes most w (at_core w j t turn).world
core_goes most w j t turn second light thin = record {
  thin = record {
    seconds = λ i u. cond_both (eqb i j && eqb u t) turn.after (w.seconds i u) (λ s. IsThinSecond i s)
        (λ here. subst (λ i. IsThinSecond i turn.after) (sym (eqb-true i j (and_parts (eqb i j) (eqb u t) here).0)) second) (λ _. thin.seconds i u);
    rounds = thin.rounds;
    wire = posted_both w.wire (map (core_message j t) turn.sends) thin.wire (core_posted j t turn.sends);
  };
  sent = map (core_message j t) turn.sends;
  wire = refl;
  light = light;
}

still_goes : (w : WorldState) (j t : ℕ) (answer : Answer) → IsThinWorld w → Goes 0 w (at_core w j t (still (w.seconds j t) answer)).world
still_goes w j t answer thin = core_goes 0 w j t (still (w.seconds j t) answer) (thin.seconds j t) (omega arith) thin

submission_goes : (w : WorldState) (j t from : ℕ) (item : Item) → from < 6 → actors.Core j ≡ parent_of header from → IsThinWorld w → Goes 0 w (at_core w j t (submission_row from item (w.seconds j t))).world
unfolding submission_row
submission_goes w j t from item lt parent thin =
    let s = w.seconds j t in
    let old = thin.seconds j t in
    let same : IsThinSecond j (record s { open_items = s.open_items }) = record { open_items = old.open_items; sealed = old.sealed } in
    cond_both (is_some s.sealed) _ _ (λ (turn : Turn). Goes 0 w (at_core w j t turn).world) (λ _. still_goes w j t answers.Late thin)
    (λ _. cond_both (has_from from s.open_items) _ _ (λ row. Goes 0 w (at_core w j t (item_taken s row)).world) (λ _. core_goes 0 w j t (item_taken s (s.open_items, answers.Known)) same (omega arith) thin)
    (λ none. cond_both (is_full s.open_items) _ _ (λ row. Goes 0 w (at_core w j t (item_taken s row)).world) (λ _. core_goes 0 w j t (item_taken s (s.open_items, answers.Full)) same (omega arith) thin)
    (λ _. core_goes 0 w j t (item_taken s (s.open_items ++ submitted from item ∷ [], answers.Done)) (record { open_items = thin_item (actors.Core j) s.open_items from item lt parent none old.open_items; sealed = old.sealed }) (omega arith) thin)))

seal_goes : (image : List ℕ → List ℕ) (w : WorldState) (j t : ℕ) → IsThinWorld w → Goes 0 w (at_core w j t (seal_row image (w.seconds j t))).world
unfolding seal_row
seal_goes image w j t thin =
    let s = w.seconds j t in
    let old = thin.seconds j t in
    cond_both (is_some s.sealed) _ _ (λ (turn : Turn). Goes 0 w (at_core w j t turn).world) (λ _. still_goes w j t answers.Sealed thin)
    (λ _. core_goes 0 w j t (sealed_now image s) (record { open_items = thin_none (actors.Core j); sealed = λ entries at. let same : s.open_items ≡ entries = cc at in subst (λ es. IsThin (actors.Core j) es) same old.open_items }) (omega arith) thin)

ballot_goes : (w : WorldState) (j t : ℕ) → IsThinWorld w → Goes 549 w (at_core w j t (ballot_row (core_plan_of header) t j (w.seconds j t))).world
unfolding ballot_row
ballot_goes w j t thin =
    let s = w.seconds j t in
    let old = thin.seconds j t in
    let o = ballot_told (try_ballot s.vote).1 in
    core_goes 549 w j t (ballot_row (core_plan_of header) t j s) (record { open_items = old.open_items; sealed = old.sealed }) (omega (arith, heavy_told j t j o, led_by_ballot (try_ballot s.vote).1)) thin

receive_goes : (w : WorldState) (j t from : ℕ) (m : SynodMessage) → IsThinWorld w → Goes (led_by_vote m) w (at_core w j t (receive_row (core_plan_of header) t from m (w.seconds j t))).world
unfolding receive_row
receive_goes w j t from m thin =
    let s = w.seconds j t in
    let old = thin.seconds j t in
    core_goes (led_by_vote m) w j t (receive_row (core_plan_of header) t from m s) (record { open_items = old.open_items; sealed = old.sealed }) (omega (arith, heavy_told j t from (receive s.vote from m).1, led_by_received s.vote from m)) thin

tell_goes : (w : WorldState) (j t : ℕ) → IsThinWorld w → Goes 3 w (at_core w j t (tell_row (core_plan_of header) t j (w.seconds j t))).world
unfolding tell_row
tell_goes w j t thin =
    let s = w.seconds j t in
    let old = thin.seconds j t in
    core_goes 3 w j t (tell_row (core_plan_of header) t j s) (record { open_items = old.open_items; sealed = old.sealed }) (omega (arith, heavy_told j t j (held_told s.vote.held), led_by_tell s.vote.held)) thin

respond_goes : (image : List ℕ → List ℕ) (w : WorldState) (j t start : ℕ) (held : Roots) → IsThinWorld w → Goes 7 w (at_core w j t (respond_row image held start t (w.seconds j t))).world
unfolding respond_row
respond_goes image w j t start held thin = by s.sealed refl (first_missing held start t) (held t)
  where
    s : SecondState
    s = w.seconds j t

    old : IsThinSecond j s
    old = thin.seconds j t

    none : (answer : Answer) → Goes 7 w (at_core w j t (still s answer)).world
    none answer = core_goes 7 w j t (still s answer) old (omega arith) thin

    by : (sealed : Option (List Entry)) → s.sealed ≡ sealed → (missing : Option ℕ) (root : Option (List ℕ)) → Goes 7 w (at_core w j t (respond_where image held start t sealed missing root s)).world
    by None at missing root = none answers.Unsealed
    by (Some entries) at (Some missing) root = none (answers.Undecided missing)
    by (Some entries) at None None = none (answers.Undecided t)
    by (Some entries) at None (Some root) = cond_both (is_mine image entries root) _ _ (λ (turn : Turn). Goes 7 w (at_core w j t turn).world)
        (λ _. core_goes 7 w j t (responded image held start t entries root s) old (omega (arith, heavy_core j t 0 (above_item image (covered_seconds held start t) t root (items_of entries)) entries, (old.sealed entries at).few)) thin)
        (λ _. none answers.NotMine)

-- ---- a turn of an aggregator

round_goes : (most : ℕ) (w : WorldState) (requests : List Asked) (k t : ℕ) (turn : RoundTurn) → IsThinRound k turn.after → ArePosted (map (round_message header k t) turn.sends) → heavy (map (round_message header k t) turn.sends) ≤ most → IsThinWorld w →
    Goes most w (record (at_round header w k t turn).world { requests = requests })
round_goes most w requests k t turn round posted light thin = record {
  thin = record {
    seconds = thin.seconds;
    rounds = λ i u. cond_both (eqb i k && eqb u t) turn.after (w.rounds i u) (λ r. IsThinRound i r)
        (λ here. subst (λ i. IsThinRound i turn.after) (sym (eqb-true i k (and_parts (eqb i k) (eqb u t) here).0)) round) (λ _. thin.rounds i u);
    wire = posted_both w.wire (map (round_message header k t) turn.sends) thin.wire posted;
  };
  sent = map (round_message header k t) turn.sends;
  wire = refl;
  light = light;
}

round_stays : (w : WorldState) (requests : List Asked) (k t : ℕ) (answer : Answer) → IsThinWorld w → Goes 0 w (record (at_round header w k t (round_still (w.rounds k t) answer)).world { requests = requests })
round_stays w requests k t answer thin = round_goes 0 w requests k t (round_still (w.rounds k t) answer) (thin.rounds k t) tt (omega arith) thin

request_goes : (w : WorldState) (k t : ℕ) (imprint : List ℕ) (name : Option (List ℕ)) → IsThinWorld w → Goes 0 w (request_happens header w k t imprint name).world
unfolding round_request
request_goes w k t imprint name thin =
    let r = w.rounds k t in
    let old = thin.rounds k t in
    let asked : Asked = record { aggregator = k; second = t; imprint = imprint } in
    cond_both (is_some r.closed) _ _ (λ (turn : RoundTurn). Goes 0 w (accepted_where asked (at_round header w k t turn)).world) (λ _. round_stays w w.requests k t answers.Late thin)
    (λ _. cond_both (is_full r.open_items) _ _ (λ (turn : RoundTurn). Goes 0 w (accepted_where asked (at_round header w k t turn)).world) (λ _. round_stays w w.requests k t answers.Full thin)
    (λ _. round_goes 0 w (w.requests ++ asked ∷ []) k t (round_added r (request_entry (length w.requests) imprint name) (answers.Number (length w.requests)))
    (record { open_items = thin_request (actors.Aggregator k) r.open_items (length w.requests) imprint name old.open_items; closed = old.closed }) tt (omega arith) thin))

take_goes : (w : WorldState) (k t from : ℕ) (item : Item) → from < 6 → actors.Aggregator k ≡ parent_of header from → IsThinWorld w → Goes 0 w (at_round header w k t (round_submission from item (w.rounds k t))).world
unfolding round_submission
take_goes w k t from item lt parent thin =
    let r = w.rounds k t in
    let old = thin.rounds k t in
    cond_both (is_some r.closed) _ _ (λ (turn : RoundTurn). Goes 0 w (at_round header w k t turn).world) (λ _. round_stays w w.requests k t answers.Late thin)
    (λ _. cond_both (has_from from r.open_items) _ _ (λ (turn : RoundTurn). Goes 0 w (at_round header w k t turn).world) (λ _. round_stays w w.requests k t answers.Known thin)
    (λ none. cond_both (is_full r.open_items) _ _ (λ (turn : RoundTurn). Goes 0 w (at_round header w k t turn).world) (λ _. round_stays w w.requests k t answers.Full thin)
    (λ _. round_goes 0 w w.requests k t (round_added r (submitted_entry from item) answers.Done)
    (record { open_items = thin_item (actors.Aggregator k) r.open_items from item lt parent none old.open_items; closed = old.closed }) tt (omega arith) thin)))

fresh_thin : (k : ℕ) → IsThinRound k fresh_round
fresh_thin k = record { open_items = thin_none (actors.Aggregator k); closed = λ entries at. absurd (cc at) }

restarted_round : (k : ℕ) (r : RoundState) → IsThinRound k r → IsThinRound k (round_restarted r)
restarted_round k r thin = cond_both (is_some r.closed) r fresh_round (λ r. IsThinRound k r) (λ _. thin) (λ _. fresh_thin k)

-- ---- what an event leads to

abbrev pub led_by_found : Option Message → ℕ
led_by_found None = 0
led_by_found (Some m) = led_by m.addressee m.content

abbrev pub led_by_event : WorldState → Event → ℕ
led_by_event w (events.Request k t imprint name) = 0
led_by_event w (events.Close k t) = 1
led_by_event w (events.Seal j t) = 0
led_by_event w (events.Ballot j t) = 549
led_by_event w (events.Deliver number) = led_by_found (slice_get w.wire number)
led_by_event w (events.Tell j t) = 3
led_by_event w (events.Respond j t) = 7
led_by_event w (events.Publish j p) = 0
led_by_event w (events.RestartCore j) = 0
led_by_event w (events.RestartAggregator k) = 0

led_by_few : (to : Actor) (content : Content) → led_by to content ≤ 91
led_by_few to (contents.Synod (message.NextBallot b)) = omega arith
led_by_few to (contents.Synod (message.LastVote l)) = omega arith
led_by_few to (contents.Synod (message.BeginBallot b d)) = omega arith
led_by_few to (contents.Synod (message.Voted b)) = omega arith
led_by_few to (contents.Synod (message.Success d)) = omega arith
led_by_few to (contents.Submission item) = omega arith
led_by_few (actors.Core j) (contents.Response above) = omega arith
led_by_few (actors.Aggregator k) (contents.Response above) = omega (arith, led_below_few k)

led_by_found_few : (found : Option Message) → led_by_found found ≤ 549
led_by_found_few None = omega arith
led_by_found_few (Some m) = omega (arith, led_by_few m.addressee m.content)

pub led_few : (w : WorldState) (e : Event) → led_by_event w e ≤ 549
led_few w (events.Request k t imprint name) = omega arith
led_few w (events.Close k t) = omega arith
led_few w (events.Seal j t) = omega arith
led_few w (events.Ballot j t) = omega arith
led_few w (events.Deliver number) = led_by_found_few (slice_get w.wire number)
led_few w (events.Tell j t) = omega arith
led_few w (events.Respond j t) = omega arith
led_few w (events.Publish j p) = omega arith
led_few w (events.RestartCore j) = omega arith
led_few w (events.RestartAggregator k) = omega arith

-- an aggregator that closes a round is there
abbrev pub IsThere : Event → Type 0
IsThere (events.Request k t imprint name) = Unit {0}
IsThere (events.Close k t) = k < 6
IsThere (events.Seal j t) = Unit {0}
IsThere (events.Ballot j t) = Unit {0}
IsThere (events.Deliver number) = Unit {0}
IsThere (events.Tell j t) = Unit {0}
IsThere (events.Respond j t) = Unit {0}
IsThere (events.Publish j p) = Unit {0}
IsThere (events.RestartCore j) = Unit {0}
IsThere (events.RestartAggregator k) = Unit {0}

module _ (image : List ℕ → List ℕ) where
  close_posted : (k t : ℕ) (es : List Entry) → k < 6 → ArePosted (map (round_message header k t) (submission_of image es))
  close_posted k t [] lt = tt
  close_posted k t (e ∷ es) lt = ((lt, refl), tt)

  close_light : (k t : ℕ) (es : List Entry) → heavy (map (round_message header k t) (submission_of image es)) ≤ 1
  close_light k t [] = omega arith
  close_light k t (e ∷ es) = omega arith

  close_goes : (w : WorldState) (k t : ℕ) → k < 6 → IsThinWorld w → Goes 1 w (at_round header w k t (round_close image (w.rounds k t))).world
  unfolding round_close
  close_goes w k t lt thin =
      let r = w.rounds k t in
      let old = thin.rounds k t in
      cond_both (is_some r.closed) _ _ (λ (turn : RoundTurn). Goes 1 w (at_round header w k t turn).world) (λ _. round_goes 1 w w.requests k t (round_still r answers.Closed) old tt (omega arith) thin)
      (λ _. round_goes 1 w w.requests k t (closed_now image r)
      (record { open_items = thin_none (actors.Aggregator k); closed = λ entries at. let same : r.open_items ≡ entries = cc at in subst (λ es. IsThin (actors.Aggregator k) es) same old.open_items })
      (close_posted k t r.open_items lt) (close_light k t r.open_items) thin)

  response_posted : (j t k : ℕ) (above : Above) (items : List Item) (es : List Entry) → ArePosted (map (round_message header j t) (responses_from image k above items es))
  response_posted j t k above items [] = tt
  response_posted j t k above items (e ∷ es) = by e.origin (response_posted j t (suc k) above items es)
    where
      by : (o : Origin) → ArePosted (map (round_message header j t) (responses_from image (suc k) above items es)) → ArePosted (map (round_message header j t) (told_to o (below image above items k) ++ responses_from image (suc k) above items es))
      by (origins.Request number) rest = rest
      by (origins.Aggregator from) rest = (tt, rest)

  response_goes : (w : WorldState) (k t : ℕ) (above : Above) → IsThinWorld w → Goes (led_below k) w (at_round header w k t (round_response image above (w.rounds k t))).world
  unfolding round_response responses
  response_goes w k t above thin = by r.closed refl r.answered
    where
      r : RoundState
      r = w.rounds k t

      old : IsThinRound k r
      old = thin.rounds k t

      none : Goes (led_below k) w (at_round header w k t (round_still r answers.Nothing)).world
      none = round_goes (led_below k) w w.requests k t (round_still r answers.Nothing) old tt (omega arith) thin

      by : (closed : Option (List Entry)) → r.closed ≡ closed → (answered : Option Above) → Goes (led_below k) w (at_round header w k t (response_where image above closed answered r)).world
      by None at answered = none
      by (Some []) at answered = none
      by (Some (e ∷ es)) at (Some first) = none
      by (Some (e ∷ es)) at None = round_goes (led_below k) w w.requests k t (answered_now image above (e ∷ es) r) (record { open_items = old.open_items; closed = old.closed })
          (response_posted k t 0 above (items_of (e ∷ es)) (e ∷ es)) (omega (arith, heavy_round image header k t above (items_of (e ∷ es)) 0 (e ∷ es), (old.closed (e ∷ es) at).few)) thin

  -- ---- a message is taken

  taken_goes : (w : WorldState) (sender addressee : Actor) (t : ℕ) (content : Content) → IsPosted sender addressee content → IsThinWorld w → Goes (led_by addressee content) w (histories.taken image header w sender addressee t content).world
  taken_goes w (actors.Core from) (actors.Core j) t (contents.Synod m) posted thin = receive_goes w j t from m thin
  taken_goes w (actors.Core from) (actors.Aggregator k) t (contents.Synod m) posted thin = lighter 0 (led_by_vote m) w w (omega arith) (stays w thin)
  taken_goes w (actors.Aggregator from) (actors.Core j) t (contents.Synod m) posted thin = lighter 0 (led_by_vote m) w w (omega arith) (stays w thin)
  taken_goes w (actors.Aggregator from) (actors.Aggregator k) t (contents.Synod m) posted thin = lighter 0 (led_by_vote m) w w (omega arith) (stays w thin)
  taken_goes w (actors.Core from) (actors.Core j) t (contents.Submission item) posted thin = stays w thin
  taken_goes w (actors.Core from) (actors.Aggregator k) t (contents.Submission item) posted thin = stays w thin
  taken_goes w (actors.Aggregator from) (actors.Core j) t (contents.Submission item) posted thin = submission_goes w j t from item posted.0 posted.1 thin
  taken_goes w (actors.Aggregator from) (actors.Aggregator k) t (contents.Submission item) posted thin = take_goes w k t from item posted.0 posted.1 thin
  taken_goes w (actors.Core from) (actors.Core j) t (contents.Response above) posted thin = stays w thin
  taken_goes w (actors.Aggregator from) (actors.Core j) t (contents.Response above) posted thin = stays w thin
  taken_goes w (actors.Core from) (actors.Aggregator k) t (contents.Response above) posted thin = response_goes w k t above thin
  taken_goes w (actors.Aggregator from) (actors.Aggregator k) t (contents.Response above) posted thin = response_goes w k t above thin

  delivered_goes : (w : WorldState) (number : ℕ) (found : Option Message) → slice_get w.wire number ≡ found → IsThinWorld w → Goes (led_by_found found) w (delivered image header w found).world
  delivered_goes w number None at thin = stays w thin
  delivered_goes w number (Some m) at thin = taken_goes w m.sender m.addressee m.second m.content (posted_at w.wire number m thin.wire at) thin

  -- ---- an event

  pub happens_goes : (w : WorldState) (e : Event) → IsThere e → IsThinWorld w → Goes (led_by_event w e) w (happens image header w e).world
  unfolding happens
  happens_goes w (events.Request k t imprint name) there thin = request_goes w k t imprint name thin
  happens_goes w (events.Close k t) there thin = close_goes w k t there thin
  happens_goes w (events.Seal j t) there thin = seal_goes image w j t thin
  happens_goes w (events.Ballot j t) there thin = ballot_goes w j t thin
  happens_goes w (events.Deliver number) there thin = delivered_goes w number (slice_get w.wire number) refl thin
  happens_goes w (events.Tell j t) there thin = tell_goes w j t thin
  happens_goes w (events.Respond j t) there thin = respond_goes image w j t header.start (held_in w j) thin
  happens_goes w (events.Publish j p) there thin = record { thin = record { seconds = thin.seconds; rounds = thin.rounds; wire = thin.wire }; sent = []; wire = sym (append-nil w.wire); light = omega arith }
  happens_goes w (events.RestartCore j) there thin = record {
    thin = record {
      seconds = λ i u. cond_both (eqb i j) (restart_row (w.seconds i u)) (w.seconds i u) (λ s. IsThinSecond i s) (λ _. record { open_items = thin_none (actors.Core i); sealed = (thin.seconds i u).sealed }) (λ _. thin.seconds i u);
      rounds = thin.rounds;
      wire = thin.wire;
    };
    sent = [];
    wire = sym (append-nil w.wire);
    light = omega arith;
  }
  happens_goes w (events.RestartAggregator k) there thin = record {
    thin = record {
      seconds = thin.seconds;
      rounds = λ i u. cond_both (eqb i k) (round_restarted (w.rounds i u)) (w.rounds i u) (λ r. IsThinRound i r) (λ _. restarted_round i (w.rounds i u) (thin.rounds i u)) (λ _. thin.rounds i u);
      wire = thin.wire;
    };
    sent = [];
    wire = sym (append-nil w.wire);
    light = omega arith;
  }

pub first_thin : IsThinWorld (first_world header)
unfolding first_world fresh_second
first_thin = record {
  seconds = λ j t. record { open_items = thin_none (actors.Core j); sealed = λ entries at. absurd (cc at) };
  rounds = λ k t. fresh_thin k;
  wire = tt;
}
