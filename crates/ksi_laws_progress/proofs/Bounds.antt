-- After so many events, no ballot is of a round beyond their number.
use Rattle.std.proofs.Common.{◌≡◌, ℕ, zero, suc, ◌+◌, ◌<◌, eqb, List, [], ◌∷◌, ◌++◌, length, map, refl, sym, subst, arith, inl, inr, Option, Some, None}
use Rattle.std.specs.Prelude.{slice_get, is_some}
use Rattle.std.specs.List.{AllByRecursion}
use Rattle.std.proofs.lemmas.Bool.{cases_eq, cond_both}
use Rattle.ksi_aggtree.specs.declared.entries.Entry.{Entry}
use Rattle.ksi_aggtree.specs.declared.entries.Origin.{Origin}
use Rattle.ksi_aggtree.specs.declared.entries.Origin.TheVariants as origins
use Rattle.ksi_aggtree.specs.declared.item.Item.{Item}
use Rattle.ksi_aggtree.specs.Entries.{candidate_of, items_of}
use Rattle.ksi_synod.specs.declared.messages.SynodMessage.{SynodMessage}
use Rattle.ksi_synod.specs.declared.messages.SynodMessage.TheVariants as message
use Rattle.ksi_synod.specs.Voters.{cores_below}
use Rattle.ksi_synod.specs.CorePlans.{CorePlanState, voters_of}
use Rattle.ksi_synod.specs.Rows.{try_ballot, ballot_told, held_told, receive}
use Rattle.ksi_signature.specs.declared.above.Above.{Above}
use Rattle.ksi_signature.specs.declared.answer.Answer.{Answer}
use Rattle.ksi_signature.specs.declared.answer.Answer.TheVariants as answers
use Rattle.ksi_calendar.specs.Covered.{Roots, first_missing, covered_seconds}
use Rattle.ksi_corenode.specs.declared.step.Send.{Send}
use Rattle.ksi_corenode.specs.declared.step.Send.TheVariants as sends
use Rattle.ksi_corenode.specs.SecondState.{SecondState, fresh_second}
use Rattle.ksi_corenode.specs.Turns.{Turn, still, to_each, told}
use Rattle.ksi_corenode.specs.Rows.{submission_row, item_taken, seal_row, sealed_now, ballot_row, receive_row, tell_row, respond_row, respond_where, is_mine, responded, responses_from, response_to, above_item, restart_row, news_answer, is_news, receive_fact, ballot_answer, ballot_fact, tell_answer}
use Rattle.ksi_corenode.specs.Rows as rows
use Rattle.ksi_aggregator.specs.declared.step.Send as round_step
use Rattle.ksi_aggregator.specs.declared.step.Send.TheVariants as round_sends
use Rattle.ksi_aggregator.specs.Rows.{RoundTurn, round_request, round_submission, round_close, round_response}
use Rattle.ksi_schedule.specs.declared.actor.Actor.{Actor}
use Rattle.ksi_schedule.specs.declared.actor.Actor.TheVariants as actors
use Rattle.ksi_schedule.specs.declared.event.Event.{Event}
use Rattle.ksi_schedule.specs.declared.event.Event.TheVariants as events
use Rattle.ksi_schedule.specs.Plans.{PlanState, IsPlan, core_plan_of}
use Rattle.ksi_schedule.specs.Events.{IsEvent, AreEvents}
use Rattle.ksi_world.specs.declared.message.Content.{Content}
use Rattle.ksi_world.specs.declared.message.Content.TheVariants as contents
use Rattle.ksi_world.specs.declared.message.Message.{Message}
use Rattle.ksi_world.specs.Histories.{WorldState, put_at, core_message, round_message, at_core, at_round, taken, delivered, happens, run, first_world, after, held_in}
use Rattle.ksi_world.specs.Lasting.{AreSecondsOf}
use Rattle.ksi_laws_progress.specs.Deciding.{voters_on, vote_in}
use Rattle.ksi_laws_progress.proofs.Rounds.{IsWithin, OfRound, OfTold, round_more, within_more, within_fresh, seal_within, try_within, receive_within, tell_within, restart_within}
use Rattle.ksi_laws_progress.proofs.Worlds.{put_mine, put_other, put_second}
use Rattle.ksi_laws_progress.proofs.Below.{SecondsKeep}

-- ALL OF A LIST

pub all_append : {A : Type 0} (P : A → Type 0) (xs ys : List A) → AllByRecursion P xs → AllByRecursion P ys → AllByRecursion P (xs ++ ys)
all_append P [] ys is is' = is'
all_append P (x ∷ xs) ys is is' = (is.0, all_append P xs ys is.1 is')

all_mapped : {A B : Type 0} (P : B → Type 0) (f : A → B) (xs : List A) → AllByRecursion (λ x. P (f x)) xs → AllByRecursion P (map f xs)
all_mapped P f [] is = tt
all_mapped P f (x ∷ xs) is = (is.0, all_mapped P f xs is.1)

all_so : {A : Type 0} (P Q : A → Type 0) (so : (x : A) → P x → Q x) (xs : List A) → AllByRecursion P xs → AllByRecursion Q xs
all_so P Q so [] is = tt
all_so P Q so (x ∷ xs) is = (so x is.0, all_so P Q so xs is.1)

always : {A : Type 0} (P : A → Type 0) (so : (x : A) → P x) (xs : List A) → AllByRecursion P xs
always P so [] = tt
always P so (x ∷ xs) = (so x, always P so xs)

pub got : {A : Type 0} (P : A → Type 0) (xs : List A) (k : ℕ) (x : A) → AllByRecursion P xs → slice_get xs k ≡ Some x → P x
got P [] k x is at = absurd (cc at)
got P (y ∷ xs) zero x is at = subst P (cc at) is.0
got P (y ∷ xs) (suc k) x is at = got P xs k x is.1 at

-- MESSAGES

abbrev OfContent : ℕ → Content → Type 0
OfContent n (contents.Synod m) = OfRound n m
OfContent n (contents.Submission item) = Unit {0}
OfContent n (contents.Response above) = Unit {0}

abbrev OfMessage : ℕ → Message → Type 0
OfMessage n m = OfContent n m.content

abbrev OfSend : ℕ → Send → Type 0
OfSend n (sends.Synod to m) = OfRound n m
OfSend n (sends.Response to above) = Unit {0}

content_more : (n : ℕ) (c : Content) → OfContent n c → OfContent (suc n) c
content_more n (contents.Synod m) is = round_more n m is
content_more n (contents.Submission item) is = tt
content_more n (contents.Response above) is = tt

to_each_of : (n : ℕ) (to : List ℕ) (m : SynodMessage) → OfRound n m → AllByRecursion (OfSend n) (to_each to m)
to_each_of n [] m is = tt
to_each_of n (k ∷ to) m is = (is, to_each_of n to m is)

told_of : (n : ℕ) (cp : CorePlanState) (t from : ℕ) (o : Option SynodMessage) → OfTold n o → AllByRecursion (OfSend n) (told cp t from o)
told_of n cp t from None is = tt
told_of n cp t from (Some (message.NextBallot b)) is = to_each_of n (voters_of cp t) (message.NextBallot b) is
told_of n cp t from (Some (message.LastVote l)) is = (tt, tt)
told_of n cp t from (Some (message.BeginBallot b d)) is = to_each_of n (voters_of cp t) (message.BeginBallot b d) is
told_of n cp t from (Some (message.Voted b)) is = (tt, tt)
told_of n cp t from (Some (message.Success d)) is = to_each_of n (cores_below cp.cores) (message.Success d) is

responses_of : (n : ℕ) (above : ℕ → Above) (k : ℕ) (entries : List Entry) → AllByRecursion (OfSend n) (responses_from above k entries)
responses_of n above k [] = tt
responses_of n above k (entry ∷ entries) = all_append (OfSend n) (response_to entry.origin (above k)) (responses_from above (suc k) entries) (one entry.origin) (responses_of n above (suc k) entries)
  where
    one : (origin : Origin) → AllByRecursion (OfSend n) (response_to origin (above k))
    one (origins.Request number) = tt
    one (origins.Aggregator from) = (tt, tt)

-- TURNS

record IsTurnOf (n : ℕ) (turn : Turn) : Type 0 where
  vote : IsWithin n turn.after.vote
  sends : AllByRecursion (OfSend n) turn.sends

still_of : (n : ℕ) (s : SecondState) (answer : Answer) → IsWithin n s.vote → IsTurnOf n (still s answer)
still_of n s answer is = record { vote = is; sends = tt }

module _ (image : List ℕ → List ℕ) (n : ℕ) (s : SecondState) (is : IsWithin n s.vote) where
  submission_of : (from : ℕ) (item : Item) → IsTurnOf n (submission_row from item s)
  unfolding submission_row
  submission_of from item = cond_both (is_some s.sealed) (still s answers.Late) (item_taken s (rows.taken from item s.open_items)) (IsTurnOf n)
      (λ _. still_of n s answers.Late is) (λ _. record { vote = is; sends = tt })

  seal_of : IsTurnOf n (seal_row image s)
  unfolding seal_row
  seal_of = cond_both (is_some s.sealed) (still s answers.Sealed) (sealed_now image s) (IsTurnOf n)
      (λ _. still_of n s answers.Sealed is) (λ _. record { vote = seal_within n s.vote is (candidate_of image s.open_items); sends = tt })

  ballot_of : (cp : CorePlanState) (t me : ℕ) → s.vote.me < 16 → IsTurnOf (suc n) (ballot_row cp t me s)
  unfolding ballot_row
  ballot_of cp t me small = let r = try_within n s.vote is small in record { vote = r.0; sends = told_of (suc n) cp t me (ballot_told (try_ballot s.vote).1) r.1 }

  receive_of : (cp : CorePlanState) (t from : ℕ) (m : SynodMessage) → OfRound n m → IsTurnOf n (receive_row cp t from m s)
  unfolding receive_row
  receive_of cp t from m of = let r = receive_within n s.vote is from m of in record { vote = r.0; sends = told_of n cp t from (receive s.vote from m).1 r.1 }

  tell_of : (cp : CorePlanState) (t me : ℕ) → IsTurnOf n (tell_row cp t me s)
  unfolding tell_row
  tell_of cp t me = record { vote = is; sends = told_of n cp t me (held_told s.vote.held) (tell_within n s.vote is) }

  respond_of : (held : Roots) (start t : ℕ) → IsTurnOf n (respond_row image held start t s)
  unfolding respond_row
  respond_of held start t = by s.sealed (first_missing held start t) (held t)
    where
      by : (items : Option (List Entry)) (missing : Option ℕ) (root : Option (List ℕ)) → IsTurnOf n (respond_where image held start t items missing root s)
      by None missing root = still_of n s answers.Unsealed is
      by (Some items) (Some u) root = still_of n s (answers.Undecided u) is
      by (Some items) None None = still_of n s (answers.Undecided t) is
      by (Some items) None (Some root) = cond_both (is_mine image items root) (responded image held start t items root s) (still s answers.NotMine) (IsTurnOf n)
          (λ _. record { vote = is; sends = responses_of n (above_item image (covered_seconds held start t) t root (items_of items)) 0 items }) (λ _. still_of n s answers.NotMine is)

more_of : (n : ℕ) (turn : Turn) → IsTurnOf n turn → IsTurnOf (suc n) turn
more_of n turn is = record { vote = within_more n turn.after.vote is.vote; sends = all_so (OfSend n) (OfSend (suc n)) send_more turn.sends is.sends }
  where
    send_more : (x : Send) → OfSend n x → OfSend (suc n) x
    send_more (sends.Synod to m) of = round_more n m of
    send_more (sends.Response to above) of = tt

-- WORLDS

pub record AreBounded (n : ℕ) (w : WorldState) : Type 0 where
  pub votes : (k t : ℕ) → IsWithin n (vote_in w k t)
  pub wire : AllByRecursion (OfMessage n) w.wire

module _ (image : List ℕ → List ℕ) (plan : PlanState) (is : IsPlan plan) (n : ℕ) (w : WorldState) (own : AreSecondsOf image plan w.seconds) (are : AreBounded n w) where
  wire_more : AllByRecursion (OfMessage (suc n)) w.wire
  wire_more = all_so (OfMessage n) (OfMessage (suc n)) (λ m of. content_more n m.content of) w.wire are.wire

  votes_more : (k t : ℕ) → IsWithin (suc n) (vote_in w k t)
  votes_more k t = within_more n (vote_in w k t) (are.votes k t)

  same_bounded : AreBounded (suc n) w
  same_bounded = record { votes = votes_more; wire = wire_more }

  core_bounded : (j t : ℕ) (turn : Turn) → IsTurnOf (suc n) turn → AreBounded (suc n) (at_core w j t turn).world
  core_bounded j t turn of = record {
    votes = λ k u. elim (cases_eq u t) [
      | inr other ↦ subst (λ (s : SecondState). IsWithin (suc n) s.vote) (sym (put_second w.seconds j t turn.after k u other)) (votes_more k u)
      | inl same ↦ elim (cases_eq k j) [
        | inr other ↦ subst (λ (s : SecondState). IsWithin (suc n) s.vote) (sym (put_other w.seconds j t turn.after k u other)) (votes_more k u)
        | inl mine ↦ subst (λ u. IsWithin (suc n) (put_at w.seconds j t turn.after k u).vote) (sym same)
            (subst (λ k. IsWithin (suc n) (put_at w.seconds j t turn.after k t).vote) (sym mine) (subst (λ (s : SecondState). IsWithin (suc n) s.vote) (sym (put_mine w.seconds j t turn.after)) of.vote))
      ]
    ];
    wire = all_append (OfMessage (suc n)) w.wire (map (core_message j t) turn.sends) wire_more (all_mapped (OfMessage (suc n)) (core_message j t) turn.sends (all_so (OfSend (suc n)) (λ x. OfMessage (suc n) (core_message j t x)) sent turn.sends of.sends));
  }
    where
      sent : (x : Send) → OfSend (suc n) x → OfMessage (suc n) (core_message j t x)
      sent (sends.Synod to m) of = of
      sent (sends.Response to above) of = tt

  round_bounded : (k t : ℕ) (turn : RoundTurn) → AreBounded (suc n) (at_round plan w k t turn).world
  round_bounded k t turn = record {
    votes = votes_more;
    wire = all_append (OfMessage (suc n)) w.wire (map (round_message plan k t) turn.sends) wire_more (all_mapped (OfMessage (suc n)) (round_message plan k t) turn.sends (always (λ x. OfMessage (suc n) (round_message plan k t x)) sent turn.sends));
  }
    where
      sent : (x : round_step.Send) → OfMessage (suc n) (round_message plan k t x)
      sent (round_sends.Submission item) = tt
      sent (round_sends.Response to above) = tt

  taken_bounded : (sender addressee : Actor) (t : ℕ) (c : Content) → OfContent n c → AreBounded (suc n) (taken image plan w sender addressee t c).world
  taken_bounded (actors.Core from) (actors.Core j) t (contents.Synod m) of = core_bounded j t _ (more_of n _ (receive_of image n (w.seconds j t) (are.votes j t) (core_plan_of plan) t from m of))
  taken_bounded (actors.Aggregator from) (actors.Core j) t (contents.Submission item) of = core_bounded j t _ (more_of n _ (submission_of image n (w.seconds j t) (are.votes j t) from item))
  taken_bounded (actors.Aggregator from) (actors.Aggregator k) t (contents.Submission item) of = round_bounded k t (round_submission from item (w.rounds k t))
  taken_bounded (actors.Core from) (actors.Aggregator k) t (contents.Response above) of = round_bounded k t (round_response image above (w.rounds k t))
  taken_bounded (actors.Aggregator from) (actors.Aggregator k) t (contents.Response above) of = round_bounded k t (round_response image above (w.rounds k t))
  taken_bounded (actors.Core from) (actors.Core j) t (contents.Submission item) of = same_bounded
  taken_bounded (actors.Core from) (actors.Core j) t (contents.Response above) of = same_bounded
  taken_bounded (actors.Aggregator from) (actors.Core j) t (contents.Synod m) of = same_bounded
  taken_bounded (actors.Aggregator from) (actors.Core j) t (contents.Response above) of = same_bounded
  taken_bounded (actors.Core from) (actors.Aggregator k) t (contents.Synod m) of = same_bounded
  taken_bounded (actors.Core from) (actors.Aggregator k) t (contents.Submission item) of = same_bounded
  taken_bounded (actors.Aggregator from) (actors.Aggregator k) t (contents.Synod m) of = same_bounded

  delivered_bounded : (number : ℕ) (o : Option Message) → slice_get w.wire number ≡ o → AreBounded (suc n) (delivered image plan w o).world
  delivered_bounded number None at = same_bounded
  delivered_bounded number (Some m) at = taken_bounded m.sender m.addressee m.second m.content (got (OfMessage n) w.wire number m are.wire at)

  happens_bounded : (e : Event) → IsEvent plan e → AreBounded (suc n) (happens image plan w e).world
  unfolding happens
  happens_bounded (events.Request k t imprint name) may = let b = round_bounded k t (round_request (length w.requests) imprint name (w.rounds k t)) in record { votes = b.votes; wire = b.wire }
  happens_bounded (events.Close k t) may = round_bounded k t (round_close image (w.rounds k t))
  happens_bounded (events.Seal j t) may = core_bounded j t _ (more_of n _ (seal_of image n (w.seconds j t) (are.votes j t)))
  happens_bounded (events.Ballot j t) may = core_bounded j t _ (ballot_of image n (w.seconds j t) (are.votes j t) (core_plan_of plan) t j (omega (arith, (own j t).vote.me_is, may.0, is.core_plan.few)))
  happens_bounded (events.Deliver number) may = delivered_bounded number (slice_get w.wire number) refl
  happens_bounded (events.Tell j t) may = core_bounded j t _ (more_of n _ (tell_of image n (w.seconds j t) (are.votes j t) (core_plan_of plan) t j))
  happens_bounded (events.Respond j t) may = core_bounded j t _ (more_of n _ (respond_of image n (w.seconds j t) (are.votes j t) (held_in w j) plan.start t))
  happens_bounded (events.Publish j p) may = record { votes = votes_more; wire = wire_more }
  happens_bounded (events.RestartCore j) may = record {
    votes = λ k t. cond_both (eqb k j) (restart_row (w.seconds k t)) (w.seconds k t) (λ (s : SecondState). IsWithin (suc n) s.vote)
        (λ _. restart_within (suc n) (vote_in w k t) (votes_more k t)) (λ _. votes_more k t);
    wire = wire_more;
  }
  happens_bounded (events.RestartAggregator k) may = record { votes = votes_more; wire = wire_more }

module _ (keep : SecondsKeep) (image : List ℕ → List ℕ) (plan : PlanState) (is : IsPlan plan) where
  run_bounded : (n : ℕ) (es : List Event) (w : WorldState) → AreEvents plan es → AreSecondsOf image plan w.seconds → AreBounded n w → AreBounded (n + length es) (run image plan w es)
  run_bounded n [] w are own bounded = let same : n ≡ n + 0 = omega arith in subst (λ n. AreBounded n w) same bounded
  run_bounded n (e ∷ es) w are own bounded =
      let same : suc n + length es ≡ n + suc (length es) = omega arith in
      subst (λ n. AreBounded n (run image plan (happens image plan w e).world es)) same
      (run_bounded (suc n) es (happens image plan w e).world are.1 (keep.event image plan w e own) (happens_bounded image plan is n w own bounded e are.0))

  first_bounded : AreBounded 0 (first_world plan)
  unfolding first_world fresh_second
  first_bounded = record { votes = λ k t. within_fresh k (voters_on plan t); wire = tt }

  pub after_bounded : (es : List Event) → AreEvents plan es → AreBounded (length es) (after image plan es)
  unfolding after
  after_bounded es are =
      let same : 0 + length es ≡ length es = omega arith in
      subst (λ n. AreBounded n (run image plan (first_world plan) es)) same (run_bounded 0 es (first_world plan) are (keep.history image plan []) first_bounded)
