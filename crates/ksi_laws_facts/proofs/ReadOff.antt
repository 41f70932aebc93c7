-- The world after a history is the one that is read off what was seen.
use Rattle.ksi_schedule.specs.Plans.{core_plan_of}
use Rattle.std.proofs.Common.{◌≡◌, ℕ, ◌<◌, Bool, false, zero, suc, List, [], ◌∷◌, ◌++◌, map, length, get_or, drop, refl, sym, ap, ◌∙◌, arith, inl, inr, Option, Some, None}
use Rattle.std.specs.Prelude.{option_map, slice_get}
use Rattle.std.proofs.Math.Seq.{drop-append_seam, get_or-append_seam}
use Rattle.std.proofs.lemmas.Bool.{cases_lt}
use Rattle.std.proofs.lemmas.List.{append-nil, ext_get_or, map-append, length-map, get_or_append_left}
use Rattle.std.proofs.lemmas.List.{length-append}
use Rattle.ksi_synod.specs.Voters.{cores_below, is_flagged, is_voter}
use Rattle.ksi_synod.specs.VoteState.{Hand}
use Rattle.ksi_signature.specs.declared.answer.Answer.TheVariants as answers
use Rattle.ksi_synod.specs.CorePlans.{voters_of}
use Rattle.ksi_corenode.specs.SecondState.{SecondState}
use Rattle.ksi_corenode.specs.Turns.{Turn}
use Rattle.ksi_corenode.specs.Rows.{submission_row, seal_row, ballot_row, receive_row, tell_row, respond_row}
use Rattle.ksi_aggregator.specs.Rows.{RoundState, RoundTurn, round_request, round_submission, round_close, round_response}
use Rattle.ksi_schedule.specs.declared.actor.Actor.{Actor}
use Rattle.ksi_schedule.specs.declared.actor.Actor.TheVariants as actors
use Rattle.ksi_schedule.specs.declared.event.Event.{Event}
use Rattle.ksi_schedule.specs.declared.event.Event.TheVariants as events
use Rattle.ksi_schedule.specs.Plans.{PlanState}
use Rattle.ksi_laws_facts.proofs.Voters.{IsPlanned}
use Rattle.ksi_world.specs.declared.outcome.Asked.{Asked}
use Rattle.ksi_world.specs.declared.message.Content.{Content}
use Rattle.ksi_world.specs.declared.message.Content.TheVariants as contents
use Rattle.ksi_world.specs.declared.message.Message.{Message}
use Rattle.ksi_world.specs.Histories.{WorldState, Happening, held_in, core_message, round_message, at_core, at_round, unchanged, delivered, happens, first_world, run, after}
use Rattle.ksi_world.specs.Histories as histories
use Rattle.ksi_laws_facts.specs.Seen.{Seen, seen_of, seen_from, seen}
use Rattle.ksi_laws_facts.specs.Deeds.{of_second, facts, deeds}
use Rattle.ksi_laws_facts.specs.Since.{Since, since, told_until, voted_after, has_told}
use Rattle.ksi_laws_facts.specs.State.{own_candidate, flags_of, hand_since, second_seen, round_seen, wire_seen, asked_by, requests_seen, published_by, published_seen, world_seen}
use Rattle.ksi_laws_facts.specs.Recalled.{IsHand, IsInHand, IsRecalledSecond, IsRecalledRound}
use Rattle.ksi_laws_facts.proofs.Recalling.{after_seconds, after_rounds}

-- FLAGS

long : (n : ℕ) → length (cores_below n) ≡ n
long zero = refl
long (suc n) = length-append (cores_below n) (n ∷ []) ∙ omega (arith, long n)

flag_at : (p : ℕ → Bool) (n i : ℕ) → i < n → get_or (map p (cores_below n)) i false ≡ p i
flag_at p zero i lt = absurd (omega (arith, lt))
flag_at p (suc n) i lt = ap (λ (fs : List Bool). get_or fs i false) (map-append p (cores_below n) (n ∷ [])) ∙ elim (cases_lt i n) [
  | inl below ↦ get_or_append_left (map p (cores_below n)) (p n ∷ []) false i (let room = length-map (cores_below n) p ∙ long n in omega (arith, room, below)) ∙ flag_at p n i below
  | inr above ↦ at_end (length-map (cores_below n) p ∙ long n) (omega (arith, lt, above))
]
  where
    at_end : length (map p (cores_below n)) ≡ n → i ≡ n → get_or (map p (cores_below n) ++ p n ∷ []) i false ≡ p i
    at_end room same = ap (λ (k : ℕ). get_or (map p (cores_below n) ++ p n ∷ []) k false) (same ∙ sym room) ∙ get_or-append_seam (map p (cores_below n)) (p n) [] false ∙ ap p (sym same)

flags_are : (flags : List Bool) (p : ℕ → Bool) → length flags ≡ 9 → ((y : ℕ) → is_flagged flags y ≡ p y) → flags ≡ flags_of p
flags_are flags p room same = ext_get_or false flags (flags_of p) room (λ i lt. same i ∙ sym (flag_at p 9 i (omega (arith, lt, room))))

-- A SECOND AND A ROUND

hand_is : (voters : List ℕ) (candidate : Option (List ℕ)) (s : Since) (h : Hand) → IsHand voters candidate s h → h ≡ hand_since voters candidate s
hand_is voters candidate s h so = λ i. record {
  ballot = so.ballot i;
  last = flags_are h.last (has_told (told_until voters s)) so.last_flags so.last i;
  greatest = so.greatest i;
  decree = so.decree i;
  voted = flags_are h.voted (is_voter (voted_after voters s)) so.voted_flags so.voted i;
}

in_hand_is : (voters : List ℕ) (candidate : Option (List ℕ)) (sn : Option Since) (h : Option Hand) → IsInHand voters candidate sn h → h ≡ option_map (hand_since voters candidate) sn
in_hand_is voters candidate None None so = refl
in_hand_is voters candidate (Some s) (Some h) so = ap (λ (h : Hand). Some h) (hand_is voters candidate s h so)
in_hand_is voters candidate None (Some h) so = absurd so
in_hand_is voters candidate (Some s) None so = absurd so

second_is : (image : List ℕ → List ℕ) (plan : PlanState) (past : List Seen) (core second : ℕ) (s : SecondState) → IsRecalledSecond image past (core_plan_of plan) core second s → s ≡ second_seen image plan past core second
second_is image plan past core second s so = λ i. record {
  vote = record {
    me = so.me i;
    voters = so.voters i;
    candidate = so.kept.candidate i;
    tried = so.kept.tried i;
    promised = so.kept.promised i;
    vote = so.kept.vote i;
    held = so.kept.held i;
    hand = in_hand_is (voters_of (core_plan_of plan) second) (own_candidate image (of_second second (facts (actors.Core core) past))) (since (of_second second (deeds (actors.Core core) past))) s.vote.hand so.hand i;
  };
  open_items = so.open_items i;
  sealed = so.kept.sealed i;
}

round_is : (past : List Seen) (aggregator second : ℕ) (r : RoundState) → IsRecalledRound past aggregator second r → r ≡ round_seen past aggregator second
round_is past aggregator second r so = λ i. record { open_items = so.open_items i; closed = so.kept.closed i; answered = so.kept.answered i }

-- THE WIRE, REQUESTS AND PUBLICATIONS

module _ (image : List ℕ → List ℕ) (plan : PlanState) where
  -- what an event makes of these
  record Grew (w : WorldState) (e : Event) (h : Happening) : Type 0 where
    more : List Message
    wire : h.world.wire ≡ w.wire ++ more
    requests : h.world.requests ≡ asked_by w.requests e h.outcome.answer
    published : h.world.published ≡ published_by w.published e h.outcome.answer

  module _ (w : WorldState) (number : ℕ) where
    abbrev Posted : Happening → Type 0
    Posted h = Grew w (events.Deliver number) h

    core_posted : (j t : ℕ) (turn : Turn) → Posted (at_core w j t turn)
    core_posted j t turn = record { more = map (core_message j t) turn.sends; wire = refl; requests = refl; published = refl }

    round_posted : (k t : ℕ) (turn : RoundTurn) → Posted (at_round plan w k t turn)
    round_posted k t turn = record { more = map (round_message plan k t) turn.sends; wire = refl; requests = refl; published = refl }

    none_posted : Posted (unchanged w answers.Nothing)
    none_posted = record { more = []; wire = sym (append-nil w.wire); requests = refl; published = refl }

    taken_posted : (s a : Actor) (t : ℕ) (c : Content) → Posted (histories.taken image plan w s a t c)
    taken_posted (actors.Core from) (actors.Core j) t (contents.Synod m) = core_posted j t (receive_row (core_plan_of plan) t from m (w.seconds j t))
    taken_posted (actors.Aggregator from) (actors.Core j) t (contents.Submission item) = core_posted j t (submission_row from item (w.seconds j t))
    taken_posted (actors.Aggregator from) (actors.Aggregator k) t (contents.Submission item) = round_posted k t (round_submission from item (w.rounds k t))
    taken_posted (actors.Core from) (actors.Aggregator k) t (contents.Response above) = round_posted k t (round_response image above (w.rounds k t))
    taken_posted (actors.Aggregator from) (actors.Aggregator k) t (contents.Response above) = round_posted k t (round_response image above (w.rounds k t))
    taken_posted (actors.Core from) (actors.Core j) t (contents.Submission item) = none_posted
    taken_posted (actors.Core from) (actors.Core j) t (contents.Response above) = none_posted
    taken_posted (actors.Aggregator from) (actors.Core j) t (contents.Synod m) = none_posted
    taken_posted (actors.Aggregator from) (actors.Core j) t (contents.Response above) = none_posted
    taken_posted (actors.Core from) (actors.Aggregator k) t (contents.Synod m) = none_posted
    taken_posted (actors.Core from) (actors.Aggregator k) t (contents.Submission item) = none_posted
    taken_posted (actors.Aggregator from) (actors.Aggregator k) t (contents.Synod m) = none_posted

    delivery_posted : (o : Option Message) → Posted (delivered image plan w o)
    delivery_posted None = none_posted
    delivery_posted (Some m) = taken_posted m.sender m.addressee m.second m.content

  grew : (w : WorldState) (e : Event) → Grew w e (happens image plan w e)
  unfolding happens
  grew w (events.Request k t imprint name) = record { more = map (round_message plan k t) (round_request (length w.requests) imprint name (w.rounds k t)).sends; wire = refl; requests = refl; published = refl }
  grew w (events.Close k t) = record { more = map (round_message plan k t) (round_close image (w.rounds k t)).sends; wire = refl; requests = refl; published = refl }
  grew w (events.Seal j t) = record { more = map (core_message j t) (seal_row image (w.seconds j t)).sends; wire = refl; requests = refl; published = refl }
  grew w (events.Ballot j t) = record { more = map (core_message j t) (ballot_row (core_plan_of plan) t j (w.seconds j t)).sends; wire = refl; requests = refl; published = refl }
  grew w (events.Deliver number) = delivery_posted w number (slice_get w.wire number)
  grew w (events.Tell j t) = record { more = map (core_message j t) (tell_row (core_plan_of plan) t j (w.seconds j t)).sends; wire = refl; requests = refl; published = refl }
  grew w (events.Respond j t) = record { more = map (core_message j t) (respond_row image (held_in w j) plan.start t (w.seconds j t)).sends; wire = refl; requests = refl; published = refl }
  grew w (events.Publish j p) = record { more = []; wire = sym (append-nil w.wire); requests = refl; published = refl }
  grew w (events.RestartCore j) = record { more = []; wire = sym (append-nil w.wire); requests = refl; published = refl }
  grew w (events.RestartAggregator k) = record { more = []; wire = sym (append-nil w.wire); requests = refl; published = refl }

  record IsPosted (w : WorldState) (past : List Seen) : Type 0 where
    wire : w.wire ≡ wire_seen past
    requests : w.requests ≡ requests_seen past
    published : w.published ≡ published_seen past

  posted_step : (w : WorldState) (past : List Seen) (e : Event) → IsPosted w past → IsPosted (happens image plan w e).world (seen_of image plan w e ∷ past)
  unfolding wire_seen requests_seen published_seen
  posted_step w past e is =
      let g = grew w e in
      let h = happens image plan w e in
      record {
        wire = g.wire ∙ (λ i. is.wire i ++ g.more) ∙ ap (λ (ms : List Message). wire_seen past ++ ms) (sym (ap (drop (length w.wire)) g.wire ∙ drop-append_seam w.wire g.more));
        requests = g.requests ∙ ap (λ (rs : List Asked). asked_by rs e h.outcome.answer) is.requests;
        published = g.published ∙ ap (λ (ps : List (ℕ × List ℕ)). published_by ps e h.outcome.answer) is.published;
      }

  posted_all : (es : List Event) (w : WorldState) (past : List Seen) → IsPosted w past → IsPosted (run image plan w es) (seen_from image plan w past es)
  posted_all [] w past is = is
  posted_all (e ∷ es) w past is = posted_all es (happens image plan w e).world (seen_of image plan w e ∷ past) (posted_step w past e is)

  posted : (es : List Event) → IsPosted (after image plan es) (seen image plan es)
  unfolding after seen first_world wire_seen requests_seen published_seen
  posted es = posted_all es (first_world plan) [] (record { wire = refl; requests = refl; published = refl })

  pub world_is : IsPlanned plan → (es : List Event) → after image plan es ≡ world_seen image plan (seen image plan es)
  world_is is es =
      let w = after image plan es in
      let past = seen image plan es in
      let there = posted es in
      λ i. record {
        seconds = λ j t. second_is image plan past j t (w.seconds j t) (after_seconds image plan is es j t) i;
        rounds = λ k t. round_is past k t (w.rounds k t) (after_rounds image plan is es k t) i;
        wire = there.wire i;
        requests = there.requests i;
        published = there.published i;
      }
