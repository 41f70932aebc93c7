-- After every history, all that cores keep and send of the vote names ballots of the plan's cores and decrees of which something
-- holds, if it holds of the zero imprint, of each hash and of what each request asks for.
use Rattle.std.proofs.Common.{◌≡◌, ℕ, zero, suc, eqb, is_some, List, [], ◌∷◌, ◌++◌, refl, sym, ap, subst, inl, inr, Option, Some, None}
use Rattle.std.specs.Prelude.{slice_get, map, IfSome}
use Rattle.std.specs.List.{AllByRecursion}
use Rattle.std.proofs.lemmas.Bool.{cond_both}
use Rattle.std.proofs.lemmas.List.{append-nil}
use Rattle.ksi_aggtree.specs.declared.item.Item.{Item}
use Rattle.ksi_aggtree.specs.declared.entries.Entry.{Entry}
use Rattle.ksi_aggtree.specs.declared.entries.Origin.{Origin}
use Rattle.ksi_aggtree.specs.declared.entries.Origin.TheVariants as origins
use Rattle.ksi_aggtree.specs.Entries.{items_of, has_from, is_full, candidate_of}
use Rattle.ksi_synod.specs.declared.messages.SynodMessage.{SynodMessage}
use Rattle.ksi_synod.specs.declared.messages.SynodMessage.TheVariants as message
use Rattle.ksi_synod.specs.Voters.{cores_below}
use Rattle.ksi_synod.specs.VoteState.{fresh_vote}
use Rattle.ksi_synod.specs.CorePlans.{CorePlanState, voters_of}
use Rattle.ksi_synod.specs.Rows.{try_ballot, ballot_told, receive, held_told}
use Rattle.ksi_signature.specs.declared.above.Above.{Above}
use Rattle.ksi_signature.specs.declared.answer.Answer.{Answer}
use Rattle.ksi_signature.specs.declared.answer.Answer.TheVariants as answers
use Rattle.ksi_calendar.specs.Covered.{Roots, first_missing, covered_seconds}
use Rattle.ksi_corenode.specs.declared.step.Send as core_step
use Rattle.ksi_corenode.specs.declared.step.Send.TheVariants as core_sends
use Rattle.ksi_corenode.specs.SecondState.{fresh_second}
use Rattle.ksi_corenode.specs.Turns.{Turn, still, to_each, told}
use Rattle.ksi_corenode.specs.Rows.{submission_row, submitted, item_taken, seal_row, sealed_now, ballot_row, receive_row, tell_row, respond_row, respond_where, responded, responses_from, response_to, above_item, is_mine, restart_row}
use Rattle.ksi_aggregator.specs.declared.step.Send as round_step
use Rattle.ksi_aggregator.specs.declared.step.Send.TheVariants as round_sends
use Rattle.ksi_aggregator.specs.Rows.{RoundTurn, round_request, round_submission, round_close, round_response}
use Rattle.ksi_schedule.specs.declared.actor.Actor.{Actor}
use Rattle.ksi_schedule.specs.declared.actor.Actor.TheVariants as actors
use Rattle.ksi_schedule.specs.declared.event.Event.{Event}
use Rattle.ksi_schedule.specs.declared.event.Event.TheVariants as events
use Rattle.ksi_schedule.specs.Events.{IsEvent, AreEvents}
use Rattle.ksi_schedule.specs.Plans.{PlanState, IsPlan, core_plan_of}
use Rattle.ksi_world.specs.declared.message.Content.{Content}
use Rattle.ksi_world.specs.declared.message.Content.TheVariants as contents
use Rattle.ksi_world.specs.declared.message.Message.{Message}
use Rattle.ksi_world.specs.Histories.{WorldState, core_message, round_message, at_core, at_round, delivered, happens, held_in, first_world, run, after}
use Rattle.ksi_world.specs.Histories as histories
use Rattle.ksi_world.specs.Sound.{IsSmall, IsSound}
use Rattle.ksi_world.proofs.Carrying.{RoundLaws, AskFor, AllOf, after_all}
use Rattle.ksi_world.proofs.Deciding.{after_sound}
use Rattle.ksi_world.proofs.Growing.{put_cases, run_both}
use Rattle.ksi_world.proofs.Imprinted.{candidate_is}
use Rattle.ksi_world.proofs.Sending.{get_in_either}
use Rattle.ksi_laws_records.proofs.Votes.{IsSaidSo, IsVoteSo, IsRowSo, receive_so, seal_so, try_so, tried_so, held_so, restart_so}

-- ---- lists of events

more : (before : List Event) (e : Event) (es : List Event) → (before ++ e ∷ []) ++ es ≡ before ++ e ∷ es
more [] e es = refl
more (x ∷ before) e es = ap (λ (l : List Event). x ∷ l) (more before e es)

cut_events : (plan : PlanState) (before later : List Event) → AreEvents plan (before ++ later) → AreEvents plan before × AreEvents plan later
cut_events plan [] later are = (tt, are)
cut_events plan (e ∷ before) later are = let rest = cut_events plan before later are.1 in ((are.0, rest.0), rest.1)

cut_ask : (P : List ℕ → Type 0) (before later : List Event) → AskFor P (before ++ later) → AskFor P before
cut_ask P [] later ask = tt
cut_ask P (e ∷ before) later ask = (ask.0, cut_ask P before later ask.1)

module _ (P : List ℕ → Type 0) (plan : PlanState) where
  abbrev pub IsContentSo : Content → Type 0
  IsContentSo (contents.Synod m) = IsSaidSo P plan.cores m
  IsContentSo (contents.Submission item) = Unit {0}
  IsContentSo (contents.Response above) = Unit {0}

  abbrev pub AreMessagesSo : List Message → Type 0
  AreMessagesSo ms = (i : ℕ) (m : Message) → slice_get ms i ≡ Some m → IsContentSo m.content

  pub record IsWorldSo (w : WorldState) : Type 0 where
    pub votes : (j t : ℕ) → IsVoteSo P plan.cores (w.seconds j t).vote
    pub wire : AreMessagesSo w.wire

  -- ---- what is sent

  abbrev IsSendSo : core_step.Send → Type 0
  IsSendSo (core_sends.Synod to m) = IsSaidSo P plan.cores m
  IsSendSo (core_sends.Response to above) = Unit {0}

  abbrev AreSendsSo : List core_step.Send → Type 0
  AreSendsSo sends = AllByRecursion IsSendSo sends

  each_to : (m : SynodMessage) → IsSaidSo P plan.cores m → (to : List ℕ) → AreSendsSo (to_each to m)
  each_to m is [] = tt
  each_to m is (core ∷ to) = (is, each_to m is to)

  each_told : (core_plan : CorePlanState) (second from : ℕ) (o : Option SynodMessage) → IfSome o (IsSaidSo P plan.cores) → AreSendsSo (told core_plan second from o)
  each_told core_plan second from None is = tt
  each_told core_plan second from (Some (message.NextBallot b)) is = each_to (message.NextBallot b) is (voters_of core_plan second)
  each_told core_plan second from (Some (message.LastVote l)) is = (is, tt)
  each_told core_plan second from (Some (message.BeginBallot b d)) is = each_to (message.BeginBallot b d) is (voters_of core_plan second)
  each_told core_plan second from (Some (message.Voted b)) is = (is, tt)
  each_told core_plan second from (Some (message.Success d)) is = each_to (message.Success d) is (cores_below core_plan.cores)

  each_response : (above : ℕ → Above) (k : ℕ) (es : List Entry) → AreSendsSo (responses_from above k es)
  each_response above k [] = tt
  each_response above k (e ∷ es) = one e.origin (each_response above (suc k) es)
    where
      one : (o : Origin) → AreSendsSo (responses_from above (suc k) es) → AreSendsSo (response_to o (above k) ++ responses_from above (suc k) es)
      one (origins.Request number) rest = rest
      one (origins.Aggregator from) rest = (tt, rest)

  core_messages : (j t : ℕ) (sends : List core_step.Send) → AreSendsSo sends → AreMessagesSo (map (core_message j t) sends)
  core_messages j t [] each i m at = absurd (cc at)
  core_messages j t (core_sends.Synod to x ∷ sends) each zero m at =
      let same : core_message j t (core_sends.Synod to x) ≡ m = cc at in subst (λ (m : Message). IsContentSo m.content) same each.0
  core_messages j t (core_sends.Response to above ∷ sends) each zero m at =
      let same : core_message j t (core_sends.Response to above) ≡ m = cc at in subst (λ (m : Message). IsContentSo m.content) same tt
  core_messages j t (send ∷ sends) each (suc i) m at = core_messages j t sends each.1 i m at

  round_messages : (k t : ℕ) (sends : List round_step.Send) → AreMessagesSo (map (round_message plan k t) sends)
  round_messages k t [] i m at = absurd (cc at)
  round_messages k t (round_sends.Submission item ∷ sends) zero m at =
      let same : round_message plan k t (round_sends.Submission item) ≡ m = cc at in subst (λ (m : Message). IsContentSo m.content) same tt
  round_messages k t (round_sends.Response to above ∷ sends) zero m at =
      let same : round_message plan k t (round_sends.Response to above) ≡ m = cc at in subst (λ (m : Message). IsContentSo m.content) same tt
  round_messages k t (send ∷ sends) (suc i) m at = round_messages k t sends i m at

  -- ---- turns

  core_so : (w : WorldState) (j t : ℕ) (turn : Turn) → IsVoteSo P plan.cores turn.after.vote → AreSendsSo turn.sends → IsWorldSo w → IsWorldSo (at_core w j t turn).world
  core_so w j t turn vote sends is = record {
    votes = λ i u. put_cases w.seconds j t turn.after (λ s. IsVoteSo P plan.cores s.vote) i u (λ _ _. vote) (is.votes i u);
    wire = λ i m at. elim (get_in_either w.wire (map (core_message j t) turn.sends) i m at) [ inl old ↦ is.wire i m old | inr new ↦ core_messages j t turn.sends sends new.0 m new.1 ];
  }

  round_so : (w : WorldState) (k t : ℕ) (turn : RoundTurn) → IsWorldSo w → IsWorldSo (at_round plan w k t turn).world
  round_so w k t turn is = record {
    votes = is.votes;
    wire = λ i m at. elim (get_in_either w.wire (map (round_message plan k t) turn.sends) i m at) [ inl old ↦ is.wire i m old | inr new ↦ round_messages k t turn.sends new.0 m new.1 ];
  }

  module _ (image : List ℕ → List ℕ) (plan_is : IsPlan plan) (laws : RoundLaws P image) where
    module _ (w : WorldState) (sound : IsSound plan w) (all : AllOf P w) (is : IsWorldSo w) where
      still_so : (j t : ℕ) (answer : Answer) → IsWorldSo (at_core w j t (still (w.seconds j t) answer)).world
      still_so j t answer = core_so w j t (still (w.seconds j t) answer) (is.votes j t) tt is

      submission_so : (j t from : ℕ) (item : Item) → IsWorldSo (at_core w j t (submission_row from item (w.seconds j t))).world
      unfolding submission_row
      submission_so j t from item =
          let s = w.seconds j t in
          cond_both (is_some s.sealed) _ _ (λ turn. IsWorldSo (at_core w j t turn).world) (λ _. still_so j t answers.Late)
          (λ _. cond_both (has_from from s.open_items) _ _ (λ row. IsWorldSo (at_core w j t (item_taken s row)).world) (λ _. core_so w j t (item_taken s (s.open_items, answers.Known)) (is.votes j t) tt is)
          (λ _. cond_both (is_full s.open_items) _ _ (λ row. IsWorldSo (at_core w j t (item_taken s row)).world) (λ _. core_so w j t (item_taken s (s.open_items, answers.Full)) (is.votes j t) tt is)
          (λ _. core_so w j t (item_taken s (s.open_items ++ submitted from item ∷ [], answers.Done)) (is.votes j t) tt is)))

      sealing_so : (j t : ℕ) → IsWorldSo (at_core w j t (seal_row image (w.seconds j t))).world
      unfolding seal_row
      sealing_so j t =
          let s = w.seconds j t in
          cond_both (is_some s.sealed) _ _ (λ turn. IsWorldSo (at_core w j t turn).world) (λ _. still_so j t answers.Sealed)
          (λ _. core_so w j t (sealed_now image s) (seal_so P plan.cores s.vote (is.votes j t) (candidate_of image s.open_items)
          (candidate_is P laws.zero_too image laws.images s.open_items (all.seconds j t).open_items)) tt is)

      ballot_so : (j t : ℕ) → IsSmall plan.cores (w.seconds j t).vote → IsWorldSo (at_core w j t (ballot_row (core_plan_of plan) t j (w.seconds j t))).world
      unfolding ballot_row
      ballot_so j t small =
          let s = w.seconds j t in
          core_so w j t (ballot_row (core_plan_of plan) t j s) (try_so P plan.cores s.vote (is.votes j t))
          (each_told (core_plan_of plan) t j (ballot_told (try_ballot s.vote).1) (tried_so P plan.cores s.vote small)) is

      receiving_so : (j t from : ℕ) (m : SynodMessage) → IsSaidSo P plan.cores m → IsWorldSo (at_core w j t (receive_row (core_plan_of plan) t from m (w.seconds j t))).world
      unfolding receive_row
      receiving_so j t from m so =
          let s = w.seconds j t in
          let row : IsRowSo P plan.cores (receive s.vote from m) = receive_so P plan.cores s.vote (is.votes j t) from m so in
          core_so w j t (receive_row (core_plan_of plan) t from m s) row.0 (each_told (core_plan_of plan) t from (receive s.vote from m).1 row.1) is

      telling_so : (j t : ℕ) → IsWorldSo (at_core w j t (tell_row (core_plan_of plan) t j (w.seconds j t))).world
      unfolding tell_row
      telling_so j t =
          let s = w.seconds j t in
          core_so w j t (tell_row (core_plan_of plan) t j s) (is.votes j t) (each_told (core_plan_of plan) t j (held_told s.vote.held) (held_so P plan.cores s.vote.held (is.votes j t).held)) is

      responding_so : (j t : ℕ) (held : Roots) → IsWorldSo (at_core w j t (respond_row image held plan.start t (w.seconds j t))).world
      unfolding respond_row
      responding_so j t held = by (w.seconds j t).sealed (first_missing held plan.start t) (held t)
        where
          by : (sealed : Option (List Entry)) (missing : Option ℕ) (root : Option (List ℕ)) → IsWorldSo (at_core w j t (respond_where image held plan.start t sealed missing root (w.seconds j t))).world
          by None missing root = still_so j t answers.Unsealed
          by (Some entries) (Some missing) root = still_so j t (answers.Undecided missing)
          by (Some entries) None None = still_so j t (answers.Undecided t)
          by (Some entries) None (Some root) =
              cond_both (is_mine image entries root) _ _ (λ turn. IsWorldSo (at_core w j t turn).world)
              (λ _. core_so w j t (responded image held plan.start t entries root (w.seconds j t)) (is.votes j t)
              (each_response (above_item image (covered_seconds held plan.start t) t root (items_of entries)) 0 entries) is)
              (λ _. still_so j t answers.NotMine)

      taken_so : (sender addressee : Actor) (t : ℕ) (content : Content) → IsContentSo content → IsWorldSo (histories.taken image plan w sender addressee t content).world
      taken_so (actors.Core from) (actors.Core j) t (contents.Synod m) so = receiving_so j t from m so
      taken_so (actors.Core from) (actors.Core j) t (contents.Submission item) so = is
      taken_so (actors.Core from) (actors.Core j) t (contents.Response above) so = is
      taken_so (actors.Core from) (actors.Aggregator k) t (contents.Synod m) so = is
      taken_so (actors.Core from) (actors.Aggregator k) t (contents.Submission item) so = is
      taken_so (actors.Core from) (actors.Aggregator k) t (contents.Response above) so = round_so w k t (round_response image above (w.rounds k t)) is
      taken_so (actors.Aggregator from) (actors.Core j) t (contents.Synod m) so = is
      taken_so (actors.Aggregator from) (actors.Core j) t (contents.Submission item) so = submission_so j t from item
      taken_so (actors.Aggregator from) (actors.Core j) t (contents.Response above) so = is
      taken_so (actors.Aggregator from) (actors.Aggregator k) t (contents.Synod m) so = is
      taken_so (actors.Aggregator from) (actors.Aggregator k) t (contents.Submission item) so = round_so w k t (round_submission from item (w.rounds k t)) is
      taken_so (actors.Aggregator from) (actors.Aggregator k) t (contents.Response above) so = round_so w k t (round_response image above (w.rounds k t)) is

      delivered_so : (number : ℕ) (found : Option Message) → slice_get w.wire number ≡ found → IsWorldSo (delivered image plan w found).world
      delivered_so number None at = is
      delivered_so number (Some m) at = taken_so m.sender m.addressee m.second m.content (is.wire number m at)

      restarting_so : (j : ℕ) → IsWorldSo (histories.core_restarts w j).world
      restarting_so j = record {
        votes = λ i u. cond_both (eqb i j) (restart_row (w.seconds i u)) (w.seconds i u) (λ s. IsVoteSo P plan.cores s.vote) (λ _. restart_so P plan.cores (w.seconds i u).vote (is.votes i u)) (λ _. is.votes i u);
        wire = is.wire;
      }

      happens_so : (e : Event) → IsEvent plan e → IsWorldSo (happens image plan w e).world
      unfolding happens
      happens_so (events.Request k t imprint name) at = let so = round_so w k t (round_request _ imprint name (w.rounds k t)) is in record { votes = so.votes; wire = so.wire }
      happens_so (events.Close k t) at = round_so w k t (round_close image (w.rounds k t)) is
      happens_so (events.Seal j t) at = sealing_so j t
      happens_so (events.Ballot j t) at = ballot_so j t (sound.small j t at.0)
      happens_so (events.Deliver number) at = delivered_so number (slice_get w.wire number) refl
      happens_so (events.Tell j t) at = telling_so j t
      happens_so (events.Respond j t) at = responding_so j t (held_in w j)
      happens_so (events.Publish j p) at = record { votes = is.votes; wire = is.wire }
      happens_so (events.RestartCore j) at = restarting_so j
      happens_so (events.RestartAggregator k) at = record { votes = is.votes; wire = is.wire }

    -- ---- a history

    first_so : IsWorldSo (first_world plan)
    unfolding first_world fresh_second fresh_vote
    first_so = record {
      votes = λ j t. record { candidate = tt; vote = tt; held = tt; hand = tt };
      wire = λ i m at. absurd (cc at);
    }

    run_so : (before later : List Event) → AreEvents plan (before ++ later) → AskFor P (before ++ later) → IsWorldSo (after image plan before) → IsWorldSo (after image plan (before ++ later))
    unfolding after
    run_so before [] are ask is = subst (λ es. IsWorldSo (run image plan (first_world plan) es)) (sym (append-nil before)) is
    run_so before (e ∷ es) are ask is =
        let front = cut_events plan before (e ∷ es) are in
        let w = after image plan before in
        let next = happens_so w (after_sound image plan plan_is laws.rises before front.0) (after_all P image plan plan_is laws before front.0 (cut_ask P before (e ∷ es) ask)) is e front.1.0 in
        subst (λ all. IsWorldSo (run image plan (first_world plan) all)) (more before e es)
        (run_so (before ++ e ∷ []) es (subst (AreEvents plan) (sym (more before e es)) are) (subst (AskFor P) (sym (more before e es)) ask)
        (subst IsWorldSo (sym (run_both image plan before (e ∷ []) (first_world plan))) next))

    pub after_so : (es : List Event) → AreEvents plan es → AskFor P es → IsWorldSo (after image plan es)
    unfolding after
    after_so es are ask = run_so [] es are ask first_so
