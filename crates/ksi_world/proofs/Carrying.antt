-- What holds of the zero imprint, of each hash and of what each request asks for holds of all items and of all that is
-- carried down.
use Rattle.ksi_schedule.specs.Plans.{core_plan_of}
use Rattle.std.proofs.Common.{◌≡◌, ℕ, zero, suc, ◌+◌, ◌<◌, ◌≤◌, eqb, List, [], ◌∷◌, ◌++◌, length, refl, subst, arith, inl, inr, is_some, Option, Some, None}
use Rattle.std.specs.Prelude.{slice_get, map, IfSome}
use Rattle.std.specs.List.{AllByRecursion}
use Rattle.std.proofs.lemmas.Bool.{cond_both}
use Rattle.std.proofs.lemmas.List.{length-map}
use Rattle.ksi_imprint.specs.Imprints.{zero_imprint}
use Rattle.ksi_aggtree.specs.declared.chains.node.Node.{Node}
use Rattle.ksi_aggtree.specs.declared.item.Item.{Item}
use Rattle.ksi_aggtree.specs.Climbing.{Climbs, level_after}
use Rattle.ksi_aggtree.specs.Links.{PlainLink}
use Rattle.ksi_aggtree.specs.declared.entries.Entry.{Entry}
use Rattle.ksi_aggtree.specs.declared.entries.Origin.{Origin}
use Rattle.ksi_aggtree.specs.declared.entries.Origin.TheVariants as origins
use Rattle.ksi_aggtree.specs.Names.{IsName}
use Rattle.ksi_aggtree.specs.Rounds.{IsRound}
use Rattle.ksi_aggtree.specs.Paths.{chain_of}
use Rattle.ksi_aggtree.specs.Entries.{items_of, has_from, is_full}
use Rattle.ksi_synod.specs.declared.messages.SynodMessage.{SynodMessage}
use Rattle.ksi_synod.specs.declared.messages.SynodMessage.TheVariants as message
use Rattle.ksi_synod.specs.Voters.{cores_below}
use Rattle.ksi_synod.specs.CorePlans.{CorePlanState, voters_of}
use Rattle.ksi_synod.specs.Rows.{try_ballot, ballot_told, receive, held_told}
use Rattle.ksi_signature.specs.declared.above.Above.{Above}
use Rattle.ksi_signature.specs.declared.answer.Answer.{Answer}
use Rattle.ksi_signature.specs.declared.answer.Answer.TheVariants as answers
use Rattle.ksi_corenode.specs.declared.step.Send as core_step
use Rattle.ksi_corenode.specs.declared.step.Send.TheVariants as core_sends
use Rattle.ksi_corenode.specs.SecondState.{SecondState, fresh_second}
use Rattle.ksi_corenode.specs.Turns.{Turn, still, to_each, told}
use Rattle.ksi_calendar.specs.Covered.{Roots, first_missing, covered_seconds}
use Rattle.ksi_corenode.specs.Rows.{submission_row, submitted, item_taken, seal_row, sealed_now, ballot_row, receive_row, tell_row, respond_row, respond_where, responded, responses_from, response_to, above_item, is_mine, restart_row}
use Rattle.ksi_aggregator.specs.declared.step.Send as round_step
use Rattle.ksi_aggregator.specs.declared.step.Send.TheVariants as round_sends
use Rattle.ksi_aggregator.specs.Responses.{chain_at, below, told_to, responses}
use Rattle.ksi_aggregator.specs.Responses as told_down
use Rattle.ksi_aggregator.specs.Rows.{RoundState, RoundTurn, fresh_round, round_still, round_added, closed_now, answered_now, request_entry, submitted_entry, round_request, round_submission, round_close, round_response, response_where, round_restarted, submission_of}
use Rattle.ksi_schedule.specs.declared.actor.Actor.{Actor}
use Rattle.ksi_schedule.specs.declared.actor.Actor.TheVariants as actors
use Rattle.ksi_schedule.specs.declared.event.Event.{Event}
use Rattle.ksi_schedule.specs.declared.event.Event.TheVariants as events
use Rattle.ksi_schedule.specs.Events.{IsEvent, AreEvents}
use Rattle.ksi_schedule.specs.Plans.{PlanState, IsPlan, name_of}
use Rattle.ksi_world.specs.declared.message.Content.{Content}
use Rattle.ksi_world.specs.declared.message.Content.TheVariants as contents
use Rattle.ksi_world.specs.declared.message.Message.{Message}
use Rattle.ksi_world.specs.Histories.{WorldState, core_message, round_message, at_core, at_round, held_in, delivered, happens, first_world, run, after}
use Rattle.ksi_world.specs.Histories as histories
use Rattle.ksi_world.specs.Sound.{IsSent, IsRoundAt, IsSound}
use Rattle.ksi_world.proofs.Depths.{depth_most}
use Rattle.ksi_world.proofs.Growing.{put_cases}
use Rattle.ksi_world.proofs.Imprinted.{NameLaws, OfItem, OfEntries, OfChain, entries_push, round_of, chain_carried}
use Rattle.ksi_world.proofs.Joining.{ItemClimbs, round_is}
use Rattle.ksi_world.proofs.Sending.{TreeRises, get_in_either}
use Rattle.ksi_world.proofs.Sounding.{happens_sound, first_sound}
use Rattle.ksi_world.proofs.Voted.{Voted, happens_voted, first_voted}

module _ (P : List ℕ → Type 0) where
  -- WHAT IS OF SUCH IMPRINTS

  pub record OfSecond (s : SecondState) : Type 0 where
    pub open_items : OfEntries P s.open_items
    pub sealed : (entries : List Entry) → s.sealed ≡ Some entries → OfEntries P entries

  -- at most 8 chains
  pub record IsCarriedDown (above : Above) : Type 0 where
    pub few : length above.chains ≤ 8
    pub chains : AllByRecursion (OfChain P) above.chains

  pub record OfRound (r : RoundState) : Type 0 where
    pub open_items : OfEntries P r.open_items
    pub closed : (entries : List Entry) → r.closed ≡ Some entries → OfEntries P entries
    pub answered : (above : Above) → r.answered ≡ Some above → IsCarriedDown above

  abbrev pub IsCarried : Content → Type 0
  IsCarried (contents.Submission item) = OfItem P item
  IsCarried (contents.Response above) = AllByRecursion (OfChain P) above.chains
  IsCarried (contents.Synod m) = Unit {0}

  -- what a request asks to sign
  abbrev pub AsksFor : Event → Type 0
  AsksFor (events.Request k t imprint name) = P imprint
  AsksFor _ = Unit {0}

  abbrev pub AskFor : List Event → Type 0
  AskFor es = AllByRecursion AsksFor es

  abbrev pub AreCarried : List Message → Type 0
  AreCarried ms = (i : ℕ) (m : Message) → slice_get ms i ≡ Some m → IsCarried m.content

  pub record AllOf (w : WorldState) : Type 0 where
    pub wire : AreCarried w.wire
    pub seconds : (j t : ℕ) → OfSecond (w.seconds j t)
    pub rounds : (k t : ℕ) → OfRound (w.rounds k t)

  none_carried : AreCarried []
  none_carried i m at = absurd (cc at)

  -- WHAT A CORE SENDS

  abbrev CoreCarried : core_step.Send → Type 0
  CoreCarried (core_sends.Synod to m) = Unit {0}
  CoreCarried (core_sends.Response to above) = AllByRecursion (OfChain P) above.chains

  abbrev EachCore : List core_step.Send → Type 0
  EachCore sends = AllByRecursion CoreCarried sends

  core_carried : (j t : ℕ) (sends : List core_step.Send) → EachCore sends → AreCarried (map (core_message j t) sends)
  core_carried j t [] each i m at = absurd (cc at)
  core_carried j t (core_sends.Synod to x ∷ ss) each zero m at =
      let same : core_message j t (core_sends.Synod to x) ≡ m = cc at in subst (λ (m : Message). IsCarried m.content) same tt
  core_carried j t (core_sends.Response to above ∷ ss) each zero m at =
      let same : core_message j t (core_sends.Response to above) ≡ m = cc at in subst (λ (m : Message). IsCarried m.content) same each.0
  core_carried j t (s ∷ ss) each (suc i) m at = core_carried j t ss each.1 i m at

  each_to : (m : SynodMessage) (to : List ℕ) → EachCore (to_each to m)
  each_to m [] = tt
  each_to m (core ∷ to) = (tt, each_to m to)

  each_told : (core_plan : CorePlanState) (second from : ℕ) (o : Option SynodMessage) → EachCore (told core_plan second from o)
  each_told core_plan second from None = tt
  each_told core_plan second from (Some (message.NextBallot b)) = each_to (message.NextBallot b) (voters_of core_plan second)
  each_told core_plan second from (Some (message.LastVote l)) = (tt, tt)
  each_told core_plan second from (Some (message.BeginBallot b d)) = each_to (message.BeginBallot b d) (voters_of core_plan second)
  each_told core_plan second from (Some (message.Voted b)) = (tt, tt)
  each_told core_plan second from (Some (message.Success d)) = each_to (message.Success d) (cores_below core_plan.cores)

  each_both : {A : Type 0} (P : A → Type 0) (xs ys : List A) → AllByRecursion P xs → AllByRecursion P ys → AllByRecursion P (xs ++ ys)
  each_both P [] ys one other = other
  each_both P (x ∷ xs) ys one other = (one.0, each_both P xs ys one.1 other)

  core_responses : (above : ℕ → Above) (n k : ℕ) (es : List Entry) → ((i : ℕ) → i < n → AllByRecursion (OfChain P) (above i).chains) → k + length es ≤ n → EachCore (responses_from above k es)
  core_responses above n k [] each few = tt
  core_responses above n k (e ∷ es) each few = each_both CoreCarried (response_to e.origin (above k)) (responses_from above (suc k) es) (one e.origin) (core_responses above n (suc k) es each (omega (arith, few)))
    where
      one : (o : Origin) → EachCore (response_to o (above k))
      one (origins.Request number) = tt
      one (origins.Aggregator from) = (each k (omega (arith, few)), tt)

  -- WHAT AN AGGREGATOR SENDS

  abbrev RoundCarried : round_step.Send → Type 0
  RoundCarried (round_sends.Submission item) = P item.imprint
  RoundCarried (round_sends.Response to above) = AllByRecursion (OfChain P) above.chains

  abbrev EachRound : List round_step.Send → Type 0
  EachRound sends = AllByRecursion RoundCarried sends

  round_carried : (plan : PlanState) (k t : ℕ) → IfSome (name_of plan k) IsName → (sends : List round_step.Send) → EachRound sends → AreCarried (map (round_message plan k t) sends)
  round_carried plan k t named [] each i m at = absurd (cc at)
  round_carried plan k t named (round_sends.Submission item ∷ ss) each zero m at =
      let same : round_message plan k t (round_sends.Submission item) ≡ m = cc at in subst (λ (m : Message). IsCarried m.content) same (each.0, named)
  round_carried plan k t named (round_sends.Response to above ∷ ss) each zero m at =
      let same : round_message plan k t (round_sends.Response to above) ≡ m = cc at in subst (λ (m : Message). IsCarried m.content) same each.0
  round_carried plan k t named (s ∷ ss) each (suc i) m at = round_carried plan k t named ss each.1 i m at

  -- TURNS

  core_turned : (w : WorldState) (j t : ℕ) (turn : Turn) → OfSecond turn.after → EachCore turn.sends → AllOf w → AllOf (at_core w j t turn).world
  core_turned w j t turn second sends all = record {
    wire = λ i m at. elim (get_in_either w.wire (map (core_message j t) turn.sends) i m at) [ inl old ↦ all.wire i m old | inr new ↦ core_carried j t turn.sends sends new.0 m new.1 ];
    seconds = λ i u. put_cases w.seconds j t turn.after OfSecond i u (λ _ _. second) (all.seconds i u);
    rounds = all.rounds;
  }

  round_turned : (plan : PlanState) (w : WorldState) (k t : ℕ) (turn : RoundTurn) → IfSome (name_of plan k) IsName → OfRound turn.after → EachRound turn.sends → AllOf w → AllOf (at_round plan w k t turn).world
  round_turned plan w k t turn named round sends all = record {
    wire = λ i m at. elim (get_in_either w.wire (map (round_message plan k t) turn.sends) i m at) [ inl old ↦ all.wire i m old | inr new ↦ round_carried plan k t named turn.sends sends new.0 m new.1 ];
    seconds = all.seconds;
    rounds = λ i u. put_cases w.rounds k t turn.after OfRound i u (λ _ _. round) (all.rounds i u);
  }

  -- the laws of rounds
  pub record RoundLaws (image : List ℕ → List ℕ) : Type 0 where
    pub zero_too : P zero_imprint
    pub images : (bytes : List ℕ) → P (image bytes)
    pub rises : TreeRises image
    pub climb : ItemClimbs image
    pub few : (items : List Item) (k : ℕ) → length items ≤ 65536 → length (chain_of image items k) ≤ 17
    pub sum : (start top : Node) (links : List PlainLink) → Climbs image start links top → top.level ≡ level_after start.level links
    pub names : NameLaws

  module _ (image : List ℕ → List ℕ) (plan : PlanState) (is : IsPlan plan) (laws : RoundLaws image) where
    pub chain_of_round : (es : List Entry) → IsRound (items_of es) → OfEntries P es → (k : ℕ) → k < length es → OfChain P (chain_at image (items_of es) k)
    chain_of_round es round all k lt =
        let f : Entry → Item = λ e. e.item in
        chain_carried P laws.zero_too image laws.images laws.rises laws.climb laws.few laws.sum laws.names es k round (omega (arith, length-map es f, lt)) all

    module _ (above : Above) (chains : AllByRecursion (OfChain P) above.chains) (all : List Entry) (round : IsRound (items_of all)) (have : OfEntries P all) where
      round_responses : (k : ℕ) (es : List Entry) → k + length es ≤ length all → EachRound (told_down.responses_from image k above (items_of all) es)
      round_responses k [] few = tt
      round_responses k (e ∷ es) few = each_both RoundCarried (told_to e.origin (below image above (items_of all) k)) (told_down.responses_from image (suc k) above (items_of all) es) (one e.origin) (round_responses (suc k) es (omega (arith, few)))
        where
          one : (o : Origin) → EachRound (told_to o (below image above (items_of all) k))
          one (origins.Request number) = tt
          one (origins.Aggregator from) = ((chain_of_round all round have k (omega (arith, few)), chains), tt)

    module _ (w : WorldState) (sound : IsSound plan w) (voted : Voted image plan w) (all : AllOf w) where
      -- A CORE'S TURNS

      still_all : (j t : ℕ) (answer : Answer) → AllOf (at_core w j t (still (w.seconds j t) answer)).world
      still_all j t answer = core_turned w j t (still (w.seconds j t) answer) (all.seconds j t) tt all

      submission_all : (j t from : ℕ) (item : Item) → OfItem P item → AllOf (at_core w j t (submission_row from item (w.seconds j t))).world
      unfolding submission_row
      submission_all j t from item imprint =
          let s = w.seconds j t in
          let old = all.seconds j t in
          cond_both (is_some s.sealed) _ _ (λ turn. AllOf (at_core w j t turn).world) (λ _. still_all j t answers.Late)
          (λ _. cond_both (has_from from s.open_items) _ _ (λ row. AllOf (at_core w j t (item_taken s row)).world) (λ _. core_turned w j t (item_taken s (s.open_items, answers.Known)) (record { open_items = old.open_items; sealed = old.sealed }) tt all)
          (λ _. cond_both (is_full s.open_items) _ _ (λ row. AllOf (at_core w j t (item_taken s row)).world) (λ _. core_turned w j t (item_taken s (s.open_items, answers.Full)) (record { open_items = old.open_items; sealed = old.sealed }) tt all)
          (λ _. core_turned w j t (item_taken s (s.open_items ++ submitted from item ∷ [], answers.Done)) (record { open_items = entries_push P s.open_items (submitted from item) old.open_items imprint; sealed = old.sealed }) tt all)))

      seal_all : (j t : ℕ) → AllOf (at_core w j t (seal_row image (w.seconds j t))).world
      unfolding seal_row
      seal_all j t =
          let s = w.seconds j t in
          let old = all.seconds j t in
          cond_both (is_some s.sealed) _ _ (λ turn. AllOf (at_core w j t turn).world) (λ _. still_all j t answers.Sealed)
          (λ _. core_turned w j t (sealed_now image s) (record { open_items = tt; sealed = λ entries at. let same : s.open_items ≡ entries = cc at in subst (OfEntries P) same old.open_items }) tt all)

      ballot_all : (j t : ℕ) → AllOf (at_core w j t (ballot_row (core_plan_of plan) t j (w.seconds j t))).world
      unfolding ballot_row
      ballot_all j t =
          let s = w.seconds j t in
          let old = all.seconds j t in
          core_turned w j t (ballot_row (core_plan_of plan) t j s) (record { open_items = old.open_items; sealed = old.sealed }) (each_told (core_plan_of plan) t j (ballot_told (try_ballot s.vote).1)) all

      receive_all : (j t from : ℕ) (m : SynodMessage) → AllOf (at_core w j t (receive_row (core_plan_of plan) t from m (w.seconds j t))).world
      unfolding receive_row
      receive_all j t from m =
          let s = w.seconds j t in
          let old = all.seconds j t in
          core_turned w j t (receive_row (core_plan_of plan) t from m s) (record { open_items = old.open_items; sealed = old.sealed }) (each_told (core_plan_of plan) t from (receive s.vote from m).1) all

      tell_all : (j t : ℕ) → AllOf (at_core w j t (tell_row (core_plan_of plan) t j (w.seconds j t))).world
      unfolding tell_row
      tell_all j t =
          let s = w.seconds j t in
          let old = all.seconds j t in
          core_turned w j t (tell_row (core_plan_of plan) t j s) (record { open_items = old.open_items; sealed = old.sealed }) (each_told (core_plan_of plan) t j (held_told s.vote.held)) all

      respond_all : (j t : ℕ) (held : Roots) → AllOf (at_core w j t (respond_row image held plan.start t (w.seconds j t))).world
      unfolding respond_row
      respond_all j t held = by (w.seconds j t).sealed refl (first_missing held plan.start t) (held t)
        where
          by : (sealed : Option (List Entry)) → (w.seconds j t).sealed ≡ sealed → (missing : Option ℕ) (root : Option (List ℕ)) → AllOf (at_core w j t (respond_where image held plan.start t sealed missing root (w.seconds j t))).world
          by None at missing root = still_all j t answers.Unsealed
          by (Some entries) at (Some missing) root = still_all j t (answers.Undecided missing)
          by (Some entries) at None None = still_all j t (answers.Undecided t)
          by (Some entries) at None (Some root) =
              let round = round_is image plan is (actors.Core j) (length w.requests) entries (sound.sealed j t entries at) ((voted.sealed j t).few entries at) in
              let have = (all.seconds j t).sealed entries at in
              cond_both (is_mine image entries root) _ _ (λ turn. AllOf (at_core w j t turn).world)
              (λ _. core_turned w j t (responded image held plan.start t entries root (w.seconds j t)) (all.seconds j t)
              (core_responses (above_item image (covered_seconds held plan.start t) t root (items_of entries)) (length entries) 0 entries (λ k lt. (chain_of_round entries round have k lt, tt)) (omega arith)) all)
              (λ _. still_all j t answers.NotMine)

      -- AN AGGREGATOR'S TURNS

      stays_all : (k t : ℕ) (answer : Answer) → AllOf (at_round plan w k t (round_still (w.rounds k t) answer)).world
      stays_all k t answer = round_turned plan w k t (round_still (w.rounds k t) answer) (is.names k) (all.rounds k t) tt all

      added_all : (k t : ℕ) (entry : Entry) (answer : Answer) → OfItem P entry.item → AllOf (at_round plan w k t (round_added (w.rounds k t) entry answer)).world
      added_all k t entry answer imprint =
          let old = all.rounds k t in
          round_turned plan w k t (round_added (w.rounds k t) entry answer) (is.names k) (record { open_items = entries_push P (w.rounds k t).open_items entry old.open_items imprint; closed = old.closed; answered = old.answered }) tt all

      request_all : (k t : ℕ) (imprint : List ℕ) (name : Option (List ℕ)) → P imprint × IfSome name IsName → AllOf (histories.request_happens plan w k t imprint name).world
      unfolding round_request
      request_all k t imprint name it = record { wire = turned.wire; seconds = turned.seconds; rounds = turned.rounds }
        where
          turned : AllOf (at_round plan w k t (round_request (length w.requests) imprint name (w.rounds k t))).world
          turned =
              let r = w.rounds k t in
              cond_both (is_some r.closed) _ _ (λ turn. AllOf (at_round plan w k t turn).world) (λ _. stays_all k t answers.Late)
              (λ _. cond_both (is_full r.open_items) _ _ (λ turn. AllOf (at_round plan w k t turn).world) (λ _. stays_all k t answers.Full)
              (λ _. added_all k t (request_entry (length w.requests) imprint name) (answers.Number (length w.requests)) it))

      take_all : (k t from : ℕ) (item : Item) → OfItem P item → AllOf (at_round plan w k t (round_submission from item (w.rounds k t))).world
      unfolding round_submission
      take_all k t from item imprint =
          let r = w.rounds k t in
          cond_both (is_some r.closed) _ _ (λ turn. AllOf (at_round plan w k t turn).world) (λ _. stays_all k t answers.Late)
          (λ _. cond_both (has_from from r.open_items) _ _ (λ turn. AllOf (at_round plan w k t turn).world) (λ _. stays_all k t answers.Known)
          (λ _. cond_both (is_full r.open_items) _ _ (λ turn. AllOf (at_round plan w k t turn).world) (λ _. stays_all k t answers.Full)
          (λ _. added_all k t (submitted_entry from item) answers.Done imprint)))

      submission_imprint : (es : List Entry) → OfEntries P es → EachRound (submission_of image es)
      submission_imprint [] have = tt
      submission_imprint (e ∷ es) have = (round_of P laws.zero_too image laws.images (e ∷ es) have, tt)

      close_all : (k t : ℕ) → AllOf (at_round plan w k t (round_close image (w.rounds k t))).world
      unfolding round_close
      close_all k t =
          let r = w.rounds k t in
          let old = all.rounds k t in
          cond_both (is_some r.closed) _ _ (λ turn. AllOf (at_round plan w k t turn).world) (λ _. stays_all k t answers.Closed)
          (λ _. round_turned plan w k t (closed_now image r) (is.names k) (record {
            open_items = tt;
            closed = λ entries at. let same : r.open_items ≡ entries = cc at in subst (OfEntries P) same old.open_items;
            answered = old.answered;
          }) (submission_imprint r.open_items old.open_items) all)

      response_all : (k t : ℕ) (above : Above) → IsCarriedDown above → AllOf (at_round plan w k t (round_response image above (w.rounds k t))).world
      unfolding round_response responses
      response_all k t above down = by (w.rounds k t).closed refl (w.rounds k t).answered
        where
          by : (closed : Option (List Entry)) → (w.rounds k t).closed ≡ closed → (answered : Option Above) → AllOf (at_round plan w k t (response_where image above closed answered (w.rounds k t))).world
          by None at answered = stays_all k t answers.Nothing
          by (Some []) at answered = stays_all k t answers.Nothing
          by (Some (e ∷ es)) at (Some first) = stays_all k t answers.Nothing
          by (Some (e ∷ es)) at None =
              let old = all.rounds k t in
              let at_round : IsRoundAt plan (actors.Aggregator k) (length w.requests) (e ∷ es) = (sound.rounds k t).closed (e ∷ es) at in
              let round = round_is image plan is (actors.Aggregator k) (length w.requests) (e ∷ es) at_round.are at_round.few in
              round_turned plan w k t (answered_now image above (e ∷ es) (w.rounds k t)) (is.names k) (record {
                open_items = old.open_items;
                closed = old.closed;
                answered = λ other at. let same : above ≡ other = cc at in subst IsCarriedDown same down;
              }) (round_responses above down.chains (e ∷ es) round (old.closed (e ∷ es) at) 0 (e ∷ es) (omega arith)) all

      -- AN EVENT

      taken_all : (sender addressee : Actor) (t : ℕ) (content : Content) → IsSent plan sender addressee content → IsCarried content → AllOf (histories.taken image plan w sender addressee t content).world
      taken_all (actors.Core from) (actors.Core j) t (contents.Synod m) sent carried = receive_all j t from m
      taken_all (actors.Core from) (actors.Core j) t (contents.Submission item) sent carried = all
      taken_all (actors.Core from) (actors.Core j) t (contents.Response above) sent carried = all
      taken_all (actors.Core from) (actors.Aggregator k) t (contents.Synod m) sent carried = all
      taken_all (actors.Core from) (actors.Aggregator k) t (contents.Submission item) sent carried = all
      taken_all (actors.Core from) (actors.Aggregator k) t (contents.Response above) sent carried = response_all k t above (record { few = omega (arith, sent.1, depth_most plan (actors.Aggregator k)); chains = carried })
      taken_all (actors.Aggregator from) (actors.Core j) t (contents.Synod m) sent carried = all
      taken_all (actors.Aggregator from) (actors.Core j) t (contents.Submission item) sent carried = submission_all j t from item carried
      taken_all (actors.Aggregator from) (actors.Core j) t (contents.Response above) sent carried = all
      taken_all (actors.Aggregator from) (actors.Aggregator k) t (contents.Synod m) sent carried = all
      taken_all (actors.Aggregator from) (actors.Aggregator k) t (contents.Submission item) sent carried = take_all k t from item carried
      taken_all (actors.Aggregator from) (actors.Aggregator k) t (contents.Response above) sent carried = response_all k t above (record { few = omega (arith, sent.1, depth_most plan (actors.Aggregator k)); chains = carried })

      delivered_all : (number : ℕ) (found : Option Message) → slice_get w.wire number ≡ found → AllOf (delivered image plan w found).world
      delivered_all number None at = all
      delivered_all number (Some m) at = taken_all m.sender m.addressee m.second m.content (sound.wire number m at).sent (all.wire number m at)

      core_restarts_all : (j : ℕ) → AllOf (histories.core_restarts w j).world
      core_restarts_all j = record {
        wire = all.wire;
        seconds = λ i u. cond_both (eqb i j) (restart_row (w.seconds i u)) (w.seconds i u) OfSecond (λ _. record { open_items = tt; sealed = (all.seconds i u).sealed }) (λ _. all.seconds i u);
        rounds = all.rounds;
      }

      aggregator_restarts_all : (k : ℕ) → AllOf (histories.aggregator_restarts w k).world
      aggregator_restarts_all k = record {
        wire = all.wire;
        seconds = all.seconds;
        rounds = λ i u. cond_both (eqb i k) (round_restarted (w.rounds i u)) (w.rounds i u) OfRound
            (λ _. cond_both (is_some (w.rounds i u).closed) (w.rounds i u) fresh_round OfRound (λ _. all.rounds i u)
            (λ _. record { open_items = tt; closed = λ entries at. absurd (cc at); answered = λ above at. absurd (cc at) })) (λ _. all.rounds i u);
      }

      happens_all : (e : Event) → IsEvent plan e → AsksFor e → AllOf (happens image plan w e).world
      unfolding happens
      happens_all (events.Request k t imprint name) at asks = request_all k t imprint name (asks, at.2)
      happens_all (events.Close k t) at asks = close_all k t
      happens_all (events.Seal j t) at asks = seal_all j t
      happens_all (events.Ballot j t) at asks = ballot_all j t
      happens_all (events.Deliver number) at asks = delivered_all number (slice_get w.wire number) refl
      happens_all (events.Tell j t) at asks = tell_all j t
      happens_all (events.Respond j t) at asks = respond_all j t (held_in w j)
      happens_all (events.Publish j p) at asks = record { wire = all.wire; seconds = all.seconds; rounds = all.rounds }
      happens_all (events.RestartCore j) at asks = core_restarts_all j
      happens_all (events.RestartAggregator k) at asks = aggregator_restarts_all k

    -- A HISTORY

    run_all : (es : List Event) (w : WorldState) → AreEvents plan es → AskFor es → IsSound plan w → Voted image plan w → AllOf w → AllOf (run image plan w es)
    run_all [] w are ask sound voted all = all
    run_all (e ∷ es) w are ask sound voted all =
        run_all es (happens image plan w e).world are.1 ask.1 (happens_sound image plan is laws.rises w e are.0 sound) (happens_voted image plan w voted e is.core_plan.few are.0) (happens_all w sound voted all e are.0 ask.0)

    first_all : AllOf (first_world plan)
    unfolding first_world fresh_second
    first_all = record {
      wire = none_carried;
      seconds = λ j t. record { open_items = tt; sealed = λ entries at. absurd (cc at) };
      rounds = λ k t. record { open_items = tt; closed = λ entries at. absurd (cc at); answered = λ above at. absurd (cc at) };
    }

    pub after_all : (es : List Event) → AreEvents plan es → AskFor es → AllOf (after image plan es)
    unfolding after
    after_all es are ask = run_all es (first_world plan) are ask (first_sound plan is) (first_voted image plan) first_all
