-- Each turn of a core or an aggregator keeps that what is told is so.
use Rattle.std.proofs.Common.{◌≡◌, ℕ, zero, suc, ◌+◌, List, [], ◌∷◌, ◌++◌, refl, sym, ap, subst, arith, inl, inr, zero-add, Option, Some, None}
use Rattle.std.specs.Prelude.{slice_get, map}
use Rattle.ksi_aggtree.specs.declared.item.Item.{Item}
use Rattle.ksi_aggtree.specs.declared.entries.Entry.{Entry}
use Rattle.ksi_aggtree.specs.declared.entries.Origin.{Origin}
use Rattle.ksi_aggtree.specs.declared.entries.Origin.TheVariants as origins
use Rattle.ksi_aggtree.specs.Rounds.{IsRound, as_node, with_name, tree_of}
use Rattle.ksi_aggtree.specs.Entries.{items_of}
use Rattle.ksi_synod.specs.declared.messages.SynodMessage.{SynodMessage}
use Rattle.ksi_synod.specs.declared.messages.SynodMessage.TheVariants as message
use Rattle.ksi_synod.specs.Voters.{cores_below}
use Rattle.ksi_synod.specs.CorePlans.{CorePlanState, voters_of}
use Rattle.ksi_signature.specs.declared.above.Above.{Above}
use Rattle.ksi_corenode.specs.declared.step.Send as core_step
use Rattle.ksi_corenode.specs.declared.step.Send.TheVariants as core_sends
use Rattle.ksi_corenode.specs.SecondState.{SecondState}
use Rattle.ksi_corenode.specs.Turns.{Turn, to_each}
use Rattle.ksi_corenode.specs.Turns as turns
use Rattle.ksi_corenode.specs.Rows.{submitted, responses_from, response_to}
use Rattle.ksi_aggregator.specs.declared.step.Send as round_step
use Rattle.ksi_aggregator.specs.declared.step.Send.TheVariants as round_sends
use Rattle.ksi_aggregator.specs.Responses.{below}
use Rattle.ksi_aggregator.specs.Responses as told
use Rattle.ksi_aggregator.specs.Rows.{RoundState, RoundTurn, submitted_entry, fresh_round}
use Rattle.ksi_schedule.specs.Plans.{PlanState, name_of}
use Rattle.ksi_world.specs.declared.message.Message.{Message}
use Rattle.ksi_world.specs.Histories.{WorldState, core_message, round_message, at_core, at_round, held_in}
use Rattle.ksi_world.proofs.Growing.{Grew, put_cases, Holds, Keeps, core_grew, round_grew}
use Rattle.ksi_world.proofs.Sending.{get_in_either}
use Rattle.ksi_world.proofs.Joining.{ItemClimbs, IsClosedAs, Joins, IsAnswer, AreSubmitted, IsSo, AreSo, closed_later, joins_later, answer_later, submitted_later, all_later, none_submitted, joins_below}

module _ (image : List ℕ → List ℕ) (plan : PlanState) where
  pub record IsJoinedSecond (w : WorldState) (t : ℕ) (s : SecondState) : Type 0 where
    pub open_items : AreSubmitted image plan w t s.open_items
    pub sealed : (entries : List Entry) → s.sealed ≡ Some entries → AreSubmitted image plan w t entries

  pub record IsJoinedRound (w : WorldState) (k t : ℕ) (r : RoundState) : Type 0 where
    pub open_items : AreSubmitted image plan w t r.open_items
    pub closed : (entries : List Entry) → r.closed ≡ Some entries → AreSubmitted image plan w t entries
    pub answered : (above : Above) → r.answered ≡ Some above → IsAnswer image plan w k t above

  pub record AllJoined (w : WorldState) : Type 0 where
    pub wire : AreSo image plan w w.wire
    pub seconds : (j t : ℕ) → IsJoinedSecond w t (w.seconds j t)
    pub rounds : (k t : ℕ) → IsJoinedRound w k t (w.rounds k t)

  -- LATER

  module _ (w w' : WorldState) (grew : Grew w w') where
    pub second_later : (t : ℕ) (s : SecondState) → IsJoinedSecond w t s → IsJoinedSecond w' t s
    second_later t s is = record {
      open_items = submitted_later image plan w w' grew t s.open_items is.open_items;
      sealed = λ entries at. submitted_later image plan w w' grew t entries (is.sealed entries at);
    }

    pub round_later : (k t : ℕ) (r : RoundState) → IsJoinedRound w k t r → IsJoinedRound w' k t r
    round_later k t r is = record {
      open_items = submitted_later image plan w w' grew t r.open_items is.open_items;
      closed = λ entries at. submitted_later image plan w w' grew t entries (is.closed entries at);
      answered = λ above at. answer_later image plan w w' grew k t above (is.answered above at);
    }

    -- where nothing moved
    pub joined_noted : w'.wire ≡ w.wire → w'.seconds ≡ w.seconds → w'.rounds ≡ w.rounds → AllJoined w → AllJoined w'
    joined_noted wire_is seconds_are rounds_are joined = record {
      wire = subst (λ ms. AreSo image plan w' ms) (sym wire_is) (all_later image plan w w' grew w.wire joined.wire);
      seconds = λ j t. subst (λ (f : ℕ → ℕ → SecondState). IsJoinedSecond w' t (f j t)) (sym seconds_are) (second_later t (w.seconds j t) (joined.seconds j t));
      rounds = λ k t. subst (λ (f : ℕ → ℕ → RoundState). IsJoinedRound w' k t (f k t)) (sym rounds_are) (round_later k t (w.rounds k t) (joined.rounds k t));
    }

  -- A TURN

  pub core_joined : (w : WorldState) (j t : ℕ) (turn : Turn) → Holds (w.seconds j t) turn.after → IsJoinedSecond w t turn.after →
      AreSo image plan (at_core w j t turn).world (map (core_message j t) turn.sends) → AllJoined w → AllJoined (at_core w j t turn).world
  core_joined w j t turn holds second sends joined = record {
    wire = λ i m at. elim (get_in_either w.wire (map (core_message j t) turn.sends) i m at) [
      | inl old ↦ all_later image plan w w' grew w.wire joined.wire i m old
      | inr new ↦ sends new.0 m new.1
    ];
    seconds = λ i u. put_cases w.seconds j t turn.after (λ s. IsJoinedSecond w' u s) i u
        (λ _ u_is. subst (λ u. IsJoinedSecond w' u turn.after) (sym u_is) (second_later w w' grew t turn.after second))
        (second_later w w' grew u (w.seconds i u) (joined.seconds i u));
    rounds = λ k u. round_later w w' grew k u (w.rounds k u) (joined.rounds k u);
  }
    where
      w' : WorldState
      w' = (at_core w j t turn).world

      grew : Grew w (at_core w j t turn).world
      grew = core_grew w j t turn holds

  pub round_joined : (w : WorldState) (k t : ℕ) (turn : RoundTurn) → Keeps (w.rounds k t) turn.after → IsJoinedRound w k t turn.after →
      AreSo image plan (at_round plan w k t turn).world (map (round_message plan k t) turn.sends) → AllJoined w → AllJoined (at_round plan w k t turn).world
  round_joined w k t turn keeps round sends joined = record {
    wire = λ i m at. elim (get_in_either w.wire (map (round_message plan k t) turn.sends) i m at) [
      | inl old ↦ all_later image plan w w' grew w.wire joined.wire i m old
      | inr new ↦ sends new.0 m new.1
    ];
    seconds = λ j u. second_later w w' grew u (w.seconds j u) (joined.seconds j u);
    rounds = λ i u. put_cases w.rounds k t turn.after (λ r. IsJoinedRound w' i u r) i u
        (λ i_is u_is. subst (λ i. IsJoinedRound w' i u turn.after) (sym i_is) (subst (λ u. IsJoinedRound w' k u turn.after) (sym u_is) (round_later w w' grew k t turn.after round)))
        (round_later w w' grew i u (w.rounds i u) (joined.rounds i u));
  }
    where
      w' : WorldState
      w' = (at_round plan w k t turn).world

      grew : Grew w (at_round plan w k t turn).world
      grew = round_grew plan w k t turn keeps

  pub nothing_sent : (w : WorldState) → AreSo image plan w []
  nothing_sent w i m at = absurd (cc at)

  -- WHAT A CORE SENDS

  abbrev pub CoreSo : WorldState → (j t : ℕ) → core_step.Send → Type 0
  CoreSo w j t (core_sends.Synod to m) = Unit {0}
  CoreSo w j t (core_sends.Response to above) = (held_in w j t ≡ Some above.root) × IsAnswer image plan w to t above

  abbrev pub EachCoreSo : WorldState → (j t : ℕ) → List core_step.Send → Type 0
  EachCoreSo w j t [] = Unit {0}
  EachCoreSo w j t (s ∷ ss) = CoreSo w j t s × EachCoreSo w j t ss

  pub core_so : (w : WorldState) (j t : ℕ) (sends : List core_step.Send) → EachCoreSo w j t sends → AreSo image plan w (map (core_message j t) sends)
  core_so w j t [] each i m at = absurd (cc at)
  core_so w j t (core_sends.Synod to x ∷ ss) each zero m at =
      let same : core_message j t (core_sends.Synod to x) ≡ m = cc at in
      subst (λ (m : Message). IsSo image plan w m.sender m.addressee m.second m.content) same tt
  core_so w j t (core_sends.Response to above ∷ ss) each zero m at =
      let same : core_message j t (core_sends.Response to above) ≡ m = cc at in
      subst (λ (m : Message). IsSo image plan w m.sender m.addressee m.second m.content) same each.0
  core_so w j t (s ∷ ss) each (suc i) m at = core_so w j t ss each.1 i m at

  each_to : (w : WorldState) (j t : ℕ) (m : SynodMessage) (to : List ℕ) → EachCoreSo w j t (to_each to m)
  each_to w j t m [] = tt
  each_to w j t m (k ∷ ks) = (tt, each_to w j t m ks)

  pub each_told : (w : WorldState) (j t : ℕ) (core_plan : CorePlanState) (second from : ℕ) (o : Option SynodMessage) → EachCoreSo w j t (turns.told core_plan second from o)
  each_told w j t core_plan second from None = tt
  each_told w j t core_plan second from (Some (message.LastVote l)) = (tt, tt)
  each_told w j t core_plan second from (Some (message.Voted b)) = (tt, tt)
  each_told w j t core_plan second from (Some (message.NextBallot b)) = each_to w j t (message.NextBallot b) (voters_of core_plan second)
  each_told w j t core_plan second from (Some (message.BeginBallot b d)) = each_to w j t (message.BeginBallot b d) (voters_of core_plan second)
  each_told w j t core_plan second from (Some (message.Success d)) = each_to w j t (message.Success d) (cores_below core_plan.cores)

  -- where each item of an aggregator from place k on is answered, so is what is sent
  abbrev pub AreAnswered : WorldState → (t : ℕ) (above : ℕ → Above) (k : ℕ) → List Entry → Type 0
  AreAnswered w t above k es = (i a : ℕ) (item : Item) → slice_get es i ≡ Some (submitted_entry a item) → IsAnswer image plan w a t (above (k + i))

  first_answered : (w : WorldState) (t : ℕ) (above : ℕ → Above) (k : ℕ) (e : Entry) (es : List Entry) (a : ℕ) → AreAnswered w t above k (e ∷ es) → e.origin ≡ origins.Aggregator a → IsAnswer image plan w a t (above k)
  first_answered w t above k e es a each is =
      let here : e ≡ submitted_entry a e.item = ap (λ (o : Origin). record { origin = o; item = e.item }) is in
      let same : k + 0 ≡ k = omega arith in
      subst (λ n. IsAnswer image plan w a t (above n)) same (each 0 a e.item (ap Some here))

  others_answered : (w : WorldState) (t : ℕ) (above : ℕ → Above) (k : ℕ) (e : Entry) (es : List Entry) → AreAnswered w t above k (e ∷ es) → AreAnswered w t above (suc k) es
  others_answered w t above k e es each i a item at = let same : k + suc i ≡ suc k + i = omega arith in subst (λ n. IsAnswer image plan w a t (above n)) same (each (suc i) a item at)

  pub core_answers : (w : WorldState) (j t : ℕ) (above : ℕ → Above) (held : (k : ℕ) → held_in w j t ≡ Some (above k).root) (k : ℕ) (es : List Entry) → AreAnswered w t above k es → EachCoreSo w j t (responses_from above k es)
  core_answers w j t above held k [] each = tt
  core_answers w j t above held k (e ∷ es) each = by e.origin refl (core_answers w j t above held (suc k) es (others_answered w t above k e es each))
    where
      by : (o : Origin) → e.origin ≡ o → EachCoreSo w j t (responses_from above (suc k) es) → EachCoreSo w j t (response_to o (above k) ++ responses_from above (suc k) es)
      by (origins.Request number) is later = later
      by (origins.Aggregator a) is later = ((held k, first_answered w t above k e es a each is), later)

  -- WHAT AN AGGREGATOR SENDS

  abbrev pub RoundSo : WorldState → (k t : ℕ) → round_step.Send → Type 0
  RoundSo w k t (round_sends.Submission item) = IsClosedAs image plan w k t (with_name (name_of plan k) item)
  RoundSo w k t (round_sends.Response to above) = IsAnswer image plan w to t above

  abbrev pub EachRoundSo : WorldState → (k t : ℕ) → List round_step.Send → Type 0
  EachRoundSo w k t [] = Unit {0}
  EachRoundSo w k t (s ∷ ss) = RoundSo w k t s × EachRoundSo w k t ss

  pub round_so : (w : WorldState) (k t : ℕ) (sends : List round_step.Send) → EachRoundSo w k t sends → AreSo image plan w (map (round_message plan k t) sends)
  round_so w k t [] each i m at = absurd (cc at)
  round_so w k t (round_sends.Submission item ∷ ss) each zero m at =
      let same : round_message plan k t (round_sends.Submission item) ≡ m = cc at in
      subst (λ (m : Message). IsSo image plan w m.sender m.addressee m.second m.content) same each.0
  round_so w k t (round_sends.Response to above ∷ ss) each zero m at =
      let same : round_message plan k t (round_sends.Response to above) ≡ m = cc at in
      subst (λ (m : Message). IsSo image plan w m.sender m.addressee m.second m.content) same (tt, each.0)
  round_so w k t (s ∷ ss) each (suc i) m at = round_so w k t ss each.1 i m at

  pub round_answers : (w : WorldState) (here t : ℕ) (above : Above) (items : List Item) (k : ℕ) (es : List Entry) → AreAnswered w t (below image above items) k es → EachRoundSo w here t (told.responses_from image k above items es)
  round_answers w here t above items k [] each = tt
  round_answers w here t above items k (e ∷ es) each = by e.origin refl (round_answers w here t above items (suc k) es (others_answered w t (below image above items) k e es each))
    where
      by : (o : Origin) → e.origin ≡ o → EachRoundSo w here t (told.responses_from image (suc k) above items es) → EachRoundSo w here t (told.told_to o (below image above items k) ++ told.responses_from image (suc k) above items es)
      by (origins.Request number) is later = later
      by (origins.Aggregator a) is later = (first_answered w t (below image above items) k e es a each is, later)

  -- each item of an aggregator in a round is answered by what stands above the round
  pub all_answered : ItemClimbs image → (w w' : WorldState) → Grew w w' → (t : ℕ) (above : Above) (entries : List Entry) → IsRound (items_of entries) → AreSubmitted image plan w t entries →
      Joins image plan w t (tree_of image (items_of entries)) above → AreAnswered w' t (below image above (items_of entries)) 0 entries
  all_answered climb w w' grew t above entries round submitted joins i a item at =
      subst (λ n. IsAnswer image plan w' a t (below image above (items_of entries) n)) (sym (zero-add i)) (record {
        item = item;
        closed = closed_later image plan w w' grew a t item (submitted i a item at);
        joins = joins_later image plan w w' grew t (as_node item) (below image above (items_of entries) i) (joins_below image plan climb w t above entries round joins i (submitted_entry a item) at);
      })

  pub fresh_joined : (w : WorldState) (k t : ℕ) → IsJoinedRound w k t fresh_round
  fresh_joined w k t = record { open_items = none_submitted image plan w t; closed = λ entries at. absurd (cc at); answered = λ above at. absurd (cc at) }
