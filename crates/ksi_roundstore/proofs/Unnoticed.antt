-- The rounds of an aggregator of the facts left, and events in any number.
use Rattle.std.proofs.Common.{◌≡◌, ◌∙◌, ◌⊎◌, ℕ, Bool, true, false, List, [], ◌∷◌, Option, Some, None, refl, sym, ap, subst, inl, inr}
use Rattle.std.specs.Prelude.{◌==◌, nat_lt, if◌then◌else◌, is_some}
use Rattle.std.proofs.lemmas.Bool.{and_parts, eqb-true, false≢true, ltb-true}
use Rattle.std.proofs.lemmas.Option.{none-some}
use Rattle.ksi_aggtree.specs.declared.entries.Entry.{Entry}
use Rattle.ksi_signature.specs.declared.above.Above.{Above}
use Rattle.ksi_aggregator.specs.declared.event.RoundEvent.{RoundEvent}
use Rattle.ksi_aggregator.specs.declared.fact.Fact.{Fact}
use Rattle.ksi_aggregator.specs.Events.{event_second, round_row}
use Rattle.ksi_aggregator.specs.Facts.{StableRound, AnsweredLast, stable_round}
use Rattle.ksi_aggregator.specs.Rounds.{AggregatorState, rounds_of}
use Rattle.ksi_aggregator.specs.Rows.{RoundState, RoundTurn, fresh_round, round_restarted, round_still}
use Rattle.ksi_aggregator.specs.Lawful.{stored_by}
use Rattle.ksi_aggregator.specs.Restored.{restored, HasFacts, IsOfFacts, IsWell}
use Rattle.ksi_aggregator.specs.Settled.{IsSettled, settled_answer}
use Rattle.ksi_roundstore.specs.Facts.{round_after}
use Rattle.ksi_roundstore.specs.Left.{is_forgotten, left_before, left_of}
use Rattle.ksi_roundstore.specs.Forgotten.{closed_empty, IsGone, AreForgotten, SayTheSame, SayTheSameOf}
use Rattle.ksi_roundstore.proofs.Leaving.{emptied, with_emptied, AreLeft}

-- a round with a response is settled
settled_by : (r : RoundState) → is_some r.answered ≡ true → AnsweredLast r → IsSettled r
settled_by r some last = by r.closed r.answered refl refl some
  where
    by : (closed : Option (List Entry)) (answered : Option Above) → r.closed ≡ closed → r.answered ≡ answered → is_some answered ≡ true → IsSettled r
    by closed None is first has = absurd (false≢true has)
    by None (Some above) is first has = absurd (none-some above (sym (last is) ∙ first))
    by (Some entries) (Some above) is first has = record { entries = entries; closed = is; done = λ none. absurd (none-some above (sym none ∙ first)) }

-- what is restored of it once it is forgotten
emptied_round : (s : StableRound) → IsSettled (restored s) → restored (emptied s) ≡ closed_empty
emptied_round s settled = ap (λ (o : Option (List Entry)). restored (emptied (record { closed = o; answered = s.answered }))) settled.closed

pub rounds_left : (me before : ℕ) (facts : List Fact) (whole other : AggregatorState) → IsOfFacts me facts whole → IsOfFacts me (left_before before facts) other → ((t : ℕ) → AnsweredLast (rounds_of whole t))
    → AreLeft (is_forgotten before (stored_by facts)) facts → AreForgotten before (rounds_of whole) (rounds_of other)
rounds_left me before facts whole other of left_of last left t = by (is_forgotten before (stored_by facts) t) refl
  where
    is_other : (b : Bool) → is_forgotten before (stored_by facts) t ≡ b → rounds_of other t ≡ restored (with_emptied b (stored_by facts t))
    is_other b is = left_of.rounds t ∙ ap restored (left.stored t) ∙ ap (λ (c : Bool). restored (with_emptied c (stored_by facts t))) is

    by : (b : Bool) → is_forgotten before (stored_by facts) t ≡ b → (rounds_of other t ≡ rounds_of whole t) ⊎ IsGone before t (rounds_of whole t) (rounds_of other t)
    by false is = inl (is_other false is ∙ sym (of.rounds t))
    by true is =
        let parts = and_parts (nat_lt t before) (is_some (stored_by facts t).answered) is in
        let settled : IsSettled (rounds_of whole t) = settled_by (rounds_of whole t) (ap (λ (r : RoundState). is_some r.answered) (of.rounds t) ∙ parts.1) (last t) in
        inr (record {
          early = ltb-true t before parts.0;
          settled = settled;
          empty = is_other true is ∙ emptied_round (stored_by facts t) (subst IsSettled (of.rounds t) settled);
        })

-- THE ROUNDS OF AN AGGREGATOR THAT WAS STOPPED

-- a round of its stable part alone is the round after a restart
restored_again : (r : RoundState) → IsWell r → restored (stable_round r) ≡ round_restarted r
restored_again r well = by r.closed refl
  where
    by : (o : Option (List Entry)) → r.closed ≡ o → restored (stable_round r) ≡ round_restarted r
    by None at = (λ i. record { open_items = []; closed = at i; answered = well.last at i }) ∙ sym (ap (λ (o : Option (List Entry)). if is_some o then r else fresh_round) at)
    by (Some entries) at = (λ i. record { open_items = sym (well.emptied entries at) i; closed = r.closed; answered = r.answered }) ∙ sym (ap (λ (o : Option (List Entry)). if is_some o then r else fresh_round) at)

module _ (me : ℕ) (forgotten : ℕ → Bool) (facts : List Fact) (rounds : ℕ → RoundState) (other : AggregatorState) (t : ℕ) (has : HasFacts facts rounds) (of_left : IsOfFacts me (left_of forgotten facts) other)
    (left : AreLeft forgotten facts) where
  by_facts : (b : Bool) → forgotten t ≡ b → rounds_of other t ≡ restored (with_emptied b (stored_by facts t))
  by_facts b is = of_left.rounds t ∙ ap restored (left.stored t) ∙ ap (λ (c : Bool). restored (with_emptied c (stored_by facts t))) is

  pub round_stays : forgotten t ≡ false → rounds_of other t ≡ round_restarted (rounds t)
  round_stays is = by_facts false is ∙ ap restored (sym (has.stored t)) ∙ restored_again (rounds t) (has.well t)

  pub round_goes : forgotten t ≡ true → IsSettled (rounds t) → rounds_of other t ≡ closed_empty
  round_goes is settled = by_facts true is ∙ ap (λ (s : StableRound). restored (emptied s)) (sym (has.stored t))
      ∙ ap (λ (o : Option (List Entry)). restored (emptied (record { closed = o; answered = (rounds t).answered }))) settled.closed

-- EVENTS IN ANY NUMBER

module _ (image : List ℕ → List ℕ) (before : ℕ)
    (row : (event : RoundEvent) (r : RoundState) → IsSettled r → round_row image event r ≡ round_still r (settled_answer event)) where
  gone_settled : (t : ℕ) (round forgot : RoundState) → IsGone before t round forgot → IsSettled forgot
  gone_settled t round forgot gone = subst IsSettled (sym gone.empty) (record { entries = []; closed = refl; done = λ none. refl })

  one_alike : (t : ℕ) (event : RoundEvent) (round forgot : RoundState) → (forgot ≡ round) ⊎ IsGone before t round forgot → SayTheSame (round_row image event forgot) (round_row image event round)
  one_alike t event round forgot (inl same) = subst (λ (r : RoundState). SayTheSame (round_row image event r) (round_row image event round)) (sym same) (record { answer = refl; fact = refl; sends = refl })
  one_alike t event round forgot (inr gone) =
      let mine = row event forgot (gone_settled t round forgot gone) in
      let other = row event round gone.settled in
      record {
        answer = ap (λ (turn : RoundTurn). turn.answer) mine ∙ sym (ap (λ (turn : RoundTurn). turn.answer) other);
        fact = ap (λ (turn : RoundTurn). turn.fact) mine ∙ sym (ap (λ (turn : RoundTurn). turn.fact) other);
        sends = ap (λ (turn : RoundTurn). turn.sends) mine ∙ sym (ap (λ (turn : RoundTurn). turn.sends) other);
      }

  one_after : (t : ℕ) (event : RoundEvent) (round forgot : RoundState) → (forgot ≡ round) ⊎ IsGone before t round forgot
      → ((round_row image event forgot).after ≡ (round_row image event round).after) ⊎ IsGone before t (round_row image event round).after (round_row image event forgot).after
  one_after t event round forgot (inl same) = inl (ap (λ (r : RoundState). (round_row image event r).after) same)
  one_after t event round forgot (inr gone) =
      let mine : (round_row image event forgot).after ≡ forgot = ap (λ (turn : RoundTurn). turn.after) (row event forgot (gone_settled t round forgot gone)) in
      let other : (round_row image event round).after ≡ round = ap (λ (turn : RoundTurn). turn.after) (row event round gone.settled) in
      inr (record { early = gone.early; settled = subst IsSettled (sym other) gone.settled; empty = mine ∙ gone.empty })

  all_after : (rounds forgot : ℕ → RoundState) (event : RoundEvent) → AreForgotten before rounds forgot → AreForgotten before (round_after image rounds event) (round_after image forgot event)
  all_after rounds forgot event are t = by (t == event_second event) refl
    where
      by : (here : Bool) → (t == event_second event) ≡ here
          → ((if here then (round_row image event (forgot (event_second event))).after else forgot t) ≡ (if here then (round_row image event (rounds (event_second event))).after else rounds t))
          ⊎ IsGone before t (if here then (round_row image event (rounds (event_second event))).after else rounds t) (if here then (round_row image event (forgot (event_second event))).after else forgot t)
      by true same =
          subst (λ (u : ℕ). ((round_row image event (forgot (event_second event))).after ≡ (round_row image event (rounds (event_second event))).after) ⊎ IsGone before u (round_row image event (rounds (event_second event))).after (round_row image event (forgot (event_second event))).after)
          (sym (eqb-true t (event_second event) same))
          (one_after (event_second event) event (rounds (event_second event)) (forgot (event_second event)) (are (event_second event)))
      by false other = are t

  pub events_alike : (rounds forgot : ℕ → RoundState) (list : List RoundEvent) → AreForgotten before rounds forgot → SayTheSameOf image rounds forgot list
  events_alike rounds forgot [] are = tt
  events_alike rounds forgot (event ∷ list) are = (
    one_alike (event_second event) event (rounds (event_second event)) (forgot (event_second event)) (are (event_second event)),
    events_alike (round_after image rounds event) (round_after image forgot event) list (all_after rounds forgot event are),
  )
