-- A round that an aggregator forgot, beside the one that it would have, over events and restarts.
use Rattle.std.proofs.Common.{◌≡◌, ℕ, Bool, false, List, [], ◌∷◌, ◌++◌, slice_get, Option, Some, None, refl, sym, ap, subst, ◌∙◌, append-nil, append_assoc}
use Rattle.std.specs.Prelude.{is_some, option_map, unwrap_or}
use Rattle.std.proofs.lemmas.Bool.{cond-false}
use Rattle.ksi_aggtree.specs.declared.entries.Entry.{Entry}
use Rattle.ksi_aggtree.specs.declared.item.Item.{Item}
use Rattle.ksi_signature.specs.declared.above.Above.{Above}
use Rattle.ksi_aggregator.specs.declared.event.RoundEvent.{RoundEvent}
use Rattle.ksi_aggregator.specs.declared.event.RoundEvent.TheVariants as events
use Rattle.ksi_aggregator.specs.declared.fact.Fact.{Fact}
use Rattle.ksi_aggregator.specs.declared.fact.RoundFact.{RoundFact}
use Rattle.ksi_aggregator.specs.Events.{MayTake, round_row}
use Rattle.ksi_aggregator.specs.Issuing.{from_request}
use Rattle.ksi_aggregator.specs.Lawful.{with_new}
use Rattle.ksi_aggregator.specs.Rounds.{HasPlace, IsNew, fact_of, items_in}
use Rattle.ksi_aggregator.specs.Rows.{RoundState, RoundTurn, round_restarted, round_still}
use Rattle.ksi_aggregator.specs.Settled.{IsSettled, settled_answer}
use Rattle.ksi_roundstore.specs.Forgotten.{SayTheSame, closed_empty}
use Rattle.ksi_roundstore.specs.Left.{left_of, left_of_one, what_is_left}
use Rattle.ksi_laws_crashed.specs.Aggregators.{IsRoundOf, IsUnused, is_gone}

-- the laws on settled rounds
pub record SettledStay (image : List ℕ → List ℕ) : Type 0 where
  pub row : (event : RoundEvent) (r : RoundState) → IsSettled r → round_row image event r ≡ round_still r (settled_answer event)
  pub restart : (r : RoundState) → IsSettled r → round_restarted r ≡ r

settled_empty : (live : RoundState) → live ≡ closed_empty → IsSettled live
settled_empty live empty = subst IsSettled (sym empty) (record { entries = []; closed = refl; done = λ none. refl })

-- a forgotten round has no item
no_item : (live : RoundState) (i number : ℕ) (item : Item) → live ≡ closed_empty → slice_get (items_in live) i ≡ Some (from_request number item) → ⊥
no_item live i number item empty at = absurd (cc (ap (λ (r : RoundState). slice_get (items_in r) i) (sym empty) ∙ at))

-- ONE ROUND

module _ (image : List ℕ → List ℕ) (laws : SettledStay image) where
  pub row_alike : (event : RoundEvent) (o : Option (List Entry)) (whole live : RoundState) → IsRoundOf o whole live → SayTheSame (round_row image event live) (round_row image event whole)
  row_alike event None whole live same = record {
    answer = ap (λ (r : RoundState). (round_row image event r).answer) same;
    fact = ap (λ (r : RoundState). (round_row image event r).fact) same;
    sends = ap (λ (r : RoundState). (round_row image event r).sends) same;
  }
  row_alike event (Some entries) whole live is =
      let here = laws.row event live (settled_empty live is.2) in
      let there = laws.row event whole is.0 in
      record {
        answer = ap (λ (turn : RoundTurn). turn.answer) here ∙ sym (ap (λ (turn : RoundTurn). turn.answer) there);
        fact = ap (λ (turn : RoundTurn). turn.fact) here ∙ sym (ap (λ (turn : RoundTurn). turn.fact) there);
        sends = ap (λ (turn : RoundTurn). turn.sends) here ∙ sym (ap (λ (turn : RoundTurn). turn.sends) there);
      }

  pub row_kept : (event : RoundEvent) (o : Option (List Entry)) (whole live : RoundState) → IsRoundOf o whole live → IsRoundOf o (round_row image event whole).after (round_row image event live).after
  row_kept event None whole live same = ap (λ (r : RoundState). (round_row image event r).after) same
  row_kept event (Some entries) whole live is =
      let here : (round_row image event live).after ≡ live = ap (λ (turn : RoundTurn). turn.after) (laws.row event live (settled_empty live is.2)) in
      let there : (round_row image event whole).after ≡ whole = ap (λ (turn : RoundTurn). turn.after) (laws.row event whole is.0) in
      (subst IsSettled (sym there) is.0, ap (λ (r : RoundState). r.closed) there ∙ is.1, here ∙ is.2)

  -- a forgotten round gets no fact
  pub row_adds : (event : RoundEvent) (t : ℕ) (forgotten : ℕ → Option (List Entry)) (whole live : RoundState) → IsRoundOf (forgotten t) whole live
      → (fact : Fact) → option_map (fact_of t) (round_row image event whole).fact ≡ Some fact → is_gone forgotten fact.second ≡ false
  row_adds event t forgotten whole live is fact adds = by (forgotten t) refl is
    where
      of_second : (what : Option RoundFact) → option_map (fact_of t) what ≡ Some fact → fact.second ≡ t
      of_second None none = absurd (cc none)
      of_second (Some what) some = let same : fact_of t what ≡ fact = cc some in ap (λ (f : Fact). f.second) (sym same)

      by : (o : Option (List Entry)) → forgotten t ≡ o → IsRoundOf o whole live → is_gone forgotten fact.second ≡ false
      by None none same = ap (λ (u : ℕ). is_gone forgotten u) (of_second (round_row image event whole).fact adds) ∙ ap (λ (o : Option (List Entry)). is_some o) none
      by (Some entries) some gone = absurd (cc (ap (λ (turn : RoundTurn). option_map (fact_of t) turn.fact) (sym (laws.row event whole gone.0)) ∙ adds))

  pub restart_kept : (o : Option (List Entry)) (whole live : RoundState) → IsRoundOf o whole live → IsRoundOf o (round_restarted whole) (round_restarted live)
  restart_kept None whole live same = ap round_restarted same
  restart_kept (Some entries) whole live is =
      let here : round_restarted live ≡ live = laws.restart live (settled_empty live is.2) in
      let there : round_restarted whole ≡ whole = laws.restart whole is.0 in
      (subst IsSettled (sym there) is.0, ap (λ (r : RoundState). r.closed) there ∙ is.1, here ∙ is.2)

-- ALL ROUNDS

module _ (forgotten : ℕ → Option (List Entry)) (whole live : ℕ → RoundState) (are : (t : ℕ) → IsRoundOf (forgotten t) (whole t) (live t)) where
  -- a number that is new to the whole aggregator is new to the live one
  new_to_live : (number : ℕ) → IsNew number whole → IsNew number live
  new_to_live number new t i item at = by (forgotten t) (are t)
    where
      by : (o : Option (List Entry)) → IsRoundOf o (whole t) (live t) → ⊥
      by None same = new t i item (ap (λ (r : RoundState). slice_get (items_in r) i) (sym same) ∙ at)
      by (Some entries) gone = no_item (live t) i number item gone.2 at

  -- and one that is new to the live one, and in no round that it forgot, is new to the whole one
  pub new_to_whole : (number : ℕ) → IsNew number live → IsUnused number forgotten → IsNew number whole
  new_to_whole number new unused t i item at = by (forgotten t) refl (are t)
    where
      by : (o : Option (List Entry)) → forgotten t ≡ o → IsRoundOf o (whole t) (live t) → ⊥
      by None none same = new t i item (ap (λ (r : RoundState). slice_get (items_in r) i) same ∙ at)
      by (Some entries) some gone = unused t i entries item some (ap (λ (o : Option (List Entry)). slice_get (unwrap_or o (whole t).open_items) i) (sym gone.1) ∙ at)

  place_for : (t : ℕ) (above : Above) → HasPlace (whole t) above → HasPlace (live t) above
  place_for t above place = by (forgotten t) (are t)
    where
      by : (o : Option (List Entry)) → IsRoundOf o (whole t) (live t) → HasPlace (live t) above
      by None same = subst (λ (r : RoundState). HasPlace r above) (sym same) place
      by (Some entries) gone = subst (λ (r : RoundState). HasPlace r above) (sym gone.2) (λ lower. absurd (cc lower))

  pub may_live : (event : RoundEvent) → MayTake whole event → MayTake live event
  may_live (events.Request number second imprint name) may = new_to_live number may
  may_live (events.Submission from second item) may = may
  may_live (events.Close second) may = may
  may_live (events.Response second above) may = place_for second above may

-- FACTS

module _ (gone : ℕ → Bool) where
  left_then : (front : List Fact) (fact : Fact) → left_of gone (front ++ fact ∷ []) ≡ left_of gone front ++ left_of_one gone fact
  left_then [] fact = append-nil (left_of_one gone fact)
  left_then (x ∷ front) fact =
      ap (λ (l : List Fact). left_of_one gone x ++ l) (left_then front fact)
      ∙ sym (append_assoc (left_of_one gone x) (left_of gone front) (left_of_one gone fact))

  -- a new fact that is of no forgotten round is left
  pub left_new : (facts : List Fact) (fact : Option Fact) → ((one : Fact) → fact ≡ Some one → gone one.second ≡ false) → with_new (left_of gone facts) fact ≡ left_of gone (with_new facts fact)
  left_new facts None there = refl
  left_new facts (Some one) there = sym (left_then facts one
      ∙ ap (λ (l : List Fact). left_of gone facts ++ l) (cond-false (gone one.second) (what_is_left one.second one.what) (one ∷ []) (there one refl)))
