-- Events that are taken one after the other.
use Rattle.std.proofs.Common.{◌≡◌, ℕ, ◌<◌, ◌+◌, true, false, List, [], ◌∷◌, ◌++◌, take, length, get_or, refl, sym, subst, ap, ◌∙◌, drop}
use Rattle.std.proofs.lemmas.List.{drop_more, take-append-drop, take_more}
use Rattle.ksi_aggregator.specs.declared.event.RoundEvent.{RoundEvent}
use Rattle.ksi_aggregator.specs.Rows.{RoundState}
use Rattle.ksi_roundstore.specs.Facts.{AreAccepted, IsAccepted, TakesAs, round_after, rounds_after}

module _ (image : List ℕ → List ℕ) where
  pub after_then : (rounds : ℕ → RoundState) (some others : List RoundEvent) → rounds_after image rounds (some ++ others) ≡ rounds_after image (rounds_after image rounds some) others
  after_then rounds [] others = refl
  after_then rounds (event ∷ some) others = after_then (round_after image rounds event) some others

  pub accepted_then : (rounds : ℕ → RoundState) (some : List RoundEvent) (event : RoundEvent) → AreAccepted image rounds some → IsAccepted image (rounds_after image rounds some) event → AreAccepted image rounds (some ++ event ∷ [])
  accepted_then rounds [] event are is = (is, tt)
  accepted_then rounds (first ∷ some) event are is = (are.0, accepted_then (round_after image rounds first) some event are.1 is)

  pub accepted_front : (rounds : ℕ → RoundState) (some : List RoundEvent) (event : RoundEvent) → AreAccepted image rounds (some ++ event ∷ []) → AreAccepted image rounds some × IsAccepted image (rounds_after image rounds some) event
  accepted_front rounds [] event are = (tt, are.0)
  accepted_front rounds (first ∷ some) event are = let rest = accepted_front (round_after image rounds first) some event are.1 in ((are.0, rest.0), rest.1)

  accepted_at : (rounds : ℕ → RoundState) (some : List RoundEvent) (event : RoundEvent) (others : List RoundEvent) → AreAccepted image rounds (some ++ event ∷ others) → IsAccepted image (rounds_after image rounds some) event
  accepted_at rounds [] event others are = are.0
  accepted_at rounds (first ∷ some) event others are = accepted_at (round_after image rounds first) some event others are.1

  -- where one of them is not accepted, they are not all accepted
  pub not_all : (old mid : ℕ → RoundState) (list : List RoundEvent) (k : ℕ) (event : RoundEvent) → k < length list → event ≡ get_or list k event → ((t : ℕ) → mid t ≡ rounds_after image old (take k list) t)
      → TakesAs image mid mid event false → AreAccepted image old list → ⊥
  not_all old mid list k event within is here none are =
      let mids : rounds_after image old (take k list) ≡ mid = (λ i t. sym (here t) i) in
      let split : list ≡ take k list ++ event ∷ drop (k + 1) list =
      sym (take-append-drop k list) ∙ ap (λ (l : List RoundEvent). take k list ++ l) (drop_more list k event within ∙ ap (λ (e : RoundEvent). e ∷ drop (k + 1) list) (sym is)) in
      none (subst (λ (rounds : ℕ → RoundState). IsAccepted image rounds event) mids (accepted_at old (take k list) event (drop (k + 1) list) (subst (λ (l : List RoundEvent). AreAccepted image old l) split are)))

  -- one event more
  pub one_more : (old mid new : ℕ → RoundState) (list : List RoundEvent) (k : ℕ) (event : RoundEvent) → k < length list → event ≡ get_or list k event → AreAccepted image old (take k list) → ((t : ℕ) → mid t ≡ rounds_after image old (take k list) t)
      → TakesAs image mid new event true → AreAccepted image old (take (k + 1) list) × ((t : ℕ) → new t ≡ rounds_after image old (take (k + 1) list) t)
  one_more old mid new list k event within is are here took =
      let more : take (k + 1) list ≡ take k list ++ event ∷ [] = take_more list k event within ∙ ap (λ (e : RoundEvent). take k list ++ e ∷ []) (sym is) in
      let mids : mid ≡ rounds_after image old (take k list) = (λ i t. here t i) in (
        subst (λ (l : List RoundEvent). AreAccepted image old l) (sym more) (accepted_then old (take k list) event are (subst (λ (rounds : ℕ → RoundState). IsAccepted image rounds event) mids took.0)),
        λ t. took.1 t ∙ ap (λ (rounds : ℕ → RoundState). round_after image rounds event t) mids ∙ sym (ap (λ (rounds : ℕ → RoundState). rounds t) (after_then old (take k list) (event ∷ []))) ∙ ap (λ (l : List RoundEvent). rounds_after image old l t) (sym more),
      )
