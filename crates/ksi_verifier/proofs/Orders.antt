-- What it means that chains are out of order.
use Rattle.std.proofs.Common.{◌≡◌, ◌≢◌, ◌↔◌, ℕ, zero, suc, ◌+◌, ◌<◌, Bool, true, false, List, [], ◌∷◌, take, Result, Ok, Err, Option, Some, None, refl, sym, ap, ◌∙◌, subst, arith}
use Rattle.std.specs.List.{slice_get}
use Rattle.std.specs.Prelude.{◌==◌, if◌then◌else◌}
use Rattle.std.proofs.lemmas.Bool.Decides.{Decides-eqb, not_from_Decides}
use Rattle.ksi_verifier.specs.declared.refusal.Refusal.{Refusal}
use Rattle.ksi_verifier.specs.declared.refusal.Refusal.TheVariants.{IndexOrder}
use Rattle.ksi_verifier.specs.Checks.{◌>>◌}
use Rattle.ksi_verifier.specs.Chains.{PlainChain, first_chain, higher_chains, without_last}
use Rattle.ksi_verifier.specs.ChainChecks.{same_parts, index_order}
use Rattle.ksi_verifier.specs.Leading.{OutOfOrder}
use Rattle.ksi_verifier.proofs.Passing.{Passes}
use Rattle.ksi_verifier.proofs.Chained.{parts_both}

abbrev failed : Refusal → Result (Unit {0}) Refusal
failed refusal = Err refusal

-- two lists first differ at a place
record Differ (xs ys : List ℕ) (j : ℕ) (a b : Option ℕ) : Type 0 where
  same : take j xs ≡ take j ys
  lower : slice_get xs j ≡ a
  higher : slice_get ys j ≡ b
  differ : a ≢ b

abbrev DifferAt : ℕ → ℕ → ℕ → ℕ → List ℕ → List ℕ → Option ℕ → Option ℕ → Type 0
DifferAt n p k place xs ys a b = (j : ℕ) × (k ≡ n) × (place ≡ p + j) × Differ xs ys j a b

module _ (n p k place : ℕ) (a b : Option ℕ) where
  -- the lists differ at once
  module _ (xs ys : List ℕ) (c d : Option ℕ) (at_xs : slice_get xs 0 ≡ c) (at_ys : slice_get ys 0 ≡ d) (other : c ≢ d) where
    at_once : failed (IndexOrder n p c d) ≡ failed (IndexOrder k place a b) → DifferAt n p k place xs ys a b
    at_once e =
        let i : n ≡ k = cc in
        let q : p ≡ place = cc in
        let x : c ≡ a = cc in
        let y : d ≡ b = cc in
        (0, sym i, omega (arith, q), record { same = refl; lower = at_xs ∙ x; higher = at_ys ∙ y; differ = λ s. other (x ∙ (s ∙ sym y)) })

    from_once : place ≡ p + 0 → k ≡ n → Differ xs ys 0 a b → failed (IndexOrder n p c d) ≡ failed (IndexOrder k place a b)
    from_once is i h =
        let q : place ≡ p = omega (arith, is) in
        let x : c ≡ a = sym at_xs ∙ h.lower in
        let y : d ≡ b = sym at_ys ∙ h.higher in
        cc

  none : (j : ℕ) → Differ [] [] j a b → ⊥
  none zero h = h.differ (sym h.lower ∙ h.higher)
  none (suc j) h = h.differ (sym h.lower ∙ h.higher)

  lower_only : (x : ℕ) (xs : List ℕ) (j : ℕ) → k ≡ n → place ≡ p + j → Differ (x ∷ xs) [] j a b → failed (IndexOrder n p (Some x) None) ≡ failed (IndexOrder k place a b)
  lower_only x xs zero i is h = from_once (x ∷ xs) [] (Some x) None refl refl (λ e. cc) is i h
  lower_only x xs (suc j) i is h = absurd (let s = h.same in cc)

  higher_only : (y : ℕ) (ys : List ℕ) (j : ℕ) → k ≡ n → place ≡ p + j → Differ [] (y ∷ ys) j a b → failed (IndexOrder n p None (Some y)) ≡ failed (IndexOrder k place a b)
  higher_only y ys zero i is h = from_once [] (y ∷ ys) None (Some y) refl refl (λ e. cc) is i h
  higher_only y ys (suc j) i is h = absurd (let s = h.same in cc)

some_is : (x y : ℕ) → Some x ≡ Some y → x ≡ y
some_is x y e = cc

parts_fail : (n p k place : ℕ) (a b : Option ℕ) (xs ys : List ℕ) → (same_parts n p xs ys ≡ failed (IndexOrder k place a b)) ↔ DifferAt n p k place xs ys a b
parts_fail n p k place a b [] [] = (λ e. absurd cc, λ h. absurd (none n p k place a b h.0 h.3))
parts_fail n p k place a b (x ∷ xs) [] = (at_once n p k place a b (x ∷ xs) [] (Some x) None refl refl (λ e. cc), λ h. lower_only n p k place a b x xs h.0 h.1 h.2 h.3)
parts_fail n p k place a b [] (y ∷ ys) = (at_once n p k place a b [] (y ∷ ys) None (Some y) refl refl (λ e. cc), λ h. higher_only n p k place a b y ys h.0 h.1 h.2 h.3)
parts_fail n p k place a b (x ∷ xs) (y ∷ ys) = of (parts_fail n (p + 1) k place a b xs ys) (x == y) refl
  where
    Higher : Type 0
    Higher = (same_parts n (p + 1) xs ys ≡ failed (IndexOrder k place a b)) ↔ DifferAt n (p + 1) k place xs ys a b

    on : Higher → x ≡ y → (j : ℕ) → k ≡ n → place ≡ p + j → Differ (x ∷ xs) (y ∷ ys) j a b → same_parts n (p + 1) xs ys ≡ failed (IndexOrder k place a b)
    on rest same zero i is h = absurd (h.differ (sym h.lower ∙ (ap (λ (z : ℕ). Some z) same ∙ h.higher)))
    on rest same (suc j) i is h = rest.1 (j, i, omega (arith, is), record { same = (let s = h.same in cc); lower = h.lower; higher = h.higher; differ = h.differ })

    stop : x ≢ y → (j : ℕ) → k ≡ n → place ≡ p + j → Differ (x ∷ xs) (y ∷ ys) j a b → failed (IndexOrder n p (Some x) (Some y)) ≡ failed (IndexOrder k place a b)
    stop other zero i is h = from_once n p k place a b (x ∷ xs) (y ∷ ys) (Some x) (Some y) refl refl (λ e. other (some_is x y e)) is i h
    stop other (suc j) i is h = absurd (other (let s = h.same in cc))

    of : Higher → (t : Bool) → (x == y) ≡ t → ((if t then same_parts n (p + 1) xs ys else failed (IndexOrder n p (Some x) (Some y))) ≡ failed (IndexOrder k place a b)) ↔ DifferAt n p k place (x ∷ xs) (y ∷ ys) a b
    of rest true e =
        let same = (Decides-eqb x y).0 e in (
          λ f. (let at = rest.0 f in let h = at.3 in
              (suc at.0, at.1, omega (arith, at.2), record { same = (let s = h.same in cc); lower = h.lower; higher = h.higher; differ = h.differ })),
          λ h. on rest same h.0 h.1 h.2 h.3,
        )
    of rest false e =
        let other = not_from_Decides (x == y) (Decides-eqb x y) e in
        (at_once n p k place a b (x ∷ xs) (y ∷ ys) (Some x) (Some y) refl refl (λ s. other (some_is x y s)), λ h. stop other h.0 h.1 h.2 h.3)

-- ---- of all chains

at_suc : (chains : List PlainChain) (j : ℕ) → slice_get chains (j + 1) ≡ slice_get chains (suc j)
at_suc chains j = let s : j + 1 ≡ suc j = omega arith in ap (slice_get chains) s

module _ (below : PlainChain) (chains : List PlainChain) (place : ℕ) (a b : Option ℕ) where
  only_one : (j : ℕ) → OutOfOrder (below ∷ []) j place a b → ⊥
  only_one j h = let e = sym (at_suc (below ∷ []) j) ∙ h.has_above in cc

  module _ (chain : PlainChain) where
    shift : (j : ℕ) → slice_get (below ∷ chain ∷ chains) (suc j + 1) ≡ slice_get (chain ∷ chains) (j + 1)
    shift j = at_suc (below ∷ chain ∷ chains) (suc j) ∙ sym (at_suc (chain ∷ chains) j)

    before : (j : ℕ) → chain.index ≡ without_last below.index → OutOfOrder (chain ∷ chains) j place a b → (i : ℕ) (other next : PlainChain) → i < suc j
        → slice_get (below ∷ chain ∷ chains) i ≡ Some other → slice_get (below ∷ chain ∷ chains) (i + 1) ≡ Some next → next.index ≡ without_last other.index
    before j same h zero other next lt p q = let x : below ≡ other = cc in let y : chain ≡ next = cc in ap (λ (c : PlainChain). c.index) (sym y) ∙ (same ∙ ap (λ (c : PlainChain). without_last c.index) x)
    before j same h (suc i) other next lt p q = h.first i other next (omega (arith, lt)) p (sym (shift i) ∙ q)

    pushed : (j : ℕ) → chain.index ≡ without_last below.index → OutOfOrder (chain ∷ chains) j place a b → OutOfOrder (below ∷ chain ∷ chains) (suc j) place a b
    pushed j same h = record {
      below = h.below;
      has_below = h.has_below;
      above = h.above;
      has_above = shift j ∙ h.has_above;
      same = h.same;
      is_lower = h.is_lower;
      is_higher = h.is_higher;
      differ = h.differ;
      first = before j same h;
    }

    popped : (j : ℕ) → OutOfOrder (below ∷ chain ∷ chains) (suc j) place a b → OutOfOrder (chain ∷ chains) j place a b
    popped j h = record {
      below = h.below;
      has_below = h.has_below;
      above = h.above;
      has_above = sym (shift j) ∙ h.has_above;
      same = h.same;
      is_lower = h.is_lower;
      is_higher = h.is_higher;
      differ = h.differ;
      first = λ i other next lt p q. h.first (suc i) other next (omega (arith, lt)) p (shift i ∙ q);
    }

    here : Differ (without_last below.index) chain.index place a b → OutOfOrder (below ∷ chain ∷ chains) 0 place a b
    here h = record {
      below = below;
      has_below = refl;
      above = chain;
      has_above = refl;
      same = h.same;
      is_lower = h.lower;
      is_higher = h.higher;
      differ = h.differ;
      first = λ i other next lt p q. absurd (omega (arith, lt));
    }

    differs : OutOfOrder (below ∷ chain ∷ chains) 0 place a b → Differ (without_last below.index) chain.index place a b
    differs h =
        let p = h.has_below in
        let q = h.has_above in
        let x : below ≡ h.below = cc in
        let y : chain ≡ h.above = cc in
        record {
          same = ap (λ (c : PlainChain). take place (without_last c.index)) x ∙ (h.same ∙ ap (λ (c : PlainChain). take place c.index) (sym y));
          lower = ap (λ (c : PlainChain). slice_get (without_last c.index) place) x ∙ h.is_lower;
          higher = ap (λ (c : PlainChain). slice_get c.index place) y ∙ h.is_higher;
          differ = h.differ;
        }

abbrev OrderAt : ℕ → ℕ → ℕ → PlainChain → List PlainChain → Option ℕ → Option ℕ → Type 0
OrderAt n k place below chains a b = (j : ℕ) × (k ≡ n + j) × OutOfOrder (below ∷ chains) j place a b

order_fail : (n k place : ℕ) (a b : Option ℕ) (below : PlainChain) (chains : List PlainChain) → (index_order n below chains ≡ failed (IndexOrder k place a b)) ↔ OrderAt n k place below chains a b
order_fail n k place a b below [] = (λ e. absurd cc, λ h. absurd (only_one below [] place a b h.0 h.2))
order_fail n k place a b below (chain ∷ chains) = of (order_fail (n + 1) k place a b chain chains) (same_parts n 0 (without_last below.index) chain.index) refl
  where
    Higher : Type 0
    Higher = (index_order (n + 1) chain chains ≡ failed (IndexOrder k place a b)) ↔ OrderAt (n + 1) k place chain chains a b

    parts : Passes (same_parts n 0 (without_last below.index) chain.index) ↔ (without_last below.index ≡ chain.index)
    parts = parts_both n 0 (without_last below.index) chain.index

    on : Higher → without_last below.index ≡ chain.index → (j : ℕ) → k ≡ n + j → OutOfOrder (below ∷ chain ∷ chains) j place a b → index_order (n + 1) chain chains ≡ failed (IndexOrder k place a b)
    on rest same zero is h = absurd (let d = differs below chains place a b chain h in d.differ (sym d.lower ∙ (ap (λ (xs : List ℕ). slice_get xs place) same ∙ d.higher)))
    on rest same (suc j) is h = rest.1 (j, omega (arith, is), popped below chains place a b chain j h)

    stop : (refusal : Refusal) → same_parts n 0 (without_last below.index) chain.index ≡ Err refusal → (j : ℕ) → k ≡ n + j → OutOfOrder (below ∷ chain ∷ chains) j place a b → failed refusal ≡ failed (IndexOrder k place a b)
    stop refusal e zero is h = sym e ∙ (parts_fail n 0 k place a b (without_last below.index) chain.index).1 (place, omega (arith, is), omega arith, differs below chains place a b chain h)
    stop refusal e (suc j) is h = absurd (let passed = parts.1 (sym (h.first 0 below chain (omega arith) refl refl)) in cc)

    of : Higher → (r : Result (Unit {0}) Refusal) → same_parts n 0 (without_last below.index) chain.index ≡ r
        → ((r >> index_order (n + 1) chain chains) ≡ failed (IndexOrder k place a b)) ↔ OrderAt n k place below (chain ∷ chains) a b
    of rest (Ok tt) e =
        let same = parts.0 e in
        (λ f. (let at = rest.0 f in (suc at.0, omega (arith, at.1), pushed below chains place a b chain at.0 (sym same) at.2)), λ h. on rest same h.0 h.1 h.2)
    of rest (Err refusal) e = (
      λ f. (let at = (parts_fail n 0 k place a b (without_last below.index) chain.index).0 (e ∙ f) in let q : at.0 ≡ place = omega (arith, at.2) in
          (0, omega (arith, at.1), here below chains place a b chain (subst (λ (j : ℕ). Differ (without_last below.index) chain.index j a b) q at.3))),
      λ h. stop refusal e h.0 h.1 h.2,
    )

pub all_order_fail : (chains : List PlainChain) (k place : ℕ) (a b : Option ℕ) → (index_order 0 (first_chain chains) (higher_chains chains) ≡ failed (IndexOrder k place a b)) ↔ OutOfOrder chains k place a b
all_order_fail [] k place a b = (λ e. absurd cc, λ h. absurd (let p = h.has_below in cc))
all_order_fail (chain ∷ chains) k place a b =
    let both = order_fail 0 k place a b chain chains in
    (λ e. (let at = both.0 e in let q : at.0 ≡ k = omega (arith, at.1) in subst (λ (j : ℕ). OutOfOrder (chain ∷ chains) j place a b) q at.2), λ h. both.1 (k, omega arith, h))
