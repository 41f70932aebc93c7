-- Two indexes, compared part by part.
use Rattle.std.proofs.Common.{◌≡◌, ◌≢◌, ℕ, suc, ◌+◌, ◌<◌, List, [], ◌∷◌, take, length, Result, Ok, Err, Option, Some, None, MatchOption, refl, sym, ap, ◌∙◌, arith}
use Rattle.std.proofs.lemmas.Bool.{eqb-true, eqb-false}
use Rattle.ksi_signature.specs.PartsSeen.{chain_seen}
use Rattle.ksi_signature.specs.declared.chain_view.ChainView.{ChainView}
use Rattle.ksi_verifier.specs.declared.refusal.Refusal.{Refusal}
use Rattle.ksi_verifier.specs.declared.refusal.Refusal.TheVariants.{IndexOrder}
use Rattle.ksi_verifier.specs.Chains.{plain_chain}
use Rattle.ksi_verifier.specs.ChainChecks.{same_parts}
use Rattle.ksi_verifier.specs.Lent.{lent_chain}
use Rattle.std.proofs.Common.{Bool, true, false, not, eqb, map}
use Rattle.std.specs.Option.{option_eq}

-- a list gave its first part, or has none
abbrev pub Gives : List ℕ → Option ℕ → List ℕ → Type 0
Gives xs part ys = MatchOption part ((xs ≡ []) × (ys ≡ [])) (λ x. xs ≡ x ∷ ys)

abbrev differ : ℕ → ℕ → Option ℕ → Option ℕ → Result (Unit {0}) Refusal
differ k place low high = Err (IndexOrder k place low high)

module _ (k place m n : ℕ) (next : n ≡ suc m) where
  on_both : (x y : ℕ) (lower higher : List ℕ) → x ≡ y → same_parts k place (take n (x ∷ lower)) (y ∷ higher) ≡ same_parts k (place + 1) (take m lower) higher
  on_both x y lower higher same = ap (λ (c : ℕ). same_parts k place (take c (x ∷ lower)) (y ∷ higher)) next ∙ of (eqb x y) refl
    where
      of : (t : Bool) → eqb x y ≡ t → same_parts k place (x ∷ take m lower) (y ∷ higher) ≡ same_parts k (place + 1) (take m lower) higher
      of true e = rw e refl
      of false e = absurd (eqb-false x y e same)

  off_both : (x y : ℕ) (lower higher : List ℕ) → x ≢ y → same_parts k place (take n (x ∷ lower)) (y ∷ higher) ≡ differ k place (Some x) (Some y)
  off_both x y lower higher other = ap (λ (c : ℕ). same_parts k place (take c (x ∷ lower)) (y ∷ higher)) next ∙ of (eqb x y) refl
    where
      of : (t : Bool) → eqb x y ≡ t → same_parts k place (x ∷ take m lower) (y ∷ higher) ≡ differ k place (Some x) (Some y)
      of true e = absurd (other (eqb-true x y e))
      of false e = rw e refl

  -- a part of each that is the same
  pub goes_on : (low high : Option ℕ) (lower lower' higher higher' : List ℕ) → 0 < length lower → Gives lower low lower' → Gives higher high higher' → low ≡ high
      → same_parts k (place + 1) (take m lower') higher' ≡ same_parts k place (take n lower) higher
  goes_on None high lower lower' higher higher' some gives others same = let none = ap length gives.0 in absurd (omega (arith, none, some))
  goes_on (Some x) None lower lower' higher higher' some gives others same = absurd cc
  goes_on (Some x) (Some y) lower lower' higher higher' some gives others same =
      let is : x ≡ y = cc in
      sym (ap (λ (l : List ℕ). same_parts k place (take n l) higher) gives ∙ ap (same_parts k place (take n (x ∷ lower'))) others ∙ on_both x y lower' higher' is)

  -- parts that are not
  pub stops : (low high : Option ℕ) (lower lower' higher higher' : List ℕ) → 0 < length lower → Gives lower low lower' → Gives higher high higher' → low ≢ high
      → differ k place low high ≡ same_parts k place (take n lower) higher
  stops None high lower lower' higher higher' some gives others other = let none = ap length gives.0 in absurd (omega (arith, none, some))
  stops (Some x) None lower lower' higher higher' some gives others other =
      sym (ap (λ (l : List ℕ). same_parts k place (take n l) higher) gives ∙ ap (same_parts k place (take n (x ∷ lower'))) others.0 ∙ ap (λ (c : ℕ). same_parts k place (take c (x ∷ lower')) []) next)
  stops (Some x) (Some y) lower lower' higher higher' some gives others other =
      sym (ap (λ (l : List ℕ). same_parts k place (take n l) higher) gives ∙ ap (same_parts k place (take n (x ∷ lower'))) others ∙ off_both x y lower' higher' (λ same. other (ap (λ (z : ℕ). Some z) same)))

-- one part fewer is left
pub one_fewer : (part : Option ℕ) (xs ys : List ℕ) → 0 < length xs → Gives xs part ys → length xs ≡ suc (length ys)
one_fewer None xs ys some gives = let none = ap length gives.0 in absurd (omega (arith, none, some))
one_fewer (Some x) xs ys some gives = ap length gives

-- a test of two parts and its meaning
pub unequal : (low high : Option ℕ) (b : Bool) → b ≡ not (option_eq eqb low high) → b ≡ true → low ≢ high
unequal None None b is e = λ same. absurd cc
unequal None (Some y) b is e = λ same. absurd cc
unequal (Some x) None b is e = λ same. absurd cc
unequal (Some x) (Some y) b is e = λ same. of (eqb x y) refl (let z : x ≡ y = cc in z)
  where
    of : (t : Bool) → eqb x y ≡ t → x ≡ y → ⊥
    of true f same = let no : b ≡ false = is ∙ ap not f in absurd cc
    of false f same = eqb-false x y f same

pub equal : (low high : Option ℕ) (b : Bool) → b ≡ not (option_eq eqb low high) → b ≡ false → low ≡ high
equal None None b is e = refl
equal None (Some y) b is e = absurd cc
equal (Some x) None b is e = absurd cc
equal (Some x) (Some y) b is e = of (eqb x y) refl
  where
    of : (t : Bool) → eqb x y ≡ t → ◌≡◌ {A = Option ℕ} (Some x) (Some y)
    of true f = ap (λ (z : ℕ). Some z) (eqb-true x y f)
    of false f = let no : b ≡ true = is ∙ ap not f in absurd cc

-- the lower list has ended
pub ends : (k place n : ℕ) (high : Option ℕ) (lower higher higher' : List ℕ) → n ≡ 0 → Gives higher high higher' → MatchOption high (Ok tt ≡ same_parts k place (take n lower) higher) (λ part. differ k place None (Some part) ≡ same_parts k place (take n lower) higher)
ends k place n None lower higher higher' none gives = sym (ap (λ (c : ℕ). same_parts k place (take c lower) higher) none ∙ ap (same_parts k place []) gives.0)
ends k place n (Some part) lower higher higher' none gives = sym (ap (λ (c : ℕ). same_parts k place (take c lower) higher) none ∙ ap (same_parts k place []) gives)

-- what lent chains show
pub lent_chains : (chains : List ChainView) → map lent_chain chains ≡ map plain_chain (map chain_seen chains)
lent_chains [] = refl
lent_chains (chain ∷ chains) = ap (λ (higher : _). lent_chain chain ∷ higher) (lent_chains chains)
