-- Going down a tree beside links, the top one first.
use Rattle.std.proofs.Common.{◌≡◌, ℕ, suc, Bool, true, List, [], ◌∷◌, ◌++◌, map, length, Option, Some, None, refl, sym, ap, subst, ◌∙◌, inl, inr, ◌⊎◌, append_assoc, append-nil}
use Rattle.std.specs.List.{AllByRecursion}
use Rattle.ksi_imprint.specs.Imprints.{IsClash}
use Rattle.ksi_split.specs.declared.side.Side.{Side}
use Rattle.ksi_beside.specs.Beside.{Rung, rung_side, rung_text, Pair, pairs_below, pair_before, differing}
use Rattle.ksi_beside.specs.Standing.{Holds, IsTree, Walked}
use Rattle.ksi_beside.proofs.Strings.{same_cases}

abbrev two_strings : List ℕ → List ℕ → Pair
two_strings a b = (a, b)

some_is : {A : Type 0} {x y : A} → ◌≡◌ {A = Option A} (Some x) (Some y) → x ≡ y
some_is e = cc

module _ (image : List ℕ → List ℕ) (kept node : List Side → Option (List ℕ)) (fits : Rung → Bool) (tree : IsTree image kept node fits) where
  -- two different strings of one node
  is_clash : (above : List Side) (rung : Rung) (y text : List ℕ) (pair : Pair) → node above ≡ Some y → y ≡ image (rung_text rung) → kept above ≡ Some text → (rung_text rung ≡ text → ⊥) → two_strings (rung_text rung) text ≡ pair
      → IsClash image (record { one = pair.0; two = pair.1 })
  is_clash above rung y text pair there up is other both =
      let one : rung_text rung ≡ pair.0 = ap (λ (q : Pair). q.0) both in
      let two : text ≡ pair.1 = ap (λ (q : Pair). q.1) both in
      record {
        differ = λ equal. other (one ∙ equal ∙ sym two);
        same = ap image (sym one) ∙ sym up ∙ some_is (sym there ∙ tree.hashes above text is) ∙ ap image two;
      }

  -- what holds of a link where no string is kept, and where one is
  module _ (P : Type 0) (above : List Side) (rung : Rung) (rungs : List Rung) (found : Option Pair) where
    on_kept : (kept above ≡ None → found ≡ None → P)
        → ((text : List ℕ) → kept above ≡ Some text → rung_text rung ≡ text → differing (pairs_below kept (above ++ rung.side ∷ []) rungs) ≡ found → P)
        → ((text : List ℕ) → kept above ≡ Some text → (rung_text rung ≡ text → ⊥) → found ≡ Some (rung_text rung, text) → P)
        → differing (pairs_below kept above (rung ∷ rungs)) ≡ found → P
    on_kept none same other e = of (kept above) refl e
      where
        of : (text : Option (List ℕ)) → kept above ≡ text → differing (pair_before text rung (pairs_below kept (above ++ rung.side ∷ []) rungs)) ≡ found → P
        of None is e = none is (sym e)
        of (Some text) is e = elim (same_cases (rung_text rung) text) [
          | inl equal ↦ (let further = rw equal.0 at e in same text is equal.1 further)
          | inr unequal ↦ (let here = rw unequal.0 at e in other text is unequal.1 (sym here))
        ]

  -- the first pair that differs is a clash
  pub first_is_clash : (rungs : List Rung) (above : List Side) (x y : List ℕ) (pair : Pair) → node above ≡ Some y → AllByRecursion (λ rung. fits rung ≡ true) rungs → Holds image x y rungs → differing (pairs_below kept above rungs) ≡ Some pair
      → IsClash image (record { one = pair.0; two = pair.1 })
  first_is_clash [] above x y pair there fit h e = absurd cc
  first_is_clash (rung ∷ rungs) above x y pair there fit h e = on_kept (IsClash image (record { one = pair.0; two = pair.1 })) above rung rungs (Some pair)
      (λ _ none. absurd cc)
      (λ text is same further. first_is_clash rungs (above ++ rung.side ∷ []) x rung.below pair (tree.below above rung fit.0 (is ∙ ap (λ (s : List ℕ). Some s) (sym same))) fit.1 h.1 further)
      (λ text is other here. is_clash above rung y text pair there h.0 is other (some_is (sym here)))
      e

  -- links that are left where no string is kept
  stopped : (rungs : List Rung) (above : List Side) (x y : List ℕ) → node above ≡ Some y → Holds image x y rungs → length (pairs_below kept above rungs) ≡ 0 → ((rungs ≡ []) ⊎ (kept above ≡ None)) → Walked image kept node above x rungs
  stopped rungs above x y there h none stops =
      let here : above ++ [] ≡ above = append-nil above in
      record {
        passed = [];
        left = rungs;
        split = refl;
        number = none;
        reached = y;
        there = ap node here ∙ there;
        stops = subst (λ (s : List Side). (rungs ≡ []) ⊎ (kept s ≡ None)) (sym here) stops;
        rest = h;
      }

  -- one link more is passed
  passed_on : (rung : Rung) (rungs : List Rung) (above : List Side) (x text : List ℕ) → kept above ≡ Some text → Walked image kept node (above ++ rung.side ∷ []) x rungs → Walked image kept node above x (rung ∷ rungs)
  passed_on rung rungs above x text is w =
      let sides : (above ++ rung.side ∷ []) ++ map rung_side w.passed ≡ above ++ map rung_side (rung ∷ w.passed) = append_assoc above (rung.side ∷ []) (map rung_side w.passed) in
      record {
        passed = rung ∷ w.passed;
        left = w.left;
        split = ap (λ (r : List Rung). rung ∷ r) w.split;
        number = rw is (ap suc w.number);
        reached = w.reached;
        there = ap node (sym sides) ∙ w.there;
        stops = subst (λ (s : List Side). (w.left ≡ []) ⊎ (kept s ≡ None)) sides w.stops;
        rest = w.rest;
      }

  -- where no pair differs, the links stand in the tree
  pub none_differs : (rungs : List Rung) (above : List Side) (x y : List ℕ) → node above ≡ Some y → AllByRecursion (λ rung. fits rung ≡ true) rungs → Holds image x y rungs → differing (pairs_below kept above rungs) ≡ None
      → Walked image kept node above x rungs
  none_differs [] above x y there fit h e = stopped [] above x y there h refl (inl refl)
  none_differs (rung ∷ rungs) above x y there fit h e = on_kept (Walked image kept node above x (rung ∷ rungs)) above rung rungs None
      (λ is _. stopped (rung ∷ rungs) above x y there h (rw is refl) (inr is))
      (λ text is same further. passed_on rung rungs above x text is (none_differs rungs (above ++ rung.side ∷ []) x rung.below (tree.below above rung fit.0 (is ∙ ap (λ (s : List ℕ). Some s) (sym same))) fit.1 h.1 further))
      (λ text is other here. absurd cc)
      e
