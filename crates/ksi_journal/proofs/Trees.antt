-- What is kept for a second: its items make a round, and their tree has its root.
use Rattle.std.proofs.Common.{◌≡◌, ◌⊎◌, inl, inr, ℕ, zero, suc, ◌≤◌, Bool, true, false, cond, eqb, List, [], ◌∷◌, Option, Some, None, refl, sym, ap, arith}
use Rattle.std.specs.Prelude.{◌↔◌, IfSome}
use Rattle.std.specs.List.{AllByRecursion}
use Rattle.ksi_imprint.specs.Imprints.{zero_imprint}
use Rattle.ksi_aggtree.specs.declared.item.Item.{Item}
use Rattle.ksi_aggtree.specs.declared.second.Second.{Second}
use Rattle.ksi_aggtree.specs.Rounds.{highest_item, leaf_level, item_at, some_items, tree_of, IsRound}
use Rattle.ksi_journal.specs.Journal.{Contents, IsItem, IsRootOf, IsSecond, IsJournal, kept_among, root_kept, root_at, items_of, items_at, tree_at}

low_items : (items : List Item) (k : ℕ) → AllByRecursion IsItem items → leaf_level (item_at items k) ≤ highest_item
low_items [] k all = omega arith
low_items (item ∷ items) zero all = all.0.low
low_items (item ∷ items) (suc k) all = low_items items k all.1

module _ (image : List ℕ → List ℕ) where
  -- what is kept for a second, if anything is
  abbrev pub IsKept : Option Second → Type 0
  IsKept None = Unit {0}
  IsKept (Some kept) = IsSecond image kept

  kept_here : (here : Bool) (kept : Second) (other : Option Second) → IsSecond image kept → IsKept other → IsKept (cond here (Some kept) other)
  kept_here true kept other is others = is
  kept_here false kept other is others = others

  all_kept : (seconds : List Second) (t : ℕ) → AllByRecursion (IsSecond image) seconds → IsKept (kept_among seconds t)
  all_kept [] t all = tt
  all_kept (kept ∷ others) t all = kept_here (eqb kept.second t) kept (kept_among others t) all.0 (all_kept others t all.1)

  round_of : (found : Option Second) → IsKept found → IsRound (items_of found)
  round_of None is = record { few = omega arith; low = λ k. low_items [] k tt }
  round_of (Some kept) is = record { few = is.few; low = λ k. low_items kept.items k is.items }

  pub kept_round : (j : Contents) (t : ℕ) → IsJournal image j → IsRound (items_at j t)
  unfolding items_at
  kept_round j t is = round_of (kept_among j.seconds t) (all_kept j.seconds t is.seconds)

  abbrev pub HasRoot : Option (List Item) → Option (List ℕ) → Type 0
  HasRoot tree root = IfSome tree (λ items. root ≡ Some (tree_of image items).imprint)

  -- none exactly where there is no root or the zero imprint
  abbrev pub NoneAtZero : Option (List Item) → Option (List ℕ) → Type 0
  NoneAtZero tree root = (tree ≡ None) ↔ ((root ≡ None) ⊎ (root ≡ Some zero_imprint))

  rooted : (items : List Item) (root : List ℕ) → IsRootOf image items root → HasRoot (some_items items) (Some root) × NoneAtZero (some_items items) (Some root)
  rooted [] root is = (tt, (λ e. inr (ap Some is), λ e. refl))
  rooted (item ∷ items) root is = (ap Some (sym is.1), (λ e. absurd cc, λ e. absurd (elim e [ inl none ↦ cc | inr zeros ↦ is.0 (inner zeros) ])))
    where
      inner : {A : Type 0} {x y : A} → Some x ≡ Some y → x ≡ y
      inner e = cc

  tree_of_kept : (found : Option Second) → IsKept found → HasRoot (some_items (items_of found)) (root_kept found) × NoneAtZero (some_items (items_of found)) (root_kept found)
  tree_of_kept None is = (tt, (λ e. inl refl, λ e. refl))
  tree_of_kept (Some kept) is = rooted kept.items kept.root is.tree

  pub kept_tree : (j : Contents) (t : ℕ) → IsJournal image j → HasRoot (tree_at j t) (root_at j t) × NoneAtZero (tree_at j t) (root_at j t)
  unfolding items_at root_at
  kept_tree j t is = tree_of_kept (kept_among j.seconds t) (all_kept j.seconds t is.seconds)
