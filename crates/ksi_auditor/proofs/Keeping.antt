-- What a journal keeps, as the walk goes beside it.
use Rattle.std.proofs.Common.{◌≡◌, ◌≢◌, ℕ, zero, suc, ◌+◌, ◌-◌, ◌^◌, ◌<◌, ◌≤◌, List, [], ◌∷◌, length, Option, Some, None, refl, sym, ap, subst, ◌∙◌, arith, inl, inr}
use Rattle.std.specs.Prelude.{slice_index_or, nat_lt, false, IfSome}
use Rattle.std.specs.List.{AllByRecursion}
use Rattle.ksi_imprint.specs.Imprints.{IsImprint, zero_imprint}
use Rattle.ksi_split.specs.Trees.{tree, tree_within}
use Rattle.ksi_aggtree.specs.declared.item.Item.{Item}
use Rattle.ksi_aggtree.specs.Names.{IsName}
use Rattle.ksi_aggtree.specs.Rounds.{item_at, leaf_level, tree_of}
use Rattle.ksi_calendar.specs.Calendar.{Seconds, calendar_leaf}
use Rattle.ksi_calendar.specs.Covered.{second_leaf}
use Rattle.ksi_aggtree.specs.declared.second.Second.{Second}
use Rattle.ksi_journal.specs.Journal.{Contents, IsItem, IsRootOf, IsSecond, IsJournal, kept_among, root_at, root_kept, items_of, items_at}
use Rattle.ksi_journal.specs.Calendar.{calendar_of, roots_from}
use Rattle.ksi_auditor.specs.Shown.{AreItemsOf}
use Rattle.ksi_auditor.proofs.Cases.{lt_cases, eq_cases}

-- what holds of each leaf and of each join holds of a tree
module _ {A : Type 0} (P : A → Type 0) (join : A → A → A) (leaf : ℕ → A) (joins : (a b : A) → P (join a b)) (leaves : (t : ℕ) → P (leaf t)) where
  all_within : (k lo n : ℕ) → P (tree_within join leaf k lo n)
  unfolding tree_within
  all_within zero lo n = leaves lo
  all_within (suc k) lo n = elim (lt_cases (2 ^ k) n) [ inl t ↦ rw t.0 (joins _ _) | inr f ↦ rw f.0 (all_within k lo n) ]

  pub all_of_tree : (lo n : ℕ) → P (tree join leaf lo n)
  unfolding tree
  all_of_tree lo n = all_within n lo n

-- ---- sizes

pub item_imprint : (items : List Item) (k : ℕ) → AllByRecursion IsItem items → IsImprint (item_at items k).imprint
item_imprint [] k all = record { algorithm = refl; size = refl }
item_imprint (item ∷ items) zero all = all.0.imprint
item_imprint (item ∷ items) (suc k) all = item_imprint items k all.1

pub item_level : (items : List Item) (k : ℕ) → AllByRecursion IsItem items → leaf_level (item_at items k) ≤ 239
item_level [] k all = omega arith
item_level (item ∷ items) zero all = all.0.low
item_level (item ∷ items) (suc k) all = item_level items k all.1

pub item_name : (items : List Item) (k : ℕ) (name : List ℕ) → AllByRecursion IsItem items → (item_at items k).name ≡ Some name → IsName name
item_name [] k name all e = absurd cc
item_name (item ∷ items) zero name all e = subst (λ (n : Option (List ℕ)). IfSome n IsName) e all.0.name
item_name (item ∷ items) (suc k) name all e = item_name items k name all.1 e

module _ (image : List ℕ → List ℕ) where
  root_size : (seconds : List Second) (t k : ℕ) → AllByRecursion (IsSecond image) seconds → length (slice_index_or (roots_from t seconds) k zero_imprint) ≡ 33
  root_size [] t k all = refl
  root_size (kept ∷ others) t zero all = elim (eq_cases kept.second t) [ inl here ↦ rw here.0 all.0.imprint.size | inr gap ↦ rw gap.0 refl ]
  root_size (kept ∷ others) t (suc k) all = elim (eq_cases kept.second t) [ inl here ↦ rw here.0 (root_size others (t + 1) k all.1) | inr gap ↦ rw gap.0 refl ]

  pub leaf_size : (j : Contents) (t : ℕ) → IsJournal image j → length (calendar_leaf (calendar_of j) t) ≡ 33
  unfolding calendar_of
  leaf_size j t journal = elim (lt_cases t j.start) [ inl before ↦ rw before.0 refl | inr from ↦ rw from.0 (root_size j.seconds j.start (t - j.start) journal.seconds) ]

  -- ---- a kept second

  kept_is : (seconds : List Second) (t : ℕ) (kept : Second) → AllByRecursion (IsSecond image) seconds → kept_among seconds t ≡ Some kept → IsSecond image kept
  kept_is [] t kept all e = absurd cc
  kept_is (one ∷ others) t kept all e = elim (eq_cases one.second t) [
    | inl here ↦ (let found = rw here.0 at e in let is : one ≡ kept = cc in rw is at all.0)
    | inr other ↦ (let found = rw other.0 at e in kept_is others t kept all.1 found)
  ]

  -- at most 65,536 items, as a journal may have them
  pub record KeptItems (items : List Item) : Type 0 where
    pub few : length items ≤ 65536
    pub each : AllByRecursion IsItem items

  pub items_kept : (j : Contents) (t : ℕ) → IsJournal image j → KeptItems (items_at j t)
  unfolding items_at
  items_kept j t journal = of (kept_among j.seconds t) refl
    where
      of : (found : Option Second) → kept_among j.seconds t ≡ found → KeptItems (items_of found)
      of None e = record { few = omega arith; each = tt }
      of (Some kept) e = let is = kept_is j.seconds t kept journal.seconds e in record { few = is.few; each = is.items }

  pub items_are : (j : Contents) (t : ℕ) (root : List ℕ) → IsJournal image j → root_at j t ≡ Some root → AreItemsOf image (items_at j t) root
  unfolding items_at root_at
  items_are j t root journal e = of (kept_among j.seconds t) refl e
    where
      of : (found : Option Second) → kept_among j.seconds t ≡ found → root_kept found ≡ Some root → AreItemsOf image (items_of found) root
      of None is e = absurd cc
      of (Some kept) is e =
          let here = kept_is j.seconds t kept journal.seconds is in
          let same : kept.root ≡ root = cc in
          record { few = here.few; each = here.items; tree = subst (IsRootOf image kept.items) same here.tree }

  -- there are items, and this is the root of their tree
  pub record HasItems (items : List Item) (root : List ℕ) : Type 0 where
    pub some : 0 < length items
    pub tree : (tree_of image items).imprint ≡ root

  pub rooted : (items : List Item) (root : List ℕ) → IsRootOf image items root → root ≢ zero_imprint → HasItems items root
  rooted [] root is other = absurd (other is)
  rooted (item ∷ items) root is other = record { some = omega arith; tree = is.1 }

  -- a leaf that is not the zero imprint is the root of the second's items
  pub leaf_has_items : (j : Contents) (t : ℕ) → IsJournal image j → second_leaf (root_at j) j.start t ≢ zero_imprint → HasItems (items_at j t) (second_leaf (root_at j) j.start t)
  unfolding items_at root_at
  leaf_has_items j t journal other = elim (lt_cases t j.start) [
    | inl before ↦ absurd (other (rw before.0 refl))
    | inr from ↦ of (kept_among j.seconds t) refl from.0
  ]
    where
      of : (found : Option Second) → kept_among j.seconds t ≡ found → nat_lt t j.start ≡ false → HasItems (items_at j t) (second_leaf (root_at j) j.start t)
      of None e from = absurd (other (rw (from, e) refl))
      of (Some kept) e from =
          let leaf : second_leaf (root_at j) j.start t ≡ kept.root = rw (from, e) refl in
          let is = rooted kept.items kept.root (kept_is j.seconds t kept journal.seconds e).tree (λ zero_root. other (leaf ∙ zero_root)) in
          let items : items_at j t ≡ kept.items = ap items_of e in
          record { some = rw items is.some; tree = rw items (is.tree ∙ sym leaf) }

  -- ---- leaves of imprints

  imprint_size : (roots : List (List ℕ)) (k : ℕ) → AllByRecursion IsImprint roots → length (slice_index_or roots k zero_imprint) ≡ 33
  imprint_size [] k all = refl
  imprint_size (root ∷ roots) zero all = all.0.size
  imprint_size (root ∷ roots) (suc k) all = imprint_size roots k all.1

  pub imprint_leaf : (seconds : Seconds) (t : ℕ) → AllByRecursion IsImprint seconds.roots → length (calendar_leaf seconds t) ≡ 33
  imprint_leaf seconds t all = elim (lt_cases t seconds.start) [ inl before ↦ rw before.0 refl | inr from ↦ rw from.0 (imprint_size seconds.roots (t - seconds.start) all) ]
