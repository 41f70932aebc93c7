-- The journal of a mirror's roots, with a tree for each that is not the zero imprint.
use Rattle.std.specs.Prelude.{◌==◌, ℕ, zero, suc, List, [], ◌∷◌, Option, None, Some, option_map, Result, Ok, Err, if◌then◌else◌}
use Rattle.std.specs.Str.{bytes_eq}
use Rattle.ksi_imprint.specs.Imprints.{zero_imprint}
use Rattle.ksi_aggtree.specs.declared.item.Item.{Item}
use Rattle.ksi_aggtree.specs.declared.second.Second.{Second}
use Rattle.ksi_aggtree.specs.Rounds.{tree_of}
use Rattle.ksi_journal.specs.Journal.{Contents}
use Rattle.ksi_mirror.specs.declared.sealed_list.SealedList.{SealedList}
use Rattle.ksi_mirror.specs.declared.refusal.WholeRefusal.{WholeRefusal}
use Rattle.ksi_mirror.specs.declared.refusal.WholeRefusal.TheVariants.{NoTree}
use Rattle.ksi_mirror.specs.Maps.{or_else}
use Rattle.ksi_mirror.specs.Mirrors.{MirrorState, list_of, highest_core}

-- what the lowest of n cores from this one on has that has something
abbrev pub lowest : {A : Type 0} → (ℕ → Option A) → (core n : ℕ) → Option A
lowest of_core core zero = None
lowest of_core core (suc n) = or_else (of_core core) (lowest of_core (suc core) n)

abbrev pub kept_with : (second : ℕ) → (root : List ℕ) → (items : List Item) → Second
kept_with t root items = record { second = t; root = root; items = items }

-- M4 if there is none
abbrev pub with_second : (second : ℕ) → Option Second → Result (List Second) WholeRefusal → Result (List Second) WholeRefusal
with_second t None others = Err (NoTree t)
with_second t (Some kept) (Ok others) = Ok (kept ∷ others)
with_second t (Some kept) (Err refusal) = Err refusal

abbrev pub journal_with : (start : ℕ) → Result (List Second) WholeRefusal → Result Contents WholeRefusal
journal_with start (Ok seconds) = Ok (record { start = start; voters = []; seconds = seconds; issued = []; publications = [] })
journal_with start (Err refusal) = Err refusal

module _ (image : List ℕ → List ℕ) where
  -- a list, where the root is the imprint of its tree
  abbrev pub tree_as : (root : List ℕ) → Option (List Item) → Option (List Item)
  tree_as root None = None
  tree_as root (Some items) = if bytes_eq (tree_of image items).imprint root then Some items else None

  -- of the lists of cores, that of the lowest whose tree has the root
  unfoldable pub items_from : (core_list : ℕ → Option (List Item)) → (root : List ℕ) → Option (List Item)
  items_from core_list root = lowest (λ core. tree_as root (core_list core)) 0 (suc highest_core)

  -- a root with its items, which are none for the zero imprint; none where another has no list
  abbrev pub second_from : (core_list : ℕ → Option (List Item)) → ℕ × List ℕ → Option Second
  second_from core_list one = if bytes_eq one.1 zero_imprint then Some (kept_with one.0 one.1 []) else option_map (kept_with one.0 one.1) (items_from core_list one.1)

  abbrev pub second_for : MirrorState → ℕ × List ℕ → Option Second
  second_for mirror one = second_from (list_of mirror one.0) one

  abbrev pub seconds_for : MirrorState → List (ℕ × List ℕ) → Result (List Second) WholeRefusal
  seconds_for mirror [] = Ok []
  seconds_for mirror (one ∷ others) = with_second one.0 (second_for mirror one) (seconds_for mirror others)

  -- the journal of all roots, or the first that has no tree
  unfoldable pub whole_of : MirrorState → Result Contents WholeRefusal
  whole_of mirror = journal_with mirror.start (seconds_for mirror mirror.roots)

  -- ---- in the code

  -- of lists in order, at a second or after it, the items of the first of the second whose tree has the root
  abbrev pub first_tree : (second : ℕ) → (root : List ℕ) → List SealedList → Option (List Item)
  first_tree t root [] = None
  first_tree t root (one ∷ others) = if one.second == t then or_else (tree_as root (Some one.items)) (first_tree t root others) else None
