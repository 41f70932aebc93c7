-- What a journal holds.
use Rattle.std.specs.Prelude.{◌≡◌, ◌≢◌, ℕ, ◌+◌, ◌^◌, ◌<◌, ◌≤◌, ◌==◌, List, [], ◌∷◌, length, map, Option, None, Some, IfSome, if◌then◌else◌}
use Rattle.std.specs.List.{AllByRecursion}
use Rattle.ksi_imprint.specs.Imprints.{IsImprint, zero_imprint}
use Rattle.ksi_tlv.specs.Spelling.{AreBytes}
use Rattle.ksi_aggtree.specs.declared.item.Item.{Item}
use Rattle.ksi_aggtree.specs.Rounds.{most_items, highest_item, leaf_level, some_items, tree_of}
use Rattle.ksi_aggtree.specs.Names.{IsName}
use Rattle.ksi_aggtree.specs.declared.second.Second.{Second}
use Rattle.ksi_synod.specs.CorePlans.{AreVoters}
use Rattle.ksi_synod.specs.declared.core_plan.VotersFrom.{VotersFrom}
use Rattle.ksi_journal.specs.declared.parts.Parts.{Parts}

-- The first second of the calendar; from which second on which cores vote; the kept seconds, each with its root and the
-- items of its tree; the number and the bytes of each issued signature; and each published time with the root of the
-- calendar to it.
pub record Contents : Type 0 where
  pub start : ℕ
  pub voters : List VotersFrom
  pub seconds : List Second
  pub issued : List (ℕ × List ℕ)
  pub publications : List (ℕ × List ℕ)

-- what it is made of, as a record of lists
abbrev pub contents : Parts → Contents
contents parts = record { start = parts.start; voters = parts.voters.items; seconds = parts.seconds.items; issued = parts.issued.items; publications = parts.publications.items }

-- ---- what every journal keeps

-- the first is at least the least, and each is greater than the one before it
abbrev pub RiseFrom : ℕ → List ℕ → Type 0
RiseFrom least [] = Unit {0}
RiseFrom least (n ∷ others) = (least ≤ n) × RiseFrom (n + 1) others

-- at least one of the cores 0 to 8, rising
pub record IsVoters (pair : VotersFrom) : Type 0 where
  pub early : pair.second < 2 ^ 63
  pub cores : AreVoters 9 pair.voters

pub record IsItem (item : Item) : Type 0 where
  pub imprint : IsImprint item.imprint
  pub low : leaf_level item ≤ highest_item
  pub name : IfSome item.name IsName

-- the tree of the items has the root, which is the zero imprint if and only if there are none
abbrev pub IsRootOf : (List ℕ → List ℕ) → List Item → List ℕ → Type 0
IsRootOf image [] root = root ≡ zero_imprint
IsRootOf image (item ∷ items) root = (root ≢ zero_imprint) × ((tree_of image (item ∷ items)).imprint ≡ root)

pub record IsSecond (image : List ℕ → List ℕ) (kept : Second) : Type 0 where
  pub early : kept.second < 2 ^ 63
  pub imprint : IsImprint kept.root
  pub few : length kept.items ≤ most_items
  pub items : AllByRecursion IsItem kept.items
  pub tree : IsRootOf image kept.items kept.root

pub record IsIssued (signature : ℕ × List ℕ) : Type 0 where
  pub number : signature.0 < 2 ^ 64
  pub short : length signature.1 ≤ 60000
  pub bytes : AreBytes signature.1

pub record IsPublication (publication : ℕ × List ℕ) : Type 0 where
  pub early : publication.0 < 2 ^ 63
  pub imprint : IsImprint publication.1

-- The start and all times are below 2^63, no second is before the start, and the seconds of voters, kept seconds, numbers
-- and published times rise; the tree of each second has its root.
pub record IsJournal (image : List ℕ → List ℕ) (journal : Contents) : Type 0 where
  pub start : journal.start < 2 ^ 63
  pub voters : AllByRecursion IsVoters journal.voters
  pub voters_rise : RiseFrom journal.start (map (λ pair. pair.second) journal.voters)
  pub seconds : AllByRecursion (IsSecond image) journal.seconds
  pub seconds_rise : RiseFrom journal.start (map (λ kept. kept.second) journal.seconds)
  pub issued : AllByRecursion IsIssued journal.issued
  pub numbers_rise : RiseFrom 0 (map (λ signature. signature.0) journal.issued)
  pub publications : AllByRecursion IsPublication journal.publications
  pub times_rise : RiseFrom 0 (map (λ publication. publication.0) journal.publications)

-- ---- what is kept for a second

abbrev pub kept_among : List Second → ℕ → Option Second
kept_among [] t = None
kept_among (kept ∷ others) t = if kept.second == t then Some kept else kept_among others t

abbrev pub root_kept : Option Second → Option (List ℕ)
root_kept None = None
root_kept (Some kept) = Some kept.root

-- the root of a second, where it is kept
unfoldable pub root_at : Contents → ℕ → Option (List ℕ)
root_at journal t = root_kept (kept_among journal.seconds t)

abbrev pub items_of : Option Second → List Item
items_of None = []
items_of (Some kept) = kept.items

-- the items of a second, none where it is not kept
unfoldable pub items_at : Contents → ℕ → List Item
items_at journal t = items_of (kept_among journal.seconds t)

-- the items of a second's tree, where it is kept and its root is not the zero imprint
abbrev pub tree_at : Contents → ℕ → Option (List Item)
tree_at journal t = some_items (items_at journal t)
