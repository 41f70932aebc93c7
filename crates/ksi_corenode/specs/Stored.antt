-- How a core stores its seconds: each has a stable part, which survives a restart, and a volatile part.
use Rattle.std.specs.Prelude.{◌≡◌, ℕ, ◌+◌, ◌-◌, ◌≤◌, Bool, nat_le, nat_lt, ◌&&◌, if◌then◌else◌, List, [], length, take, drop, slice_index_or, option_map, is_some, unwrap_or, IfSome, Option, None}
use Rattle.std.specs.Ordering.{nat_cmp}
use Rattle.std.specs.BTreeMap.{is_at}
use Rattle.std.specs.Map.{lookup}
use Rattle.ksi_aggtree.specs.declared.entries.Entry.{Entry}
use Rattle.ksi_aggtree.specs.Entries.{items_of, candidate_of}
use Rattle.ksi_aggtree.specs.Rounds.{IsRound}
use Rattle.ksi_synod.specs.VoteState.{Hand, fresh_stable, bare_stable, vote_of}
use Rattle.ksi_corenode.specs.declared.stable.StablePart.{StablePart}
use Rattle.ksi_corenode.specs.SecondState.{SecondState}

-- THE STABLE PARTS

-- before any event
abbrev pub fresh_part : StablePart
fresh_part = record { vote = fresh_stable; first = 0; count = 0 }

-- a bare root: nothing else is stored
abbrev pub bare_part : (root : List ℕ) → StablePart
bare_part root = record { vote = bare_stable root; first = 0; count = 0 }

-- the parts of the settled seconds in order, how many of the first are stored as bare roots, and how many more fit
pub record SettledState : Type 0 where
  pub bare : ℕ
  pub parts : List StablePart
  pub room : ℕ

-- the second is in the list of settled ones, which begins at the start
abbrev pub in_list : (start : ℕ) → (settled : List StablePart) → ℕ → Bool
in_list start settled t = nat_le start t && nat_lt t (start + length settled)

-- the part of a second from the map of the others, or the fresh part
abbrev pub unsettled_at : (unsettled : List (ℕ × StablePart)) → ℕ → StablePart
unsettled_at unsettled t = unwrap_or (lookup (is_at (nat_cmp t)) unsettled) fresh_part

-- the part of a second, from the list or the map
unfoldable pub part_at : (start : ℕ) → (settled : List StablePart) → (unsettled : List (ℕ × StablePart)) → ℕ → StablePart
part_at start settled unsettled t = if in_list start settled t then slice_index_or settled (t - start) fresh_part else unsettled_at unsettled t

-- there is a place for the part of a second, in which it is not stored as a bare root
unfoldable pub has_place : (start bare : ℕ) → (settled : List StablePart) → (unsettled : List (ℕ × StablePart)) → ℕ → Bool
has_place start bare settled unsettled t = if in_list start settled t then nat_le (start + bare) t else is_some (lookup (is_at (nat_cmp t)) unsettled)

-- the start, how many of the first settled seconds are stored as bare roots, the settled seconds, and the others with events
pub record StablePartsState : Type 0 where
  pub start : ℕ
  pub bare : ℕ
  pub settled : List StablePart
  pub unsettled : List (ℕ × StablePart)

abbrev pub part_of : StablePartsState → ℕ → StablePart
part_of s t = part_at s.start s.settled s.unsettled t

-- THE VOLATILE PARTS

-- the ballot in hand and the open items
pub record VolatileState : Type 0 where
  pub hand : Option Hand
  pub open_items : List Entry

-- before any event
abbrev pub fresh_volatile : VolatileState
fresh_volatile = record { hand = None; open_items = [] }

-- the part of a second, from a map
unfoldable pub volatile_at : (volatile_parts : List (ℕ × VolatileState)) → ℕ → VolatileState
volatile_at volatile_parts t = unwrap_or (lookup (is_at (nat_cmp t)) volatile_parts) fresh_volatile

-- BOTH

-- `count` of the items, from `first` on
abbrev pub items_from : List Entry → (first count : ℕ) → List Entry
items_from items first count = take count (drop first items)

-- a second from its parts, given the list of all sealed items
unfoldable pub second_of : (me : ℕ) → (voters : List ℕ) → (items : List Entry) → StablePart → VolatileState → SecondState
second_of me voters items s v = record {
  vote = vote_of me voters s.vote v.hand;
  open_items = v.open_items;
  sealed = option_map (λ (candidate : List ℕ). items_from items s.first s.count) s.vote.candidate;
}

-- the candidate is the imprint of the items' tree
pub record AreSealed (image : List ℕ → List ℕ) (items : List Entry) (first count : ℕ) (candidate : List ℕ) : Type 0 where
  pub within : first + count ≤ length items
  pub imprint : candidate ≡ candidate_of image (items_from items first count)
  pub round : IsRound (items_of (items_from items first count))

-- so it is for each sealed second
abbrev pub IsSealedWell : (List ℕ → List ℕ) → (items : List Entry) → StablePart → Type 0
IsSealedWell image items s = IfSome s.vote.candidate (AreSealed image items s.first s.count)
