-- The elements of bytes, one after the other, with their places.
use Rattle.std.specs.Prelude.{◌≡◌, ℕ, zero, suc, ◌-◌, ◌+◌, List, [], ◌∷◌, ◌++◌, length, drop, Result, Ok, Err}
use Rattle.std.specs.List.{AllByRecursion}
use Rattle.ksi_tlv.specs.Spelling.{Tlv, Spells}
use Rattle.ksi_tlv.specs.Front.{size_at, element_at}

-- an element, its place, and the place of its body
pub record PlacedTlv : Type 0 where
  pub place : ℕ
  pub inside : ℕ
  pub element : Tlv

-- an element that is cut off: its place, how many bytes it would take, and how many there are
pub record Cut : Type 0 where
  pub place : ℕ
  pub need : ℕ
  pub have : ℕ

-- the items of a walk, in order
abbrev pub Items : Type 0
Items = List (Result PlacedTlv Cut)

-- an element of n bytes at a place
abbrev pub placed_at : ℕ → Tlv → ℕ → PlacedTlv
placed_at place e n = record { place = place; inside = place + (n - length e.body); element = e }

-- ---- as they are found from left to right: the law `reading_is_elements` says that this is the reading below

abbrev pub items_after : (ℕ → List ℕ → Items) → ℕ → List ℕ → Result (Tlv × ℕ) ℕ → Items
items_after others place bytes (Err need) = Err (record { place = place; need = need; have = length bytes }) ∷ []
items_after others place bytes (Ok found) = Ok (placed_at place found.0 found.1) ∷ others (place + found.1) (drop found.1 bytes)

unfoldable pub items_within : ℕ → ℕ → List ℕ → Items
items_within zero place bytes = []
items_within (suc most) place [] = []
items_within (suc most) place (b ∷ bytes) = items_after (items_within most) place (b ∷ bytes) (element_at (b ∷ bytes))

-- The elements of bytes at a place, and last the one that is cut off. There are no more elements than bytes.
unfoldable pub elements : ℕ → List ℕ → Items
elements place bytes = items_within (length bytes) place bytes

-- ---- as they are

-- elements, each with its encoding: the encodings one after the other
abbrev pub joined : List (Tlv × List ℕ) → List ℕ
joined [] = []
joined (part ∷ parts) = part.1 ++ joined parts

-- the elements, each with the place of its text
abbrev pub laid : ℕ → List (Tlv × List ℕ) → List PlacedTlv
laid place [] = []
laid place (part ∷ parts) = placed_at place part.0 (length part.1) ∷ laid (place + length part.1) parts

abbrev pub items_of : List PlacedTlv → Items
items_of [] = []
items_of (at ∷ es) = Ok at ∷ items_of es

-- no encoding of an element is a prefix of the bytes
abbrev pub BeginsNone : List ℕ → Type 0
BeginsNone bytes = (e : Tlv) (text rest : List ℕ) → Spells e text → bytes ≡ text ++ rest → ⊥

-- nothing if no bytes are left, else an element that is cut off
abbrev pub end_at : ℕ → List ℕ → Items
end_at place [] = []
end_at place (b ∷ left) = Err (record { place = place; need = size_at (b ∷ left); have = length (b ∷ left) }) ∷ []

-- The items are a reading of the bytes at a place: the bytes are the texts of elements, one after the other, and a rest
-- that no element is a prefix of. The items are these elements, each with the place of its text, and the end.
pub record IsReading (place : ℕ) (bytes : List ℕ) (items : Items) : Type 0 where
  pub parts : List (Tlv × List ℕ)
  pub left : List ℕ
  pub split : bytes ≡ joined parts ++ left
  pub spelled : AllByRecursion (λ part. Spells part.0 part.1) parts
  pub ended : BeginsNone left
  pub placed : items ≡ items_of (laid place parts) ++ end_at (place + length (joined parts)) left
