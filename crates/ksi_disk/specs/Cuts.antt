-- Records in one block of bytes, one after the other, with the place where each ends.
use Rattle.std.specs.Prelude.{◌≡◌, ℕ, zero, suc, ◌≤◌, ◌-◌, List, [], ◌∷◌, take, drop, slice_index}

-- the bytes from each place to the next
abbrev pub cut : (bytes : List ℕ) → (from : ℕ) → (ends : List ℕ) → List (List ℕ)
cut bytes from [] = []
cut bytes from (end ∷ ends) = take (end - from) (drop from bytes) ∷ cut bytes end ends

-- the places are ascending, and the last one is `last`
abbrev pub AreEnds : (from last : ℕ) → List ℕ → Type 0
AreEnds from last [] = from ≡ last
AreEnds from last (end ∷ ends) = (from ≤ end) × AreEnds end last ends

-- where record `number` begins
abbrev pub begin_of : (from : ℕ) → (ends : List ℕ) → (number : ℕ) → ℕ
begin_of from ends zero = from
begin_of from ends (suc k) = slice_index ends k
