-- The names of those who submit, and the metadata that encodes a name in a tree.
use Rattle.std.specs.Prelude.{◌≡◌, ℕ, ◌+◌, ◌≤◌, ◌%◌, ◌||◌, ◌&&◌, Bool, true, ◌==◌, List, [], ◌∷◌, ◌++◌, length, if◌then◌else◌}
use Rattle.std.specs.Char.{is_ascii_alphanumeric}

-- how many bytes a name may have
abbrev pub most_letters : ℕ
most_letters = 64

-- a letter or a digit of ASCII, '.', '_' or '-'
abbrev pub is_name_byte : ℕ → Bool
is_name_byte byte = is_ascii_alphanumeric byte || byte == 46 || byte == 95 || byte == 45

abbrev pub are_name_bytes : List ℕ → Bool
are_name_bytes [] = true
are_name_bytes (byte ∷ bytes) = is_name_byte byte && are_name_bytes bytes

-- a name: 1 to 64 such bytes
pub record IsName (bytes : List ℕ) : Type 0 where
  pub some : 1 ≤ length bytes
  pub few : length bytes ≤ most_letters
  pub each : are_name_bytes bytes ≡ true

-- a padding element that makes the metadata of a name of n bytes even
abbrev pub padding : ℕ → List ℕ
padding n = if n % 2 == 0 then 126 ∷ 1 ∷ 1 ∷ [] else 126 ∷ 2 ∷ 1 ∷ 1 ∷ []

-- the metadata of a name: the padding, then the element of the name, which a zero byte ends
abbrev pub meta_of : List ℕ → List ℕ
meta_of name = padding (length name) ++ 1 ∷ (length name + 1) ∷ (name ++ 0 ∷ [])
