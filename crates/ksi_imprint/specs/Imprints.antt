-- Imprints as lists of bytes.
use Rattle.std.specs.Prelude.{◌≡◌, ◌≢◌, ℕ, ◌%◌, List, [], ◌∷◌, ◌++◌, length, replicate, slice_index, sum}
use Rattle.sha2.specs.Sha256.{sha256}
use Rattle.ksi_imprint.specs.declared.clash.Clash.{Clash}

-- 33 numbers, the first of them 1, the identifier of SHA-256; a Rust type that holds them makes them bytes
pub record IsImprint (bytes : List ℕ) : Type 0 where
  pub algorithm : slice_index bytes 0 ≡ 1
  pub size : length bytes ≡ 33

-- SHA-256 (FIPS 180-4) of bytes, after the byte that identifies the algorithm
abbrev pub imprint_of : List ℕ → List ℕ
imprint_of bytes = 1 ∷ sha256 bytes

-- the algorithm byte and 32 zero bytes
abbrev pub zero_imprint : List ℕ
zero_imprint = 1 ∷ replicate 32 0

-- the input of a join at a level: the left part, the right part, and the level in one byte
abbrev pub join_text : List ℕ → List ℕ → ℕ → List ℕ
join_text left right level = left ++ right ++ level ∷ []

-- the sum of the bytes, modulo 256, as a digest whose other bytes are zero
abbrev pub tiny_imprint : List ℕ → List ℕ
tiny_imprint bytes = 1 ∷ sum bytes % 256 ∷ replicate 31 0

-- a collision: two different strings with one image
pub record IsClash (image : List ℕ → List ℕ) (clash : Clash) : Type 0 where
  pub differ : clash.one ≢ clash.two
  pub same : image clash.one ≡ image clash.two
