-- The stream of bytes of a number.
use Rattle.std.specs.Prelude.{ℕ, zero, suc, ◌+◌, ◌/◌, ◌%◌, List, [], ◌∷◌, ◌++◌, codes, slice_index}
use Rattle.std.specs.Int.{w64, to_be_bytes}
use Rattle.sha2.specs.Sha256.{sha256}

-- block i: SHA-256 (FIPS 180-4) of the three bytes `ksi`, the number and i, both in eight bytes, most significant first
unfoldable pub block : (number i : ℕ) → List ℕ
block number i = sha256 (codes "ksi" ++ to_be_bytes w64 number ++ to_be_bytes w64 i)

-- byte k of block 0, block 1, and so on
unfoldable pub byte_of : (number k : ℕ) → ℕ
byte_of number k = slice_index (block number (k / 32)) (k % 32)

-- a place in the stream of a number: how many bytes are taken. After this many places the stream begins anew.
pub record Place : Type 0 where
  pub number : ℕ
  pub places : ℕ
  pub taken : ℕ

-- the place after this many more bytes
abbrev pub further : Place → (count : ℕ) → Place
further p count = record { number = p.number; places = p.places; taken = (p.taken + count) % p.places }

-- this many bytes of the stream from a place on
abbrev pub stream : Place → (count : ℕ) → List ℕ
stream p zero = []
stream p (suc count) = byte_of p.number p.taken ∷ stream (further p 1) count
