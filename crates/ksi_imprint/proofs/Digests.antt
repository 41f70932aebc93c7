-- The hashes of SHA-256 are imprints, of bytes.
use Rattle.std.proofs.Common.{ℕ, zero, suc, ◌/◌, ◌%◌, ◌^◌, ◌<◌, List, refl, ap, arith}
use Rattle.std.specs.Prelude.{slice_index}
use Rattle.std.specs.Int.{w32, to_be_bytes, bytes_high_first, byte_at}
use Rattle.std.specs.Prelude.{All}
use Rattle.std.proofs.lemmas.List.Elements.{All-nil, All-cons, All-append}
use Rattle.sha2.specs.Sha256.{sha256, digest_bytes}
use Rattle.sha2.proofs.Facts256.{length-sha256}
use Rattle.ksi_imprint.specs.Imprints.{IsImprint, imprint_of}

abbrev AreBytes : List ℕ → Type 0
AreBytes bytes = All (λ b. b < 256) bytes

byte_small : (k n : ℕ) → byte_at k n < 256
byte_small zero n = omega arith
byte_small (suc k) n = let high = n / 256 ^ suc k in let lt : high % 256 < 256 = omega arith in lt

high_bytes : (k n : ℕ) → AreBytes (bytes_high_first k n)
high_bytes zero n = All-nil (λ b. b < 256)
high_bytes (suc k) n = All-cons (λ b. b < 256) (byte_at k n) (bytes_high_first k n) (byte_small k n) (high_bytes k n)

word_bytes : (words : List ℕ) (n : ℕ) → AreBytes (digest_bytes words n)
unfolding digest_bytes
word_bytes words zero = All-nil (λ b. b < 256)
word_bytes words (suc n) = All-append (λ b. b < 256) (digest_bytes words n) (to_be_bytes w32 (slice_index words n)) (word_bytes words n) (high_bytes 4 (slice_index words n))

digest_is : (text : List ℕ) → AreBytes (sha256 text)
unfolding sha256
digest_is text = word_bytes _ 8

pub hash_is : (text : List ℕ) → IsImprint (imprint_of text)
hash_is text = record { algorithm = refl; size = ap suc (length-sha256 text) }

pub hash_bytes : (text : List ℕ) → AreBytes (imprint_of text)
hash_bytes text = All-cons (λ b. b < 256) 1 (sha256 text) (omega arith) (digest_is text)
