-- A second that a word stands for is below 2^63.
use Rattle.std.proofs.Common.{◌≡◌, ◌<◌, ◌^◌, ℕ, suc, List, Option, Some, None, IfOk, refl, arith, inl, inr}
use Rattle.std.proofs.lemmas.Bool.Decides.{leb_tells}
use Rattle.ksi_schedule.specs.Decimal.{number_of}
use Rattle.ksi_words.specs.Sorts.{if_early, time_of}
use Rattle.ksi_words.specs.Words.{word_at}

below : (r : Option ℕ) (t : ℕ) → if_early r ≡ Some t → t < 2 ^ 63
below None t is = absurd cc
below (Some n) t is = elim (leb_tells (suc n) (2 ^ 63)) [
  | inl early ↦ (let same : n ≡ t = (let e = rw early.0 at is in cc) in omega (arith, same, early.1))
  | inr late ↦ absurd (let e = rw late.0 at is in cc)
]

early : (word : List ℕ) (t : ℕ) → time_of word ≡ Some t → t < 2 ^ 63
unfolding time_of
early word t is = below (number_of word) t is

of_option : (n : ℕ) (r : Option ℕ) → ((t : ℕ) → r ≡ Some t → t < 2 ^ 63) → IfOk (word_at n r) (λ (t : ℕ). t < 2 ^ 63)
of_option n None h = tt
of_option n (Some t) h = h t refl

pub early_at : (n : ℕ) (word : List ℕ) → IfOk (word_at n (time_of word)) (λ (t : ℕ). t < 2 ^ 63)
early_at n word = of_option n (time_of word) (early word)
