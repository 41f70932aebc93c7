-- Steps of loops.
use Rattle.std.proofs.Common.{◌≡◌, ◌∙◌, ℕ, suc, ◌+◌, ◌*◌, List, [], ◌∷◌, ◌++◌, length, drop, Option, Some, None, Result, Ok, Err, ap, sym, refl, arith}
use Rattle.ksi_printed.specs.Groups.{number_in}
use Rattle.ksi_printed.specs.Printed.{words}
use Rattle.ksi_printed.specs.Reading.{bytes_of, number_then, numbers_from}
use Rattle.ksi_printed.specs.declared.fault.PrintFault.TheVariants.{Group}

pub next_number : (ns more : List ℕ) (k left less n : ℕ) (text after : List ℕ) → left ≡ suc less → more ≡ ns ++ n ∷ [] → after ≡ drop 5 text
    → number_in text ≡ Some n → numbers_from ns k left text ≡ numbers_from more (k + 1) less after
unfolding numbers_from
next_number ns more k left less n text after left_is more_is after_is is =
    ap (λ (m : ℕ). numbers_from ns k m text) left_is
    ∙ ap (λ (r : Option ℕ). number_then k r (λ m. numbers_from (ns ++ m ∷ []) (k + 1) less (drop 5 text))) is
    ∙ (λ i. numbers_from (sym more_is i) (k + 1) less (sym after_is i))

pub no_number : (ns : List ℕ) (k left less : ℕ) (text : List ℕ) → left ≡ suc less → number_in text ≡ None → numbers_from ns k left text ≡ Err (Group (k + 1))
unfolding numbers_from
no_number ns k left less text left_is is =
    ap (λ (m : ℕ). numbers_from ns k m text) left_is
    ∙ ap (λ (r : Option ℕ). number_then k r (λ m. numbers_from (ns ++ m ∷ []) (k + 1) less (drop 5 text))) is

pub bytes_length : (ns : List ℕ) → length (bytes_of ns) ≡ 2 * length ns
bytes_length [] = refl
bytes_length (n ∷ ns) = omega (arith, bytes_length ns)

pub no_more : (ns : List ℕ) (k left : ℕ) (text : List ℕ) → left ≡ 0 → numbers_from ns k left text ≡ Ok ns
unfolding numbers_from
no_more ns k left text none = ap (λ (m : ℕ). numbers_from ns k m text) none
