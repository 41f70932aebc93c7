-- Strings of joins.
use Rattle.std.proofs.Common.{◌≡◌, ℕ, List, [], ◌∷◌, ◌++◌, take, drop, length, sym, ap, ◌∙◌, arith, length-append}
use Rattle.std.proofs.Math.Seq.{take-append_seam, drop-append_seam}
use Rattle.ksi_consistency.specs.declared.halves.Halves.{Halves}
use Rattle.ksi_consistency.specs.Compared.{halves_text}

front_same : (a b c d : List ℕ) → a ++ b ≡ c ++ d → length a ≡ length c → a ≡ c
front_same a b c d e same = sym (take-append_seam a b) ∙ ap (λ (n : ℕ). take n (a ++ b)) same ∙ ap (take (length c)) e ∙ take-append_seam c d

back_same : (a b c d : List ℕ) → a ++ b ≡ c ++ d → length a ≡ length c → b ≡ d
back_same a b c d e same = sym (drop-append_seam a b) ∙ ap (λ (n : ℕ). drop n (a ++ b)) same ∙ ap (drop (length c)) e ∙ drop-append_seam c d

-- halves of imprints' size have one string only
pub halves_of : (one two : Halves) → length one.left ≡ 33 → length two.left ≡ 33 → length one.right ≡ 33 → length two.right ≡ 33 → halves_text one ≡ halves_text two → one ≡ two
halves_of one two l l' r r' same =
    let both : one.left ++ one.right ≡ two.left ++ two.right
    = front_same (one.left ++ one.right) (255 ∷ []) (two.left ++ two.right) (255 ∷ []) same (omega (arith, length-append one.left one.right, length-append two.left two.right, l, l', r, r')) in
    let left = front_same one.left one.right two.left two.right both (l ∙ sym l') in
    let right = back_same one.left one.right two.left two.right both (l ∙ sym l') in
    λ i. record { left = left i; right = right i }
