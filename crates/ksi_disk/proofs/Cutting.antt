-- Records in one block of bytes.
use Rattle.std.proofs.Common.{◌≡◌, ◌∙◌, ℕ, zero, suc, ◌+◌, ◌-◌, ◌<◌, ◌≤◌, List, [], ◌∷◌, ◌++◌, length, take, drop, get_or, refl, sym, ap, arith}
use Rattle.std.specs.Prelude.{slice_index}
use Rattle.std.proofs.lemmas.List.{take-append-le, drop-append-le, drop_at, length-drop}
use Rattle.std.proofs.Math.Seq.{take-length}
use Rattle.ksi_disk.specs.Cuts.{AreEnds, begin_of, cut}

pub length_cut : (bytes : List ℕ) (from : ℕ) (ends : List ℕ) → length (cut bytes from ends) ≡ length ends
length_cut bytes from [] = refl
length_cut bytes from (end ∷ ends) = ap suc (length_cut bytes end ends)

pub ends_rise : (from last : ℕ) (ends : List ℕ) → AreEnds from last ends → from ≤ last
ends_rise from last [] are = omega (arith, are)
ends_rise from last (end ∷ ends) are = omega (arith, are.0, ends_rise end last ends are.1)

-- each record begins where the one before ends
begin_behind : (from end : ℕ) (ends : List ℕ) (k : ℕ) → begin_of from (end ∷ ends) (suc k) ≡ begin_of end ends k
begin_behind from end ends zero = refl
begin_behind from end ends (suc k) = refl

pub begin_first : (ends : List ℕ) (n : ℕ) → n ≡ 0 → 0 ≡ begin_of 0 ends n
begin_first ends zero is = refl
begin_first ends (suc n) is = absurd (omega (arith, is))

pub begin_later : (ends : List ℕ) (n : ℕ) → (n ≡ 0 → ⊥) → slice_index ends (n - 1) ≡ begin_of 0 ends n
begin_later ends zero some = absurd (some refl)
begin_later ends (suc n) some = let one : suc n - 1 ≡ n = omega arith in ap (slice_index ends) one

pub record IsWithin (from last : ℕ) (ends : List ℕ) (k : ℕ) : Type 0 where
  pub rising : begin_of from ends k ≤ slice_index ends k
  pub within : slice_index ends k ≤ last

pub within : (from last : ℕ) (ends : List ℕ) (k : ℕ) → AreEnds from last ends → k < length ends → IsWithin from last ends k
within from last [] k are lt = absurd (omega (arith, lt))
within from last (end ∷ ends) zero are lt = record { rising = are.0; within = ends_rise end last ends are.1 }
within from last (end ∷ ends) (suc k) are lt =
    let rest = within end last ends k are.1 (omega (arith, lt)) in
    record { rising = omega (arith, rest.rising, begin_behind from end ends k); within = rest.within }

pub at_cut : (bytes : List ℕ) (from : ℕ) (ends : List ℕ) (k : ℕ) (other : List ℕ) → k < length ends →
    get_or (cut bytes from ends) k other ≡ take (slice_index ends k - begin_of from ends k) (drop (begin_of from ends k) bytes)
at_cut bytes from [] k other lt = absurd (omega (arith, lt))
at_cut bytes from (end ∷ ends) zero other lt = refl
at_cut bytes from (end ∷ ends) (suc k) other lt =
    at_cut bytes end ends k other (omega (arith, lt))
    ∙ ap (λ (n : ℕ). take (slice_index ends k - n) (drop n bytes)) (sym (begin_behind from end ends k))

-- ONE MORE RECORD

pub ends_more : (from last more : ℕ) (ends : List ℕ) → last ≤ more → AreEnds from last ends → AreEnds from more (ends ++ more ∷ [])
ends_more from last more [] le are = (omega (arith, le, are), refl)
ends_more from last more (end ∷ ends) le are = (are.0, ends_more end last more ends le are.1)

-- a piece within a block is the same in a longer one
piece_same : (bytes more : List ℕ) (from end : ℕ) → from ≤ end → end ≤ length bytes → take (end - from) (drop from (bytes ++ more)) ≡ take (end - from) (drop from bytes)
piece_same bytes more from end rising within =
    ap (λ (l : List ℕ). take (end - from) l) (drop-append-le from bytes more (omega (arith, rising, within)))
    ∙ take-append-le (end - from) (drop from bytes) more (omega (arith, length-drop from bytes, rising, within))

pub cut_more : (bytes content : List ℕ) (from : ℕ) (ends : List ℕ) → AreEnds from (length bytes) ends →
    cut (bytes ++ content) from (ends ++ (length bytes + length content) ∷ []) ≡ cut bytes from ends ++ content ∷ []
cut_more bytes content from [] are =
    let count : length bytes + length content - from ≡ length content = omega (arith, are) in
    ap (λ (l : List ℕ). l ∷ []) (ap (λ (n : ℕ). take n (drop from (bytes ++ content))) count
    ∙ ap (λ (l : List ℕ). take (length content) l) (drop_at bytes content from (sym are)) ∙ take-length content)
cut_more bytes content from (end ∷ ends) are =
    ap (λ (l : List ℕ). l ∷ cut (bytes ++ content) end (ends ++ (length bytes + length content) ∷ [])) (piece_same bytes content from end are.0 (ends_rise end (length bytes) ends are.1))
    ∙ ap (λ (rest : List (List ℕ)). take (end - from) (drop from bytes) ∷ rest) (cut_more bytes content end ends are.1)

pub default_same : (xs : List ℕ) (k d : ℕ) → k < length xs → get_or xs k d ≡ slice_index xs k
default_same [] k d lt = absurd (omega (arith, lt))
default_same (x ∷ xs) zero d lt = refl
default_same (x ∷ xs) (suc k) d lt = default_same xs k d (omega (arith, lt))
