-- Where the last line of a text begins.
use Rattle.std.proofs.Common.{◌≡◌, ◌∙◌, ℕ, zero, suc, ◌+◌, ◌<◌, ◌≤◌, ◌==◌, true, false, List, [], ◌∷◌, ◌++◌, length, get_or, drop, refl, sym, ap, subst, arith, inl, inr, append_assoc, length-append}
use Rattle.std.proofs.lemmas.Bool.{cases_lt, false≢true}
use Rattle.std.proofs.Math.Seq.{drop-append_seam}
use Rattle.ksi_roundstore.specs.Written.{IsLine}
use Rattle.ksi_roundstore.specs.Kinds.{IsEnded}
use Rattle.ksi_roundstore.proofs.Cut.{head_of, tail_of}

line_free : (line : List ℕ) (k : ℕ) → IsLine line → k < length line → (get_or line k 0 == 10) ≡ false
line_free [] k free within = absurd (omega arith)
line_free (b ∷ line) zero free within = free.0
line_free (b ∷ line) (suc k) free within = line_free line k free.1 (omega arith)

behind_free : (front line : List ℕ) (k : ℕ) → IsLine line → length front ≤ k → k < length (front ++ line) → (get_or (front ++ line) k 0 == 10) ≡ false
behind_free [] line k free behind within = line_free line k free within
behind_free (b ∷ front) line zero free behind within = absurd (omega arith)
behind_free (b ∷ front) line (suc k) free behind within = behind_free front line k free (omega arith) (omega arith)

feed_at : (rest line : List ℕ) → (get_or ((rest ++ 10 ∷ []) ++ line) (length rest) 0 == 10) ≡ true
feed_at [] line = refl
feed_at (b ∷ rest) line = feed_at rest line

pub feed_place : (body front line : List ℕ) (place : ℕ) → body ≡ front ++ line → IsEnded front → IsLine line → place < length body → (get_or body place 0 == 10) ≡ true
    → ((k : ℕ) → place + 1 ≤ k → k < length body → ¬ ((get_or body k 0 == 10) ≡ true)) → place + 1 ≡ length front
feed_place body front line place is ended free within here none = elim (cases_lt place (length front)) [
  | inl before ↦ by before ended
  | inr behind ↦ absurd (false≢true (sym (behind_free front line place free behind (subst (λ (l : List ℕ). place < length l) is within)) ∙ ap (λ (l : List ℕ). get_or l place 0 == 10) (sym is) ∙ here))
]
  where
    by : place < length front → IsEnded front → place + 1 ≡ length front
    by before (inl nothing) = absurd (omega (arith, before, ap (λ (l : List ℕ). length l) nothing))
    by before (inr (rest, lines)) = elim (cases_lt place (length rest)) [
      | inl earlier ↦ absurd (none (length rest) (omega (arith, earlier)) (omega (arith, size, front_size, ap (λ (l : List ℕ). length l) is)) (ap (λ (l : List ℕ). get_or l (length rest) 0 == 10) (is ∙ ap (λ (l : List ℕ). l ++ line) lines) ∙ feed_at rest line))
      | inr later ↦ omega (arith, before, later, front_size)
    ]
      where
        front_size : length front ≡ length rest + 1
        front_size = ap (λ (l : List ℕ). length l) lines ∙ length-append rest (10 ∷ [])

        size : length (front ++ line) ≡ length front + length line
        size = length-append front line

pub front_once : (one other : List ℕ) (x y : ℕ) → one ++ x ∷ [] ≡ other ++ y ∷ [] → one ≡ other
front_once [] [] x y is = refl
front_once [] (b ∷ other) x y is = absurd (omega (arith, ap (λ (l : List ℕ). length l) is, length-append other (y ∷ [])))
front_once (b ∷ one) [] x y is = absurd (omega (arith, ap (λ (l : List ℕ). length l) is, length-append one (x ∷ [])))
front_once (b ∷ one) (c ∷ other) x y is =
    let rest = front_once one other x y (ap tail_of is) in
    λ i. ap head_of is i ∷ rest i

pub tail_is : (content body front line tail : List ℕ) (last place : ℕ) → content ≡ body ++ last ∷ [] → content ≡ front ++ (line ++ 10 ∷ []) → IsEnded front → IsLine line → place < length body → (get_or body place 0 == 10) ≡ true
    → ((k : ℕ) → place + 1 ≤ k → k < length body → ¬ ((get_or body k 0 == 10) ≡ true)) → tail ≡ drop (place + 1) content → tail ≡ line ++ 10 ∷ []
tail_is content body front line tail last place cut is ended free within here none back =
    let body_is : body ≡ front ++ line = front_once body (front ++ line) last 10 (sym cut ∙ is ∙ sym (append_assoc front line (10 ∷ []))) in
    back
    ∙ ap (λ (n : ℕ). drop n content) (feed_place body front line place body_is ended free within here none)
    ∙ ap (λ (l : List ℕ). drop (length front) l) is
    ∙ drop-append_seam front (line ++ 10 ∷ [])
