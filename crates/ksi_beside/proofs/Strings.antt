-- Strings of two pieces, and of two pieces and a level.
use Rattle.std.proofs.Common.{◌≡◌, ◌≢◌, ℕ, ◌≤◌, Bool, true, false, List, [], ◌∷◌, ◌++◌, take, drop, length, refl, sym, ap, ◌∙◌, arith, inl, inr, ◌⊎◌, length-append, append_assoc}
use Rattle.std.proofs.Math.Seq.{take-append_seam, drop-append_seam}
use Rattle.std.proofs.lemmas.List.{take-append-le, take-append-drop}
use Rattle.std.proofs.lemmas.Slice.Eq.{bytes_eq-Decides}
use Rattle.std.proofs.lemmas.Bool.Decides.{not_from_Decides}
use Rattle.std.specs.Str.{bytes_eq}
use Rattle.ksi_imprint.specs.Imprints.{join_text}

front_same : {A : Type 0} (a b c d : List A) → a ++ b ≡ c ++ d → length a ≡ length c → a ≡ c
front_same a b c d e same = sym (take-append_seam a b) ∙ ap (λ (n : ℕ). take n (a ++ b)) same ∙ ap (take (length c)) e ∙ take-append_seam c d

back_same : {A : Type 0} (a b c d : List A) → a ++ b ≡ c ++ d → length a ≡ length c → b ≡ d
back_same a b c d e same = sym (drop-append_seam a b) ∙ ap (λ (n : ℕ). drop n (a ++ b)) same ∙ ap (drop (length c)) e ∙ drop-append_seam c d

-- ---- a test of two lists and its meaning

pub same_cases : (a b : List ℕ) → ((bytes_eq a b ≡ true) × (a ≡ b)) ⊎ ((bytes_eq a b ≡ false) × (a ≢ b))
same_cases a b = of (bytes_eq a b) refl
  where
    of : (t : Bool) → bytes_eq a b ≡ t → ((bytes_eq a b ≡ true) × (a ≡ b)) ⊎ ((bytes_eq a b ≡ false) × (a ≢ b))
    of true e = inl (e, (bytes_eq-Decides a b).0 e)
    of false e = inr (e, not_from_Decides (bytes_eq a b) (bytes_eq-Decides a b) e)

test_true : (a b : List ℕ) → a ≡ b → bytes_eq a b ≡ true
test_true a b e = elim (same_cases a b) [ inl same ↦ same.0 | inr other ↦ absurd (other.1 e) ]

test_false : (a b : List ℕ) → a ≢ b → bytes_eq a b ≡ false
test_false a b e = elim (same_cases a b) [ inl same ↦ absurd (e same.1) | inr other ↦ other.0 ]

-- two tests of which each passes where the other does
tests_same : (a b c d : List ℕ) → (a ≡ b → c ≡ d) → (c ≡ d → a ≡ b) → bytes_eq a b ≡ bytes_eq c d
tests_same a b c d to from = elim (same_cases a b) [
  | inl same ↦ same.0 ∙ sym (test_true c d (to same.1))
  | inr other ↦ other.0 ∙ sym (test_false c d (λ e. other.1 (from e)))
]

-- ---- two pieces and a level

join_sizes : (a b c d : List ℕ) (l m : ℕ) → join_text a b l ≡ join_text c d m → length (a ++ b) ≡ length (c ++ d)
join_sizes a b c d l m e = let n = ap length e in omega (arith, n, length-append (a ++ b) (l ∷ []), length-append (c ++ d) (m ∷ []))

pub level_differs : (a b c d : List ℕ) (l m : ℕ) → l ≢ m → false ≡ bytes_eq (join_text a b l) (join_text c d m)
level_differs a b c d l m other = sym (test_false (join_text a b l) (join_text c d m) (λ e. other (let ends = back_same (a ++ b) (l ∷ []) (c ++ d) (m ∷ []) e (join_sizes a b c d l m e) in cc)))

pub level_same : (a b c d : List ℕ) (l m : ℕ) → l ≡ m → bytes_eq (a ++ b) (c ++ d) ≡ bytes_eq (join_text a b l) (join_text c d m)
level_same a b c d l m is = tests_same (a ++ b) (c ++ d) (join_text a b l) (join_text c d m)
    (λ e. ap (λ (x : List ℕ). x ++ l ∷ []) e ∙ ap (λ (n : ℕ). (c ++ d) ++ n ∷ []) is)
    (λ e. front_same (a ++ b) (l ∷ []) (c ++ d) (m ∷ []) e (join_sizes a b c d l m e))

-- the other way round
pub turned : (a b : List ℕ) → bytes_eq a b ≡ bytes_eq b a
turned a b = tests_same a b b a sym sym

-- ---- two pieces, the first of which is no longer than the first of two others

module _ (short rest long end : List ℕ) (fits : length short ≤ length long) where
  long_begins : short ++ rest ≡ long ++ end → long ≡ short ++ drop (length short) long
  long_begins e =
      let front : take (length short) long ≡ short = sym (take-append-le (length short) long end fits) ∙ sym (ap (take (length short)) e) ∙ take-append_seam short rest in
      sym (take-append-drop (length short) long) ∙ ap (λ (x : List ℕ). x ++ drop (length short) long) front

  pub no_beginning : ((more : List ℕ) → long ≢ short ++ more) → false ≡ bytes_eq (short ++ rest) (long ++ end)
  no_beginning none = sym (test_false (short ++ rest) (long ++ end) (λ e. none (drop (length short) long) (long_begins e)))

  module _ (middle : List ℕ) (begins : long ≡ short ++ middle) where
    long_is : long ++ end ≡ short ++ (middle ++ end)
    long_is = ap (λ (x : List ℕ). x ++ end) begins ∙ append_assoc short middle end

    rest_is : short ++ rest ≡ long ++ end → rest ≡ middle ++ end
    rest_is e = back_same short rest short (middle ++ end) (e ∙ long_is) refl

    pub no_middle : ((more : List ℕ) → rest ≢ middle ++ more) → false ≡ bytes_eq (short ++ rest) (long ++ end)
    no_middle none = sym (test_false (short ++ rest) (long ++ end) (λ e. none end (rest_is e)))

    pub ends_same : (last : List ℕ) → rest ≡ middle ++ last → bytes_eq last end ≡ bytes_eq (short ++ rest) (long ++ end)
    ends_same last is = tests_same last end (short ++ rest) (long ++ end)
        (λ e. ap (λ (x : List ℕ). short ++ x) (is ∙ ap (λ (x : List ℕ). middle ++ x) e) ∙ sym long_is)
        (λ e. back_same middle last middle end (sym is ∙ rest_is e) refl)
