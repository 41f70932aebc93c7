-- Equal strings of joins have equal parts, where these are of one length.
use Rattle.std.proofs.Common.{◌≡◌, ℕ, ◌+◌, List, [], ◌∷◌, ◌++◌, take, drop, length, sym, ap, ◌∙◌, arith, length-append, append_assoc}
use Rattle.std.proofs.Math.Seq.{take-append_seam, drop-append_seam}
use Rattle.ksi_imprint.specs.Imprints.{join_text}

pub front_same : {A : Type 0} (a b c d : List A) → a ++ b ≡ c ++ d → length a ≡ length c → a ≡ c
front_same a b c d e same = sym (take-append_seam a b) ∙ ap (λ (n : ℕ). take n (a ++ b)) same ∙ ap (take (length c)) e ∙ take-append_seam c d

back_same : {A : Type 0} (a b c d : List A) → a ++ b ≡ c ++ d → length a ≡ length c → b ≡ d
back_same a b c d e same = sym (drop-append_seam a b) ∙ ap (λ (n : ℕ). drop n (a ++ b)) same ∙ ap (drop (length c)) e ∙ drop-append_seam c d

-- the parts of equal joins, one after the other
pub opened : (a b c d : List ℕ) (l m : ℕ) → join_text a b l ≡ join_text c d m → a ++ (b ++ l ∷ []) ≡ c ++ (d ++ m ∷ [])
opened a b c d l m e = sym (append_assoc a b (l ∷ [])) ∙ e ∙ append_assoc c d (m ∷ [])

pub join_lengths : (a b c d : List ℕ) (l m : ℕ) → join_text a b l ≡ join_text c d m → length a + length b ≡ length c + length d
join_lengths a b c d l m e =
    let n = ap length e in
    omega (arith, n, length-append (a ++ b) (l ∷ []), length-append (c ++ d) (m ∷ []), length-append a b, length-append c d)

-- the left part of a join
pub left_same : (a b c d : List ℕ) (l m : ℕ) → join_text a b l ≡ join_text c d m → length a ≡ length c → a ≡ c
left_same a b c d l m e same = front_same a (b ++ l ∷ []) c (d ++ m ∷ []) (opened a b c d l m e) same

-- the right part of a join
pub right_same : (a b c d : List ℕ) (l m : ℕ) → join_text a b l ≡ join_text c d m → length b ≡ length d → b ≡ d
right_same a b c d l m e same =
    let n = join_lengths a b c d l m e in
    let first : length a ≡ length c = omega (arith, n, same) in
    front_same b (l ∷ []) d (m ∷ []) (back_same a (b ++ l ∷ []) c (d ++ m ∷ []) (opened a b c d l m e) first) same

-- the level of a join whose right part is as long
pub level_same : (a b c d : List ℕ) (l m : ℕ) → join_text a b l ≡ join_text c d m → length a ≡ length c → length b ≡ length d → l ≡ m
level_same a b c d l m e one two =
    let rest : l ∷ [] ≡ m ∷ [] = back_same b (l ∷ []) d (m ∷ []) (back_same a (b ++ l ∷ []) c (d ++ m ∷ []) (opened a b c d l m e) one) two in
    cc
