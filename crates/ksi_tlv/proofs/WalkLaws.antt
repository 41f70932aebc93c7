-- The elements of bytes, one after the other.
use Rattle.std.proofs.Common.{◌≡◌, ℕ, zero, suc, ◌+◌, ◌≤◌, Bool, true, false, cond, ltb, eqb, List, [], ◌∷◌, length, drop, Result, Ok, Err, refl, ap, arith, length-drop, length-take}
use Rattle.std.proofs.lemmas.Bool.{ltb-false, eqb-true}
use Rattle.ksi_tlv.specs.Spelling.{Tlv}
use Rattle.ksi_tlv.specs.Front.{Front, short_header, long_header, header_at, element_with, behind_header, element_at}
use Rattle.ksi_tlv.specs.Walking.{placed_at, Items, items_after, items_within, elements}

-- an element takes at least two bytes, and no more than stand
pub record Takes (bytes : List ℕ) (e : Tlv) (n : ℕ) : Type 0 where
  pub some : 2 ≤ n
  pub within : n ≤ length bytes
  pub content : length e.body ≤ n

guard_ok : {A : Type 0} (b : Bool) (d : ℕ) (x y : A) → cond b (Err d) (Ok x) ≡ Ok y → (b ≡ false) × (x ≡ y)
guard_ok true d x y e = absurd cc
guard_ok false d x y e = (refl, cc)

abbrev ok : {A : Type 0} → A → Result A ℕ
ok x = Ok x

ok_is : {A : Type 0} (x y : A) → ok x ≡ ok y → x ≡ y
ok_is x y e = cc

size_is : (bytes : List ℕ) (h : Front) → header_at bytes ≡ Ok h → 2 ≤ h.size
unfolding header_at
size_is [] h e = absurd cc
size_is (first ∷ rest) h e = at_test (ltb first 128) first rest h e
  where
    at_short : (first : ℕ) (rest : List ℕ) (h : Front) → short_header first rest ≡ Ok h → 2 ≤ h.size
    at_short first [] h e = absurd cc
    at_short first (count ∷ rest) h e = let s : 2 ≡ h.size = ap (λ (h : Front). h.size) (ok_is _ _ e) in omega arith

    at_long : (first : ℕ) (rest : List ℕ) (h : Front) → long_header first rest ≡ Ok h → 2 ≤ h.size
    at_long first [] h e = absurd cc
    at_long first (low ∷ []) h e = absurd cc
    at_long first (low ∷ high ∷ []) h e = absurd cc
    at_long first (low ∷ high ∷ less ∷ rest) h e = let s : 4 ≡ h.size = ap (λ (h : Front). h.size) (ok_is _ _ e) in omega arith

    at_test : (b : Bool) (first : ℕ) (rest : List ℕ) (h : Front) → cond b (short_header first rest) (long_header first rest) ≡ Ok h → 2 ≤ h.size
    at_test true first rest h e = at_short first rest h e
    at_test false first rest h e = at_long first rest h e

takes_behind : (bytes : List ℕ) (r : Result Front ℕ) (e : Tlv) (n : ℕ) → header_at bytes ≡ r → behind_header bytes r ≡ Ok (e, n) → Takes bytes e n
takes_behind bytes (Err need) e n is read = absurd cc
takes_behind bytes (Ok h) e n is read =
    let g = guard_ok (ltb (length bytes) (h.size + h.count)) (h.size + h.count) (element_with h bytes, h.size + h.count) (e, n) read in
    let le : h.size + h.count ≤ length bytes = ltb-false _ _ g.0 in
    let size : 2 ≤ h.size = size_is bytes h is in
    let total : h.size + h.count ≡ n = ap (λ (p : Tlv × ℕ). p.1) g.1 in
    let body : length (element_with h bytes).body ≡ length e.body = ap (λ (p : Tlv × ℕ). length p.0.body) g.1 in
    record { some = omega arith; within = omega arith; content = omega (arith, length-take h.count (drop h.size bytes)) }

pub element_at-takes : (bytes : List ℕ) (e : Tlv) (n : ℕ) → element_at bytes ≡ Ok (e, n) → Takes bytes e n
unfolding element_at
element_at-takes bytes e n read = takes_behind bytes (header_at bytes) e n refl read

-- it does not matter how many elements may come, where these are enough
same_after : (m k place b : ℕ) (bytes : List ℕ) (r : Result (Tlv × ℕ) ℕ) → length (b ∷ bytes) ≤ suc m → length (b ∷ bytes) ≤ suc k → element_at (b ∷ bytes) ≡ r
    → ((place : ℕ) (rest : List ℕ) → length rest ≤ m → length rest ≤ k → items_within m place rest ≡ items_within k place rest)
    → items_after (items_within m) place (b ∷ bytes) r ≡ items_after (items_within k) place (b ∷ bytes) r
same_after m k place b bytes (Err need) lm lk is same = refl
same_after m k place b bytes (Ok found) lm lk is same =
    let t = element_at-takes (b ∷ bytes) found.0 found.1 is in
    let some : 2 ≤ found.1 = t.some in
    ap (λ (rest : Items). Ok (placed_at place found.0 found.1) ∷ rest) (same (place + found.1) (drop found.1 (b ∷ bytes)) (omega (arith, length-drop found.1 (b ∷ bytes))) (omega (arith, length-drop found.1 (b ∷ bytes))))

same_items : (m k place : ℕ) (bytes : List ℕ) → length bytes ≤ m → length bytes ≤ k → items_within m place bytes ≡ items_within k place bytes
unfolding items_within
same_items zero zero place bytes lm lk = refl
same_items zero (suc k) place [] lm lk = refl
same_items zero (suc k) place (b ∷ bytes) lm lk = absurd (omega arith)
same_items (suc m) zero place [] lm lk = refl
same_items (suc m) zero place (b ∷ bytes) lm lk = absurd (omega arith)
same_items (suc m) (suc k) place [] lm lk = refl
same_items (suc m) (suc k) place (b ∷ bytes) lm lk = same_after m k place b bytes (element_at (b ∷ bytes)) lm lk refl (λ place rest lm lk. same_items m k place rest lm lk)

-- ---- the steps of a walk

pub elements-nil : (place : ℕ) → elements place [] ≡ []
unfolding elements items_within
elements-nil place = refl

pub elements-empty : (place : ℕ) (bytes : List ℕ) → eqb (length bytes) 0 ≡ true → elements place bytes ≡ []
elements-empty place [] e = elements-nil place
elements-empty place (b ∷ bytes) e = let n : length (b ∷ bytes) ≡ 0 = eqb-true _ _ e in absurd (omega arith)

after_read : (place : ℕ) (bytes : List ℕ) (e : Tlv) (n : ℕ) → element_at bytes ≡ Ok (e, n) → elements place bytes ≡ Ok (placed_at place e n) ∷ elements (place + n) (drop n bytes)
unfolding elements items_within
after_read place [] e n read = let t : n ≤ length {A = ℕ} [] = (element_at-takes [] e n read).within in let s : 2 ≤ n = (element_at-takes [] e n read).some in absurd (omega arith)
after_read place (b ∷ bytes) e n read =
    let t = element_at-takes (b ∷ bytes) e n read in
    let some : 2 ≤ n = t.some in
    rw read (ap (λ (rest : Items). Ok (placed_at place e n) ∷ rest) (same_items (length bytes) (length (drop n (b ∷ bytes))) (place + n) (drop n (b ∷ bytes)) (omega (arith, length-drop n (b ∷ bytes))) (omega arith)))

pub elements-cons : (place : ℕ) (bytes : List ℕ) (e : Tlv) (n : ℕ) → element_at bytes ≡ Ok (e, n) → elements place bytes ≡ Ok (placed_at place e n) ∷ elements (place + n) (drop n bytes)
elements-cons place bytes e n read = after_read place bytes e n read

pub elements-cut : (place b : ℕ) (bytes : List ℕ) (need : ℕ) → element_at (b ∷ bytes) ≡ Err need → elements place (b ∷ bytes) ≡ Err (record { place = place; need = need; have = length (b ∷ bytes) }) ∷ []
unfolding elements items_within
elements-cut place b bytes need read = rw read refl
