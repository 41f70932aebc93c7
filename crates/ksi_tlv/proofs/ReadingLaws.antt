-- A walk is the reading of its bytes.
use Rattle.std.proofs.Common.{◌≡◌, ℕ, zero, suc, ◌+◌, ◌<◌, ◌≤◌, List, [], ◌∷◌, ◌++◌, length, take, drop, Result, Ok, Err, refl, sym, ap, subst, ◌∙◌, arith, length-append, length-drop, add-zero}
use Rattle.std.specs.List.{AllByRecursion}
use Rattle.std.proofs.lemmas.List.{take-append-drop, append_assoc, length-take-le, drop_at}
use Rattle.std.proofs.lemmas.List.Elements.{All-drop}
use Rattle.ksi_tlv.specs.Spelling.{Tlv, Spells, AreBytes}
use Rattle.ksi_tlv.specs.Front.{header_at, element_at}
use Rattle.ksi_tlv.specs.Walking.{placed_at, Items, elements, joined, laid, items_of, BeginsNone, end_at, IsReading}
use Rattle.ksi_tlv.proofs.FrontLaws.{bytes_of, element_at-found, element_at-spelled, element_at-err}
use Rattle.ksi_tlv.proofs.WalkLaws.{element_at-takes, elements-nil, elements-cons, elements-cut}
use Rattle.ksi_tlv.proofs.WriteLaws.{elements-spelled}

abbrev ok : Tlv × ℕ → Result (Tlv × ℕ) ℕ
ok x = Ok x

cut_begins_none : (bytes : List ℕ) (need : ℕ) → element_at bytes ≡ Err need → BeginsNone bytes
cut_begins_none bytes need cut e text rest spells is =
    let never : Err need ≡ ok (e, length text) = sym cut ∙ ap element_at is ∙ element_at-spelled e text rest spells in absurd cc

nil_is_cut : element_at [] ≡ Err 2
unfolding element_at header_at
nil_is_cut = refl

cut_item : ℕ → ℕ → ℕ → Items
cut_item place need have = Err (record { place = place; need = need; have = have }) ∷ []

-- ---- what is left

cut_ends : (place b : ℕ) (left : List ℕ) (need : ℕ) → element_at (b ∷ left) ≡ Err need → elements place (b ∷ left) ≡ end_at place (b ∷ left)
unfolding cut_item
cut_ends place b left need cut =
    elements-cut place b left need cut ∙ ap (λ (n : ℕ). cut_item place n (length (b ∷ left))) (element_at-err (b ∷ left) need cut).0

front_ends : (place b : ℕ) (left : List ℕ) (r : Result (Tlv × ℕ) ℕ) → AreBytes (b ∷ left) → BeginsNone (b ∷ left) → element_at (b ∷ left) ≡ r → elements place (b ∷ left) ≡ end_at place (b ∷ left)
front_ends place b left (Err need) fits none read = cut_ends place b left need read
front_ends place b left (Ok found) fits none read =
    let front = element_at-found (b ∷ left) found.0 found.1 (bytes_of (b ∷ left) fits) read in
    absurd (none found.0 (take found.1 (b ∷ left)) (drop found.1 (b ∷ left)) front.spelled (sym (take-append-drop found.1 (b ∷ left))))

left_ends : (place : ℕ) (left : List ℕ) → AreBytes left → BeginsNone left → elements place left ≡ end_at place left
left_ends place [] fits none = elements-nil place
left_ends place (b ∷ left) fits none = front_ends place b left (element_at (b ∷ left)) fits none refl

-- ---- a reading is the walk

read_on : (place : ℕ) (parts : List (Tlv × List ℕ)) (left : List ℕ) → AllByRecursion (λ part. Spells part.0 part.1) parts → AreBytes left → BeginsNone left
    → elements place (joined parts ++ left) ≡ items_of (laid place parts) ++ end_at (place + length (joined parts)) left
read_on place [] left spelled fits none = rw (add-zero place) (left_ends place left fits none)
read_on place (part ∷ parts) left spelled fits none =
    let total : place + length part.1 + length (joined parts) ≡ place + length (part.1 ++ joined parts) = omega (arith, length-append part.1 (joined parts)) in
    ap (elements place) (append_assoc part.1 (joined parts) left)
    ∙ elements-spelled place part.0 part.1 (joined parts ++ left) spelled.0
    ∙ ap (λ (items : Items). Ok (placed_at place part.0 (length part.1)) ∷ items) (read_on (place + length part.1) parts left spelled.1 fits none)
    ∙ ap (λ (end : ℕ). Ok (placed_at place part.0 (length part.1)) ∷ (items_of (laid (place + length part.1) parts) ++ end_at end left)) total

pub reading_is : (place : ℕ) (bytes : List ℕ) (items : Items) → AreBytes bytes → IsReading place bytes items → items ≡ elements place bytes
reading_is place bytes items fits r =
    let rest : AreBytes (drop (length (joined r.parts)) (joined r.parts ++ r.left)) = All-drop (λ b. b < 256) (length (joined r.parts)) (joined r.parts ++ r.left) (subst AreBytes r.split fits) in
    let left : AreBytes r.left = subst AreBytes (drop_at (joined r.parts) r.left (length (joined r.parts)) refl) rest in
    r.placed ∙ sym (read_on place r.parts r.left r.spelled left r.ended) ∙ ap (elements place) (sym r.split)

-- ---- the walk is a reading

nil_reads : (place : ℕ) → IsReading place [] (elements place [])
nil_reads place = record { parts = []; left = []; split = refl; spelled = tt; ended = cut_begins_none [] 2 nil_is_cut; placed = elements-nil place }

cut_reads : (place b : ℕ) (bytes : List ℕ) (need : ℕ) → element_at (b ∷ bytes) ≡ Err need → IsReading place (b ∷ bytes) (elements place (b ∷ bytes))
cut_reads place b bytes need cut =
    record { parts = []; left = b ∷ bytes; split = refl; spelled = tt; ended = cut_begins_none (b ∷ bytes) need cut; placed = rw (add-zero place) (cut_ends place b bytes need cut) }

found_reads : (place : ℕ) (bytes : List ℕ) (e : Tlv) (n : ℕ) → AreBytes bytes → element_at bytes ≡ Ok (e, n)
    → IsReading (place + n) (drop n bytes) (elements (place + n) (drop n bytes)) → IsReading place bytes (elements place bytes)
found_reads place bytes e n fits read r =
    let front = element_at-found bytes e n (bytes_of bytes fits) read in
    let len : length (take n bytes) ≡ n = length-take-le n bytes front.within in
    let end : place + n + length (joined r.parts) ≡ place + length (take n bytes ++ joined r.parts) = omega (arith, length-append (take n bytes) (joined r.parts)) in
    record {
      parts = (e, take n bytes) ∷ r.parts;
      left = r.left;
      split = sym (take-append-drop n bytes) ∙ ap (λ (rest : List ℕ). take n bytes ++ rest) r.split ∙ sym (append_assoc (take n bytes) (joined r.parts) r.left);
      spelled = (front.spelled, r.spelled);
      ended = r.ended;
      placed =
          elements-cons place bytes e n read
          ∙ ap (λ (items : Items). Ok (placed_at place e n) ∷ items) r.placed
          ∙ ap (λ (stop : ℕ). Ok (placed_at place e n) ∷ (items_of (laid (place + n) r.parts) ++ end_at stop r.left)) end
          ∙ ap (λ (k : ℕ). Ok (placed_at place e k) ∷ (items_of (laid (place + k) r.parts) ++ end_at (place + length (take n bytes ++ joined r.parts)) r.left)) (sym len);
    }

walk_within : (most place : ℕ) (bytes : List ℕ) → length bytes ≤ most → AreBytes bytes → IsReading place bytes (elements place bytes)
walk_within most place [] le fits = nil_reads place
walk_within zero place (b ∷ bytes) le fits = absurd (omega arith)
walk_within (suc most) place (b ∷ bytes) le fits = by_front (element_at (b ∷ bytes)) refl (λ p rest le fits. walk_within most p rest le fits)
  where
    by_front : (r : Result (Tlv × ℕ) ℕ) → element_at (b ∷ bytes) ≡ r → ((p : ℕ) (rest : List ℕ) → length rest ≤ most → AreBytes rest → IsReading p rest (elements p rest)) → IsReading place (b ∷ bytes) (elements place (b ∷ bytes))
    by_front (Err need) read more = cut_reads place b bytes need read
    by_front (Ok found) read more =
        let takes = element_at-takes (b ∷ bytes) found.0 found.1 read in
        let some : 2 ≤ found.1 = takes.some in
        let fewer : length (drop found.1 (b ∷ bytes)) ≤ most = omega (arith, length-drop found.1 (b ∷ bytes)) in
        found_reads place (b ∷ bytes) found.0 found.1 fits read (more (place + found.1) (drop found.1 (b ∷ bytes)) fewer (All-drop (λ b. b < 256) found.1 (b ∷ bytes) fits))

pub walk_reads : (place : ℕ) (bytes : List ℕ) → AreBytes bytes → IsReading place bytes (elements place bytes)
walk_reads place bytes fits = walk_within (length bytes) place bytes (omega arith) fits

pub reading_of : (place : ℕ) (bytes : List ℕ) (items : Items) → AreBytes bytes → items ≡ elements place bytes → IsReading place bytes items
reading_of place bytes items fits is = subst (λ (items : Items). IsReading place bytes items) (sym is) (walk_reads place bytes fits)
