-- What is read of bytes in which records stand one after the other.
use Rattle.std.specs.Int.{w32, from_be_bytes}
use Rattle.std.proofs.Common.{◌≡◌, ◌≢◌, ℕ, zero, suc, ◌+◌, ◌≤◌, ◌<◌, Bool, true, if◌then◌else◌, List, [], ◌∷◌, ◌++◌, length, take, drop, refl, ◌∙◌, ap, arith, length-append, length-drop}
use Rattle.std.proofs.lemmas.Bool.Decides.{nat_tests}
use Rattle.std.proofs.lemmas.List.{take-append-le, drop-append-le, take_at, drop_at}
use Rattle.ksi_disk.specs.declared.ending.Ending.TheVariants.{Closed}
use Rattle.ksi_disk.specs.declared.front.Front.{Front}
use Rattle.ksi_disk.specs.declared.front.Front.TheVariants as front
use Rattle.ksi_disk.specs.Gates.{front_at, stated, is_whole, Reading, ends, behind, reading_after, reading_within, reading_at}

same_after : (n m place : ℕ) (bytes : List ℕ) (f : Front) → ((next count : ℕ) → reading_within n next (drop (5 + count) bytes) ≡ reading_within m next (drop (5 + count) bytes)) → reading_after (reading_within n) place bytes f ≡ reading_after (reading_within m) place bytes f
same_after n m place bytes front.Closed same = refl
same_after n m place bytes front.Broken same = refl
same_after n m place bytes (front.Whole content) same = ap (λ (r : Reading). behind (content ∷ []) r) (same (place + (5 + length content)) (length content))

-- more steps than bytes read no more
pub same_reading : (n m place : ℕ) (bytes : List ℕ) → length bytes < n → length bytes < m → reading_within n place bytes ≡ reading_within m place bytes
same_reading zero m place bytes below_n below_m = absurd (omega arith)
same_reading (suc n) zero place bytes below_n below_m = absurd (omega arith)
same_reading (suc n) (suc m) place [] below_n below_m = refl
same_reading (suc n) (suc m) place (b ∷ bytes) below_n below_m =
    same_after n m place (b ∷ bytes) (front_at (b ∷ bytes))
    (λ next count. same_reading n m next (drop (5 + count) (b ∷ bytes)) (omega (arith, length-drop (5 + count) (b ∷ bytes))) (omega (arith, length-drop (5 + count) (b ∷ bytes))))

pub closed_front : (gate : ℕ) (rest : List ℕ) → gate ≢ 1 → front_at (gate ∷ rest) ≡ front.Closed
closed_front gate rest shut = grind (arith, nat_tests)

-- at a closed gate nothing is read
pub closed_reading : (most place gate : ℕ) (rest : List ℕ) → gate ≢ 1 → reading_within (suc most) place (gate ∷ rest) ≡ ends (Closed place)
closed_reading most place gate rest shut = ap (λ (f : Front). reading_after (reading_within most) place (gate ∷ rest) f) (closed_front gate rest shut)

pub closed_reading_at : (place gate : ℕ) (rest : List ℕ) → gate ≢ 1 → reading_at place (gate ∷ rest) ≡ ends (Closed place)
unfolding reading_at
closed_reading_at place gate rest shut = closed_reading (length (gate ∷ rest)) place gate rest shut

-- a record stands in front of others
module _ (head tail : List ℕ) (count : ℕ) (size : length head ≡ 4 + count) (states : stated head ≡ count) where
  stated_front : stated (head ++ tail) ≡ count
  stated_front = ap (λ (four : List ℕ). from_be_bytes w32 four) (take-append-le 4 head tail (omega arith)) ∙ states

  whole : is_whole (head ++ tail) ≡ true
  whole = let within : 4 + stated (head ++ tail) ≤ length (head ++ tail) = omega (arith, stated_front, length-append head tail) in grind (arith, nat_tests)

  content_front : take (stated (head ++ tail)) (drop 4 (head ++ tail)) ≡ drop 4 head
  content_front =
      (λ i. take (stated_front i) (drop-append-le 4 head tail (omega arith) i))
      ∙ take_at (drop 4 head) tail count (omega (arith, length-drop 4 head))

  pub front_of : front_at (1 ∷ (head ++ tail)) ≡ front.Whole (drop 4 head)
  front_of =
      ap (λ (b : Bool). if b then front.Whole (take (stated (head ++ tail)) (drop 4 (head ++ tail))) else front.Broken) whole
      ∙ ap (λ (content : List ℕ). front.Whole content) content_front

  next_drop : (more : ℕ) → more ≡ count → drop (5 + more) (1 ∷ (head ++ tail)) ≡ tail
  next_drop more is =
      let one_less : 5 + more ≡ suc (4 + count) = omega arith in
      ap (λ (k : ℕ). drop k (1 ∷ (head ++ tail))) one_less ∙ drop_at head tail (4 + count) size

  pub read_record : (most place : ℕ) → length (1 ∷ (head ++ tail)) ≤ most → reading_within (suc most) place (1 ∷ (head ++ tail)) ≡ behind (drop 4 head ∷ []) (reading_at (place + (5 + count)) tail)
  unfolding reading_at
  read_record most place enough =
      let content_size : length (drop 4 head) ≡ count = omega (arith, length-drop 4 head, size) in
      let at_place : place + (5 + length (drop 4 head)) ≡ place + (5 + count) = omega arith in
      let short : length tail < most = omega (arith, length-append head tail) in
      ap (λ (f : Front). reading_after (reading_within most) place (1 ∷ (head ++ tail)) f) front_of
      ∙ (λ i. behind (drop 4 head ∷ []) (reading_within most (at_place i) (next_drop (length (drop 4 head)) content_size i)))
      ∙ ap (λ (r : Reading). behind (drop 4 head ∷ []) r) (same_reading most (suc (length tail)) (place + (5 + count)) tail short (omega arith))

  pub read_record_at : (place : ℕ) → reading_at place (1 ∷ (head ++ tail)) ≡ behind (drop 4 head ∷ []) (reading_at (place + (5 + count)) tail)
  unfolding reading_at
  read_record_at place = read_record (length (1 ∷ (head ++ tail))) place (omega arith)
