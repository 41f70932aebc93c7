-- The text of what is left is a file.
use Rattle.std.proofs.Common.{◌≡◌, ◌∙◌, ℕ, ◌+◌, ◌<◌, ◌≤◌, ◌^◌, Bool, true, false, List, [], ◌∷◌, ◌++◌, length, take, Some, None, refl, sym, ap, subst, arith, append_assoc}
use Rattle.std.specs.Prelude.{◌&&◌, nat_lt, nat_le, is_some, bytes_eq, drop, if◌then◌else◌}
use Rattle.std.specs.Int.{w32, w64, from_be_bytes}
use Rattle.std.proofs.lemmas.Bool.{leb-true}
use Rattle.std.proofs.lemmas.Option.{none-some}
use Rattle.std.specs.List.{All}
use Rattle.std.proofs.lemmas.List.{append-nil, length-take}
use Rattle.std.proofs.Math.Seq.{take-append_seam, take-length}
use Rattle.ksi_schedule.specs.Plans.{PlanState}
use Rattle.ksi_aggregator.specs.declared.fact.Fact.{Fact}
use Rattle.ksi_aggregator.specs.Lawful.{stored_by, AreLawful}
use Rattle.ksi_disk.specs.declared.ending.Ending.TheVariants.{Closed}
use Rattle.ksi_disk.specs.Gates.{Reading, behind, ends, reading_of, records_text}
use Rattle.ksi_roundstore.specs.declared.heads.Header.{Header}
use Rattle.ksi_roundstore.specs.Headers.{header_at, magic}
use Rattle.ksi_roundstore.specs.StoreState.{records_in}
use Rattle.ksi_roundstore.specs.Stores.{IsFileOf}
use Rattle.ksi_roundstore.specs.Written.{AreTexts}
use Rattle.ksi_roundstore.specs.Left.{is_forgotten, left_before, left_of}
use Rattle.ksi_roundstore.specs.Kinds.{IsPutAll}
use Rattle.ksi_roundstore.specs.Forgets.{IsFileLeft}
use Rattle.ksi_roundstore.proofs.Folded.{texts_size}
use Rattle.ksi_roundstore.proofs.Formatted.{ReadAgain}

abbrev header_in : List ℕ → Header
header_in bytes = record { aggregator = from_be_bytes w32 (take 4 (drop 8 bytes)); start = from_be_bytes w64 (take 8 (drop 4 (drop 8 bytes))) }

new_file : ReadAgain → (me : ℕ) (plan : PlanState) (facts others : List Fact) (file header new : List ℕ) (left : List (List ℕ)) → IsFileOf me plan facts file → header ≡ take 20 file → length header ≡ 20
    → AreLawful others → AreTexts plan me others left → All (λ content. length content < 2 ^ 32) left → new ≡ header ++ (records_text left ++ 0 ∷ []) → IsFileOf me plan others new
new_file again me plan facts others file header new left of header_is size lawful texts small is =
    let read : reading_of 20 new ≡ behind left (ends (Closed (length header + length (records_text left)))) =
    ap (reading_of 20) is ∙ subst (λ (n : ℕ). reading_of n (header ++ (records_text left ++ 0 ∷ [])) ≡ behind left (ends (Closed (length header + length (records_text left))))) size (again header left 0 [] small (λ one. absurd (cc one))) in
    let records_are : left ≡ records_in new = sym (ap (λ (r : Reading). r.records) read ∙ append-nil left) in
    let front : take 20 new ≡ header = ap (take 20) is ∙ ap (λ (n : ℕ). take n (header ++ (records_text left ++ 0 ∷ []))) (sym size) ∙ take-append_seam header (records_text left ++ 0 ∷ []) in
    record {
      gate = length header + length (records_text left);
      head = ap header_at (front ∙ header_is) ∙ of.head;
      texts = subst (λ (l : List (List ℕ)). AreTexts plan me others l) records_are texts;
      lawful = lawful;
      closed = ap (λ (r : Reading). r.ending) read;
    }

same_left : (plan : PlanState) (me before : ℕ) (facts : List Fact) (noted : ℕ → Bool) → ((t : ℕ) → noted t ≡ is_some (stored_by facts t).answered) → left_of (λ t. nat_lt t before && noted t) facts ≡ left_before before facts
same_left plan me before facts noted is =
    let same : (λ (t : ℕ). nat_lt t before && noted t) ≡ is_forgotten before (stored_by facts) = (λ i t. nat_lt t before && is t i) in
    ap (λ (forgotten : ℕ → Bool). left_of forgotten facts) same

-- a text with this header, with what was put of the records of a file, and with a closed gate is a file of what is left of its facts
pub file_left : ReadAgain → ((forgotten : ℕ → Bool) (facts : List Fact) → AreLawful facts → AreLawful (left_of forgotten facts))
    → (me : ℕ) (plan : PlanState) (before : ℕ) (facts : List Fact) (file header new old text : List ℕ) (records : List (List ℕ)) (noted : ℕ → Bool) (total count : ℕ) → IsFileOf me plan facts file → header ≡ take 20 file → length header ≡ 20 → records ≡ records_in file
    → ((others : List Fact) → AreTexts plan me others records → (t : ℕ) → noted t ≡ is_some (stored_by others t).answered)
    → IsPutAll plan me (λ t. nat_lt t before && noted t) records (length records) old text count → old ≡ header → new ≡ text ++ 0 ∷ [] → total ≡ length records → IsFileLeft me plan before file new total count
file_left again lawful_left me plan before facts file header new old text records noted total count of header_is size records_are notes put old_is is totals =
    let are : AreTexts plan me facts records = subst (λ (l : List (List ℕ)). AreTexts plan me facts l) (sym records_are) of.texts in
    let many : length facts ≡ length records = texts_size plan me facts records are in
    let forgotten : ℕ → Bool = (λ t. nat_lt t before && noted t) in
    let whole : take (length records) facts ≡ facts = ap (λ (n : ℕ). take n facts) (sym many) ∙ take-length facts in
    let same : left_of forgotten facts ≡ left_before before facts = same_left plan me before facts noted (notes facts are) in
    let texts : AreTexts plan me (left_before before facts) put.left = subst (λ (l : List Fact). AreTexts plan me l put.left) (ap (left_of forgotten) whole ∙ same) (put.texts facts are) in
    let text_is : new ≡ header ++ (records_text put.left ++ 0 ∷ []) = is ∙ ap (λ (l : List ℕ). l ++ 0 ∷ []) (put.text_is ∙ ap (λ (l : List ℕ). l ++ records_text put.left) old_is) ∙ append_assoc header (records_text put.left) (0 ∷ []) in
    record {
      facts = facts;
      old_file = of;
      new_file = new_file again me plan facts (left_before before facts) file header new put.left of header_is size (subst AreLawful same (lawful_left forgotten facts of.lawful)) texts put.small text_is;
      counted = totals ∙ sym many;
      counted_left = put.counted ∙ sym (texts_size plan me (left_before before facts) put.left texts);
    }

-- a file with a header has its 20 bytes
pub long_enough : (file : List ℕ) (head : Header) → header_at (take 20 file) ≡ Some head → 20 ≤ length file
long_enough file head is = by (nat_le 20 (length (take 20 file))) refl
  where
    by : (b : Bool) → nat_le 20 (length (take 20 file)) ≡ b → 20 ≤ length file
    by true long = omega (arith, leb-true 20 (length (take 20 file)) long, length-take 20 file)
    by false short = absurd (none-some head (sym (ap (λ (b : Bool). if b && bytes_eq (take 8 (take 20 file)) magic then Some (header_in (take 20 file)) else None) short) ∙ is))
