-- The compacted text is a file.
use Rattle.std.proofs.Common.{◌≡◌, ◌≢◌, ◌∙◌, ℕ, ◌+◌, ◌<◌, ◌≤◌, ◌^◌, Bool, true, false, List, [], ◌∷◌, ◌++◌, length, take, Ok, Err, refl, sym, ap, subst, arith, append_assoc}
use Rattle.std.specs.Prelude.{◌&&◌, nat_le, bytes_eq, drop, slice_index, if◌then◌else◌}
use Rattle.std.specs.Int.{w64, from_be_bytes}
use Rattle.std.proofs.lemmas.Bool.{leb-true}
use Rattle.std.specs.List.{All}
use Rattle.std.proofs.lemmas.List.{append-nil, length-take}
use Rattle.std.proofs.Math.Seq.{take-append_seam, take-length}
use Rattle.ksi_synod.specs.CorePlans.{CorePlanState}
use Rattle.ksi_corenode.specs.declared.fact.Fact.{Fact}
use Rattle.ksi_corenode.specs.Lawful.{AreLawful}
use Rattle.ksi_disk.specs.declared.ending.Ending.TheVariants.{Closed}
use Rattle.ksi_disk.specs.Gates.{Reading, behind, ends, reading_of, records_text}
use Rattle.ksi_nodestore.specs.declared.heads.Header.{Header}
use Rattle.ksi_nodestore.specs.declared.heads.HeaderFault.TheVariants.{NotFormatted}
use Rattle.ksi_nodestore.specs.Headers.{good_header, header_at, magic}
use Rattle.ksi_nodestore.specs.Stores.{AreTexts, IsFileOf}
use Rattle.ksi_laws_forgetting.specs.Left.{AreHeld, left_of}
use Rattle.ksi_forgetting.specs.Puts.{is_early, IsPutAll}
use Rattle.ksi_forgetting.specs.Forgets.{IsFileLeft}
use Rattle.ksi_forgetting.proofs.PutBehind.{texts_size}

abbrev pub ReadAgain : Type 0
ReadAgain = (header : List ℕ) (records : List (List ℕ)) (gate : ℕ) (rest : List ℕ) → All (λ content. length content < 2 ^ 32) records → gate ≢ 1
    → reading_of (length header) (header ++ (records_text records ++ gate ∷ rest)) ≡ behind records (ends (Closed (length header + length (records_text records))))

new_file : ReadAgain → (me : ℕ) (plan : CorePlanState) (facts others : List Fact) (file header new : List ℕ) (left : List (List ℕ)) → IsFileOf me plan facts file → header ≡ take 18 file → length header ≡ 18
    → AreLawful plan.cores plan.start others → AreTexts others left → All (λ content. length content < 2 ^ 32) left → new ≡ header ++ (records_text left ++ 0 ∷ []) → IsFileOf me plan others new
new_file again me plan facts others file header new left of header_is size lawful texts small is =
    let read : reading_of 18 new ≡ behind left (ends (Closed (length header + length (records_text left)))) =
    ap (reading_of 18) is ∙ subst (λ (n : ℕ). reading_of n (header ++ (records_text left ++ 0 ∷ [])) ≡ behind left (ends (Closed (length header + length (records_text left))))) size (again header left 0 [] small (λ one. absurd (cc one))) in
    let records_are : left ≡ (reading_of 18 new).records = sym (ap (λ (r : Reading). r.records) read ∙ append-nil left) in
    let front : take 18 new ≡ header = ap (take 18) is ∙ ap (λ (n : ℕ). take n (header ++ (records_text left ++ 0 ∷ []))) (sym size) ∙ take-append_seam header (records_text left ++ 0 ∷ []) in
    record {
      gate = length header + length (records_text left);
      head = ap header_at (front ∙ header_is) ∙ of.head;
      are = record {
        texts = subst (λ (l : List (List ℕ)). AreTexts others l) records_are texts;
        lawful = lawful;
      };
      closed = ap (λ (r : Reading). r.ending) read;
    }

-- a text of this header, the records kept of a file, and a closed commit byte is a file of the facts left
pub file_left : ReadAgain → ((cores start : ℕ) (forgotten : ℕ → Bool) (facts : List Fact) → AreLawful cores start facts → AreLawful cores start (left_of forgotten facts))
    → (me : ℕ) (plan : CorePlanState) (horizon : ℕ) (facts : List Fact) (file header new old text : List ℕ) (records : List (List ℕ)) (total count : ℕ) → IsFileOf me plan facts file → AreHeld (is_early plan.start horizon) facts
    → header ≡ take 18 file → length header ≡ 18 → records ≡ (reading_of 18 file).records
    → IsPutAll (is_early plan.start horizon) records (length records) old text count → old ≡ header → new ≡ text ++ 0 ∷ [] → total ≡ length records → IsFileLeft me plan horizon file new total count
file_left again lawful_left me plan horizon facts file header new old text records total count of held header_is size records_are put old_is is totals =
    let are : AreTexts facts records = subst (λ (l : List (List ℕ)). AreTexts facts l) (sym records_are) of.are.texts in
    let many : length facts ≡ length records = texts_size facts records are in
    let forgotten : ℕ → Bool = is_early plan.start horizon in
    let whole : take (length records) facts ≡ facts = ap (λ (n : ℕ). take n facts) (sym many) ∙ take-length facts in
    let texts : AreTexts (left_of forgotten facts) put.left = subst (λ (l : List Fact). AreTexts (left_of forgotten l) put.left) whole (put.texts facts are) in
    let text_is : new ≡ header ++ (records_text put.left ++ 0 ∷ []) = is ∙ ap (λ (l : List ℕ). l ++ 0 ∷ []) (put.text_is ∙ ap (λ (l : List ℕ). l ++ records_text put.left) old_is) ∙ append_assoc header (records_text put.left) (0 ∷ []) in
    record {
      facts = facts;
      held = held;
      old_file = of;
      new_file = new_file again me plan facts (left_of forgotten facts) file header new put.left of header_is size (lawful_left plan.cores plan.start forgotten facts of.are.lawful) texts put.small text_is;
      counted = totals ∙ sym many;
      counted_left = put.counted ∙ sym (texts_size (left_of forgotten facts) put.left texts);
    }

-- a file with a header has its 18 bytes
pub long_enough : (file : List ℕ) (head : Header) → header_at (take 18 file) ≡ Ok head → 18 ≤ length file
long_enough file head is = by (nat_le 18 (length (take 18 file))) refl
  where
    bytes : List ℕ
    bytes = take 18 file

    by : (b : Bool) → nat_le 18 (length (take 18 file)) ≡ b → 18 ≤ length file
    by true long = omega (arith, leb-true 18 (length (take 18 file)) long, length-take 18 file)
    by false short = absurd (none (sym (ap (λ (b : Bool). if b && bytes_eq (take 8 bytes) magic then good_header (slice_index bytes 8) (slice_index bytes 9) (from_be_bytes w64 (take 8 (drop 10 bytes))) else Err NotFormatted) short) ∙ is))
      where
        none : Err NotFormatted ≡ Ok head → ⊥
        none e = cc e
