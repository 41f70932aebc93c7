-- The file of an aggregator without facts.
use Rattle.std.specs.List.{All}
use Rattle.std.proofs.Common.{◌≡◌, ◌≢◌, ℕ, ◌+◌, ◌<◌, ◌^◌, List, [], ◌∷◌, ◌++◌, length, Some, ap, subst, sym, arith}
use Rattle.std.proofs.lemmas.Nat.{from_be_bytes-to_be_bytes_4, from_be_bytes-to_be_bytes_8}
use Rattle.std.proofs.lemmas.List.Elements.{All-nil}
use Rattle.ksi_schedule.specs.Plans.{IsPlan, PlanState}
use Rattle.ksi_aggregator.specs.Lawful.{AreLawful}
use Rattle.ksi_disk.specs.declared.ending.Ending.TheVariants.{Closed}
use Rattle.ksi_disk.specs.Gates.{Reading, behind, ends, reading_of, records_text}
use Rattle.ksi_roundstore.specs.Headers.{empty_file, header_at, header_text}
use Rattle.ksi_roundstore.specs.Stores.{IsFileOf}
use Rattle.ksi_roundstore.specs.Written.{AreTexts}

-- reading a text again that was spelled so
abbrev pub ReadAgain : Type 0
ReadAgain = (header : List ℕ) (records : List (List ℕ)) (gate : ℕ) (rest : List ℕ) → All (λ content. length content < 2 ^ 32) records → gate ≢ 1
    → reading_of (length header) (header ++ (records_text records ++ gate ∷ rest)) ≡ behind records (ends (Closed (length header + length (records_text records))))

pub header_again : (me start : ℕ) → me < 2 ^ 32 → start < 2 ^ 64 → header_at (header_text me start) ≡ Some (record { aggregator = me; start = start })
header_again me start few early =
    λ i. Some (record { aggregator = from_be_bytes-to_be_bytes_4 me few i; start = from_be_bytes-to_be_bytes_8 start early i })

pub formatted_file : AreLawful [] → ReadAgain → (me : ℕ) (plan : PlanState) → me < length plan.parents → IsPlan plan → IsFileOf me plan [] (empty_file me plan.start)
formatted_file none again me plan member is =
    let many = is.many in
    let begins = is.core_plan.early in
    let few : me < 2 ^ 32 = omega arith in
    let early : plan.start < 2 ^ 64 = omega arith in
    let reads : reading_of 20 (empty_file me plan.start) ≡ ends (Closed 20) = again (header_text me plan.start) [] 0 [] (All-nil (λ (content : List ℕ). length content < 2 ^ 32)) (λ one. absurd (cc one)) in
    record {
      gate = 20;
      head = header_again me plan.start few early;
      texts = subst (λ (r : Reading). AreTexts plan me [] r.records) (sym reads) tt;
      lawful = none;
      closed = ap (λ (r : Reading). r.ending) reads;
    }
