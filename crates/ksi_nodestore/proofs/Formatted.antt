-- The file of a core without facts.
use Rattle.std.specs.List.{All}
use Rattle.std.proofs.Common.{◌≡◌, ◌≢◌, ℕ, ◌+◌, ◌-◌, ◌≤◌, ◌<◌, ◌^◌, Bool, true, if◌then◌else◌, List, [], ◌∷◌, ◌++◌, length, Ok, Err, ◌∙◌, ap, subst, sym, arith}
use Rattle.std.proofs.lemmas.Nat.{from_be_bytes-to_be_bytes_8}
use Rattle.std.proofs.lemmas.Bool.Decides.{nat_tests}
use Rattle.std.proofs.lemmas.List.Elements.{All-nil}
use Rattle.ksi_synod.specs.CorePlans.{CorePlanState, IsCorePlan}
use Rattle.ksi_corenode.specs.Lawful.{AreLawful}
use Rattle.ksi_disk.specs.declared.ending.Ending.TheVariants.{Closed}
use Rattle.ksi_disk.specs.Gates.{Reading, behind, ends, reading_of, records_text}
use Rattle.ksi_nodestore.specs.declared.heads.HeaderFault.TheVariants.{Bad}
use Rattle.ksi_nodestore.specs.Headers.{header_text, is_good, good_header, header_at, empty_file}
use Rattle.ksi_nodestore.specs.Stores.{AreTexts, IsFileOf}

good_numbers : (me cores start : ℕ) → me < cores → cores ≤ 9 → start ≤ 2 ^ 63 - 2 ^ 24 → is_good me cores start ≡ true
good_numbers me cores start member few early = grind (arith, nat_tests)

pub header_again : (me cores start : ℕ) → me < cores → cores ≤ 9 → start ≤ 2 ^ 63 - 2 ^ 24 → header_at (header_text me cores start) ≡ Ok (record { core = me; cores = cores; start = start })
header_again me cores start member few early =
    let fits : start < 2 ^ 64 = omega arith in
    ap (λ (n : ℕ). good_header me cores n) (from_be_bytes-to_be_bytes_8 start fits)
    ∙ ap (λ (b : Bool). if b then Ok (record { core = me; cores = cores; start = start }) else Err (Bad me cores start)) (good_numbers me cores start member few early)

pub formatted_file : ((cores start : ℕ) → AreLawful cores start []) → ((header : List ℕ) (records : List (List ℕ)) (gate : ℕ) (rest : List ℕ) → All (λ content. length content < 2 ^ 32) records → gate ≢ 1
    → reading_of (length header) (header ++ (records_text records ++ gate ∷ rest)) ≡ behind records (ends (Closed (length header + length (records_text records)))))
    → (me : ℕ) (plan : CorePlanState) → me < plan.cores → IsCorePlan plan → IsFileOf me plan [] (empty_file me plan.cores plan.start)
formatted_file none again me plan member is =
    let few = is.few in
    let early = is.early in
    let reads : reading_of 18 (empty_file me plan.cores plan.start) ≡ ends (Closed 18) = again (header_text me plan.cores plan.start) [] 0 [] (All-nil (λ (content : List ℕ). length content < 2 ^ 32)) (λ one. absurd (cc one)) in
    record {
      gate = 18;
      head = header_again me plan.cores plan.start member few early;
      are = record { texts = subst (λ (r : Reading). AreTexts [] r.records) (sym reads) tt; lawful = none plan.cores plan.start };
      closed = ap (λ (r : Reading). r.ending) reads;
    }
