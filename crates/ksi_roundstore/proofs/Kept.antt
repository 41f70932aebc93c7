-- A store goes on with the record of a fact.
use Rattle.std.proofs.Common.{◌≡◌, inl, ℕ, ◌+◌, ◌<◌, ◌^◌, List, [], ◌∷◌, length, Option, Some, None, refl, sym, subst, ap, arith, length-append}
use Rattle.ksi_aggregator.specs.declared.fact.Fact.{Fact}
use Rattle.ksi_aggregator.specs.Rounds.{AggregatorState}
use Rattle.ksi_disk.specs.Images.{LeavesOnly}
use Rattle.ksi_disk.specs.ImageLaws.{leaves_now}
use Rattle.ksi_disk.specs.declared.ending.Ending.TheVariants.{Closed}
use Rattle.ksi_disk.specs.declared.log.GateLog.{GateLog}
use Rattle.ksi_disk.specs.Logs.{IsSettled}
use Rattle.ksi_disk.specs.Gates.{place_of, reading_of, records_text}
use Rattle.ksi_roundstore.specs.StoreState.{IsStored, records_in}
use Rattle.ksi_roundstore.specs.Takes.{HasEither, HasMore, HasStored, count_new}
use Rattle.ksi_roundstore.specs.Texts.{fact_text, with_record}
use Rattle.ksi_roundstore.proofs.Along.{few_records}

module _ {D : Type 0} (content : D → List ℕ) (images : D → List ℕ → Type 0) (log : GateLog D) (settled : IsSettled content images log) (from : log.from ≡ 20) where
  standing : (reading_of 20 (content log.disk)).ending ≡ Closed log.gate
  standing = subst (λ (n : ℕ). (reading_of n (content log.disk)).ending ≡ Closed log.gate) from settled.standing

  -- the file has its own records
  pub same_file : HasMore (content log.disk) None (content log.disk)
  same_file = record { gate = log.gate; head = refl; kept = refl; closed = standing }

  pub nothing_stored : HasStored content images None log log
  nothing_stored = record { settled = settled; from = from; file = same_file }

  -- whatever a crash leaves now has these records
  pub left_now : (moment : D → ℕ) (images_since : D → ℕ → List ℕ → Type 0) (fact : Option Fact) → ((image : List ℕ) → images_since log.disk (moment log.disk) image → images log.disk image)
      → LeavesOnly moment images_since log.disk log.disk (HasEither (content log.disk) fact)
  left_now moment images_since fact only_now =
      leaves_now moment images_since log.disk (HasEither (content log.disk) fact)
      (λ image left. inl (subst (λ (l : List ℕ). HasMore (content log.disk) None l) (sym (settled.durable image (only_now image left))) same_file))

  -- there is room to count one record more
  pub room_left : (records : ℕ) → records ≡ length (records_in (content log.disk)) → 20 + length (records_text (records_in (content log.disk))) ≡ place_of (reading_of 20 (content log.disk)).ending → records + 1 < 2 ^ 64
  room_left records counted stand = omega (arith, counted, few_records (records_in (content log.disk)), stand, ap place_of standing, settled.within)

counted_more : (records : List (List ℕ)) (fact : Option Fact) → length (with_record records fact) ≡ length records + count_new fact
counted_more records None = omega arith
counted_more records (Some fact) = omega (arith, length-append records (fact_text fact ∷ []))

-- the store after an event that adds this fact, if any
pub stored_on : {D : Type 0} (content : D → List ℕ) (images : D → List ℕ → Type 0) (old new : GateLog D) (aggregator : AggregatorState) (records more : ℕ) (fact : Option Fact)
    → records ≡ length (records_in (content old.disk)) → more ≡ count_new fact → HasStored content images fact old new
    → IsStored content images (record { aggregator = aggregator; log = new; records = records + more })
stored_on content images old new aggregator records more fact counted is stored = record {
  settled = stored.settled;
  from = stored.from;
  counted = omega (arith, counted, is, counted_more (records_in (content old.disk)) fact, ap (λ (l : List (List ℕ)). length l) stored.file.kept);
}
