-- The counts of the entries so far, as the code keeps them.
use Rattle.std.specs.Prelude.{ℕ, ◌+◌, List, if◌then◌else◌}
use Rattle.std.specs.Io.Iter.{u64_saturate}
use Rattle.ksi_schedule.specs.Pieces.{Text}
use Rattle.ksi_records.specs.declared.head.Head.{Head}
use Rattle.ksi_records.specs.declared.version.Version.{Version}
use Rattle.ksi_records.specs.declared.verdict.Counts.{Counts}
use Rattle.ksi_records.specs.declared.sum.Sum.{Sum}
use Rattle.ksi_records.specs.Entries.{Entry}
use Rattle.ksi_records.specs.Verdicts.{place_behind, how_many, is_unsaid, is_signature}
use Rattle.ksi_records.specs.Blocks.{lines_in}

-- of these entries
abbrev pub sum_of : List Entry → Sum
sum_of entries = record {
  place = place_behind entries;
  unsaid = u64_saturate (how_many (λ entry. is_unsaid entry.head) entries);
  signatures = u64_saturate (how_many (λ entry. is_signature entry.head entry.block) entries);
}

-- with one more
abbrev pub sum_with : Sum → Head → (block : Text) → Sum
sum_with sum head block = record {
  place = record {
    entry = u64_saturate (sum.place.entry + 1);
    line = u64_saturate (u64_saturate (sum.place.line + 1) + lines_in block);
  };
  unsaid = u64_saturate (sum.unsaid + (if is_unsaid head then 1 else 0));
  signatures = u64_saturate (sum.signatures + (if is_signature head block then 1 else 0));
}

abbrev pub counts_in : Version → (steps : ℕ) → Sum → Counts
counts_in version steps sum = record { version = version; steps = steps; unsaid = sum.unsaid; signatures = sum.signatures }
