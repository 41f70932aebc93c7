-- What a drill counts: the schedule of a number is run, and every issued signature is put to the test.
use Rattle.std.specs.Prelude.{ℕ, Bool, List, length}
use Rattle.std.specs.List.{filter}
use Rattle.std.specs.Str.{bytes_eq}
use Rattle.ksi_imprint.specs.Imprints.{imprint_of, zero_imprint}
use Rattle.ksi_replay.specs.Generate.{generated}
use Rattle.ksi_aggtree.specs.declared.second.Second.{Second}
use Rattle.ksi_journal.specs.Journal.{Contents}
use Rattle.ksi_replay.specs.Journals.{journal_of}
use Rattle.ksi_schedule.specs.Events.{History}
use Rattle.ksi_world.specs.Histories.{world_of}
use Rattle.ksi_replay.specs.declared.tally.Tally.{Tally}
use Rattle.ksi_replay.specs.declared.trial.Trial.{Trial}
use Rattle.ksi_replay.specs.Covered.{greatest_covered}
use Rattle.ksi_replay.specs.Trials.{trials}

-- a kept second was missed where its root is the zero imprint
abbrev pub is_missed : Second → Bool
is_missed kept = bytes_eq kept.root zero_imprint

-- how many there are for which this is so
abbrev pub count : {A : Type 0} → (A → Bool) → List A → ℕ
count test xs = length (filter test xs)

-- the kept seconds and the missed ones, the issued signatures, and what their trials say
abbrev pub tally_with : Contents → List Trial → Tally
tally_with journal trials = record {
  seconds = length journal.seconds;
  missed = count is_missed journal.seconds;
  issued = length journal.issued;
  accepted = count (λ (trial : Trial). trial.accepted) trials;
  inside = count (λ (trial : Trial). trial.inside) trials;
  beneath = count (λ (trial : Trial). trial.beneath) trials;
}

-- each issued signature is extended to the greatest covered second, and is tried against its root
unfoldable pub tally_of : (List ℕ → List ℕ) → History → Contents → Tally
tally_of image history journal = tally_with journal (trials image (world_of image history).requests journal (greatest_covered journal))

-- of the schedule of a number and its journal
unfoldable pub drilled : (number : ℕ) → Tally
drilled number = tally_of imprint_of (generated number) (journal_of imprint_of (generated number))
