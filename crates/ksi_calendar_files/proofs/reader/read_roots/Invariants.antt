use Rattle.std.proofs.Common.{◌≡◌, ◌+◌, ◌*◌, ◌-◌, [], drop, length}
use Rattle.std.specs.List.{AllByRecursion}
use Rattle.ksi_imprint.specs.Imprints.{IsImprint}
use Rattle.ksi_calendar_files.specs.Reading.{roots_from}
use Rattle.ksi_calendar_files.proofs.reader.read_roots.Given as goal

-- the first `done` imprints have been read, and the rest of the file holds the others
abbrev pub invariant-reading : goal.invariant-reading
invariant-reading l = record {
  so_far : roots_from [] 61 l.count l.bytes ≡ roots_from l.roots.items (61 + 33 * l.done) (l.count - l.done) (drop (33 * l.done) l.bytes);
  count : length l.roots.items ≡ l.done;
  imprints : AllByRecursion IsImprint l.roots.items;
}
