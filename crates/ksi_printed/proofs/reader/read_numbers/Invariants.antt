use Rattle.std.proofs.Common.{◌≡◌, ◌+◌, ◌*◌, ◌-◌, [], drop, length}
use Rattle.ksi_printed.specs.Reading.{numbers_from}
use Rattle.ksi_printed.proofs.reader.read_numbers.Given as goal

-- the numbers of the groups so far, and the others are read from there on
abbrev pub invariant-reading : goal.invariant-reading
invariant-reading l = record {
  so_far : numbers_from [] 0 21 l.groups ≡ numbers_from l.numbers.items l.done (21 - l.done) (drop (5 * l.done) l.groups);
  count : length l.numbers.items ≡ l.done;
}
