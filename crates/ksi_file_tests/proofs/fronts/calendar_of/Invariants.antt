use Rattle.std.proofs.Common.{◌≡◌, length}
use Rattle.ksi_file_tests.proofs.fronts.calendar_of.Given as goal

abbrev pub invariant-loop-first : goal.invariant-loop-first
invariant-loop-first g l = record {
  start : l.calendar.start ≡ 0;
  count : length l.calendar.roots ≡ l.first-index;
}
