use Rattle.std.proofs.Common.{◌≡◌, length}
use Rattle.ksi_file_tests.proofs.calendars.calendar_of.Given as goal

abbrev pub invariant-loop-first : goal.invariant-loop-first
invariant-loop-first l = record {
  start : l.calendar.start ≡ l.start;
  count : length l.calendar.roots ≡ l.first-index;
}
