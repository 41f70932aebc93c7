use Rattle.std.proofs.Common.{◌≡◌, take}
use Rattle.ksi_bench.proofs.calendars.calendar_of.Given as goal

abbrev pub invariant-loop-root : goal.invariant-loop-root
invariant-loop-root l = l.calendar ≡ record { start = 1700000000; roots = take l.root-index l.roots }
