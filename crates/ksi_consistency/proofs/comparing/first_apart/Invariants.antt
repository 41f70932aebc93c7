use Rattle.std.proofs.Common.{◌≡◌, ◌<◌, ◌≤◌, ℕ}
use Rattle.ksi_calendar.specs.Calendar.{calendar_leaf}
use Rattle.ksi_consistency.proofs.comparing.first_apart.Given as goal

abbrev pub invariant-loop-second : goal.invariant-loop-second
invariant-loop-second g l = (t : ℕ) → l.begin ≤ t → t < l.second → calendar_leaf l.old.calendar.now t ≡ calendar_leaf l.new.calendar.now t
