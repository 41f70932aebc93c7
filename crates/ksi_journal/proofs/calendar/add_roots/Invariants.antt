use Rattle.std.proofs.Common.{◌≡◌, ℕ, ◌+◌, ◌++◌, ◌^◌, ◌≤◌, List, drop, length}
use Rattle.ksi_calendar.specs.Calendar.{Seconds}
use Rattle.ksi_journal.specs.Calendar.{roots_from}
use Rattle.ksi_journal.proofs.calendar.add_roots.Given as goal

-- the roots so far and those that still come are all
pub record Adding (start : ℕ) (new : Seconds) (left all : List (List ℕ)) : Type 0 where
  pub first : new.start ≡ start
  pub early : new.start + length new.roots ≤ 2 ^ 63
  pub whole : new.roots ++ left ≡ all

abbrev pub invariant-adding : goal.invariant-adding
invariant-adding g l = Adding l.start l.calendar (roots_from (l.start + length l.calendar.roots) (drop l.kept-index l.seconds)) (roots_from l.start l.seconds)
