-- The settled seconds, which are those from the start up to the first that is not held; and the calendar over them.
use Rattle.std.specs.Prelude.{◌≡◌, ℕ, ◌+◌, ◌^◌, ◌<◌, ◌≤◌, length, slice_get, IsSome, None}
use Rattle.ksi_calendar.specs.Calendar.{Seconds}
use Rattle.ksi_calendar.specs.Covered.{Roots}

-- exactly this many seconds from the start on are held without a gap
pub record IsSettled (held : Roots) (start count : ℕ) : Type 0 where
  pub each : (t : ℕ) → start ≤ t → t < start + count → IsSome (held t)
  pub next : start + count < 2 ^ 64 → held (start + count) ≡ None

-- the calendar begins at the start, and its leaves are the held roots up to the first second that is not held, or to 2^63
pub record IsCalendarOf (held : Roots) (start : ℕ) (calendar : Seconds) : Type 0 where
  pub begins : calendar.start ≡ start
  pub most : (k : ℕ) → k < length calendar.roots → start + k < 2 ^ 63
  pub roots : (k : ℕ) → k ≤ length calendar.roots → start + k < 2 ^ 63 → held (start + k) ≡ slice_get calendar.roots k
