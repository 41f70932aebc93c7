-- What is computed over the seconds of a folder.
use Rattle.std.specs.Prelude.{ℕ, nat_lt, if◌then◌else◌, List, Result, Ok, Err}
use Rattle.ksi_calendar.specs.Calendar.{Seconds, calendar_root}
use Rattle.ksi_consistency.specs.Elements as fronts
use Rattle.ksi_consistency.specs.Front.{calendar_front}
use Rattle.ksi_calendar_folder.specs.Folder.{Folder, ◌>>=◌, seconds_to}
use Rattle.ksi_calendar_folder.specs.declared.fault.FolderFault.{FolderFault}
use Rattle.ksi_calendar_folder.specs.declared.fault.FolderFault.TheVariants.{BeforeStart}

-- the root of the calendar from second 0 to p
abbrev pub root_in : (List ℕ → List ℕ) → Folder → ℕ → Result (List ℕ) FolderFault
root_in image folder p = seconds_to folder p >>= λ seconds. Ok (calendar_root image seconds p)

-- the front of the calendar to p1, which is not before the plan's first second, in that to p2
abbrev pub front_over : (List ℕ → List ℕ) → (p1 p2 : ℕ) → Seconds → Result fronts.Contents FolderFault
front_over image p1 p2 seconds = if nat_lt p1 seconds.start then Err (BeforeStart p1) else Ok (record { p1 = p1; p2 = p2; list = calendar_front image seconds p1 p2 })

abbrev pub front_in : (List ℕ → List ℕ) → Folder → (p1 p2 : ℕ) → Result fronts.Contents FolderFault
front_in image folder p1 p2 = seconds_to folder p2 >>= front_over image p1 p2
