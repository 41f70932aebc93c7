-- Which texts are which schedule, and the first fault of a text that is none.
use Rattle.std.specs.Prelude.{◌≡◌, ◌⊎◌, ℕ, ◌+◌, List, [], ◌∷◌, ◌++◌, length, Result, Ok, Err, IsOk}
use Rattle.ksi_imprint.specs.declared.refused.Refused.{Refused}
use Rattle.ksi_imprint.specs.declared.refused.Refused.TheVariants as refused
use Rattle.ksi_schedule.specs.Pieces.{Text, lines, words}
use Rattle.ksi_schedule.specs.Events.{History}
use Rattle.ksi_schedule.specs.Lines.{Said, nothing, history, next_in, with_line}
use Rattle.ksi_schedule.specs.declared.version.Version.{Version}
use Rattle.ksi_schedule.specs.declared.fault.LineFault.{LineFault}
use Rattle.ksi_schedule.specs.declared.fault.LineFault.TheVariants.{Header}
use Rattle.ksi_schedule.specs.declared.fault.ScheduleFault.{ScheduleFault}
use Rattle.ksi_schedule.specs.declared.fault.ScheduleFault.TheVariants as faults

-- each line, in its turn, adds what it says to what is said before it
abbrev pub Says : Said → List Text → Said → Type 0
Says before [] after = before ≡ after
Says before (line ∷ others) after = (said : Said) × (with_line before line ≡ Ok said) × Says said others after

-- the lines of the text say the plan and the events, in one of the versions
abbrev pub IsScheduleText : Text → History → Type 0
IsScheduleText text h = (version : Version) × Says nothing (lines text) (history version h)

-- the lines before line n, counted from 1, say something, and it has the fault
pub record IsFaultyLine (text : Text) (fault : LineFault) (n : ℕ) : Type 0 where
  pub before : List Text
  pub line : Text
  pub others : List Text
  pub split : lines text ≡ before ++ line ∷ others
  pub number : n ≡ length before + 1
  pub said : Said
  pub says : Says nothing before said
  pub stands : with_line said line ≡ Err fault

abbrev pub IsPlanned : Said → Type 0
IsPlanned (history version h) = Unit {0}
IsPlanned _ = ⊥

-- the text has fewer than three lines, and the fault is on the line after the last
pub record IsCutShort (text : Text) (fault : LineFault) (n : ℕ) : Type 0 where
  pub said : Said
  pub says : Says nothing (lines text) said
  pub short : ¬ IsPlanned said
  pub named : fault ≡ Header
  pub number : n ≡ length (lines text) + 1

abbrev pub IsScheduleFault : Text → LineFault → ℕ → Type 0
IsScheduleFault text fault n = IsFaultyLine text fault n ⊎ IsCutShort text fault n

-- after the lines so far, memory ran out for an aggregator or an event, whose line has no fault, and no line before it
-- has one
pub record IsWantingFrom (said : Said) (ls : List Text) : Type 0 where
  pub before : List Text
  pub line : Text
  pub others : List Text
  pub split : ls ≡ before ++ line ∷ others
  pub version : Version
  pub h : History
  pub says : Says said before (history version h)
  pub fine : IsOk (next_in version h (words line))

abbrev pub IsWanting : Text → Type 0
IsWanting text = IsWantingFrom nothing (lines text)

-- ---- answers of `read_schedule`

-- the schedule is that of the text, and a fault is its first
abbrev pub Tells : Text → Result History (Refused ScheduleFault) → Type 0
Tells text (Ok h) = IsScheduleText text h
Tells text (Err (refused.Fault (faults.Line fault n))) = IsScheduleFault text fault n
Tells text (Err refused.NoMemory) = Unit {0}

-- this schedule is given, or there is no memory
abbrev pub Gives : History → Result History (Refused ScheduleFault) → Type 0
Gives h (Ok read) = read ≡ h
Gives h (Err (refused.Fault (faults.Line fault n))) = ⊥
Gives h (Err refused.NoMemory) = Unit {0}

-- this fault is given, or there is no memory
abbrev pub Refuses : LineFault → ℕ → Result History (Refused ScheduleFault) → Type 0
Refuses fault n (Ok read) = ⊥
Refuses fault n (Err (refused.Fault (faults.Line given line))) = (given ≡ fault) × (line ≡ n)
Refuses fault n (Err refused.NoMemory) = Unit {0}
