-- What each line of a schedule adds to what the lines before it say.
use Rattle.std.specs.Prelude.{ℕ, zero, suc, ◌-◌, ◌^◌, List, [], ◌∷◌, ◌++◌, length, codes, Bool, true, false, ◌&&◌, ◌==◌, nat_lt, nat_le, Option, Some, None, Result, Ok, Err, if◌then◌else◌}
use Rattle.std.specs.Str.{bytes_eq}
use Rattle.ksi_schedule.specs.Pieces.{Text, words}
use Rattle.ksi_schedule.specs.Plans.{PlanState, parent_of}
use Rattle.ksi_schedule.specs.Events.{History, with_event}
use Rattle.ksi_schedule.specs.Decimal.{number_of}
use Rattle.ksi_schedule.specs.Words.{or_fault, form_at, kind_at, ◌>>=◌}
use Rattle.ksi_schedule.specs.Forms.{event_kinds, aggregator_line}
use Rattle.ksi_schedule.specs.Members.{members_name, members_at, next_members}
use Rattle.ksi_schedule.specs.declared.version.Version.{Version}
use Rattle.ksi_schedule.specs.declared.version.Version.TheVariants.{One, Two}
use Rattle.ksi_schedule.specs.declared.actor.Actor.{Actor}
use Rattle.ksi_schedule.specs.declared.parent.Parent.{Parent}
use Rattle.ksi_schedule.specs.declared.actor.Actor.TheVariants as actors
use Rattle.ksi_schedule.specs.declared.fault.LineFault.{LineFault}
use Rattle.ksi_schedule.specs.declared.fault.LineFault.TheVariants.{Word, TooManyEvents, Header}

-- what the lines so far say
pub data Said : Type 0 where
  nothing : Said
  title : Version → Said
  -- the number of cores
  cores : Version → ℕ → Said
  history : Version → History → Said

-- ---- the first three lines

abbrev pub version_in : Text → Option Version
version_in line =
    if bytes_eq line (codes "ksi-schedule 1") then Some One else (
    if bytes_eq line (codes "ksi-schedule 2") then Some Two else None)

abbrev pub number_behind : Text → List Text → Option ℕ
number_behind name (first ∷ number ∷ []) = if bytes_eq first name then number_of number else None
number_behind name words = None

abbrev pub within : (low high : ℕ) → Option ℕ → Option ℕ
within low high None = None
within low high (Some n) = if nat_le low n && nat_le n high then Some n else None

-- the number of a line of a name and a number that lies between both bounds
unfoldable pub number_in : (name : Text) → (low high : ℕ) → (line : Text) → Result ℕ LineFault
number_in name low high line = or_fault Header (within low high (number_behind name (words line)))

-- all cores vote, no aggregators and no events
abbrev pub bare : (cores start : ℕ) → History
bare n start = record { plan = record { cores = n; start = start; voters = []; parents = [] }; events = [] }

-- ---- the lines after them

abbrev pub with_parent : PlanState → Parent → PlanState
with_parent plan parent = record { cores = plan.cores; start = plan.start; voters = plan.voters; parents = plan.parents ++ parent ∷ [] }

-- whether a core is reached from the actor in this many steps up, or fewer
unfoldable pub reaches_core : PlanState → (steps : ℕ) → Actor → Bool
reaches_core plan steps (actors.Core j) = nat_lt j plan.cores
reaches_core plan zero (actors.Aggregator k) = false
reaches_core plan (suc steps) (actors.Aggregator k) = reaches_core plan steps (parent_of plan k)

-- one aggregator more: the next number, at most 4,096 of them, and at most eight above one another
unfoldable pub next_parent : History → ℕ × Parent → Result History LineFault
next_parent h said =
    if said.0 == length h.plan.parents && nat_lt (length h.plan.parents) 4096 && reaches_core h.plan 7 said.1.actor
    then Ok (record { plan = with_parent h.plan said.1; events = h.events }) else Err Header

abbrev pub is_empty : {A : Type 0} → List A → Bool
is_empty [] = true
is_empty (x ∷ xs) = false

-- whether a line may say who votes: in version 2, while there is no aggregator and no event
abbrev pub takes_members : Version → History → Bool
takes_members One h = false
takes_members Two h = is_empty h.plan.parents && is_empty h.events

-- a line of these words: an aggregator while there is no event, who votes while that may be said, else the next event of
-- at most a million
unfoldable pub next_in : Version → History → List Text → Result History LineFault
next_in version h [] = Err Word
next_in version h (name ∷ words) =
    if nat_le 1000000 (length h.events) then Err TooManyEvents else (
    if bytes_eq name (aggregator_line version).name && is_empty h.events
    then (form_at h.plan (aggregator_line version).forms words >>= next_parent h) else (
    if bytes_eq name members_name && takes_members version h
    then (members_at h.plan words >>= next_members h)
    else (kind_at h.plan (event_kinds version) name words >>= λ event. Ok (with_event h event))))

-- ---- any line

-- what is said with one line more, or the fault of that line
unfoldable pub with_line : Said → Text → Result Said LineFault
with_line nothing line = or_fault Header (version_in line) >>= λ version. Ok (title version)
with_line (title version) line = number_in (codes "cores") 1 9 line >>= λ n. Ok (cores version n)
with_line (cores version n) line = number_in (codes "start") 0 (2 ^ 63 - 2 ^ 24) line >>= λ start. Ok (history version (bare n start))
with_line (history version h) line = next_in version h (words line) >>= λ next. Ok (history version next)
