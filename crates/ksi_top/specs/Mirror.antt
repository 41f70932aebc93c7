-- The command `mirror`.
use Rattle.std.specs.Prelude.{◌≡◌, ℕ, ◌<◌, List, [], ◌∷◌, codes, length, nat_lt, if◌then◌else◌, Ok}
use Rattle.std.specs.Fmt.{decimal}
use Rattle.ksi_imprint.specs.Imprints.{imprint_of}
use Rattle.ksi_schedule.specs.Events.{History}
use Rattle.ksi_schedule.specs.Spelled.{IsScheduleText}
use Rattle.ksi_mirror.specs.File.{IsMirrorFile}
use Rattle.ksi_mirror.specs.Merging.{MayMerge}
use Rattle.ksi_mirror.specs.Mirrors.{MirrorState, IsMirror}
use Rattle.ksi_mirror.specs.Whole.{whole_of}
use Rattle.ksi_mirror.specs.Written.{mirror_text}
use Rattle.ksi_replay.specs.Gatherings.{Gathering, ComesTo, HasAllEnds, seconds_alone}
use Rattle.ksi_replay.specs.Journals.{journal_of}
use Rattle.ksi_replay.specs.Mirrors.{mirror_of}
use Rattle.ksi_lines.specs.Lines.{line_text}
use Rattle.ksi_top.specs.declared.report.Report.{Report}
use Rattle.ksi_top.specs.declared.status.Status.TheVariants as statuses
use Rattle.ksi_top.specs.Reports.{CommandRow, report, saving, ends, behind, WhereRead}
use Rattle.ksi_top.specs.Loading.{content, loaded_schedule, file_limit}

abbrev pub mirrored_line : (core roots : ℕ) → List ℕ
mirrored_line core roots = line_text (codes "mirror" ∷ decimal core ∷ decimal roots ∷ [])

abbrev pub no_core_line : (core : ℕ) → List ℕ
no_core_line core = line_text (codes "no" ∷ codes "core" ∷ decimal core ∷ [])

-- how many roots there are; the mirror is saved
abbrev pub mirror_saved : (core : ℕ) (out : List ℕ) → MirrorState → Report
mirror_saved core out mirror = saving (mirrored_line core (length mirror.roots)) out (mirror_text mirror)

-- the mirror of the core, where the plan has it
abbrev pub mirrored : (core : ℕ) (out : List ℕ) → History → Report
mirrored core out h = if nat_lt core h.plan.cores then mirror_saved core out (mirror_of imprint_of h core) else report statuses.Refused (no_core_line core)

-- mirrors of the cores of this history merge in any order, at any moments; and where those of all cores at its end are among
-- them, they come to what the history keeps
pub record MirrorsMerge (history : History) : Type 0 where
  pub merge : (order other : Gathering) (one two : MirrorState) → ComesTo imprint_of history order one → ComesTo imprint_of history other two → MayMerge one two
  pub whole : (order : Gathering) (merged : MirrorState) → ComesTo imprint_of history order merged → HasAllEnds history.plan order → IsMirror merged →
      whole_of imprint_of merged ≡ Ok (seconds_alone (journal_of imprint_of history))

-- the schedule spells a history; what is saved is the file of the mirror of this core, and is read again as it
pub record IsMirrored (schedule : List ℕ) (core : ℕ) (out : List ℕ) (report : Report) : Type 0 where
  pub history : History
  pub spelled : IsScheduleText schedule history
  pub reported : report ≡ mirrored core out history
  pub again : core < history.plan.cores → IsMirrorFile (mirror_text (mirror_of imprint_of history core)) (mirror_of imprint_of history core)
  pub merges : MirrorsMerge history

-- the schedule is loaded, its events happen, and the mirror of what the core then holds and has sealed is saved
abbrev pub mirror_command : (schedule : List ℕ) (core : ℕ) (out : List ℕ) → CommandRow
mirror_command schedule core out = record {
  files = (1, file_limit) ∷ [];
  saves = 1;
  ran = λ held. behind (loaded_schedule 1 held schedule) (λ h. ends (mirrored core out h));
  means = λ held. WhereRead (IsMirrored (content held schedule) core out);
}
