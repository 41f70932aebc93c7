-- The command `node`.
use Rattle.ksi_schedule.specs.Plans.{core_plan_of}
use Rattle.std.specs.Prelude.{◌≡◌, ℕ, ◌≤◌, ◌<◌, List, [], ◌∷◌, codes, length, nat_lt, if◌then◌else◌}
use Rattle.std.specs.Fmt.{decimal}
use Rattle.ksi_imprint.specs.Imprints.{imprint_of}
use Rattle.ksi_nodestore.specs.Stores.{IsFileOf}
use Rattle.ksi_node_file.specs.CoreFacts.{core_facts, node_of}
use Rattle.ksi_schedule.specs.Events.{History}
use Rattle.ksi_schedule.specs.Spelled.{IsScheduleText}
use Rattle.ksi_lines.specs.Lines.{line_text}
use Rattle.ksi_top.specs.declared.report.Report.{Report}
use Rattle.ksi_top.specs.declared.status.Status.TheVariants as statuses
use Rattle.ksi_top.specs.Reports.{CommandRow, report, saving, ends, behind, WhereRead}
use Rattle.ksi_top.specs.Loading.{content, loaded_schedule, file_limit}
use Rattle.ksi_top.specs.Mirror.{no_core_line}

abbrev pub node_line : (core records : ℕ) → List ℕ
node_line core records = line_text (codes "node" ∷ decimal core ∷ codes "records" ∷ decimal records ∷ [])

-- the core and the number of facts that it stored are reported, and its file is saved
abbrev pub node_saved : (out : List ℕ) (core : ℕ) → History → Report
node_saved out core h = saving (node_line core (length (core_facts imprint_of h.plan h.events core))) out (node_of imprint_of h core)

abbrev pub noded : (out : List ℕ) (core : ℕ) → History → Report
noded out core h = if nat_lt core h.plan.cores then node_saved out core h else report statuses.Refused (no_core_line core)

-- What is saved is the file of the facts that the core of the history stored, in their order, and is one.
pub record SavesNode (h : History) (core : ℕ) (out : List ℕ) (report : Report) : Type 0 where
  pub there : core < h.plan.cores
  pub reported : report ≡ node_saved out core h
  pub again : IsFileOf core (core_plan_of h.plan) (core_facts imprint_of h.plan h.events core) (node_of imprint_of h core)

pub record IsNodeOver (h : History) (core : ℕ) (out : List ℕ) (report : Report) : Type 0 where
  pub saved : report.status ≡ statuses.Done → SavesNode h core out report
  pub missing : report.status ≡ statuses.Refused → h.plan.cores ≤ core

pub record IsNoded (schedule : List ℕ) (core : ℕ) (out : List ℕ) (report : Report) : Type 0 where
  pub history : History
  pub spelled : IsScheduleText schedule history
  pub over : IsNodeOver history core out report

-- the schedule is loaded, its events happen, and what the core stored is saved
abbrev pub node_command : (schedule : List ℕ) (core : ℕ) (out : List ℕ) → CommandRow
node_command schedule core out = record {
  files = (1, file_limit) ∷ [];
  saves = 1;
  ran = λ held. behind (loaded_schedule 1 held schedule) (λ h. ends (noded out core h));
  means = λ held. WhereRead (IsNoded (content held schedule) core out);
}
