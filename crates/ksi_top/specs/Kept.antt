-- Whether a journal keeps what a front of its calendar wants.
use Rattle.std.specs.Prelude.{ℕ, Option, Some, option_map, nat_lt, if◌then◌else◌}
use Rattle.ksi_calendar.specs.Covered.{first_missing}
use Rattle.ksi_journal.specs.Journal.{Contents, root_at}
use Rattle.ksi_lines.specs.Answers.{before_start_line, undecided_line}
use Rattle.ksi_top.specs.declared.report.Report.{Report}
use Rattle.ksi_top.specs.declared.status.Status.TheVariants.{Refused}
use Rattle.ksi_top.specs.Reports.{report}

-- Why it does not: it begins after p, or this second is the first, from its start to the last one, that it does not keep.
-- There is no reason if it keeps all.
abbrev pub unkept : Contents → (p last : ℕ) → Option Report
unkept journal p last =
    if nat_lt p journal.start
    then Some (report Refused (before_start_line p))
    else option_map (λ second. report Refused (undecided_line second)) (first_missing (root_at journal) journal.start last)
