-- The command `publish`.
use Rattle.std.specs.Prelude.{ℕ, ◌-◌, List, [], ◌∷◌, codes, length, Option, Some, None, slice_get}
use Rattle.std.specs.Fmt.{decimal}
use Rattle.ksi_publications.specs.File.{publications_text}
use Rattle.ksi_lines.specs.Lines.{line_text}
use Rattle.ksi_top.specs.declared.report.Report.{Report}
use Rattle.ksi_top.specs.Reports.{CommandRow, saving, ends, behind, Nothing, WhereRead}
use Rattle.ksi_top.specs.Loading.{loaded_journal, file_limit}

abbrev pub time_of : Option (ℕ × List ℕ) → ℕ
time_of None = 0
time_of (Some publication) = publication.0

-- the time of the last publication, or 0
abbrev pub last_time : List (ℕ × List ℕ) → ℕ
last_time publications = time_of (slice_get publications (length publications - 1))

abbrev pub published_line : ℕ → List ℕ
published_line n = line_text (codes "published" ∷ decimal n ∷ [])

-- the publications file of a journal's publications, created when the last was published
abbrev pub published : (out : List ℕ) → List (ℕ × List ℕ) → Report
published out publications = saving (published_line (length publications)) out (publications_text (last_time publications) publications)

-- the journal is loaded, and its publications are saved
abbrev pub publish_command : (journal out : List ℕ) → CommandRow
publish_command journal out = record {
  files = (1, file_limit) ∷ [];
  saves = 1;
  ran = λ held. behind (loaded_journal 1 held journal) (λ j. ends (published out j.publications));
  means = λ held. WhereRead Nothing;
}
