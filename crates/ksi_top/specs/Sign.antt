-- The command `sign`.
use Rattle.std.specs.Prelude.{ℕ, List, [], ◌∷◌, ◌==◌, codes, Option, Some, None, if◌then◌else◌}
use Rattle.std.specs.Fmt.{decimal}
use Rattle.ksi_lines.specs.Lines.{line_text}
use Rattle.ksi_top.specs.declared.report.Report.{Report}
use Rattle.ksi_top.specs.declared.status.Status.TheVariants as statuses
use Rattle.ksi_top.specs.Reports.{CommandRow, report, saving, ends, behind, Nothing, WhereRead}
use Rattle.ksi_top.specs.Loading.{loaded_journal, file_limit}

-- the bytes with the number
abbrev pub signature_of : (number : ℕ) → List (ℕ × List ℕ) → Option (List ℕ)
signature_of number [] = None
signature_of number (issued ∷ others) = if issued.0 == number then Some issued.1 else signature_of number others

abbrev pub signed_line : ℕ → List ℕ
signed_line number = line_text (codes "signed" ∷ decimal number ∷ [])

abbrev pub not_issued_line : ℕ → List ℕ
not_issued_line number = line_text (codes "not" ∷ codes "issued" ∷ decimal number ∷ [])

abbrev pub signed : (number : ℕ) → (out : List ℕ) → Option (List ℕ) → Report
signed number out (Some bytes) = saving (signed_line number) out bytes
signed number out None = report statuses.Refused (not_issued_line number)

-- the journal is loaded, and the signature of this number is saved
abbrev pub sign_command : (journal : List ℕ) (number : ℕ) (out : List ℕ) → CommandRow
sign_command journal number out = record {
  files = (1, file_limit) ∷ [];
  saves = 1;
  ran = λ held. behind (loaded_journal 1 held journal) (λ j. ends (signed number out (signature_of number j.issued)));
  means = λ held. WhereRead Nothing;
}
