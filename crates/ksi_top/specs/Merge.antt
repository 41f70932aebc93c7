-- The command `merge`.
use Rattle.std.specs.Prelude.{◌≡◌, ℕ, ◌≤◌, List, [], ◌∷◌, codes, length, Result, Ok, Err}
use Rattle.std.specs.Fmt.{decimal}
use Rattle.ksi_ports.specs.Stored.{Held}
use Rattle.ksi_mirror.specs.declared.refusal.MergeRefusal.{MergeRefusal}
use Rattle.ksi_mirror.specs.File.{IsMirrorFile}
use Rattle.ksi_mirror.specs.Merged.{merged_of, merged_then, SameOrRefused}
use Rattle.ksi_mirror.specs.Merging.{Merges, IsMergeRefusal}
use Rattle.ksi_mirror.specs.Mirrors.{MirrorState, IsMirror}
use Rattle.ksi_mirror.specs.Written.{mirror_text}
use Rattle.ksi_lines.specs.Lines.{line_text}
use Rattle.ksi_lines.specs.Mirrors.{not_merged_line}
use Rattle.ksi_top.specs.declared.report.Report.{Report}
use Rattle.ksi_top.specs.declared.status.Status.TheVariants.{Done, Refused}
use Rattle.ksi_top.specs.Reports.{CommandRow, Ran, report, saving, ends, behind, WhereRead}
use Rattle.ksi_top.specs.Loading.{content, loaded_mirror, file_limit}

abbrev pub merged_line : (roots : ℕ) → List ℕ
merged_line roots = line_text (codes "merged" ∷ decimal roots ∷ [])

-- the union is saved, and the number of its roots is reported
abbrev pub merged_saved : (out : List ℕ) → MirrorState → Report
merged_saved out merged = saving (merged_line (length merged.roots)) out (mirror_text merged)

abbrev pub merged_report : (out : List ℕ) → Result MirrorState MergeRefusal → Report
merged_report out (Ok merged) = merged_saved out merged
merged_report out (Err refusal) = report Refused (not_merged_line refusal)

abbrev pub merged : (out : List ℕ) → (one two : MirrorState) → Report
merged out one two = merged_report out (merged_of one two)

-- the saved file is that of the union, and is read again as it; or there is no union, for the reported reason
abbrev pub IsMergeAnswer : (one two : MirrorState) → Result MirrorState MergeRefusal → Type 0
IsMergeAnswer one two (Ok merged) = Merges one two merged × IsMirrorFile (mirror_text merged) merged
IsMergeAnswer one two (Err refusal) = IsMergeRefusal one two refusal

-- of any two mirrors
pub record IsMergedBy (one two : MirrorState) (out : List ℕ) (report : Report) : Type 0 where
  pub answer : Result MirrorState MergeRefusal
  pub answer_is : answer ≡ merged_of one two
  pub reported : report ≡ merged_report out answer
  pub shown : IsMergeAnswer one two answer
  -- with the mirrors exchanged it is the same, or there is none either
  pub either : SameOrRefused answer (merged_of two one)
  -- merging it once more with one of them changes nothing
  pub again : (union : MirrorState) → answer ≡ Ok union → merged_of union one ≡ Ok union
  -- and a further mirror may be merged into it, or be merged with the second one first
  pub any_order : (three : MirrorState) → IsMirror three →
      SameOrRefused (merged_then answer (λ first. merged_of first three)) (merged_then (merged_of two three) (λ second. merged_of one second))

-- with the second mirror that is read
pub record IsMergedOver (held : Held) (one : MirrorState) (two out : List ℕ) (report : Report) : Type 0 where
  pub mirror : MirrorState
  pub mirror_is : IsMirrorFile (content held two) mirror
  pub few : length (content held two) ≤ file_limit
  pub by : IsMergedBy one mirror out report

-- the second mirror is loaded, and the union is saved
abbrev pub merge_over : (one : MirrorState) → (two out : List ℕ) → CommandRow
merge_over one two out = record {
  files = (2, file_limit) ∷ [];
  saves = 1;
  ran = λ held. behind (loaded_mirror 2 held two) (λ m. ends (merged out one m));
  means = λ held. WhereRead (IsMergedOver held one two out);
}

-- the first mirror is loaded, then the second
abbrev pub merge_ran : (one two out : List ℕ) → Held → Ran
merge_ran one two out held = behind (loaded_mirror 1 held one) (λ m. (merge_over m two out).ran held)

-- both are the same where the first is a result, and refused where it is
pub record AreAlike (report other : Report) : Type 0 where
  pub done : report.status ≡ Done → other ≡ report
  pub refused : report.status ≡ Refused → other.status ≡ Refused

-- Over the same files the command gives the same with its files exchanged, or refuses too; and a mirror that is merged with
-- itself is saved as it is.
pub record IsMerged (held : Held) (one two out : List ℕ) (report : Report) : Type 0 where
  pub mirror : MirrorState
  pub mirror_is : IsMirrorFile (content held one) mirror
  pub over : IsMergedOver held mirror two out report
  pub exchanged : AreAlike report (merge_ran two one out held).reported
  pub itself : (merge_ran one one out held).reported ≡ merged_saved out mirror

abbrev pub merge_command : (one two out : List ℕ) → CommandRow
merge_command one two out = record {
  files = (1, file_limit) ∷ (2, file_limit) ∷ [];
  saves = 1;
  ran = merge_ran one two out;
  means = λ held. WhereRead (IsMerged held one two out);
}
