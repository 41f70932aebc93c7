-- What the reports of merged mirrors, and of the journal of one, mean.
use Rattle.std.proofs.Common.{◌≡◌, ℕ, ◌≤◌, List, length, Result, Ok, Err, refl, sym, ap, subst, ◌∙◌, arith}
use Rattle.std.specs.Prelude.{◌↔◌}
use Rattle.ksi_ports.specs.Stored.{Held}
use Rattle.ksi_journal.specs.Journal.{Contents}
use Rattle.ksi_mirror.specs.declared.refusal.MergeRefusal.{MergeRefusal}
use Rattle.ksi_mirror.specs.declared.refusal.WholeRefusal.{WholeRefusal}
use Rattle.ksi_mirror.specs.File.{IsMirrorFile}
use Rattle.ksi_mirror.specs.Merged.{merged_of, merged_then, SameOrRefused}
use Rattle.ksi_mirror.specs.Mirrors.{MirrorState, IsMirror}
use Rattle.ksi_mirror.specs.Reading.{mirror_at}
use Rattle.ksi_top.specs.declared.report.Report.{Report}
use Rattle.ksi_top.specs.Reports.{ends, reported_behind}
use Rattle.ksi_top.specs.Loading.{content, file_limit, loaded_mirror, mirror_file}
use Rattle.ksi_top.specs.Merge.{AreAlike, IsMerged, IsMergedOver, merge_over, merge_ran, merged, merged_report, merged_saved}
use Rattle.ksi_top.specs.Whole.{whole_report}
use Rattle.ksi_top.proofs.Ends.{IsEnd, saving_ends}
use Rattle.ksi_top.proofs.Loads.{few_read, loads_as}

-- ---- merging

pub merged_ends : (out : List ℕ) (answer : Result MirrorState MergeRefusal) → IsEnd 1 (merged_report out answer)
merged_ends out (Ok merged) = saving_ends _ _ _
merged_ends out (Err refusal) = record { judged = refl; few = omega arith }

-- what is said of merging
pub record Joins : Type 0 where
  pub same : (one : MirrorState) → IsMirror one → merged_of one one ≡ Ok one
  pub either : (one two : MirrorState) → IsMirror one → IsMirror two → SameOrRefused (merged_of one two) (merged_of two one)
  pub any_order : (one two three : MirrorState) → IsMirror one → IsMirror two → IsMirror three →
      SameOrRefused (merged_then (merged_of one two) (λ first. merged_of first three)) (merged_then (merged_of two three) (λ second. merged_of one second))
  pub again : (one two merged : MirrorState) → IsMirror one → IsMirror two → merged_of one two ≡ Ok merged → merged_of merged one ≡ Ok merged

alike : (out : List ℕ) (r q : Result MirrorState MergeRefusal) → SameOrRefused r q → AreAlike (merged_report out r) (merged_report out q)
alike out (Ok a) (Ok b) same = record { done = λ e. ap (λ (it : MirrorState). merged_saved out it) (sym same); refused = λ e. absurd (cc e) }
alike out (Ok a) (Err b) same = absurd same
alike out (Err a) (Ok b) same = absurd same
alike out (Err a) (Err b) same = record { done = λ e. absurd (cc e); refused = λ e. refl }

module _ (mirrors_read : (bytes : List ℕ) (mirror : MirrorState) → (mirror_at bytes ≡ Ok mirror) ↔ IsMirrorFile bytes mirror) where
  -- a mirror's file within the limit is read as its mirror
  read_as : (n : ℕ) (held : Held) (name : List ℕ) (mirror : MirrorState) → length (content held name) ≤ file_limit → IsMirrorFile (content held name) mirror → loaded_mirror n held name ≡ Ok mirror
  read_as n held name mirror few is = loads_as mirror_file file_limit n held name mirror few ((mirrors_read (content held name) mirror).1 is)

  -- both are read, in this order
  ran_as : (held : Held) (one two out : List ℕ) (first second : MirrorState) → loaded_mirror 1 held one ≡ Ok first → loaded_mirror 2 held two ≡ Ok second → (merge_ran one two out held).reported ≡ merged out first second
  ran_as held one two out first second e f =
      ap (λ (it : Result MirrorState Report). reported_behind it (λ (m : MirrorState). (merge_over m two out).ran held)) e
      ∙ ap (λ (it : Result MirrorState Report). reported_behind it (λ (m : MirrorState). ends (merged out first m))) f

  pub merge_means : (joins : Joins) (held : Held) (one two out : List ℕ) (mirror : MirrorState) (report : Report) → IsMirror mirror → loaded_mirror 1 held one ≡ Ok mirror → IsMirrorFile (content held one) mirror
      → IsMergedOver held mirror two out report → IsMerged held one two out report
  merge_means joins held one two out mirror report is read file over =
      let few = few_read mirror_file file_limit 1 held one mirror read in
      let second = over.mirror in
      let by = over.by in
      let exchanged : (merge_ran two one out held).reported ≡ merged_report out (merged_of second mirror) = ran_as held two one out second mirror (read_as 1 held two second over.few over.mirror_is) (read_as 2 held one mirror few file) in
      let doubled : (merge_ran one one out held).reported ≡ merged_report out (merged_of mirror mirror) = ran_as held one one out mirror mirror read (read_as 2 held one mirror few file) in
      record {
        mirror = mirror;
        mirror_is = file;
        over = over;
        exchanged = subst (λ (it : Report). AreAlike it (merge_ran two one out held).reported) (sym by.reported) (subst (λ (it : Report). AreAlike (merged_report out by.answer) it) (sym exchanged) (alike out by.answer (merged_of second mirror) by.either));
        itself = doubled ∙ ap (λ (r : Result MirrorState MergeRefusal). merged_report out r) (joins.same mirror is);
      }

-- ---- the journal of one

pub whole_ends : (out : List ℕ) (answer : Result Contents WholeRefusal) → IsEnd 1 (whole_report out answer)
whole_ends out (Ok journal) = saving_ends _ _ _
whole_ends out (Err refusal) = record { judged = refl; few = omega arith }
