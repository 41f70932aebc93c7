-- A record whose first line was read.
use Rattle.std.proofs.Common.{◌≡◌, ◌≢◌, ℕ, List, [], ◌++◌, drop, length, Option, Some, None, IfSome, Result, Ok, Err, IfOk, refl, sym, ap, subst, ◌∙◌}
use Rattle.std.specs.Fmt.{option_append}
use Rattle.std.specs.Io.BufRead.{take_through}
use Rattle.std.specs.Io.KnownBytes.{Appends, Consumes}
use Rattle.ksi_schedule.specs.Pieces.{Text}
use Rattle.ksi_schedule.specs.Plans.{PlanState}
use Rattle.ksi_records.specs.declared.verdict.Retraced.{Retraced}
use Rattle.ksi_records.specs.declared.version.Version.{Version}
use Rattle.ksi_records.specs.declared.version.Version.TheVariants as versions
use Rattle.ksi_records.specs.Entries.{Entry}
use Rattle.ksi_records.specs.Verdicts.{AreEntries, shown, title}
use Rattle.ksi_records.proofs.VerdictLemmas.{Found}

module _ (image : List ℕ → List ℕ) (plan : PlanState) where
  -- the text printed for the verdict on its entries
  abbrev pub On : Version → (known out new : Option Text) → Retraced → Type 0
  On version known out new verdict = IfSome known (λ text. (entries : List Entry) × AreEntries image plan version text entries verdict × Appends out new (shown image plan entries))

  -- the line of version 2, and the rest
  pub after_title : {E : Type 0} (result : Result Retraced E) (old mid out new : Option Text) (none read : Text) → none ≡ [] → Consumes old mid (drop (length none) read) → read ≡ title
      → IfOk result (λ verdict. On versions.Two mid out new verdict) → IfOk result (λ verdict. Found image plan old out new verdict)
  after_title (Err error) old mid out new none read empty came is found = tt
  after_title (Ok verdict) None mid out new none read empty came is found = tt
  after_title (Ok verdict) (Some text) None out new none read empty came is found = absurd came
  after_title (Ok verdict) (Some text) (Some more) out new none read empty came is found =
      let all : text ≡ title ++ more = came ∙ ap (λ (none : Text). drop (length none) read ++ more) empty ∙ ap (λ (read : Text). read ++ more) is in
      (versions.Two, found.0, record { body = more; begins = all; are = found.1 }, found.2)

  -- another line, which is read again
  pub read_again : {E : Type 0} (result : Result Retraced E) (old mid whole out new : Option Text) (none read first : Text) → none ≡ [] → Consumes old mid (drop (length none) read)
      → IfSome old (λ text. read ≡ none ++ take_through 10 text) → first ≡ read → first ≢ title → whole ≡ option_append (Some first) mid
      → IfOk result (λ verdict. On versions.One whole out new verdict) → IfOk result (λ verdict. Found image plan old out new verdict)
  read_again (Err error) old mid whole out new none read first empty came through is other again found = tt
  read_again (Ok verdict) None mid whole out new none read first empty came through is other again found = tt
  read_again (Ok verdict) (Some text) None whole out new none read first empty came through is other again found = absurd came
  read_again (Ok verdict) (Some text) (Some more) whole out new none read first empty came through is other again found =
      let all : text ≡ first ++ more = came ∙ ap (λ (none : Text). drop (length none) read ++ more) empty ∙ ap (λ (read : Text). read ++ more) (sym is) in
      let line : first ≡ take_through 10 text = is ∙ through ∙ ap (λ (none : Text). none ++ take_through 10 text) empty in
      let on = subst (λ (whole : Option Text). On versions.One whole out new verdict) (again ∙ ap Some (sym all)) found in
      (versions.One, on.0, record { body = text; begins = (refl, λ same. other (line ∙ same)); are = on.1 }, on.2)
