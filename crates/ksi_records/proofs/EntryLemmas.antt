-- An entry that is read.
use Rattle.std.proofs.Common.{◌≡◌, [], ◌∷◌, ◌++◌, true, false, Option, Some, None, IfSome, Ok, Err, inr, sym, ap, subst, ◌∙◌, append_assoc}
use Rattle.ksi_schedule.specs.Pieces.{Text}
use Rattle.ksi_schedule.specs.Plans.{PlanState}
use Rattle.ksi_wire.specs.declared.fault.WireFault.{WireFault}
use Rattle.ksi_records.specs.declared.fault.RecordFault.TheVariants as faults
use Rattle.ksi_records.specs.declared.head.Head.{Head}
use Rattle.ksi_records.specs.declared.blocks.lines.Came.TheVariants as comes
use Rattle.ksi_records.specs.Blocks.{IsLine}
use Rattle.ksi_records.specs.Blocks.Steps.{IsLineOf}
use Rattle.ksi_records.specs.declared.version.Version.{Version}
use Rattle.ksi_records.specs.Heads.{came_in, head_at}
use Rattle.ksi_records.specs.Entries.{first_line}
use Rattle.ksi_records.specs.Steps.{IsBlockBehind, IsWhole}
use Rattle.ksi_records.specs.Verdicts.{Refused, StandsIn}

module _ (plan : PlanState) (version : Version) where
  -- a head without its whole block
  pub cut_entry : (old mid new : Option Text) (line block : Text) (head : Head) → IsLineOf old mid line comes.Line → head_at plan version line ≡ Ok head
      → IsBlockBehind head mid new block false → IfSome old (λ bytes. StandsIn plan version bytes (Refused faults.Cut))
  cut_entry None mid new line block head came is cut = tt
  cut_entry (Some text) None new line block head came is cut = absurd came.0
  cut_entry (Some text) (Some more) new line block head came is cut =
      inr (line, more, head, came.0 ∙ append_assoc line (10 ∷ []) more, came.1, is, cut.0, cut.1)

  -- a head, and its whole block
  pub whole_entry : (old mid new : Option Text) (line block : Text) (head : Head) → IsLineOf old mid line comes.Line → head_at plan version line ≡ Ok head → line ≡ first_line version head (came_in version line)
      → IsBlockBehind head mid new block true → IfSome old (λ bytes. IsWhole plan version bytes new head (came_in version line) block)
  whole_entry None mid new line block head came is text whole = tt
  whole_entry (Some bytes) None new line block head came is text whole = absurd came.0
  whole_entry (Some bytes) (Some more) None line block head came is text whole = absurd whole.0
  whole_entry (Some bytes) (Some more) (Some rest) line block head came is text whole =
      let first : bytes ≡ line ++ 10 ∷ more = came.0 ∙ append_assoc line (10 ∷ []) more in
      let all : bytes ≡ (line ++ 10 ∷ block) ++ rest = first ∙ ap (λ (more : Text). line ++ 10 ∷ more) whole.0 ∙ sym (append_assoc line (10 ∷ block) rest) in (
        all ∙ ap (λ (line : Text). (line ++ 10 ∷ block) ++ rest) text,
        record {
          line = subst IsLine text came.1;
          taken = ap (head_at plan version) (sym text) ∙ is;
          came = ap (came_in version) text;
          block = whole.1;
        },
      )

  -- a line that is none of the forms
  pub faulty_entry : (old mid : Option Text) (line : Text) (fault : WireFault) → IsLineOf old mid line comes.Line → head_at plan version line ≡ Err fault
      → IfSome old (λ bytes. StandsIn plan version bytes (Refused (faults.Line fault)))
  faulty_entry None mid line fault came is = tt
  faulty_entry (Some text) None line fault came is = absurd came.0
  faulty_entry (Some text) (Some more) line fault came is = (line, more, came.0 ∙ append_assoc line (10 ∷ []) more, came.1, is)
