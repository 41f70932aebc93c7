-- An entry that is read.
use Rattle.std.proofs.Common.{◌≡◌, [], ◌∷◌, ◌++◌, true, false, Option, Some, None, IfSome, Ok, Err, inr, sym, ap, ◌∙◌, append_assoc}
use Rattle.ksi_records.specs.Blocks.Steps.{IsLineOf}
use Rattle.ksi_records.specs.declared.blocks.lines.Came.TheVariants as comes
use Rattle.ksi_schedule.specs.Pieces.{Text}
use Rattle.ksi_schedule.specs.Plans.{PlanState}
use Rattle.ksi_schedule.specs.declared.actor.Actor.{Actor}
use Rattle.ksi_schedule.specs.declared.actor.Actor.TheVariants as actors
use Rattle.ksi_wire.specs.declared.fault.WireFault.{WireFault}
use Rattle.ksi_records.specs.declared.node.fault.LogFault.TheVariants as faults
use Rattle.ksi_records.specs.declared.node.head.Given.{Given}
use Rattle.ksi_records.specs.declared.node.head.Given.TheVariants as given
use Rattle.ksi_records.specs.declared.node.head.Head.{Head}
use Rattle.ksi_records.specs.declared.node.head.Head.TheVariants as heads
use Rattle.ksi_records.specs.Node.Heads.{head_at}
use Rattle.ksi_records.specs.Node.Runs.{IsOf, IsTo}
use Rattle.ksi_records.specs.Node.Steps.{Fits, FitsHead, IsBlockBehind, IsWhole}
use Rattle.ksi_records.specs.Node.Verdicts.{Refused, StandsIn}

module _ (plan : PlanState) where
  fits_own : (me : Actor) (it : Given) → Fits plan me it → IsTo me it
  fits_own (actors.Core j) (given.ToCore i event) fits = fits.0
  fits_own (actors.Core j) (given.ToAggregator i event) fits = absurd fits
  fits_own (actors.Aggregator k) (given.ToCore i event) fits = absurd fits
  fits_own (actors.Aggregator k) (given.ToAggregator i event) fits = fits.0

  head_own : (me : Actor) (head : Head) → FitsHead plan me head → IsOf me head
  head_own me (heads.Said it) fits = fits_own me it fits
  head_own me (heads.Unsaid it) fits = fits_own me it fits
  head_own me heads.Restarted fits = tt

module _ (plan : PlanState) (me : Actor) where
  -- a line that says nothing
  pub faulty_entry : (old mid : Option Text) (line : Text) (fault : WireFault) → IsLineOf old mid line comes.Line → head_at plan me line ≡ Err fault
      → IfSome old (λ bytes. StandsIn plan me bytes (Refused (faults.Line fault)))
  faulty_entry None mid line fault came is = tt
  faulty_entry (Some text) None line fault came is = absurd came.0
  faulty_entry (Some text) (Some more) line fault came is = (line, more, came.0 ∙ append_assoc line (10 ∷ []) more, came.1, is)

  -- a head without its whole block
  pub cut_entry : (old mid new : Option Text) (line block : Text) (head : Head) → IsLineOf old mid line comes.Line → head_at plan me line ≡ Ok head
      → IsBlockBehind head mid new block false → IfSome old (λ bytes. StandsIn plan me bytes (Refused faults.Cut))
  cut_entry None mid new line block head came is cut = tt
  cut_entry (Some text) None new line block head came is cut = absurd came.0
  cut_entry (Some text) (Some more) new line block head came is cut =
      inr (line, more, head, came.0 ∙ append_assoc line (10 ∷ []) more, came.1, is, cut.0, cut.1)

  -- a head, and its whole block
  pub whole_entry : (old mid new : Option Text) (line block : Text) (head : Head) → IsLineOf old mid line comes.Line → head_at plan me line ≡ Ok head → FitsHead plan me head
      → IsBlockBehind head mid new block true → IfSome old (λ bytes. IsWhole plan me bytes new line head block)
  whole_entry None mid new line block head came is fits whole = tt
  whole_entry (Some bytes) None new line block head came is fits whole = absurd came.0
  whole_entry (Some bytes) (Some more) None line block head came is fits whole = absurd whole.0
  whole_entry (Some bytes) (Some more) (Some rest) line block head came is fits whole = (
    came.0 ∙ append_assoc line (10 ∷ []) more ∙ ap (λ (more : Text). line ++ 10 ∷ more) whole.0 ∙ sym (append_assoc line (10 ∷ block) rest),
    record {
      line = came.1;
      taken = is;
      own = head_own plan me head fits;
      block = whole.1;
    },
  )
