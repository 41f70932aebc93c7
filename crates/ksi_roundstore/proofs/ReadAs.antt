-- Lines are read as the events that they are of.
use Rattle.std.proofs.Common.{◌≡◌, ℕ, List, [], ◌∷◌, ◌++◌, sym, ◌∙◌, ap, subst, append_assoc, Result, Ok, Err}
use Rattle.std.specs.List.{AllByRecursion}
use Rattle.ksi_aggregator.specs.declared.event.RoundEvent.{RoundEvent}
use Rattle.ksi_schedule.specs.Pieces.{Text}
use Rattle.ksi_schedule.specs.Plans.{PlanState}
use Rattle.ksi_schedule.specs.Printed.{line_of}
use Rattle.ksi_wire.specs.declared.event.AggregatorLine.{AggregatorLine}
use Rattle.ksi_wire.specs.declared.event.AggregatorLine.TheVariants as lines
use Rattle.ksi_wire.specs.declared.fault.WireFault.{WireFault}
use Rattle.ksi_wire.specs.AskedRounds.{aggregator_line_of}
use Rattle.ksi_wire.specs.RoundLines.{FitsRound, round_words}
use Rattle.ksi_roundstore.specs.Texts.{lines_of}
use Rattle.ksi_roundstore.specs.Written.{IsLine, IsReadAs, IsWritten}
use Rattle.ksi_roundstore.proofs.Spelled.{lines_then}

-- a line that was taken is read as its event
pub read_as : (plan : PlanState) (me : ℕ) (line : Text) (event : RoundEvent) → line ≡ line_of (round_words event) → aggregator_line_of plan me line ≡ Ok (lines.Event event) → FitsRound event → IsReadAs plan me line event
read_as plan me line event is exact fits = record {
  text = is;
  written = λ free. record {
    line = subst IsLine is free;
    fits = fits;
    asked = ap (λ (l : Text). aggregator_line_of plan me l) (sym is) ∙ exact;
  };
}

-- a line that was refused is no event's
pub not_refused : (plan : PlanState) (me : ℕ) (line : Text) (fault : WireFault) → aggregator_line_of plan me line ≡ Err fault → (event : RoundEvent) → IsWritten plan me event → line ≡ line_of (round_words event) → ⊥
not_refused plan me line fault refused event written is =
    let no : ◌≡◌ {A = Result AggregatorLine WireFault} (Err fault) (Ok (lines.Event event)) = sym refused ∙ ap (λ (l : Text). aggregator_line_of plan me l) is ∙ written.asked in
    absurd (cc no)

-- one line more
pub line_more : (text rest line behind : Text) (list : List RoundEvent) (event : RoundEvent) → text ≡ lines_of list ++ rest → rest ≡ line ++ 10 ∷ behind → line ≡ line_of (round_words event) → text ≡ lines_of (list ++ event ∷ []) ++ behind
line_more text rest line behind list event so_far is same =
    so_far
    ∙ ap (λ (l : Text). lines_of list ++ l) (is ∙ ap (λ (l : Text). l ++ 10 ∷ behind) same ∙ sym (append_assoc (line_of (round_words event)) (10 ∷ []) behind))
    ∙ sym (append_assoc (lines_of list) (line_of (round_words event) ++ 10 ∷ []) behind)
    ∙ ap (λ (l : Text). l ++ behind) (sym (lines_then list (event ∷ [])))

pub written_more : (P : RoundEvent → Type 0) (list : List RoundEvent) (event : RoundEvent) → AllByRecursion P list → P event → AllByRecursion P (list ++ event ∷ [])
written_more P [] event are is = (is, tt)
written_more P (first ∷ list) event are is = (are.0, written_more P list event are.1 is)

-- what is written fits
pub all_fit : (plan : PlanState) (me : ℕ) (list : List RoundEvent) → AllByRecursion (IsWritten plan me) list → AllByRecursion FitsRound list
all_fit plan me [] are = tt
all_fit plan me (event ∷ list) are = (are.0.fits, all_fit plan me list are.1)
