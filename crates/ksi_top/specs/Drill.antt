-- The command `drill`.
use Rattle.std.specs.Prelude.{◌≡◌, ℕ, List, [], ◌∷◌, codes}
use Rattle.std.specs.Fmt.{decimal}
use Rattle.ksi_replay.specs.declared.tally.Tally.{Tally}
use Rattle.ksi_replay.specs.Drill.{drilled}
use Rattle.ksi_lines.specs.Lines.{line_text}
use Rattle.ksi_top.specs.declared.report.Report.{Report}
use Rattle.ksi_top.specs.declared.status.Status.TheVariants.{Done}
use Rattle.ksi_top.specs.Reports.{CommandRow, report, ends}

abbrev pub drilled_line : (seconds missed issued accepted inside beneath : ℕ) → List ℕ
drilled_line seconds missed issued accepted inside beneath = line_text (
    codes "seconds" ∷ decimal seconds ∷ codes "missed" ∷ decimal missed ∷ codes "issued" ∷ decimal issued
    ∷ codes "accepted" ∷ decimal accepted ∷ codes "inside" ∷ decimal inside ∷ codes "beneath" ∷ decimal beneath ∷ [])

-- its counts are reported; nothing is saved
abbrev pub tallied : Tally → Report
tallied tally = report Done (drilled_line tally.seconds tally.missed tally.issued tally.accepted tally.inside tally.beneath)

-- the reported counts are those of the number, and every issued signature is accepted
pub record IsDrilled (number : ℕ) (report : Report) : Type 0 where
  pub reported : report ≡ tallied (drilled number)
  pub accepted : (drilled number).accepted ≡ (drilled number).issued

-- nothing is loaded or saved
abbrev pub drill_command : (number : ℕ) → CommandRow
drill_command number = record {
  files = [];
  saves = 0;
  ran = λ held. ends (tallied (drilled number));
  means = λ held. IsDrilled number;
}
