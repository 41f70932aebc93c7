use Rattle.std.proofs.Common.{◌∙◌, ap, subst, sym}
use Rattle.ksi_schedule.specs.Pieces.{Text}
use Rattle.ksi_roundstore.specs.Written.{IsLine}
use Rattle.ksi_wire.specs.AskedRounds.{aggregator_line_of}
use Rattle.ksi_laws_crashed.proofs.laws.read_events_are_written.Goals as goal

pub returns : goal.returns
returns c = λ plan me line event free is read fits. record {
  line = subst IsLine is free;
  fits = fits;
  asked = ap (λ (l : Text). aggregator_line_of plan me l) (sym is) ∙ read;
}
