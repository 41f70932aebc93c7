use Rattle.std.proofs.Common.{sym, ◌∙◌}
use Rattle.ksi_tlv.specs.Views.{view_placed}
use Rattle.ksi_signature.proofs.Says.{time_says}
use Rattle.ksi_signature.proofs.contents.time_of.Goals as goal

pub returns-clause-value : goal.returns-clause-value
returns-clause-value c = (time_says (view_placed c.args.part.now) c.in-Ok.time (sym c.time.ensures ∙ c.in-Ok.is)).0

pub returns-clause-below : goal.returns-clause-below
returns-clause-below c = (time_says (view_placed c.args.part.now) c.in-Ok.time (sym c.time.ensures ∙ c.in-Ok.is)).1
