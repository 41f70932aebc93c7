use Rattle.std.proofs.Common.{sym, ◌∙◌}
use Rattle.ksi_tlv.specs.Views.{view_placed}
use Rattle.ksi_signature.proofs.Says.{imprint_says}
use Rattle.ksi_signature.proofs.contents.imprint_of.Goals as goal

pub returns : goal.returns
returns c = imprint_says (view_placed c.args.part.now) c.in-Ok.imprint (sym c.imprint.ensures ∙ c.in-Ok.is)
