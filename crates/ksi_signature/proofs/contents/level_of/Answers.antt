use Rattle.std.proofs.Common.{sym, ◌∙◌}
use Rattle.ksi_tlv.specs.Views.{view_placed}
use Rattle.ksi_signature.proofs.Says.{level_says}
use Rattle.ksi_signature.proofs.contents.level_of.Goals as goal

pub returns : goal.returns
returns c = (level_says (view_placed c.args.part.now) c.in-Ok.level (sym c.level.ensures ∙ c.in-Ok.is)).0
