use Rattle.ksi_tlv.specs.Views.{view_placed}
use Rattle.ksi_signature.proofs.Numbering.{parts_are}
use Rattle.ksi_signature.proofs.within.parts_are_numbers.Goals as goal

pub returns : goal.returns
returns c = parts_are c.inside_is_whole.ensures (view_placed c.args.at.now) c.requires
