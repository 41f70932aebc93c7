use Rattle.ksi_tlv.specs.Views.{view_placed}
use Rattle.ksi_signature.proofs.Lent.{link_is}
use Rattle.ksi_signature.proofs.within.link_is_limited.Goals as goal

pub returns : goal.returns
returns c = link_is c.inside_is_whole.ensures (view_placed c.args.at.now) c.requires
