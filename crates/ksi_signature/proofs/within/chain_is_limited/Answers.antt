use Rattle.ksi_tlv.specs.Views.{view_placed}
use Rattle.ksi_signature.proofs.Lent.{chain_is}
use Rattle.ksi_signature.proofs.within.chain_is_limited.Goals as goal

pub returns : goal.returns
returns c = chain_is c.inside_is_whole.ensures (view_placed c.args.at.now) c.requires
