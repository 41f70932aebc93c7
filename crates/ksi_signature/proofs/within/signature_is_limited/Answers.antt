use Rattle.ksi_tlv.specs.Views.{view_placed}
use Rattle.ksi_signature.specs.Contents.{signature_of}
use Rattle.ksi_signature.proofs.Limits.{are_chains}
use Rattle.ksi_signature.proofs.within.signature_is_limited.Goals as goal

pub returns : goal.returns
unfolding signature_of
returns c = are_chains c.inside_is_whole.ensures (view_placed c.args.at.now) c.requires
