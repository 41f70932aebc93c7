use Rattle.ksi_tlv.specs.Views.{view_placed}
use Rattle.ksi_signature.proofs.Limits.{are_links}
use Rattle.ksi_signature.proofs.within.links_are_limited.Goals as goal

pub returns-clause-limits : goal.returns-clause-limits
returns-clause-limits c = are_links c.inside_is_whole.ensures (view_placed c.args.at.now) c.requires
