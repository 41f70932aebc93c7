use Rattle.std.proofs.Common.{map, sym, ◌∙◌}
use Rattle.ksi_auditor.proofs.Climbs.{climbed_is}
use Rattle.ksi_auditor.proofs.reached.top_of.Goals as goal

pub returns-in-Ok : goal.returns-in-Ok
returns-in-Ok g c =
    let is = sym c.in-Ok.is ∙ c.climb.ensures.value ∙ climbed_is g.C.Compress.image 0 c.args.below.now (map g.L.ChainLink.plain c.args.links.now) c.requires in
    cc

pub returns-in-Err : goal.returns-in-Err
returns-in-Err g c =
    let is = sym c.in-Err.is ∙ c.climb.ensures.value ∙ climbed_is g.C.Compress.image 0 c.args.below.now (map g.L.ChainLink.plain c.args.links.now) c.requires in
    absurd cc
