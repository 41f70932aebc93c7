use Rattle.std.proofs.Common.{◌≡◌, ◌+◌, arith}
use Rattle.ksi_aggtree.proofs.ClimbLemmas.{link_stops, link_goes}
use Rattle.ksi_aggtree.proofs.chains.climbing.climb_link.Goals as goal

pub returns-then-level-clause-stops : goal.returns-then-level-clause-stops
returns-then-level-clause-stops g c = λ links.
    link_stops g.C.Compress.image c.args.place c.args.node.level _ c.args.node.imprint (g.L.ChainLink.plain c.args.link.now) (omega (arith, c.correction.ensures)) links c.if-level.true

pub returns-clause-goes : goal.returns-clause-goes
returns-clause-goes g c = λ links.
    link_goes g.C.Compress.image c.args.place c.args.node.level _ c.args.node.imprint (g.L.ChainLink.plain c.args.link.now) (omega (arith, c.correction.ensures)) links
    c.side.result c.bytes.result.now c.sibling.result.now c.join_beside-imprint.result
    c.if-level.false c.join_beside-imprint.ensures c.side.ensures c.bytes.ensures.value c.sibling.ensures
