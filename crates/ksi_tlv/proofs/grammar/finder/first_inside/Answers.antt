use Rattle.std.proofs.Common.{refl}
use Rattle.ksi_tlv.proofs.Wholes.{wholes}
use Rattle.ksi_tlv.proofs.grammar.finder.first_inside.Goals as goal

pub loop-item-init : goal.loop-item-init
loop-item-init g c =
    let w = wholes g.G.Grammar.table c.args.at.now.place c.args.at.now.inside c.args.at.now.element.body.now g.met.G.Grammar.well_formed c.requires in
    rw c.at-elements.ensures.exact (refl, w.each)
