use Rattle.std.proofs.Common.{◌≡◌, ◌∙◌, ◌+◌, List, Some, sym, subst}
use Rattle.ksi_split.specs.declared.side.Side.{Side}
use Rattle.ksi_split.specs.Ways.{IsWay}
use Rattle.ksi_calendar.specs.Calendar.{calendar_tree, node_of}
use Rattle.ksi_calendar_extender.proofs.Leading.{leads}
use Rattle.ksi_calendar_extender.proofs.kept.leaf.Goals as goal

pub returns : goal.returns
returns g c =
    let image = g.C.Compress.image in
    let seconds = c.args.calendar.now in
    let sides = c.as_slice.result.now in
    let way = subst (λ (s : List Side). IsWay c.args.second (c.args.p + 1) s) (sym c.as_slice.ensures.sides) c.way-sides.ensures.way in
    let is : node_of image seconds c.args.p sides ≡ Some (calendar_tree image seconds c.args.second 1) =
    c.one_part.ensures.some image seconds c.args.p c.args.second 1 sides c.requires.covered (leads c.different_ways.ensures c.no_way_goes_on.ensures c.args.second (c.args.p + 1) sides way) in
    c.or_zero.ensures (calendar_tree image seconds c.args.second 1) (c.node.ensures ∙ is) ∙ c.one_calendar.ensures.one_second image seconds c.args.second
