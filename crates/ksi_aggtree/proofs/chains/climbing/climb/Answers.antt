use Rattle.std.proofs.Common.{◌≡◌, List, map, Ok, Err, Result}
use Rattle.ksi_aggtree.specs.Links.{PlainLink}
use Rattle.ksi_aggtree.specs.Climbing.{climbed}
use Rattle.ksi_aggtree.specs.declared.chains.node.Node.{Node}
use Rattle.ksi_aggtree.specs.declared.chains.climbing.LevelFault.{LevelFault}
use Rattle.ksi_aggtree.proofs.ClimbLemmas.{climb_both, over_both, loop_stops, loop_goes, loop_ends, seen_at, seen_within, seen_past}
use Rattle.ksi_aggtree.proofs.chains.climbing.climb.Goals as goal

pub returns-in-Err : goal.returns-in-Err
returns-in-Err g c =
    let image = g.C.Compress.image in
    let plain = g.L.ChainLink.plain in
    let start : Node = record { imprint = c.args.start; level = c.args.level } in
    let links : List PlainLink = map plain c.args.links.now in
    let place = c.loop-place.place in
    let all : Result Node LevelFault = Err c.in-Err.fault in
    let is : all ≡ climbed image 0 start links =
    loop_stops image place c.loop-place.node (plain c.index-links-place.result) links (climbed image 0 start links)
    (seen_within plain c.args.links.now place c.loop-place-test.true) (seen_at plain c.args.links.now place c.index-links-place.result c.index-links-place.is)
    c.loop-place.invariant c.in-Err.fault c.in-Err.ensures.stops in
    record { climbs = climb_both image start links all is; over = over_both image start links all is; value = is }

pub loop-place-preserved : goal.loop-place-preserved
loop-place-preserved g c =
    let image = g.C.Compress.image in
    let plain = g.L.ChainLink.plain in
    let links : List PlainLink = map plain c.args.links.now in
    let place = c.loop-place.place in
    loop_goes image place c.loop-place.node (plain c.index-links-place.result) links _
    (seen_within plain c.args.links.now place c.loop-place-test.true) (seen_at plain c.args.links.now place c.index-links-place.result c.index-links-place.is)
    c.loop-place.invariant c.in-Ok.above c.in-Ok.ensures.goes

pub returns : goal.returns
returns g c =
    let image = g.C.Compress.image in
    let plain = g.L.ChainLink.plain in
    let start : Node = record { imprint = c.args.start; level = c.args.level } in
    let links : List PlainLink = map plain c.args.links.now in
    let all : Result Node LevelFault = Ok c.loop-place.node in
    let is : all ≡ climbed image 0 start links =
    loop_ends image c.loop-place.place c.loop-place.node links (climbed image 0 start links)
    (seen_past plain c.args.links.now c.loop-place.place c.loop-place-test.false) c.loop-place.invariant in
    record { climbs = climb_both image start links all is; over = over_both image start links all is; value = is }
