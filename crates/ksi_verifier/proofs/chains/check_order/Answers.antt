use Rattle.std.proofs.Common.{◌-◌, ◌≤◌, map, drop, length, ◌∙◌, arith}
use Rattle.std.proofs.lemmas.List.{length-map, length-drop}
use Rattle.ksi_verifier.proofs.Loops.{order_ends}
use Rattle.ksi_verifier.proofs.chains.check_order.Goals as goal

pub returns : goal.returns
returns g c =
    let below = c.loop-place.place - 1 in
    let rest = drop below c.args.chains.now in
    let few : length (map g.T.AnyChain.plain rest) ≤ 1 = omega (arith, length-map rest g.T.AnyChain.plain, length-drop below c.args.chains.now, c.loop-place-test.false, c.loop-place.invariant.some) in
    order_ends below (map g.T.AnyChain.plain rest) few ∙ c.loop-place.invariant.so_far
