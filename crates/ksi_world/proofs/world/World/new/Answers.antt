use Rattle.std.proofs.Common.{sym, subst}
use Rattle.ksi_world.specs.Nodes.{IsWorld}
use Rattle.ksi_world.proofs.Running.{world_first}
use Rattle.ksi_world.proofs.world.World.new.Goals as goal

pub invariant_of-result : goal.invariant_of-result
invariant_of-result g c =
    let image = g.C.Compress.image in
    let nodes = c.in_ok-nodes.nodes in
    subst (λ plan. IsWorld image plan c.new-2.result.items nodes) (sym c.in_ok-plan.ensures.copied)
    (subst (λ events. IsWorld image c.args.plan.now events nodes) (sym c.new-2.ensures.items)
    (world_first image c.args.plan.now nodes c.copy.ensures.limits c.in_ok-nodes.ensures))
