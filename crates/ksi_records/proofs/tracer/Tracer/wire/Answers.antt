use Rattle.std.proofs.Common.{subst, sym}
use Rattle.ksi_world.specs.Histories.{world_of}
use Rattle.ksi_records.specs.Told.{AreEarly}
use Rattle.ksi_records.proofs.WireLemmas.{are_early, wire_early}
use Rattle.ksi_records.proofs.tracer.Tracer.wire.Goals as goal

pub returns-clause-early : goal.returns-clause-early
returns-clause-early g c =
    let image = g.C.Compress.image in
    let h = c.self.inside.world in
    subst AreEarly (sym c.wire.ensures) (are_early (world_of image h).wire (wire_early image h.plan h.events c.plan.ensures.limits c.events.ensures.lawful))
