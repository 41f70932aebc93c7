use Rattle.ksi_nodestore.proofs.Roomy.{roomy}
use Rattle.ksi_nodestore.proofs.in_memory.NodeStore+C+MemDisk.make_room.Goals as goal

pub invariant_of-self : goal.invariant_of-self
invariant_of-self g c = λ fresh.
    let is = c.self.invariant fresh in
    (is.0, is.1, is.2, roomy g.C.Compress.image is.0 is.1 is.2 (record { core = c.self.inside.core; log = c.self.inside.log; records = c.self.inside.records }) c.make_room.new.self c.args.room c.args.turns c.make_room.result c.make_room.ensures.made c.make_room.ensures.unchanged is.3)

pub returns-clause-stored : goal.returns-clause-stored
returns-clause-stored g c = rw (← c.self.view_is) (λ me plan facts is.
    roomy g.C.Compress.image me plan facts (record { core = c.self.inside.core; log = c.self.inside.log; records = c.self.inside.records }) c.make_room.new.self c.args.room c.args.turns c.make_room.result c.make_room.ensures.made c.make_room.ensures.unchanged is)
