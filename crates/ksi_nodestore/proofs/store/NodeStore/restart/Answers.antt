use Rattle.std.proofs.Common.{refl}
use Rattle.ksi_nodestore.proofs.Restarted.{store_again}
use Rattle.ksi_nodestore.proofs.store.NodeStore.restart.Goals as goal

pub invariant_of-self : goal.invariant_of-self
invariant_of-self g c = λ fresh.
    let is = c.self.invariant fresh in (
      is.0,
      is.1,
      is.2,
      store_again g.C.Compress.image g.D.Disk.content g.D.Disk.images is.0 is.1 is.2 (record { core = c.self.inside.core; log = c.self.inside.log; records = c.self.inside.records }) (record { core = c.restart.new.self; log = c.self.inside.log; records = c.self.inside.records })
          c.restart.ensures.me c.restart.ensures.plan c.restart.ensures.start c.restart.ensures.seconds refl refl is.3,
    )

pub returns-clause-stored : goal.returns-clause-stored
returns-clause-stored g c = rw (← c.self.view_is) (λ me plan facts is.
    store_again g.C.Compress.image g.D.Disk.content g.D.Disk.images me plan facts (record { core = c.self.inside.core; log = c.self.inside.log; records = c.self.inside.records }) (record { core = c.restart.new.self; log = c.self.inside.log; records = c.self.inside.records })
    c.restart.ensures.me c.restart.ensures.plan c.restart.ensures.start c.restart.ensures.seconds refl refl is)
