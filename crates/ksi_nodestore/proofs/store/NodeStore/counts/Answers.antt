use Rattle.ksi_nodestore.proofs.store.NodeStore.counts.Goals as goal

pub returns-clause-sealed : goal.returns-clause-sealed
returns-clause-sealed g c = rw (← c.self.view_is) c.counts-seconds.ensures.sealed

pub returns-clause-held : goal.returns-clause-held
returns-clause-held g c = rw (← c.self.view_is) c.counts-seconds.ensures.held
