use Rattle.ksi_node_tests.proofs.stopped_cores.Running.take.Goals as goal

pub invariant_of-result : goal.invariant_of-result
invariant_of-result g c = (rw c.in-Ok.ensures.turn.start c.self.invariant.0, rw c.in-Ok.ensures.turn.plan c.self.invariant.1)
