use Rattle.std.proofs.Common.{◌≡◌}
use Rattle.ksi_nodestore.specs.StoreState.{IsStore}
use Rattle.ksi_schedule.specs.Plans.{core_plan_of}
use Rattle.ksi_node.specs.CoreOutcomes.{CoreOutcome}
use Rattle.ksi_node.proofs.ServeLemmas.{Serving}
use Rattle.ksi_node.proofs.core_node.serve_core.Given as goal

-- the store is one of facts, its core that of the plan, and what was said so far is a block for each line so far
abbrev pub invariant-serving : goal.invariant-serving
invariant-serving g l = record {
  start : l.store.core.start ≡ l.plan.start;
  plan : l.store.core.plan ≡ core_plan_of l.plan;
  me : l.store.core.me ≡ l.me;
  stored : IsStore g.C.Compress.image g.D.Disk.content g.D.Disk.images l.store;
  faults : g.D.Disk.faults l.store.log.disk ≡ g.D.Disk.faults l.fn.store.log.disk;
  served : Serving (CoreOutcome g.C.Compress.image l.plan l.me) l.fn.store.records (g.R.Read.remaining l.fn.reader) (g.R.Read.remaining l.reader) l.fn.store l.store (g.O.Outlet.said l.fn.out) (g.O.Outlet.said l.out);
}
