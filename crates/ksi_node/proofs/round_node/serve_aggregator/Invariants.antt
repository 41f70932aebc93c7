use Rattle.std.proofs.Common.{◌≡◌, ◌<◌, length}
use Rattle.ksi_roundstore.specs.Stores.{IsStore}
use Rattle.ksi_node.specs.RoundOutcomes.{RoundOutcome}
use Rattle.ksi_node.proofs.ServeLemmas.{Serving}
use Rattle.ksi_node.proofs.round_node.serve_aggregator.Given as goal

-- the store is that of the aggregator, and what was said so far is a block for each line so far
abbrev pub invariant-serving : goal.invariant-serving
invariant-serving g l = record {
  there : l.me < length l.plan.parents;
  me : l.store.aggregator.me ≡ l.me;
  kept : IsStore g.D.Disk.content g.D.Disk.images l.me l.plan l.store;
  faults : g.D.Disk.faults l.store.log.disk ≡ g.D.Disk.faults l.fn.store.log.disk;
  served : Serving (RoundOutcome g.C.Compress.image l.plan l.me) l.fn.store.records (g.R.Read.remaining l.fn.reader) (g.R.Read.remaining l.reader) l.fn.store l.store (g.O.Outlet.said l.fn.out) (g.O.Outlet.said l.out);
}
