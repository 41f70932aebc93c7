use Rattle.std.proofs.Common.{take}
use Rattle.ksi_corenode.specs.Restored.{IsOfFacts}
use Rattle.ksi_corenode.proofs.node.Core.from_facts.Given as goal

abbrev pub invariant-storing : goal.invariant-storing
invariant-storing g l = IsOfFacts g.C.Compress.image l.fn.me l.fn.plan (take l.k l.facts) l.core
