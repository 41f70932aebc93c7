use Rattle.std.proofs.Common.{◌≡◌, ◌++◌, drop}
use Rattle.ksi_aggtree.specs.Entries.{items_of}
use Rattle.ksi_aggregator.specs.Responses.{responses_from}
use Rattle.ksi_aggregator.proofs.responses.responses_along.Given as goal

abbrev pub invariant-loop-k : goal.invariant-loop-k
invariant-loop-k g l = l.sends.items ++ responses_from g.C.Compress.image l.k l.above (items_of l.entries) (drop l.k l.entries) ≡ responses_from g.C.Compress.image 0 l.above (items_of l.entries) l.entries
