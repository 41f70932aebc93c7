use Rattle.std.proofs.Common.{◌≡◌, drop}
use Rattle.ksi_ports.specs.Memory.{cut_at}
use Rattle.ksi_ports.proofs.mem_sink.cut_of.Given as goal

-- no cut so far is of that put
abbrev pub invariant-loop-cut : goal.invariant-loop-cut
invariant-loop-cut l = cut_at (drop l.cut-index l.cuts) l.call ≡ cut_at l.cuts l.call
