use Rattle.std.proofs.Common.{◌≡◌, IfSome}
use Rattle.ksi_records.proofs.RecordLemmas.{IsSoFar}
use Rattle.ksi_records.proofs.stream.entry_by_entry.Given as goal

-- what was taken is entries that agree, and the history of the tracer is theirs
abbrev pub invariant-entries : goal.invariant-entries
invariant-entries g l = record {
  plan : l.tracer.plan ≡ l.plan;
  so_far : IfSome (g.S.Read.remaining l.fn.log) (λ text. IsSoFar g.C.Compress.image l.plan l.version text (g.S.Read.remaining l.log) (g.W.Write.contents l.fn.out) (g.W.Write.contents l.out) l.tracer.events l.sum);
}
