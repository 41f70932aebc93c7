use Rattle.ksi_tlv.specs.Views.{rest}
use Rattle.ksi_tlv.proofs.Loop.{Leaves}
use Rattle.ksi_tlv.proofs.grammar.reader.scan.Given as goal

-- the counters are those of the elements so far, and what is left gives what the whole gives
abbrev pub invariant-loop-item : goal.invariant-loop-item
invariant-loop-item g l = Leaves g.G.Grammar.table l.place l.inside l.body l.seen (rest l.elements)
