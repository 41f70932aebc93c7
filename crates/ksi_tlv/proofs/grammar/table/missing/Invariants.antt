use Rattle.std.proofs.Common.{◌≡◌, drop}
use Rattle.ksi_tlv.specs.Counters.{missing_of}
use Rattle.ksi_tlv.proofs.grammar.table.missing.Given as goal

abbrev pub invariant-loop-slot : goal.invariant-loop-slot
invariant-loop-slot l = missing_of (drop l.slot-index l.needs) l.seen l.place ≡ missing_of l.needs l.seen l.place
