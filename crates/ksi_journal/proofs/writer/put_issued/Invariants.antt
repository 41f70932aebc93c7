use Rattle.std.proofs.Common.{◌≡◌, ◌++◌, drop, map}
use Rattle.std.specs.List.{AllByRecursion}
use Rattle.ksi_journal.specs.Journal.{IsIssued}
use Rattle.ksi_tlv.specs.Writing.{texts}
use Rattle.ksi_journal.specs.Written.{issued_element}
use Rattle.ksi_journal.proofs.writer.put_issued.Given as goal

abbrev pub invariant-loop-signature : goal.invariant-loop-signature
invariant-loop-signature l = (l.writer ++ texts (map issued_element (drop l.signature-index l.issued)) ≡ l.fn.writer ++ texts (map issued_element l.issued)) × AllByRecursion IsIssued (drop l.signature-index l.issued)
