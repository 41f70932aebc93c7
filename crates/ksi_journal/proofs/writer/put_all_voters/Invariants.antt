use Rattle.std.proofs.Common.{◌≡◌, ◌++◌, drop, map}
use Rattle.std.specs.List.{AllByRecursion}
use Rattle.ksi_tlv.specs.Writing.{texts}
use Rattle.ksi_journal.specs.Journal.{IsVoters}
use Rattle.ksi_journal.specs.Written.{voters_element}
use Rattle.ksi_journal.proofs.writer.put_all_voters.Given as goal

abbrev pub invariant-loop-pair : goal.invariant-loop-pair
invariant-loop-pair l = (l.writer ++ texts (map voters_element (drop l.pair-index l.voters)) ≡ l.fn.writer ++ texts (map voters_element l.voters)) × AllByRecursion IsVoters (drop l.pair-index l.voters)
