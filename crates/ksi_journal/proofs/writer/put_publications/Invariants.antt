use Rattle.std.proofs.Common.{◌≡◌, ◌++◌, drop, map}
use Rattle.ksi_tlv.specs.Writing.{texts}
use Rattle.ksi_journal.specs.Written.{publication_element}
use Rattle.ksi_journal.proofs.writer.put_publications.Given as goal

abbrev pub invariant-loop-publication : goal.invariant-loop-publication
invariant-loop-publication l = l.writer ++ texts (map publication_element (drop l.publication-index l.publications)) ≡ l.fn.writer ++ texts (map publication_element l.publications)
