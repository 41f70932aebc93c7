use Rattle.std.proofs.Common.{◌≡◌, ◌++◌, drop}
use Rattle.ksi_tlv.specs.Writing.{texts}
use Rattle.ksi_mirror.specs.Written.{lists_elements}
use Rattle.ksi_mirror.proofs.writer.put_lists.Given as goal

abbrev pub invariant-lists : goal.invariant-lists
invariant-lists l = l.writer ++ texts (lists_elements (drop l.one-index l.lists)) ≡ l.fn.writer ++ texts (lists_elements l.lists)
