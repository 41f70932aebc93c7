use Rattle.std.proofs.Common.{◌≡◌, ◌++◌, drop, map}
use Rattle.ksi_tlv.specs.Writing.{texts}
use Rattle.ksi_mirror.specs.Written.{root_element}
use Rattle.ksi_mirror.proofs.writer.put_roots.Given as goal

abbrev pub invariant-roots : goal.invariant-roots
invariant-roots l = l.writer ++ texts (map root_element (drop l.root-index l.roots)) ≡ l.fn.writer ++ texts (map root_element l.roots)
