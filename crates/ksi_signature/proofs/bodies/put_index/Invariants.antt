use Rattle.std.proofs.Common.{◌≡◌, ◌++◌, map, drop}
use Rattle.ksi_tlv.specs.Writing.{texts}
use Rattle.ksi_signature.specs.Written.{part_element}
use Rattle.ksi_signature.proofs.bodies.put_index.Given as goal

abbrev pub invariant-loop-part : goal.invariant-loop-part
invariant-loop-part l =
    l.writer ++ texts (map part_element (drop l.part-index l.index)) ≡ l.fn.writer ++ texts (map part_element l.index)
