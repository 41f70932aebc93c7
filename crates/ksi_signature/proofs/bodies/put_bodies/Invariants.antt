use Rattle.std.proofs.Common.{◌≡◌, ◌++◌, map, drop, length}
use Rattle.ksi_tlv.specs.Spelling.{plain}
use Rattle.ksi_tlv.specs.Writing.{texts}
use Rattle.ksi_signature.specs.Written.{first_long}
use Rattle.ksi_signature.proofs.bodies.put_bodies.Given as goal

abbrev pub invariant-loop-body : goal.invariant-loop-body
invariant-loop-body l =
    (l.writer ++ texts (map (plain l.kind) (drop l.body-index l.bodies)) ≡ l.fn.writer ++ texts (map (plain l.kind) l.bodies))
    × (first_long (map length (drop l.body-index l.bodies)) ≡ first_long (map length l.bodies))
