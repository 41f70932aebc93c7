use Rattle.std.proofs.Common.{◌≡◌, ◌+◌, ◌<◌, ◌^◌, drop, length, map}
use Rattle.ksi_tlv.specs.Spelling.{plain}
use Rattle.ksi_tlv.specs.Writing.{texts}
use Rattle.ksi_signature.specs.Lengths.{capped}
use Rattle.ksi_signature.proofs.lengths.bodies_size.Given as goal

abbrev pub invariant-loop-body : goal.invariant-loop-body
invariant-loop-body l =
    (capped (l.size + length (texts (map (plain l.kind) (drop l.body-index l.bodies)))) ≡ capped (length (texts (map (plain l.kind) l.bodies))))
    × (l.size < 2 ^ 64)
