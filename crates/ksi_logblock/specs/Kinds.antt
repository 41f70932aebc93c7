-- The kinds of the elements of a line's proof, in their order.
use Rattle.std.specs.Prelude.{ℕ, List, ◌∷◌, map}
use Rattle.ksi_tlv.specs.Kinds.{HasKinds}
use Rattle.ksi_logblock.specs.declared.line_proof.LineProof.{LineProof}
use Rattle.ksi_logblock.specs.File.{magic, kind_of}

-- the mask, then links: 7 to the left, 8 to the right
abbrev pub proof_kinds : LineProof → List ℕ
proof_kinds proof = 1 ∷ map (λ link. kind_of link.side) proof.links

-- after the magic there are whole elements, and their kinds are those of the proof, one for one
abbrev pub IsInOrder : List ℕ → LineProof → Type 0
IsInOrder bytes proof = HasKinds magic (proof_kinds proof) bytes
