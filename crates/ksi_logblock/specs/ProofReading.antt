-- The proof that bytes are, or their first fault. The law `proof_is_read` says that these are those of `File`.
use Rattle.std.specs.Prelude.{ℕ, List, Result}
use Rattle.ksi_tlv.specs.Reading.{file_at}
use Rattle.ksi_logblock.specs.declared.line_proof.LineProof.{LineProof}
use Rattle.ksi_logblock.specs.declared.proof_fault.ProofFault.{ProofFault}
use Rattle.ksi_logblock.specs.File.{proof_format}

unfoldable pub proof_at : List ℕ → Result LineProof ProofFault
proof_at bytes = file_at proof_format bytes
