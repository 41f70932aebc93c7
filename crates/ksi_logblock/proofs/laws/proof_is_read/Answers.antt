use Rattle.ksi_logblock.specs.File.{proof_format}
use Rattle.ksi_logblock.specs.ProofReading.{proof_at}
use Rattle.ksi_logblock.proofs.laws.proof_is_read.Goals as goal

pub returns-clause-proof : goal.returns-clause-proof
unfolding proof_at
returns-clause-proof c = c.file_is_read.ensures.value proof_format

pub returns-clause-fault : goal.returns-clause-fault
unfolding proof_at
returns-clause-fault c = c.file_is_read.ensures.fault proof_format
