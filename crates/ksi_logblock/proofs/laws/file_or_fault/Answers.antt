use Rattle.ksi_logblock.specs.File.{proof_format}
use Rattle.ksi_logblock.proofs.laws.file_or_fault.Goals as goal

pub returns-clause-one : goal.returns-clause-one
returns-clause-one c = c.file_or_fault.ensures.one proof_format

pub returns-clause-not_both : goal.returns-clause-not_both
returns-clause-not_both c = c.file_or_fault.ensures.not_both proof_format

pub returns-clause-one_proof : goal.returns-clause-one_proof
returns-clause-one_proof c = c.file_or_fault.ensures.one_value proof_format

pub returns-clause-one_fault : goal.returns-clause-one_fault
returns-clause-one_fault c = c.file_or_fault.ensures.one_fault proof_format
