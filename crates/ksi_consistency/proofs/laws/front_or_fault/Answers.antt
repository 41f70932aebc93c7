use Rattle.ksi_consistency.specs.File.{front_format}
use Rattle.ksi_consistency.proofs.laws.front_or_fault.Goals as goal

pub returns-clause-one : goal.returns-clause-one
returns-clause-one c = c.file_or_fault.ensures.one front_format

pub returns-clause-not_both : goal.returns-clause-not_both
returns-clause-not_both c = c.file_or_fault.ensures.not_both front_format

pub returns-clause-one_front : goal.returns-clause-one_front
returns-clause-one_front c = c.file_or_fault.ensures.one_value front_format

pub returns-clause-one_fault : goal.returns-clause-one_fault
returns-clause-one_fault c = c.file_or_fault.ensures.one_fault front_format
