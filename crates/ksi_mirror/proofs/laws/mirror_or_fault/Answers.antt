use Rattle.ksi_mirror.specs.File.{mirror_format}
use Rattle.ksi_mirror.proofs.laws.mirror_or_fault.Goals as goal

pub returns-clause-one : goal.returns-clause-one
returns-clause-one c = c.file_or_fault.ensures.one mirror_format

pub returns-clause-not_both : goal.returns-clause-not_both
returns-clause-not_both c = c.file_or_fault.ensures.not_both mirror_format

pub returns-clause-one_mirror : goal.returns-clause-one_mirror
returns-clause-one_mirror c = c.file_or_fault.ensures.one_value mirror_format

pub returns-clause-one_fault : goal.returns-clause-one_fault
returns-clause-one_fault c = c.file_or_fault.ensures.one_fault mirror_format
