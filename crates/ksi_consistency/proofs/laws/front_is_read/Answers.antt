use Rattle.ksi_consistency.specs.File.{front_format}
use Rattle.ksi_consistency.specs.Reading.{front_at}
use Rattle.ksi_consistency.proofs.laws.front_is_read.Goals as goal

pub returns-clause-front : goal.returns-clause-front
unfolding front_at
returns-clause-front c = c.file_is_read.ensures.value front_format

pub returns-clause-fault : goal.returns-clause-fault
unfolding front_at
returns-clause-fault c = c.file_is_read.ensures.fault front_format
