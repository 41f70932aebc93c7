use Rattle.ksi_mirror.specs.File.{mirror_format}
use Rattle.ksi_mirror.specs.Reading.{mirror_at}
use Rattle.ksi_mirror.proofs.laws.mirror_is_read.Goals as goal

pub returns-clause-mirror : goal.returns-clause-mirror
unfolding mirror_at
returns-clause-mirror c = c.file_is_read.ensures.value mirror_format

pub returns-clause-fault : goal.returns-clause-fault
unfolding mirror_at
returns-clause-fault c = c.file_is_read.ensures.fault mirror_format
