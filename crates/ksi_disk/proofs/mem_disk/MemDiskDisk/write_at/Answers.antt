use Rattle.std.proofs.Common.{rules}
use Rattle.ksi_disk.proofs.mem_disk.MemDiskDisk.write_at.Goals as goal

pub returns-then-listed-clause-after : goal.returns-then-listed-clause-after
returns-then-listed-clause-after c = search rules
