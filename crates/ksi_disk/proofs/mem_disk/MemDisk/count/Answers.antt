use Rattle.std.proofs.Common.{rules}
use Rattle.ksi_disk.proofs.mem_disk.MemDisk.count.Goals as goal

pub returns-then-failed-clause-after : goal.returns-then-failed-clause-after
returns-then-failed-clause-after c = search rules

pub returns-then-failed-clause-rises : goal.returns-then-failed-clause-rises
returns-then-failed-clause-rises c = search rules
