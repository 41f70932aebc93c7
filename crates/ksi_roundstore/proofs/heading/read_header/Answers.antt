use Rattle.std.proofs.Common.{sym}
use Rattle.ksi_roundstore.proofs.heading.read_header.Goals as goal

pub returns-clause-head : goal.returns-clause-head
returns-clause-head g c = c.look_at.ensures.head (g.D.Disk.content c.args.disk.now) (sym c.in_ok-read.ensures.filled)
