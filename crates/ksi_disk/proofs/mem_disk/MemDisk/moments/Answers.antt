use Rattle.std.proofs.Common.{[], length, ap, arith}
use Rattle.ksi_disk.proofs.DeedLemmas.{length-deeds_onto}
use Rattle.ksi_disk.proofs.mem_disk.MemDisk.moments.Goals as goal

pub returns : goal.returns
returns c = let inside = c.self.inside in omega (arith, length-deeds_onto [] inside.marks.items inside.pieces.items, ap (λ d. length d.deeds) c.self.view_is)
