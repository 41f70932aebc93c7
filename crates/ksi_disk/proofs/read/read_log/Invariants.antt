use Rattle.std.proofs.Common.{◌≡◌, ◌≤◌, ◌-◌, drop}
use Rattle.ksi_disk.specs.Gates.{behind, reading_at, reading_of}
use Rattle.ksi_disk.specs.Reads.{WroteNothing}
use Rattle.ksi_disk.proofs.read.read_log.Given as goal

-- what is read is what was read so far, and what is read from this place on
abbrev pub invariant-reading : goal.invariant-reading
invariant-reading g l =
    let file = g.D.Disk.content l.fn.disk in
    record {
      so_far : reading_of l.from file ≡ behind l.records (reading_at l.place (drop l.place file));
      within : l.place ≤ l.len;
      stays : g.D.Disk.content l.disk ≡ file;
      nothing : WroteNothing g.D.Disk.images g.D.Disk.moment g.D.Disk.images_since g.D.Disk.meter l.fn.disk l.disk;
      counted : g.D.Disk.faults l.disk ≡ g.D.Disk.faults l.fn.disk;
    }

abbrev pub decreases-reading : goal.decreases-reading
decreases-reading g l = l.len - l.place
