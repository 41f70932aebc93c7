use Rattle.std.proofs.Common.{◌≡◌}
use Rattle.ksi_replay.specs.Making.{each_message}
use Rattle.ksi_replay.specs.Generate.{delivered, delivers}
use Rattle.ksi_replay.proofs.maker.Maker.delivers.Given as goal

abbrev pub invariant-messages : goal.invariant-messages
invariant-messages l = (each_message l.left l.number (delivered l.manner) l.self).1 ≡ (delivers 549 l.manner l.fn.first l.initial.self).1

abbrev pub decreases-messages : goal.decreases-messages
decreases-messages l = l.left
