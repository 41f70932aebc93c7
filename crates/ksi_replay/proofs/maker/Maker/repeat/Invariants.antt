use Rattle.std.proofs.Common.{◌≡◌}
use Rattle.ksi_schedule.specs.declared.event.Event.TheVariants.{Deliver}
use Rattle.ksi_replay.specs.Making.{happen, times}
use Rattle.ksi_replay.proofs.maker.Maker.repeat.Given as goal

abbrev pub invariant-copies : goal.invariant-copies
invariant-copies l = l.self ≡ (times l._copy (happen (Deliver l.number)) l.initial.self).1
