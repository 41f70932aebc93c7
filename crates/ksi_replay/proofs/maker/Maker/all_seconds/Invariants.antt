use Rattle.std.proofs.Common.{◌≡◌}
use Rattle.ksi_replay.specs.Generate.{seconds_made}
use Rattle.ksi_replay.proofs.maker.Maker.all_seconds.Given as goal

abbrev pub invariant-seconds : goal.invariant-seconds
invariant-seconds l = l.self ≡ (seconds_made 549 l.i 0 l.initial.self).1
