use Rattle.std.proofs.Common.{◌≡◌}
use Rattle.ksi_replay.specs.Making.{times}
use Rattle.ksi_replay.specs.Generate.{request}
use Rattle.ksi_replay.proofs.maker.Maker.repeated.Given as goal

abbrev pub invariant-requests : goal.invariant-requests
invariant-requests l = l.self ≡ (times l._request (request l.second) l.initial.self).1
