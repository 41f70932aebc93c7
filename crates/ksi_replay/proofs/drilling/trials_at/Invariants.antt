use Rattle.std.proofs.Common.{◌≡◌, map, take}
use Rattle.ksi_imprint.specs.Imprints.{imprint_of}
use Rattle.ksi_replay.specs.Trials.{trial}
use Rattle.ksi_replay.proofs.drilling.trials_at.Given as goal

abbrev pub invariant-trials : goal.invariant-trials
invariant-trials l = l.found.items ≡ map (trial imprint_of l.requests l.journal l.p) (take l.issued-index l.all)
