use Rattle.std.proofs.Common.{◌++◌}
use Rattle.ksi_world.specs.Histories.{after}
use Rattle.ksi_replay.proofs.Reaching.{covered_too}
use Rattle.ksi_replay.proofs.RootsKept.{root_kept}
use Rattle.ksi_replay.proofs.laws.answered_is_kept.Goals as goal

pub returns : goal.returns
returns c = λ image plan before later journal is are is_journal keeps core p root lt from answer.
    let w = after image plan (before ++ later) in
    let r = c.answered_roots.ensures image plan before later is are core p root lt from answer in
    record {
      covered = covered_too plan w journal keeps c.more_is_known.ensures.covered p r.covered;
      root_is = root_kept plan w journal keeps c.more_is_known.ensures.seconds image p root r;
    }
