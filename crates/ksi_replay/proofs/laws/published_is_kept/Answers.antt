use Rattle.std.proofs.Common.{◌++◌}
use Rattle.ksi_calendar.specs.Covered.{covered_root}
use Rattle.ksi_journal.specs.Journal.{root_at}
use Rattle.ksi_world.specs.Histories.{after}
use Rattle.ksi_replay.proofs.Reaching.{covered_too}
use Rattle.ksi_replay.proofs.RootsKept.{found_root, root_kept}
use Rattle.ksi_replay.proofs.laws.published_is_kept.Goals as goal

pub returns-clause-covered : goal.returns-clause-covered
returns-clause-covered c = λ image plan before later journal is are keeps k p root at.
    covered_too plan (after image plan (before ++ later)) journal keeps c.more_is_known.ensures.covered p (c.published_roots.ensures image plan before later is are k p root at).covered

pub returns-clause-root : goal.returns-clause-root
returns-clause-root c = λ image plan before later journal is are is_journal keeps k p root at.
    root_kept plan (after image plan (before ++ later)) journal keeps c.more_is_known.ensures.seconds image p root (c.published_roots.ensures image plan before later is are k p root at)

pub returns-clause-publish : goal.returns-clause-publish
returns-clause-publish c = λ image plan before later journal is are is_journal keeps k p root at.
    found_root (after image plan before).published p (covered_root image (root_at journal) journal.start p) (λ k other there. returns-clause-root c image plan before later journal is are is_journal keeps k p other there) k root at
