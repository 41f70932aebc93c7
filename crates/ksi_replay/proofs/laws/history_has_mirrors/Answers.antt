use Rattle.ksi_imprint.specs.Imprints.{imprint_of}
use Rattle.ksi_world.specs.Histories.{world_of}
use Rattle.ksi_replay.specs.Mirrors.{mirror_of}
use Rattle.ksi_replay.proofs.Copying.{mirror_imprinted}
use Rattle.ksi_replay.proofs.Gathered.{held_kept}
use Rattle.ksi_replay.proofs.laws.history_has_mirrors.Goals as goal

pub returns-clause-any : goal.returns-clause-any
unfolding mirror_of
returns-clause-any c = λ image h images is core there.
    mirror_imprinted h.plan (world_of image h) core is.plan there
    (λ t entries at. c.sealed_is_listed.ensures.round image h is.plan is.events core t entries at)
    (λ t root at. c.issued_is_carried.ensures.kept image h images is.plan is.events is.imprints t root
    (held_kept h.plan (world_of image h) (c.agreement.ensures image h is.plan is.events) core t root there at))
    (λ t entries at. c.sealed_is_listed.ensures.imprints image h images is.plan is.events is.imprints core t entries at)

pub returns-clause-spelled : goal.returns-clause-spelled
returns-clause-spelled c = λ schedule h spelled core there.
    returns-clause-any c imprint_of h c.hashes_are_bytes.ensures.imprints (c.spelled_is_schedule.ensures.history schedule h spelled) core there
