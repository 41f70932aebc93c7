use Rattle.std.proofs.Common.{refl}
use Rattle.ksi_world.specs.Histories.{world_of}
use Rattle.ksi_replay.specs.Mirrors.{mirror_of}
use Rattle.ksi_replay.proofs.Copying.{mirror_roots, mirror_lists, mirror_others}
use Rattle.ksi_replay.proofs.laws.mirror_is_of_its_core.Goals as goal

pub returns-clause-start : goal.returns-clause-start
unfolding mirror_of
returns-clause-start c = λ image h core. refl

pub returns-clause-roots : goal.returns-clause-roots
unfolding mirror_of
returns-clause-roots c = λ image h is are. mirror_roots h.plan (world_of image h)
    (record { held = c.validity.ensures.range image h is are; sealed = c.sealed_is_listed.ensures.range image h are; core = c.sealed_is_listed.ensures.core image h is are })

pub returns-clause-lists : goal.returns-clause-lists
unfolding mirror_of
returns-clause-lists c = λ image h is are. mirror_lists h.plan (world_of image h)
    (record { held = c.validity.ensures.range image h is are; sealed = c.sealed_is_listed.ensures.range image h are; core = c.sealed_is_listed.ensures.core image h is are })

pub returns-clause-others : goal.returns-clause-others
unfolding mirror_of
returns-clause-others c = λ image h. mirror_others h.plan (world_of image h)
