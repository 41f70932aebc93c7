use Rattle.ksi_world.specs.Histories.{world_of}
use Rattle.ksi_world.specs.Records.{issued_all}
use Rattle.ksi_replay.specs.Journals.{journal_of}
use Rattle.ksi_replay.proofs.Journaled.{journal_keeps}
use Rattle.ksi_replay.proofs.laws.journal_keeps_roots.Goals as goal

pub returns : goal.returns
unfolding journal_of
returns c = λ image h is are.
    let w = world_of image h in
    journal_keeps image h.plan w (λ t root at. c.validity.ensures.kept image h is are t root at) (issued_all image w) w.published
