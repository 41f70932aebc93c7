use Rattle.ksi_world.specs.Histories.{world_of}
use Rattle.ksi_world.specs.Records.{kept_seconds}
use Rattle.ksi_replay.specs.Journals.{journal_of}
use Rattle.ksi_replay.proofs.Lawful.{roots_are_bytes}
use Rattle.ksi_replay.proofs.laws.journal_is_of_bytes.Goals as goal

pub returns : goal.returns
unfolding journal_of
returns c = λ image h bytes is. roots_are_bytes (kept_seconds image h.plan (world_of image h)) (c.history_is_of_bytes.ensures.kept image h bytes is)
