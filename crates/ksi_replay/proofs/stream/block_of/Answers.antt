use Rattle.std.proofs.Common.{◌∙◌}
use Rattle.ksi_replay.proofs.Places.{block_is}
use Rattle.ksi_replay.proofs.stream.block_of.Goals as goal

pub returns : goal.returns
returns c =
    c.finalize.ensures _ (c.update-3.ensures _ (c.update-2.ensures _ (c.update.ensures _ c.new-hasher.ensures)))
    ∙ block_is c.args.number c.args.i c.to_be_bytes.result c.to_be_bytes-2.result c.to_be_bytes.ensures c.to_be_bytes-2.ensures
