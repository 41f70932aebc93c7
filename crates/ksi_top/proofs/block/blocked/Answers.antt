use Rattle.std.proofs.Common.{Ok, refl}
use Rattle.ksi_top.specs.Block.{TellsRoot, block_told}
use Rattle.ksi_top.proofs.Logs.{LogLaws, means_of, refusal_means, refused_of, told_of}
use Rattle.ksi_top.proofs.block.blocked.Goals as goal

pub returns-in-Ok-clause-told : goal.returns-in-Ok-clause-told
returns-in-Ok-clause-told c =
    let laws : LogLaws = record { cut = c.log_is_of_lines.ensures.cut; lines = c.log_is_read.ensures.lines; refusal = c.log_is_read.ensures.refusal } in
    told_of laws c.args.seed.now c.args.log.now block_told c.in-Ok.block (Ok c.root_told.result) c.in-Ok.ensures.block (c.in-Ok.ensures.taken refl) c.root_told.ensures.told

pub returns-in-Ok-clause-means : goal.returns-in-Ok-clause-means
returns-in-Ok-clause-means c =
    let laws : LogLaws = record { cut = c.log_is_of_lines.ensures.cut; lines = c.log_is_read.ensures.lines; refusal = c.log_is_read.ensures.refusal } in
    means_of laws c.args.seed.now c.args.log.now TellsRoot c.in-Ok.block (Ok c.root_told.result) c.in-Ok.ensures.block (c.in-Ok.ensures.taken refl) c.root_told.ensures.means

pub returns-in-Err-Fault-clause-told : goal.returns-in-Err-Fault-clause-told
returns-in-Err-Fault-clause-told c =
    let laws : LogLaws = record { cut = c.log_is_of_lines.ensures.cut; lines = c.log_is_read.ensures.lines; refusal = c.log_is_read.ensures.refusal } in
    let refused = rw c.in-Err-Fault.field-0-is at c.in-Err-Fault.ensures.refused in
    refused_of laws c.args.seed.now c.args.log.now block_told c.in-Err-Fault.refusal c.log_refused.result refused c.log_refused.ensures

pub returns-in-Err-Fault-clause-means : goal.returns-in-Err-Fault-clause-means
returns-in-Err-Fault-clause-means c =
    let laws : LogLaws = record { cut = c.log_is_of_lines.ensures.cut; lines = c.log_is_read.ensures.lines; refusal = c.log_is_read.ensures.refusal } in
    let refused = rw c.in-Err-Fault.field-0-is at c.in-Err-Fault.ensures.refused in
    refusal_means laws c.args.seed.now c.args.log.now TellsRoot c.in-Err-Fault.refusal c.log_refused.result refused c.log_refused.ensures
