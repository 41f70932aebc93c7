use Rattle.std.proofs.Common.{ℕ, List, refl}
use Rattle.ksi_blocks.specs.Reports.{where_report}
use Rattle.ksi_blocks.proofs.LogReports.{LogLaw, refused_of, told_of}
use Rattle.ksi_blocks.proofs.locate.looked_up.Goals as goal

pub returns-in-Ok : goal.returns-in-Ok
returns-in-Ok c =
    let law : LogLaw = record { lines = c.log_is_read.ensures.lines; refusal = c.log_is_read.ensures.refusal } in
    told_of law c.args.source.now.seed c.args.source.now.log _ c.as_slice.ensures (λ (seed : List ℕ) (lines : List (List ℕ)). where_report seed c.args.line.now c.args.proof.now lines) c.in-Ok.block _ c.in-Ok.ensures.block (c.in-Ok.ensures.taken refl) c.where_told.ensures

pub returns-in-Err-Fault : goal.returns-in-Err-Fault
returns-in-Err-Fault c =
    let law : LogLaw = record { lines = c.log_is_read.ensures.lines; refusal = c.log_is_read.ensures.refusal } in
    let applies = rw c.in-Err-Fault.field-0-is at c.in-Err-Fault.ensures.refused in
    let told = rw c.in-Err-Fault.field-0-is at c.log_refused.ensures in
    refused_of law c.args.source.now.seed c.args.source.now.log _ c.as_slice.ensures (λ (seed : List ℕ) (lines : List (List ℕ)). where_report seed c.args.line.now c.args.proof.now lines) c.in-Err-Fault.refusal c.log_refused.result applies told
