use Rattle.std.proofs.Common.{ℕ, List, refl}
use Rattle.ksi_blocks.specs.Reports.{proof_or_none}
use Rattle.ksi_blocks.proofs.LogReports.{LogLaw, refused_of, told_of}
use Rattle.ksi_blocks.proofs.line.lined.Goals as goal

pub returns-in-Ok : goal.returns-in-Ok
returns-in-Ok c =
    let law : LogLaw = record { lines = c.log_is_read.ensures.lines; refusal = c.log_is_read.ensures.refusal } in
    told_of law c.args.source.now.seed c.args.source.now.log _ c.as_slice.ensures (λ (seed : List ℕ) (lines : List (List ℕ)). proof_or_none seed c.args.k lines) c.in-Ok.block _ c.in-Ok.ensures.block (c.in-Ok.ensures.taken refl) c.proof_or_none.ensures

pub returns-in-Err-Fault : goal.returns-in-Err-Fault
returns-in-Err-Fault c =
    let law : LogLaw = record { lines = c.log_is_read.ensures.lines; refusal = c.log_is_read.ensures.refusal } in
    let applies = rw c.in-Err-Fault.field-0-is at c.in-Err-Fault.ensures.refused in
    let told = rw c.in-Err-Fault.field-0-is at c.log_refused.ensures in
    refused_of law c.args.source.now.seed c.args.source.now.log _ c.as_slice.ensures (λ (seed : List ℕ) (lines : List (List ℕ)). proof_or_none seed c.args.k lines) c.in-Err-Fault.refusal c.log_refused.result applies told
