use Rattle.std.proofs.Common.{Ok, ap, refl, sym}
use Rattle.ksi_blocks.specs.declared.report.Report.{Report}
use Rattle.ksi_blocks.specs.Loading.{Outcome}
use Rattle.ksi_blocks.specs.Reports.{root_report}
use Rattle.ksi_blocks.proofs.LogReports.{LogLaw, refused_of, told_of}
use Rattle.ksi_blocks.proofs.block.blocked.Goals as goal

pub returns-in-Ok : goal.returns-in-Ok
returns-in-Ok c =
    let law : LogLaw = record { lines = c.log_is_read.ensures.lines; refusal = c.log_is_read.ensures.refusal } in
    told_of law c.args.source.now.seed c.args.source.now.log _ c.as_slice.ensures root_report c.in-Ok.block (Ok c.root_told.result) c.in-Ok.ensures.block (c.in-Ok.ensures.taken refl) (ap (λ (report : Report). let it : Outcome Report = Ok report in it) (sym c.root_told.ensures))

pub returns-in-Err-Fault : goal.returns-in-Err-Fault
returns-in-Err-Fault c =
    let law : LogLaw = record { lines = c.log_is_read.ensures.lines; refusal = c.log_is_read.ensures.refusal } in
    let applies = rw c.in-Err-Fault.field-0-is at c.in-Err-Fault.ensures.refused in
    refused_of law c.args.source.now.seed c.args.source.now.log _ c.as_slice.ensures root_report c.in-Err-Fault.refusal c.log_refused.result applies c.log_refused.ensures
