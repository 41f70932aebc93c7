use Rattle.ksi_top.specs.Loading.{schedule_file}
use Rattle.ksi_top.proofs.Read.{schedule_malformed, told}
use Rattle.ksi_top.proofs.reading.ScheduleFileWord.read.Goals as goal

pub returns-in-Err-Fault-clause-told : goal.returns-in-Err-Fault-clause-told
returns-in-Err-Fault-clause-told c =
    let refused = rw c.in-Err-Fault.field-0-is at c.in-Err-Fault.ensures in
    schedule_malformed c.args.n c.args.bytes.now c.in-Err-Fault.fault _ c.malformed.result (c.schedule_is_read.ensures.fault c.args.bytes.now) refused.told c.schedule_fault_line.ensures c.malformed.ensures

pub returns-in-Ok-clause-told : goal.returns-in-Ok-clause-told
returns-in-Ok-clause-told c = told schedule_file c.args.n c.args.bytes.now c.in-Ok.schedule ((c.schedule_is_read.ensures.schedule c.args.bytes.now c.in-Ok.schedule).1 c.in-Ok.ensures.told)
