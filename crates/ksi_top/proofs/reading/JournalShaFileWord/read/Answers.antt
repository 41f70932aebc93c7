use Rattle.ksi_imprint.specs.Imprints.{imprint_of}
use Rattle.ksi_top.specs.Loading.{journal_file}
use Rattle.ksi_top.proofs.Read.{malformed}
use Rattle.ksi_top.proofs.reading.JournalShaFileWord.read.Goals as goal

pub returns-in-Err-Fault-clause-told : goal.returns-in-Err-Fault-clause-told
returns-in-Err-Fault-clause-told c =
    let refused = rw c.in-Err-Fault.field-0-is at c.in-Err-Fault.ensures in
    malformed journal_file c.args.n c.args.bytes.now c.in-Err-Fault.fault _ c.malformed.result ((c.journal_is_read.ensures.fault imprint_of c.args.bytes.now c.in-Err-Fault.fault).1 refused.refused) c.journal_fault_line.ensures c.malformed.ensures
