use Rattle.ksi_top.specs.Loading.{publications_file}
use Rattle.ksi_top.proofs.Read.{malformed}
use Rattle.ksi_top.proofs.reading.view_publications.Goals as goal

pub returns-in-Err-clause-told : goal.returns-in-Err-clause-told
returns-in-Err-clause-told c =
    malformed publications_file c.args.n c.args.bytes.now c.in-Err.fault _ c.malformed.result ((c.publications_are_read.ensures.fault c.args.bytes.now c.in-Err.fault).1 ((c.of.ensures.fault c.in-Err.fault).0 c.in-Err.is)) c.publications_fault_line.ensures c.malformed.ensures
