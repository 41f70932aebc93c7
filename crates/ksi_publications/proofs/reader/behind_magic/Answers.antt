use Rattle.std.proofs.Common.{sym, ◌∙◌}
use Rattle.ksi_publications.proofs.Named.{file_named}
use Rattle.ksi_publications.proofs.Files.{fault_of}
use Rattle.ksi_publications.proofs.reader.behind_magic.Goals as goal

pub named-requires : goal.named-requires
named-requires c = file_named c.faults_by_table.ensures 0 8 c.in-Some.rest.now c.in-Err.fault (sym c.check.ensures.exact ∙ c.in-Err.is)

pub returns-in-Err-clause-fault : goal.returns-in-Err-clause-fault
returns-in-Err-clause-fault c =
    fault_of (record { whole = c.whole_or_fault.ensures.whole; fault = c.whole_or_fault.ensures.fault }) c.args.bytes.now c.in-Some.rest.now c.in-Err.fault c.named.result c.in-Some.ensures.some (sym c.check.ensures.exact ∙ c.in-Err.is) c.named.ensures
