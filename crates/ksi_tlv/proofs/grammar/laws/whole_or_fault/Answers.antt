use Rattle.ksi_tlv.specs.Containing.{container_verdict}
use Rattle.std.proofs.Common.{refl}
use Rattle.ksi_tlv.proofs.Ways.{container_ok, container_again, fault_first, first_fault}
use Rattle.ksi_tlv.proofs.Verdicts.{one_of, not_both}
use Rattle.ksi_tlv.proofs.grammar.laws.whole_or_fault.Goals as goal

pub returns-clause-whole : goal.returns-clause-whole
returns-clause-whole c = λ t place inside body table. (container_ok t place inside body table, λ s. container_again t place inside body s.0 s.1)

pub returns-clause-fault : goal.returns-clause-fault
returns-clause-fault c = λ t place inside body fault table. (fault_first t place inside body fault table, first_fault t place inside body fault)

pub returns-clause-one : goal.returns-clause-one
returns-clause-one c = λ t place inside body table. one_of t place inside body (container_verdict t place inside body) table refl

pub returns-clause-not_both : goal.returns-clause-not_both
returns-clause-not_both c = λ t place inside body fault table. not_both t place inside body fault
