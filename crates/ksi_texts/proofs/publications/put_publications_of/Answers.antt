use Rattle.std.proofs.Common.{ℕ, List, ◌++◌, Some, ap, ◌∙◌}
use Rattle.ksi_schedule.specs.Printed.{text_of_lines}
use Rattle.ksi_publications.specs.declared.fault.PublicationsFault.{PublicationsFault}
use Rattle.ksi_texts.specs.Text.{publications_rows}
use Rattle.ksi_texts.proofs.publications.put_publications_of.Goals as goal

pub returns-in_ok-put_publications-in-Ok-clause-told : goal.returns-in_ok-put_publications-in-Ok-clause-told
returns-in_ok-put_publications-in-Ok-clause-told c =
    λ pairs is.
    c.in_ok-put_publications-in-Ok.ensures
    ∙ ap (λ (it : List (ℕ × List ℕ)). c.args.text.now.items ++ text_of_lines (publications_rows it))
    (c.pairs.ensures ∙ c.file_or_fault.ensures.one_list _ _ _ c.in-Ok.ensures.pairs is)

pub returns-in_ok-put_publications-in-Ok-clause-fault : goal.returns-in_ok-put_publications-in-Ok-clause-fault
returns-in_ok-put_publications-in-Ok-clause-fault c = λ fault is. absurd (c.file_or_fault.ensures.not_both _ _ fault c.in-Ok.ensures.pairs is)

pub returns-in_ok-put_publications-in-Ok-clause-stays : goal.returns-in_ok-put_publications-in-Ok-clause-stays
returns-in_ok-put_publications-in-Ok-clause-stays c = λ fault is. absurd (c.file_or_fault.ensures.not_both _ _ fault c.in-Ok.ensures.pairs is)

pub returns-in_err-put_publications-in-Ok-clause-stays : goal.returns-in_err-put_publications-in-Ok-clause-stays
returns-in_err-put_publications-in-Ok-clause-stays c = λ fault is. absurd (c.file_or_fault.ensures.not_both _ _ fault c.in-Ok.ensures.pairs is)

pub returns-in-Err-Fault-clause-ours : goal.returns-in-Err-Fault-clause-ours
returns-in-Err-Fault-clause-ours c = λ pairs is. absurd (c.file_or_fault.ensures.not_both _ pairs _ is (rw c.in-Err-Fault.field-0-is at c.in-Err-Fault.ensures.refused))

pub returns-in-Err-Fault-clause-told : goal.returns-in-Err-Fault-clause-told
returns-in-Err-Fault-clause-told c = λ pairs is. absurd (c.file_or_fault.ensures.not_both _ pairs _ is (rw c.in-Err-Fault.field-0-is at c.in-Err-Fault.ensures.refused))

pub returns-in-Err-Fault-clause-fault : goal.returns-in-Err-Fault-clause-fault
returns-in-Err-Fault-clause-fault c = λ fault is. ap (λ (it : PublicationsFault). Some it) (c.file_or_fault.ensures.one_fault _ _ fault (rw c.in-Err-Fault.field-0-is at c.in-Err-Fault.ensures.refused) is)
