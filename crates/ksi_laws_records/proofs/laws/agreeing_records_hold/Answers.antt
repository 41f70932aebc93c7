use Rattle.ksi_imprint.specs.Imprints.{imprint_of}
use Rattle.ksi_laws_records.proofs.HandingOut.{record_holds}
use Rattle.ksi_laws_records.proofs.laws.agreeing_records_hold.Goals as goal

pub returns-clause-any : goal.returns-clause-any
returns-clause-any c = λ image plan text counts images bytes has.
    record_holds image plan text counts (λ history is. c.all_holds.ensures.any image history images bytes is) (λ plan before later number text is. c.issued_stays.ensures.issued image plan before later number text is) has

pub returns-clause-sha : goal.returns-clause-sha
returns-clause-sha c = λ plan text counts has. returns-clause-any c imprint_of plan text counts c.hashes_are_bytes.ensures.imprints c.hashes_are_bytes.ensures.bytes has
