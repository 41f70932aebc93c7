use Rattle.ksi_imprint.specs.Imprints.{imprint_of}
use Rattle.ksi_replay.specs.Journals.{journal_of}
use Rattle.ksi_replay.proofs.laws.extensions_are_bytes.Goals as goal

pub returns-clause-own : goal.returns-clause-own
returns-clause-own c = λ image h images bytes is number text is_issued p extension extends.
    c.extension_is_bytes.ensures image (journal_of image h) bytes (c.journal_is_of_bytes.ensures image h bytes is) text extension p
    (c.history_is_of_bytes.ensures.issued image h images bytes is number text is_issued) extends

pub returns-clause-spelled : goal.returns-clause-spelled
returns-clause-spelled c = λ schedule h spelled number text is_issued p extension extends.
    returns-clause-own c imprint_of h c.hashes_are_bytes.ensures.imprints c.hashes_are_bytes.ensures.bytes (c.spelled_is_schedule.ensures.history schedule h spelled)
    number text is_issued p extension extends
