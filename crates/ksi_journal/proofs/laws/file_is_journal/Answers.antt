use Rattle.ksi_journal.proofs.Ordered.{is_journal, in_order, no_longer}
use Rattle.ksi_journal.proofs.laws.file_is_journal.Goals as goal

pub returns-clause-journal : goal.returns-clause-journal
returns-clause-journal c =
    is_journal (record { reading = c.reading_is_elements.ensures; fewest = c.numeral_is_read.ensures.fewest }) (record { early = c.values_are_bounded.ensures.early; imprint = c.values_are_bounded.ensures.imprint })

pub returns-clause-kinds : goal.returns-clause-kinds
returns-clause-kinds c =
    in_order (record { reading = c.reading_is_elements.ensures; fewest = c.numeral_is_read.ensures.fewest }) (record { early = c.values_are_bounded.ensures.early; imprint = c.values_are_bounded.ensures.imprint })

pub returns-clause-shortest : goal.returns-clause-shortest
returns-clause-shortest c = λ image bytes journal version are file.
    no_longer (record { reading = c.reading_is_elements.ensures; fewest = c.numeral_is_read.ensures.fewest }) (record { early = c.values_are_bounded.ensures.early; imprint = c.values_are_bounded.ensures.imprint })
    image bytes journal are file version
