use Rattle.std.proofs.Common.{ap, ◌∙◌}
use Rattle.ksi_schedule.specs.Reading.{words_left}
use Rattle.ksi_wire.specs.Asked.{imprint_in}
use Rattle.ksi_wire.proofs.Ends.{no_imprint}
use Rattle.ksi_wire.proofs.cursor.Words.imprint.Goals as goal

pub returns-in_default : goal.returns-in_default
returns-in_default c = ap imprint_in c.in_ok-next_word.ensures ∙ no_imprint c.in_ok-next_word.field-0.now (words_left c.next_word.new.self.left) c.in_default.ensures.cases.0
