use Rattle.ksi_ports.specs.Stored.{Held}
use Rattle.ksi_words.specs.Words.{Asked, verify}
use Rattle.ksi_top.specs.Complete.{Complete}
use Rattle.ksi_top.specs.Run.{row_of}
use Rattle.ksi_top.proofs.Accepting.{accepted_again}
use Rattle.ksi_top.proofs.Reporting.{complete_of}
use Rattle.ksi_top.proofs.completeness.issued_is_accepted.Goals as goal

pub returns : goal.returns
returns c = λ words held. complete_of by_command words held
  where
    by_command : (asked : Asked) (held : Held) → Complete asked held ((row_of asked).ran held).reported
    by_command (verify signature hash publications) held = accepted_again c.signature_is_read.ensures.signature c.publications_are_read.ensures.pairs c.histories_hold.ensures.holds c.extensions_are_bytes.ensures.spelled signature hash publications held
    by_command _ held = tt
