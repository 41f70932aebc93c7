use Rattle.ksi_extender.proofs.OfBytes.{extension_bytes}
use Rattle.ksi_extender.proofs.laws.extension_is_bytes.Goals as goal

pub returns : goal.returns
returns c = extension_bytes c.extended_is_bytes.ensures
