use Rattle.ksi_signature.proofs.Made.{extended_bytes}
use Rattle.ksi_signature.proofs.laws.extended_is_bytes.Goals as goal

pub returns : goal.returns
returns c = extended_bytes
