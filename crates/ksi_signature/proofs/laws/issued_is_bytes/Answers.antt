use Rattle.ksi_signature.proofs.Made.{issued_bytes}
use Rattle.ksi_signature.proofs.laws.issued_is_bytes.Goals as goal

pub returns : goal.returns
returns c = λ second input links above may are. issued_bytes second input links above are (c.issued_is_signature.ensures.short second input links above may)
