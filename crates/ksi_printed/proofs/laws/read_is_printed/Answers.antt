use Rattle.ksi_printed.proofs.Again.{read_is_printed}
use Rattle.ksi_printed.proofs.laws.read_is_printed.Goals as goal

pub returns : goal.returns
returns c = read_is_printed
