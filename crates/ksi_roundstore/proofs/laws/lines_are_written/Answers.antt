use Rattle.ksi_roundstore.proofs.ReadAs.{read_as}
use Rattle.ksi_roundstore.proofs.Unread.{feedless}
use Rattle.ksi_roundstore.proofs.laws.lines_are_written.Goals as goal

pub returns : goal.returns
returns c = λ plan me line event read text fits free. (read_as plan me line event text read fits).written (feedless line free)
