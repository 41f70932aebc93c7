use Rattle.std.proofs.Common.{rules}
use Rattle.ksi_disk.proofs.draft.Record.into_text.Goals as goal

pub returns : goal.returns
returns c = search rules
