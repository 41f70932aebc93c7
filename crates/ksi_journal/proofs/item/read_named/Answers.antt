use Rattle.std.proofs.Common.{rules}
use Rattle.ksi_journal.specs.Elements.{named_in}
use Rattle.ksi_journal.proofs.item.read_named.Goals as goal

pub returns-in-None-clause-value : goal.returns-in-None-clause-value
unfolding named_in
returns-in-None-clause-value c = search rules
