use Rattle.std.proofs.Common.{rules}
use Rattle.ksi_publications.proofs.containers.FileContentGrammar.is_refused.Goals as goal

pub returns-in_default : goal.returns-in_default
returns-in_default c = search rules
