use Rattle.std.proofs.Common.{rules}
use Rattle.ksi_corenode.proofs.lawful.may_store.Goals as goal

pub returns-then-number_of-ballot : goal.returns-then-number_of-ballot
returns-then-number_of-ballot c = search rules
