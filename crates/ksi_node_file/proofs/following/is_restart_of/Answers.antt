use Rattle.std.proofs.Common.{rules}
use Rattle.ksi_node_file.proofs.following.is_restart_of.Goals as goal

pub returns-in-RestartCore : goal.returns-in-RestartCore
returns-in-RestartCore c = search rules
