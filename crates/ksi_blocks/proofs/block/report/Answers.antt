use Rattle.std.proofs.Common.{rules}
use Rattle.ksi_blocks.specs.Commands.{blocked, source_loaded}
use Rattle.ksi_blocks.proofs.Outcomes.{ends, goes_on}
use Rattle.ksi_blocks.proofs.block.report.Goals as goal

pub returns-in_err-source-clause-told : goal.returns-in_err-source-clause-told
returns-in_err-source-clause-told g c = λ tells. ends (source_loaded (g.F.Files.held c.args.files.now) c.args.log.now c.args.seed.now) blocked _ _ (c.in_err-source.ensures.told tells) (search rules)

pub returns-clause-told : goal.returns-clause-told
returns-clause-told g c = λ tells. goes_on (source_loaded (g.F.Files.held c.args.files.now) c.args.log.now c.args.seed.now) blocked _ _ (c.in_ok-source.ensures.told tells) c.blocked.ensures
