use Rattle.std.proofs.Common.{Ok, refl, rules}
use Rattle.ksi_blocks.specs.Commands.{file_limit, sourced}
use Rattle.ksi_blocks.specs.Loading.{loaded}
use Rattle.ksi_blocks.proofs.Outcomes.{ends, goes_on}
use Rattle.ksi_blocks.proofs.source.load_log.Goals as goal

pub returns-in_err-log-clause-told : goal.returns-in_err-log-clause-told
returns-in_err-log-clause-told g c = λ tells. ends (loaded 1 file_limit (g.F.Files.held c.args.files.now c.args.name.now)) (sourced c.args.seed) _ _ (c.in_err-log.ensures.told tells) (search rules)

pub returns-clause-told : goal.returns-clause-told
returns-clause-told g c = λ tells. goes_on (loaded 1 file_limit (g.F.Files.held c.args.files.now c.args.name.now)) (sourced c.args.seed) c.in_ok-log.log (Ok (record { seed = c.args.seed; log = c.in_ok-log.log })) (c.in_ok-log.ensures.told tells) refl
