use Rattle.std.proofs.Common.{rules}
use Rattle.ksi_blocks.specs.Commands.{lined, source_loaded}
use Rattle.ksi_blocks.proofs.Outcomes.{ends, goes_on}
use Rattle.ksi_blocks.proofs.Savings.{leaves_on, unchanged}
use Rattle.ksi_blocks.proofs.line.report.Goals as goal

pub returns-in_err-source-clause-told : goal.returns-in_err-source-clause-told
returns-in_err-source-clause-told g c = λ tells. ends (source_loaded (g.F.Files.held c.args.files.now) c.args.log.now c.args.seed.now) (lined c.args.k) _ _ (c.in_err-source.ensures.told tells) (search rules)

pub returns-clause-told : goal.returns-clause-told
returns-clause-told g c = λ tells. goes_on (source_loaded (g.F.Files.held c.args.files.now) c.args.log.now c.args.seed.now) (lined c.args.k) _ _ (c.in_ok-source.ensures.told tells) c.line_saved.ensures.told

pub returns-in_err-source-clause-leaves : goal.returns-in_err-source-clause-leaves
returns-in_err-source-clause-leaves g c = λ tells.
    unchanged (source_loaded (g.F.Files.held c.args.files.now) c.args.log.now c.args.seed.now) c.args.out.now (g.F.Files.held c.args.files.now) _ _ _ (c.in_err-source.ensures.told tells) (search rules) c.in_err-source.ensures.stays

pub returns-clause-leaves : goal.returns-clause-leaves
returns-clause-leaves g c = λ tells. leaves_on _ _ _ _ _ c.in_ok-source.ensures.stays (c.line_saved.ensures.leaves tells)
