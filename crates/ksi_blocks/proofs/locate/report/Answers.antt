use Rattle.std.proofs.Common.{subst, rules}
use Rattle.ksi_ports.specs.Stored.{Held}
use Rattle.ksi_blocks.specs.Commands.{line_located, source_loaded}
use Rattle.ksi_blocks.specs.Loading.{Gives}
use Rattle.ksi_blocks.proofs.Outcomes.{ends, goes_on}
use Rattle.ksi_blocks.proofs.locate.report.Goals as goal

pub returns-in_err-source-clause-told : goal.returns-in_err-source-clause-told
returns-in_err-source-clause-told g c = λ tells. ends (source_loaded (g.F.Files.held c.args.files.now) c.args.log.now c.args.seed.now) (line_located (g.F.Files.held c.args.files.now) c.args.line.now c.args.proof.now) _ _ (c.in_err-source.ensures.told tells) (search rules)

pub returns-clause-told : goal.returns-clause-told
returns-clause-told g c = λ tells. goes_on (source_loaded (g.F.Files.held c.args.files.now) c.args.log.now c.args.seed.now) (line_located (g.F.Files.held c.args.files.now) c.args.line.now c.args.proof.now) _ _ (c.in_ok-source.ensures.told tells)
    (subst (λ (held : Held). Gives (line_located held c.args.line.now c.args.proof.now c.in_ok-source.source) c.line_located.result) c.in_ok-source.ensures.stays (c.line_located.ensures.told tells))
