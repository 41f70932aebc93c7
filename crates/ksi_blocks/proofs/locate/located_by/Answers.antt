use Rattle.std.proofs.Common.{rules}
use Rattle.ksi_blocks.specs.Commands.{looked_up, proof_loaded}
use Rattle.ksi_blocks.proofs.Outcomes.{ends, goes_on}
use Rattle.ksi_blocks.proofs.locate.located_by.Goals as goal

pub returns-in_err-read-clause-told : goal.returns-in_err-read-clause-told
returns-in_err-read-clause-told g c = λ tells. ends (proof_loaded (g.F.Files.held c.args.files.now c.args.proof.now)) (looked_up c.args.source.now c.args.line.now) _ _ (c.in_err-read.ensures.told tells) (search rules)

pub returns-clause-told : goal.returns-clause-told
returns-clause-told g c = λ tells. goes_on (proof_loaded (g.F.Files.held c.args.files.now c.args.proof.now)) (looked_up c.args.source.now c.args.line.now) _ _ (c.in_ok-read.ensures.told tells) c.looked_up.ensures
