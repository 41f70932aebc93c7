use Rattle.std.proofs.Common.{subst, rules}
use Rattle.ksi_ports.specs.Stored.{Held}
use Rattle.ksi_blocks.specs.Commands.{log_loaded}
use Rattle.ksi_blocks.specs.Loading.{Gives}
use Rattle.ksi_blocks.specs.Seeds.{seed_loaded}
use Rattle.ksi_blocks.proofs.Outcomes.{ends, goes_on}
use Rattle.ksi_blocks.proofs.source.load_source.Goals as goal

pub returns-in_err-bytes-clause-told : goal.returns-in_err-bytes-clause-told
returns-in_err-bytes-clause-told g c = λ tells.
    ends (seed_loaded (g.F.Files.held c.args.files.now c.args.seed.now)) (λ bytes. log_loaded bytes (g.F.Files.held c.args.files.now c.args.log.now)) _ _ (c.in_err-bytes.ensures.told tells) (search rules)

pub returns-clause-told : goal.returns-clause-told
returns-clause-told g c = λ tells.
    goes_on (seed_loaded (g.F.Files.held c.args.files.now c.args.seed.now)) (λ bytes. log_loaded bytes (g.F.Files.held c.args.files.now c.args.log.now)) _ _ (c.in_ok-bytes.ensures.told tells)
    (subst (λ (held : Held). Gives (log_loaded c.in_ok-bytes.bytes (held c.args.log.now)) c.load_log.result) c.in_ok-bytes.ensures.stays (c.load_log.ensures.told tells))
