use Rattle.std.proofs.Common.{subst, rules}
use Rattle.ksi_ports.specs.Stored.{Held}
use Rattle.ksi_logblock.specs.Blocks.{longest_line}
use Rattle.ksi_blocks.specs.Commands.{located_by}
use Rattle.ksi_blocks.specs.Loading.{Gives, loaded}
use Rattle.ksi_blocks.proofs.Outcomes.{ends, goes_on}
use Rattle.ksi_blocks.proofs.locate.line_located.Goals as goal

pub returns-in_err-bytes-clause-told : goal.returns-in_err-bytes-clause-told
returns-in_err-bytes-clause-told g c = λ tells.
    ends (loaded 3 longest_line (g.F.Files.held c.args.files.now c.args.line.now)) (λ bytes. located_by c.args.source.now bytes (g.F.Files.held c.args.files.now c.args.proof.now)) _ _ (c.in_err-bytes.ensures.told tells) (search rules)

pub returns-clause-told : goal.returns-clause-told
returns-clause-told g c = λ tells.
    let told = rw c.as_slice.ensures at c.located_by.ensures.told in
    goes_on (loaded 3 longest_line (g.F.Files.held c.args.files.now c.args.line.now)) (λ bytes. located_by c.args.source.now bytes (g.F.Files.held c.args.files.now c.args.proof.now)) _ _ (c.in_ok-bytes.ensures.told tells)
    (subst (λ (held : Held). Gives (located_by c.args.source.now c.in_ok-bytes.bytes (held c.args.proof.now)) c.located_by.result) c.in_ok-bytes.ensures.stays (told tells))
