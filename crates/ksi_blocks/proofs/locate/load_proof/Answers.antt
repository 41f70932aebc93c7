use Rattle.std.proofs.Common.{rules}
use Rattle.ksi_logblock.specs.ProofReading.{proof_at}
use Rattle.ksi_blocks.specs.Commands.{file_limit, proof_or_malformed}
use Rattle.ksi_blocks.specs.Loading.{loaded}
use Rattle.ksi_blocks.proofs.Outcomes.{ends, goes_on}
use Rattle.ksi_blocks.proofs.locate.load_proof.Goals as goal

pub returns-in_err-bytes-clause-told : goal.returns-in_err-bytes-clause-told
returns-in_err-bytes-clause-told g c = λ tells. ends (loaded 4 file_limit (g.F.Files.held c.args.files.now c.args.name.now)) (λ bytes. proof_or_malformed (proof_at bytes)) _ _ (c.in_err-bytes.ensures.told tells) (search rules)

pub returns-clause-told : goal.returns-clause-told
returns-clause-told g c = λ tells. goes_on (loaded 4 file_limit (g.F.Files.held c.args.files.now c.args.name.now)) (λ bytes. proof_or_malformed (proof_at bytes)) _ _ (c.in_ok-bytes.ensures.told tells) (rw c.as_slice.ensures at c.proof_or_malformed.ensures)
