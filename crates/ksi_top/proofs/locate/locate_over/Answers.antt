use Rattle.std.proofs.Common.{List, ℕ, refl, arith, rules}
use Rattle.std.proofs.lemmas.Result.{IfOk-weaker}
use Rattle.ksi_logblock.specs.LogReading.{log_at}
use Rattle.ksi_logblock.specs.declared.line_proof.LineProof.{LineProof}
use Rattle.ksi_logblock.specs.declared.locating.Located.{Located}
use Rattle.ksi_logblock.specs.declared.locating.Located.TheVariants as answers
use Rattle.ksi_top.specs.Locate.{located, located_in, located_report, located_told}
use Rattle.ksi_top.proofs.Ends.{IsEnd, ends_as}
use Rattle.ksi_top.proofs.Logs.{log_ends}
use Rattle.ksi_top.proofs.Performing.{halted_last, performed_last}
use Rattle.ksi_top.proofs.locate.locate_over.Goals as goal

answer_ends : (answer : Located) → IsEnd 0 (located_report answer)
answer_ends (answers.NotAccepted refusal) = record { judged = refl; few = omega arith }
answer_ends (answers.In k) = record { judged = tt; few = omega arith }
answer_ends (answers.Clash clash) = record { judged = refl; few = omega arith }

located_ends : (seed log line : List ℕ) (proof : LineProof) → IsEnd 0 (located seed log line proof)
located_ends seed log line proof = log_ends 0 (log_at log) (located_told seed line proof) (λ lines. answer_ends (located_in seed line proof lines))

pub returns-in_err-proof : goal.returns-in_err-proof
returns-in_err-proof g c =
    halted_last g.F.Files _ _ _ _ (λ p held. located c.args.seed.now c.args.log.now c.args.line.now p) _ _ _ _ _ (λ p. located_ends _ _ _ p) c.in_err-proof.ensures.loaded (search rules)

pub returns : goal.returns
returns g c =
    performed_last g.F.Files _ _ _ _ (λ p held. located c.args.seed.now c.args.log.now c.args.line.now p) _ _ _ _ c.located.result _
    (located_ends _ _ _ _) c.in_ok-proof.ensures.loaded c.ended.ensures (ends_as 0 _ _ c.located.ensures.told (located_ends _ _ _ _)) (λ tells. c.located.ensures.told)
    (λ tells. IfOk-weaker c.located.result _ _ (λ report over. record { read = _; proof_is = c.in_ok-proof.ensures.is tells; over = over }) c.located.ensures.means)
