use Rattle.std.proofs.Common.{ℕ, refl, arith, rules}
use Rattle.std.proofs.lemmas.Result.{IfOk-weaker}
use Rattle.ksi_consistency.specs.Elements as fronts
use Rattle.ksi_consistency.specs.declared.compared.Compared.{Compared}
use Rattle.ksi_consistency.specs.declared.compared.Compared.TheVariants as answers
use Rattle.ksi_journal.specs.Journal.{Contents}
use Rattle.ksi_top.specs.Compare.{compared_as, compared_by, compared_report}
use Rattle.ksi_top.specs.Kept.{unkept}
use Rattle.std.specs.Prelude.{unwrap_or}
use Rattle.ksi_top.proofs.Ends.{IsEnd, ends_as}
use Rattle.ksi_top.proofs.Keeping.{unkept_ends}
use Rattle.ksi_top.proofs.Performing.{halted_last, performed_last}
use Rattle.ksi_top.proofs.compare.compare_over.Goals as goal

answer_ends : (p1 : ℕ) (answer : Compared) → IsEnd 0 (compared_report p1 answer)
answer_ends p1 (answers.NotAccepted refusal) = record { judged = refl; few = omega arith }
answer_ends p1 answers.Equal = record { judged = tt; few = omega arith }
answer_ends p1 (answers.Clash clash) = record { judged = refl; few = omega arith }

compared_ends : (old new : Contents) (front : fronts.Contents) → IsEnd 0 (compared_as old new front)
compared_ends old new front =
    unkept_ends 0 old front.p1 front.p1 (unwrap_or (unkept new front.p2 front.p2) (compared_report front.p1 (compared_by old new front)))
    (unkept_ends 0 new front.p2 front.p2 (compared_report front.p1 (compared_by old new front)) (answer_ends front.p1 (compared_by old new front)))

pub returns-in_err-front : goal.returns-in_err-front
returns-in_err-front g c =
    halted_last g.F.Files _ _ _ _ (λ f held. compared_as c.args.old.now c.args.new.now f) _ _ _ _ _ (λ f. compared_ends _ _ f) c.in_err-front.ensures.loaded (search rules)

pub returns : goal.returns
returns g c =
    performed_last g.F.Files _ _ _ _ (λ f held. compared_as c.args.old.now c.args.new.now f) _ _ _ _ c.compared.result _
    (compared_ends _ _ _) c.in_ok-front.ensures.loaded c.ended.ensures (ends_as 0 _ _ c.compared.ensures.told (compared_ends _ _ _)) (λ tells. c.compared.ensures.told)
    (λ tells. IfOk-weaker c.compared.result _ _ (λ report by. record { front = _; front_is = c.in_ok-front.ensures.is tells; by = by }) c.compared.ensures.shown)
