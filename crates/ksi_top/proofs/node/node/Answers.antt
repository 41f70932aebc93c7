use Rattle.std.proofs.Common.{ℕ, List, refl, arith, rules}
use Rattle.std.specs.Prelude.{nat_lt}
use Rattle.std.proofs.lemmas.Bool.{cond_both}
use Rattle.std.proofs.lemmas.Result.{IfOk-weaker}
use Rattle.ksi_schedule.specs.Events.{History}
use Rattle.ksi_top.specs.declared.status.Status.TheVariants as statuses
use Rattle.ksi_top.specs.Reports.{report}
use Rattle.ksi_top.specs.Mirror.{no_core_line}
use Rattle.ksi_top.specs.Node.{node_saved, noded}
use Rattle.ksi_top.proofs.Ends.{IsEnd, ends_as}
use Rattle.ksi_top.proofs.Performing.{halted_last, performed_last}
use Rattle.ksi_top.proofs.node.node.Goals as goal

noded_ends : (out : List ℕ) (core : ℕ) (h : History) → IsEnd 1 (noded out core h)
noded_ends out core h = cond_both (nat_lt core h.plan.cores) (node_saved out core h) (report statuses.Refused (no_core_line core)) (IsEnd 1)
    (λ _. record { judged = tt; few = omega arith }) (λ _. record { judged = refl; few = omega arith })

pub returns-in_err-schedule : goal.returns-in_err-schedule
returns-in_err-schedule g c =
    halted_last g.F.Files _ _ _ _ (λ h held. noded c.args.out.now c.args.core h) _ _ _ _ _ (λ h. noded_ends c.args.out.now c.args.core h) c.in_err-schedule.ensures.loaded (search rules)

pub returns : goal.returns
returns g c =
    let ends = noded_ends c.args.out.now c.args.core c.in_ok-schedule.schedule in
    performed_last g.F.Files _ _ _ _ (λ h held. noded c.args.out.now c.args.core h) _ _ _ _ c.noded.result _
    ends c.in_ok-schedule.ensures.loaded c.ended.ensures (ends_as 1 _ _ c.noded.ensures.told ends) (λ tells. c.noded.ensures.told)
    (λ tells. IfOk-weaker c.noded.result _ _ (λ report over. record { history = _; spelled = c.in_ok-schedule.ensures.is tells; over = over }) c.noded.ensures.over)
