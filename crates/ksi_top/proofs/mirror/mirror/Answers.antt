use Rattle.std.proofs.Common.{rules}
use Rattle.ksi_top.specs.Mirror.{mirrored}
use Rattle.ksi_top.proofs.Copying.{mirrored_ends, mirror_means}
use Rattle.ksi_top.proofs.Ends.{ends_as}
use Rattle.ksi_top.proofs.Performing.{halted_last, performed_last}
use Rattle.ksi_top.proofs.mirror.mirror.Goals as goal

pub returns-in_err-schedule : goal.returns-in_err-schedule
returns-in_err-schedule g c =
    halted_last g.F.Files _ _ _ _ (λ h held. mirrored c.args.core c.args.out.now h) _ _ _ _ _ (λ h. mirrored_ends _ _ _) c.in_err-schedule.ensures.loaded (search rules)

pub returns : goal.returns
returns g c =
    performed_last g.F.Files _ _ _ _ (λ h held. mirrored c.args.core c.args.out.now h) _ _ _ _ c.mirrored.result _
    (mirrored_ends _ _ _) c.in_ok-schedule.ensures.loaded c.ended.ensures (ends_as 1 _ _ c.mirrored.ensures (mirrored_ends _ _ _)) (λ tells. c.mirrored.ensures)
    (λ tells. mirror_means _ _ _ _ c.mirrored.result (c.in_ok-schedule.ensures.is tells) c.spelled_is_schedule.ensures.history c.history_has_mirrors.ensures.spelled
    c.written_is_mirror.ensures c.mirrors_of_a_history_merge.ensures.merge c.mirrors_of_a_history_merge.ensures.whole c.mirrored.ensures)
