use Rattle.std.proofs.Common.{rules}
use Rattle.ksi_top.specs.Replay.{replayed}
use Rattle.ksi_top.proofs.Ends.{ends_as, saving_ends}
use Rattle.ksi_top.proofs.Performing.{halted_last, performed_last}
use Rattle.ksi_top.proofs.Replayed.{replay_means}
use Rattle.ksi_top.proofs.replay.replay.Goals as goal

pub returns-in_err-schedule : goal.returns-in_err-schedule
returns-in_err-schedule g c =
    halted_last g.F.Files _ _ _ _ (λ h held. replayed c.args.journal.now h) _ _ _ _ _ (λ h. saving_ends _ _ _) c.in_err-schedule.ensures.loaded (search rules)

pub returns : goal.returns
returns g c =
    performed_last g.F.Files _ _ _ _ (λ h held. replayed c.args.journal.now h) _ _ _ _ c.replayed.result _
    (saving_ends _ _ _) c.in_ok-schedule.ensures.loaded c.ended.ensures (ends_as 1 _ _ c.replayed.ensures.replayed (saving_ends _ _ _)) (λ tells. c.replayed.ensures.replayed)
    (λ tells. replay_means _ _ _ c.replayed.result (c.in_ok-schedule.ensures.is tells) c.histories_hold.ensures.holds c.histories_hold.ensures.again c.replayed.ensures.replayed c.replayed.ensures.lawful)
