use Rattle.std.proofs.Common.{ℕ, List, ◌∙◌, subst, rules}
use Rattle.std.specs.Prelude.{IfOk}
use Rattle.ksi_logblock.specs.LogReading.{log_at}
use Rattle.ksi_top.specs.Block.{TellsRoot, block_told, blocked}
use Rattle.ksi_top.specs.Log.{IsLogTold}
use Rattle.ksi_top.proofs.Ends.{IsEnd, done_ends, ends_as}
use Rattle.ksi_top.proofs.Logs.{log_ends}
use Rattle.ksi_top.proofs.Performing.{halted_last, performed_last}
use Rattle.ksi_top.proofs.block.block.Goals as goal

blocked_ends : (seed log : List ℕ) → IsEnd 0 (blocked seed log)
blocked_ends seed log = log_ends 0 (log_at log) (block_told seed) (λ lines. done_ends _)

pub returns-in_err-log : goal.returns-in_err-log
returns-in_err-log g c =
    halted_last g.F.Files _ _ _ _ (λ log held. blocked c.args.seed.now log) _ _ _ _ _ (λ log. blocked_ends c.args.seed.now log) c.in_err-log.ensures.loaded (search rules)

pub returns : goal.returns
returns g c =
    let ends = blocked_ends c.args.seed.now c.in_ok-log.log in
    let told = rw c.as_slice.ensures at c.blocked.ensures.told in
    performed_last g.F.Files _ _ _ _ (λ log held. blocked c.args.seed.now log) _ _ _ _ c.blocked.result _
    ends c.in_ok-log.ensures.loaded c.ended.ensures (ends_as 0 _ _ told ends) (λ tells. told)
    (λ tells. subst (λ (log : List ℕ). IfOk c.blocked.result (IsLogTold (TellsRoot c.args.seed.now) log)) (c.as_slice.ensures ∙ c.in_ok-log.ensures.whole tells) c.blocked.ensures.means)
