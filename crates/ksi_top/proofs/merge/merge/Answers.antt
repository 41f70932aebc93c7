use Rattle.std.proofs.Common.{arith, rules}
use Rattle.ksi_top.specs.Merge.{merge_over}
use Rattle.ksi_top.proofs.Mirroring.{merge_means}
use Rattle.ksi_top.proofs.Performing.{halted, performed_behind}
use Rattle.ksi_top.proofs.merge.merge.Goals as goal

pub returns-in_err-mirror : goal.returns-in_err-mirror
returns-in_err-mirror g c =
    halted g.F.Files _ _ _ _ _ (λ m. (merge_over m c.args.two.now c.args.out.now).ran) _ _ _ _ _ (λ m long. omega arith) c.in_err-mirror.ensures.loaded (search rules)

pub returns : goal.returns
returns g c =
    let joins = c.merged_is_a_join.ensures in
    performed_behind g.F.Files _ _ _ _ _ (λ m. (merge_over m c.args.two.now c.args.out.now).ran) _ _ _ _ _ _ _
    (λ tells report over. merge_means c.mirror_is_read.ensures.mirror (record { same = joins.same; either = joins.either; any_order = joins.any_order; again = joins.again }) _ _ _ _ _ report c.mirror_is_kept.ensures (c.in_ok-mirror.ensures.loaded.told tells) (c.in_ok-mirror.ensures.is tells) over)
    c.in_ok-mirror.ensures.loaded c.merge_over.ensures
