use Rattle.std.proofs.Common.{rules}
use Rattle.std.proofs.lemmas.Result.{IfOk-weaker}
use Rattle.ksi_mirror.specs.Merged.{merged_of}
use Rattle.ksi_top.specs.Loading.{file_limit, mirror_file}
use Rattle.ksi_top.specs.Merge.{merged}
use Rattle.ksi_top.proofs.Ends.{ends_as}
use Rattle.ksi_top.proofs.Loads.{few_read}
use Rattle.ksi_top.proofs.Mirroring.{merged_ends}
use Rattle.ksi_top.proofs.Performing.{halted_last, performed_last}
use Rattle.ksi_top.proofs.merge.merge_over.Goals as goal

pub returns-in_err-mirror : goal.returns-in_err-mirror
returns-in_err-mirror g c =
    halted_last g.F.Files _ _ _ _ (λ m held. merged c.args.out.now c.args.one.now m) _ _ _ _ _ (λ m. merged_ends c.args.out.now (merged_of c.args.one.now m)) c.in_err-mirror.ensures.loaded (search rules)

pub returns : goal.returns
returns g c =
    let ends = merged_ends c.args.out.now (merged_of c.args.one.now c.in_ok-mirror.mirror) in
    performed_last g.F.Files _ _ _ _ (λ m held. merged c.args.out.now c.args.one.now m) _ _ _ _ c.merged.result _
    ends c.in_ok-mirror.ensures.loaded c.ended.ensures (ends_as 1 _ _ c.merged.ensures.told ends) (λ tells. c.merged.ensures.told)
    (λ tells. IfOk-weaker c.merged.result _ _ (λ report by. record { mirror = _; mirror_is = c.in_ok-mirror.ensures.is tells; few = few_read mirror_file file_limit 2 _ _ _ (c.in_ok-mirror.ensures.loaded.told tells); by = by }) c.merged.ensures.shown)
