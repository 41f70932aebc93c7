use Rattle.std.proofs.Common.{rules}
use Rattle.std.proofs.lemmas.Result.{IfOk-weaker}
use Rattle.ksi_imprint.specs.Imprints.{imprint_of}
use Rattle.ksi_mirror.specs.Whole.{whole_of}
use Rattle.ksi_top.specs.Whole.{made_whole}
use Rattle.ksi_top.proofs.Ends.{ends_as}
use Rattle.ksi_top.proofs.Mirroring.{whole_ends}
use Rattle.ksi_top.proofs.Performing.{halted_last, performed_last}
use Rattle.ksi_top.proofs.whole.whole.Goals as goal

pub returns-in_err-mirror : goal.returns-in_err-mirror
returns-in_err-mirror g c =
    halted_last g.F.Files _ _ _ _ (λ m held. made_whole c.args.out.now m) _ _ _ _ _ (λ m. whole_ends c.args.out.now (whole_of imprint_of m)) c.in_err-mirror.ensures.loaded (search rules)

pub returns : goal.returns
returns g c =
    let ends = whole_ends c.args.out.now (whole_of imprint_of c.in_ok-mirror.mirror) in
    performed_last g.F.Files _ _ _ _ (λ m held. made_whole c.args.out.now m) _ _ _ _ c.made_whole.result _
    ends c.in_ok-mirror.ensures.loaded c.ended.ensures (ends_as 1 _ _ c.made_whole.ensures.told ends) (λ tells. c.made_whole.ensures.told)
    (λ tells. IfOk-weaker c.made_whole.result _ _ (λ report of. record { mirror = _; mirror_is = c.in_ok-mirror.ensures.is tells; of = of }) c.made_whole.ensures.shown)
