use Rattle.std.proofs.Common.{◌∙◌}
use Rattle.ksi_corenode.proofs.Sealing.{sealed_open}
use Rattle.ksi_corenode.proofs.seconds.Seconds.seal_open.Goals as goal

pub returns-clause-change : goal.returns-clause-change
returns-clause-change g c =
    sealed_open g.C.Compress.image c.args.self.now c.seal_with.new.self c.forget_open.new.self c.args.second c.deref.result.now c.requires (c.deref.ensures.value ∙ c.in_ok-items.ensures.items)
    c.in_ok-seal_with.ensures.change c.forget_open.ensures
