use Rattle.std.proofs.Common.{Ok, refl, rules}
use Rattle.ksi_top.specs.Inspect.{said_of}
use Rattle.ksi_top.proofs.Ends.{done_ends, ends_as}
use Rattle.ksi_top.proofs.Performing.{halted_last, performed_last}
use Rattle.ksi_top.proofs.inspect.inspect.Goals as goal

pub returns-in_err-said : goal.returns-in_err-said
returns-in_err-said g c =
    halted_last g.F.Files _ _ _ _ (λ said held. said_of said) _ _ _ _ _ (λ said. done_ends _) c.in_err-said.ensures.loaded (search rules)

pub returns : goal.returns
returns g c =
    performed_last g.F.Files _ _ _ _ (λ said held. said_of said) _ _ _ _ (Ok c.told.result) _
    (done_ends _) c.in_ok-said.ensures.loaded refl (ends_as 0 _ (Ok c.told.result) c.told.ensures (done_ends _)) (λ tells. c.told.ensures)
    (λ tells. record { said = _; is = c.in_ok-said.ensures.is tells; reported = c.told.ensures })
