use Rattle.ksi_blocks.proofs.Savings.{is_failed, is_saved, is_unsaved}
use Rattle.ksi_blocks.proofs.saving.finish.Goals as goal

pub returns-in-Ok-clause-leaves : goal.returns-in-Ok-clause-leaves
returns-in-Ok-clause-leaves g c = λ tells. is_saved _ _ _ _ (c.in-Ok.ensures tells)

pub returns-in-Err-Failed-clause-leaves : goal.returns-in-Err-Failed-clause-leaves
returns-in-Err-Failed-clause-leaves g c = λ tells.
    let saves = rw c.in-Err-Failed.field-0-is at c.in-Err-Failed.ensures in
    is_failed _ _ _ _ (saves tells)

pub returns-clause-leaves : goal.returns-clause-leaves
returns-clause-leaves g c = λ tells.
    let saves = rw c.in-Err-NoMemory.field-0-is at c.in-Err-NoMemory.ensures in
    is_unsaved c.args.out.now _ _ _ (saves tells)
