use Rattle.ksi_blocks.proofs.Outcomes.{is_loaded, is_too_long}
use Rattle.ksi_blocks.proofs.loading.load.Goals as goal

pub returns-in-Ok-clause-told : goal.returns-in-Ok-clause-told
returns-in-Ok-clause-told g c = λ tells. let is = c.in-Ok.ensures.told tells in is_loaded _ _ _ _ is.0 is.1

pub returns-in-Err-TooLong-clause-told : goal.returns-in-Err-TooLong-clause-told
returns-in-Err-TooLong-clause-told g c = λ tells.
    let told = rw c.in-Err-TooLong.field-0-is at c.in-Err-TooLong.ensures.told in
    let is = told tells in
    is_too_long _ _ _ is.0 _ is.1 is.2 c.too_long.ensures
