use Rattle.ksi_signature.proofs.Refusing.{long_passed, never_long}
use Rattle.ksi_signature.proofs.extension.renewed.Goals as goal

pub returns-in-Ok-clause-too_long : goal.returns-in-Ok-clause-too_long
returns-in-Ok-clause-too_long c = λ n. never_long _ _ n _ (c.in-Ok.ensures.too_long n) (λ is. absurd cc) (λ is. absurd cc)

pub returns-in-Err-Fault-clause-too_long : goal.returns-in-Err-Fault-clause-too_long
returns-in-Err-Fault-clause-too_long c =
    λ n. long_passed c.in-Err-Fault.field-0 c.in-Err-Fault.refusal _ n _ c.in-Err-Fault.field-0-is c.too_long.ensures (c.in-Err-Fault.ensures.too_long n)

pub returns-in-Err-NoMemory-clause-too_long : goal.returns-in-Err-NoMemory-clause-too_long
returns-in-Err-NoMemory-clause-too_long c = λ n. never_long _ _ n _ (c.in-Err-NoMemory.ensures.too_long n) (λ is. absurd cc) (λ is. absurd cc)
