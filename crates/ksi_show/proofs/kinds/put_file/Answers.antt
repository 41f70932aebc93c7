use Rattle.std.proofs.Common.{◌≡◌, Option, None, Some}
use Rattle.ksi_show.proofs.kinds.put_file.Goals as goal

never : {A : Type 0} (found : Option A) (x : A) → found ≡ None → found ≡ Some x → ⊥
never found x none some = absurd cc

pub returns-in-Some-clause-ours : goal.returns-in-Some-clause-ours
returns-in-Some-clause-ours c = λ signature is. absurd (never c.in_ok-put_signature_of.field-0 c.in-Some.fault (c.in_ok-put_signature_of.ensures.ours signature is) c.in-Some.is)
