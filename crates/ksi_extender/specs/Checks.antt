-- Checks in order: the first that fails is the answer.
use Rattle.std.specs.Prelude.{Bool, true, false, Result, Ok, Err}
use Rattle.ksi_extender.specs.declared.refusal.ExtendRefusal.{ExtendRefusal}

-- what follows from a check that holds, with its value and without
infixl 10 ◌>>=◌ ◌>>◌
abbrev pub ◌>>=◌ : {A B : Type 0} → Result A ExtendRefusal → (A → Result B ExtendRefusal) → Result B ExtendRefusal
(Ok x) >>= next = next x
(Err refusal) >>= next = Err refusal

abbrev pub ◌>>◌ : {A B : Type 0} → Result A ExtendRefusal → Result B ExtendRefusal → Result B ExtendRefusal
(Ok x) >> next = next
(Err refusal) >> next = Err refusal

-- what must hold, or the refusal
abbrev pub need : Bool → ExtendRefusal → Result (Unit {0}) ExtendRefusal
need true refusal = Ok tt
need false refusal = Err refusal
