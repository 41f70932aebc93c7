-- Results of calls that allocate memory, compared with the result of a definition.
use Rattle.std.specs.Prelude.{◌≡◌, Result, Ok, Err}
use Rattle.ksi_imprint.specs.declared.refused.Refused.{Refused}
use Rattle.ksi_imprint.specs.declared.refused.Refused.TheVariants.{Fault, NoMemory}

-- the result is the expected one, or the call ran out of memory
abbrev pub OrNoMemory : {T F : Type 0} → Result T F → Result T (Refused F) → Type 0
OrNoMemory expected (Ok value) = expected ≡ Ok value
OrNoMemory expected (Err (Fault fault)) = expected ≡ Err fault
OrNoMemory expected (Err NoMemory) = Unit {0}

-- a fault satisfies `says`, and the call runs out of memory only if `wanting` holds
abbrev pub IfRefused : {T F : Type 0} → Result T (Refused F) → (F → Type 0) → Type 0 → Type 0
IfRefused (Ok value) says wanting = Unit {0}
IfRefused (Err (Fault fault)) says wanting = says fault
IfRefused (Err NoMemory) says wanting = wanting
