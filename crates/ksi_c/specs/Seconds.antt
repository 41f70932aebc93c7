-- The second that a signature states.
use Rattle.std.specs.Prelude.{ℕ, Result, Ok, Err}
use Rattle.ksi_signature.specs.declared.fault.SignatureFault.{SignatureFault}
use Rattle.ksi_signature.specs.declared.signature.Signature.{Signature}
use Rattle.ksi_verifier.specs.Chains.{first_chain, plain_chains}

-- the time of its first aggregation chain
abbrev pub stated_second : Signature → ℕ
stated_second signature = (first_chain (plain_chains signature.chains)).time

-- the number stays if the bytes are no signature
abbrev pub second_or : ℕ → Result Signature SignatureFault → ℕ
second_or old (Ok signature) = stated_second signature
second_or old (Err fault) = old

abbrev pub second_status : Result Signature SignatureFault → ℕ
second_status (Ok signature) = 0
second_status (Err fault) = 3
