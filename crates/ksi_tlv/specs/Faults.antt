-- Which faults a container can have.
use Rattle.std.specs.Prelude.{◌≡◌, ℕ, Bool, true, Option, Some, None, Err}
use Rattle.std.specs.List.{AllByRecursion}
use Rattle.ksi_tlv.specs.Walking.{PlacedTlv}
use Rattle.ksi_tlv.specs.declared.grammar.fault.ElementFault.{ElementFault}
use Rattle.ksi_tlv.specs.declared.grammar.fault.ElementFault.TheVariants as faults
use Rattle.ksi_tlv.specs.Table.{Table}
use Rattle.ksi_tlv.specs.Containing.{over_fault}

abbrev pub LackIs : (ElementFault → Bool) → Option (ℕ → ElementFault) → Type 0
LackIs test None = Unit {0}
LackIs test (Some fault) = (place : ℕ) → test (fault place) ≡ true

-- A test that passes each fault that any container may have, and each that the table names.
pub record PassesFaults (t : Table) (test : ElementFault → Bool) : Type 0 where
  pub tlv : (place : ℕ) → test (faults.Tlv place) ≡ true
  pub refused : (kind place : ℕ) → test (faults.RefusedElement kind place) ≡ true
  pub unknown : (kind place : ℕ) → test (faults.UnknownCritical kind place) ≡ true
  pub over : AllByRecursion (λ slot. (kind place : ℕ) → test (over_fault slot.over kind place) ≡ true) t.slots
  pub lack : AllByRecursion (λ slot. LackIs test slot.lack) t.slots
  pub content : (at : PlacedTlv) (fault : ElementFault) → t.content at ≡ Err fault → test fault ≡ true
