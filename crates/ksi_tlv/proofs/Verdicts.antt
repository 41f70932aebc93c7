-- A whole container or its first fault, of what a reader answers.
use Rattle.std.proofs.Common.{◌≡◌, ◌⊎◌, ℕ, List, true, Ok, Err, refl, sym, ◌∙◌, inl, inr}
use Rattle.std.specs.Prelude.{◌↔◌, IsOk}
use Rattle.ksi_tlv.specs.declared.grammar.fault.ElementFault.{ElementFault}
use Rattle.ksi_tlv.specs.Table.{Verdict, Table, is_table}
use Rattle.ksi_tlv.specs.Containing.{container_verdict}
use Rattle.ksi_tlv.specs.Valid.{IsWhole, IsFirstFault}
use Rattle.ksi_tlv.proofs.Ways.{container_ok, container_again, fault_first, first_fault}

abbrev failed : ElementFault → Verdict
failed fault = Err fault

pub ok_both : (t : Table) (place inside : ℕ) (body : List ℕ) (r : Verdict) → is_table t ≡ true → r ≡ container_verdict t place inside body → IsOk r ↔ IsWhole t inside body
ok_both t place inside body (Ok u) table e = (λ ok. container_ok t place inside body table (sym e), λ s. refl)
ok_both t place inside body (Err fault) table e = (λ ok. absurd cc, λ s. let no : failed fault ≡ Ok tt = e ∙ container_again t place inside body s.0 s.1 in absurd cc)

pub fault_both : (t : Table) (place inside : ℕ) (body : List ℕ) (r : Verdict) → is_table t ≡ true → r ≡ container_verdict t place inside body → (fault : ElementFault) → (r ≡ Err fault) ↔ IsFirstFault t place inside body fault
fault_both t place inside body r table e fault = (λ is. fault_first t place inside body fault table (sym e ∙ is), λ is. e ∙ first_fault t place inside body fault is)

pub one_of : (t : Table) (place inside : ℕ) (body : List ℕ) (r : Verdict) → is_table t ≡ true → container_verdict t place inside body ≡ r → IsWhole t inside body ⊎ ((fault : ElementFault) × IsFirstFault t place inside body fault)
one_of t place inside body (Ok u) table e = inl (container_ok t place inside body table e)
one_of t place inside body (Err fault) table e = inr (fault, fault_first t place inside body fault table e)

pub not_both : (t : Table) (place inside : ℕ) (body : List ℕ) (fault : ElementFault) → IsWhole t inside body → IsFirstFault t place inside body fault → ⊥
not_both t place inside body fault s is =
    let no : failed fault ≡ Ok tt = sym (first_fault t place inside body fault is) ∙ container_again t place inside body s.0 s.1 in absurd cc
