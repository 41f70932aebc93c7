-- Going over a container's elements, as a loop does.
use Rattle.std.proofs.Common.{◌≡◌, ℕ, List, [], ◌∷◌, replicate, true, Ok, Err, refl, sym, ap, ◌∙◌}
use Rattle.ksi_tlv.specs.declared.element.TlvFault.{TlvFault}
use Rattle.ksi_tlv.specs.declared.element.TlvFault.TheVariants.{Short}
use Rattle.ksi_tlv.specs.Views.{view_cut}
use Rattle.ksi_tlv.specs.Walking.{PlacedTlv, Items, elements}
use Rattle.ksi_tlv.specs.declared.grammar.fault.ElementFault.{ElementFault}
use Rattle.ksi_tlv.specs.declared.grammar.fault.ElementFault.TheVariants as faults
use Rattle.ksi_tlv.specs.Table.{Verdict, Table, is_table}
use Rattle.ksi_tlv.specs.Containing.{rest_verdict, container_verdict}
use Rattle.ksi_tlv.specs.Counters.{step, lack_of, IsCounted}
use Rattle.ksi_tlv.proofs.Counting.{step_err, step_ok, counted_none, end_is}

-- the counters are those of some elements, and what is left gives what the whole gives
pub record Leaves (t : Table) (place inside : ℕ) (body : List ℕ) (seen : List ℕ) (items : Items) : Type 0 where
  pub before : List PlacedTlv
  pub counted : IsCounted t seen before
  pub gives : rest_verdict t place before items ≡ container_verdict t place inside body

abbrev failed : ElementFault → Verdict
failed fault = Err fault

pub starts : (t : Table) (place inside : ℕ) (body : List ℕ) → Leaves t place inside body (replicate 8 0) (elements inside body)
unfolding container_verdict
starts t place inside body = record { before = []; counted = counted_none t; gives = refl }

pub goes_on : (t : Table) (place inside : ℕ) (body seen more : List ℕ) (at : PlacedTlv) (items others : Items) → is_table t ≡ true → Leaves t place inside body seen items → items ≡ Ok at ∷ others → step t seen at ≡ Ok more → Leaves t place inside body more others
unfolding rest_verdict
goes_on t place inside body seen more at items others table left is one =
    let s = step_ok t seen more left.before at table left.counted one in
    let here : rest_verdict t place left.before (Ok at ∷ others) ≡ rest_verdict t place (at ∷ left.before) others = rw s.0 refl in
    record { before = at ∷ left.before; counted = s.1; gives = sym here ∙ ap (rest_verdict t place left.before) (sym is) ∙ left.gives }

pub stops : (t : Table) (place inside : ℕ) (body seen : List ℕ) (at : PlacedTlv) (items others : Items) (fault : ElementFault) → is_table t ≡ true → Leaves t place inside body seen items → items ≡ Ok at ∷ others → step t seen at ≡ Err fault → failed fault ≡ container_verdict t place inside body
unfolding rest_verdict
stops t place inside body seen at items others fault table left is one =
    let s = step_err t seen left.before at fault table left.counted one in
    let here : rest_verdict t place left.before (Ok at ∷ others) ≡ failed fault = rw s refl in
    sym here ∙ ap (rest_verdict t place left.before) (sym is) ∙ left.gives

pub is_cut : (t : Table) (place inside : ℕ) (body seen : List ℕ) (at : ℕ) (cut : TlvFault) (items others : Items) → Leaves t place inside body seen items → items ≡ Err (view_cut at cut) ∷ others → failed (faults.Tlv at) ≡ container_verdict t place inside body
unfolding rest_verdict
is_cut t place inside body seen at (Short need have) items others left is =
    let here : rest_verdict t place left.before (Err (view_cut at (Short need have)) ∷ others) ≡ failed (faults.Tlv at) = refl in
    sym here ∙ ap (rest_verdict t place left.before) (sym is) ∙ left.gives

pub ends : (t : Table) (place inside : ℕ) (body seen : List ℕ) (items : Items) → Leaves t place inside body seen items → items ≡ [] → lack_of t seen place ≡ container_verdict t place inside body
unfolding rest_verdict
ends t place inside body seen items left is =
    end_is t seen left.before place left.counted ∙ ap (rest_verdict t place left.before) (sym is) ∙ left.gives
