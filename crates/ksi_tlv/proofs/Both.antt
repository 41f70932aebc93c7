-- Walking gives what whole elements lead to, and else the first fault.
use Rattle.std.proofs.Common.{◌≡◌, ◌⊎◌, inl, inr, ℕ, Bool, true, false, cond, List, [], ◌∷◌, ◌++◌, Result, Ok, Err, refl, sym, ap, subst, ◌∙◌, append-nil}
use Rattle.ksi_tlv.specs.Walking.{PlacedTlv, Cut, Items, items_of}
use Rattle.ksi_tlv.specs.Order.{Order, one_more, may_stand, walked, Steps, ◌>>=◌}
use Rattle.ksi_tlv.specs.Sequence.{Leads, IsWhole, StandsAt, IsFirstFault, Tells}
use Rattle.ksi_tlv.specs.declared.order.fault.OrderFault.TheVariants as faults
use Rattle.ksi_imprint.specs.declared.refused.Refused.{Refused}
use Rattle.ksi_imprint.specs.declared.refused.Refused.TheVariants as refused

module _ {S F : Type 0} (o : Order S F) (end : ℕ) where
  abbrev ok : S → Result S F
  ok s = Ok s

  guard : (b : Bool) (f : F) (r : Result S F) (t : S) → cond b (Err f) r ≡ Ok t → (b ≡ false) × (r ≡ Ok t)
  guard true f r t e = absurd cc
  guard false f r t e = (refl, e)

  allow : (b : Bool) (f : F) (r : Result S F) (t : S) → cond b r (Err f) ≡ Ok t → (b ≡ true) × (r ≡ Ok t)
  allow true f r t e = (refl, e)
  allow false f r t e = absurd cc

  both_fail : (b : Bool) (f g : F) (t : S) → cond b (Err f) (Err g) ≡ ok t → ⊥
  both_fail true f g t e = absurd cc
  both_fail false f g t e = absurd cc

  bind_ok : (r : Result S F) (f : S → Result S F) (t : S) → (r >>= f) ≡ Ok t → (u : S) × (r ≡ Ok u) × (f u ≡ Ok t)
  bind_ok (Ok u) f t e = (u, refl, e)
  bind_ok (Err d) f t e = absurd cc

  pub one_ok : (item : Result PlacedTlv Cut) (s u : S) → one_more o item s ≡ Ok u → (at : PlacedTlv) × (item ≡ Ok at) × (o.closed s ≡ false) × (may_stand (o.next s) at.element.kind ≡ true) × (o.read s at ≡ Ok u)
  unfolding one_more
  one_ok (Err cut) s u e = absurd (both_fail (o.closed s) (o.named (faults.Ends cut.place)) (o.named (faults.Tlv cut.place)) u e)
  one_ok (Ok at) s u e =
      let g = guard (o.closed s) (o.named (faults.Ends at.place)) (cond (may_stand (o.next s) at.element.kind) (o.read s at) (Err (o.named (faults.Order at.place)))) u e in
      let a = allow (may_stand (o.next s) at.element.kind) (o.named (faults.Order at.place)) (o.read s at) u g.1 in
      (at, refl, g.0, a.0, a.1)

  pub walked_whole : (items : Items) (s t : S) → walked o end items s ≡ Ok t → IsWhole o items s t
  unfolding walked
  walked_whole [] s t e = let a = allow (o.whole s) (o.named (faults.Ends end)) (Ok s) t e in let same : s ≡ t = cc in record { es = []; split = refl; leads = same; ends = subst (λ (s : S). o.whole s ≡ true) same a.0 }
  walked_whole (item ∷ items) s t e =
      let b = bind_ok (one_more o item s) (walked o end items) t e in
      let one = one_ok item s b.0 b.1 in
      let rest = walked_whole items b.0 t b.2 in
      record {
        es = one.0 ∷ rest.es;
        split = ap (λ (item : Result PlacedTlv Cut). item ∷ items) one.1 ∙ ap (λ (items : Items). Ok one.0 ∷ items) rest.split;
        leads = (one.2, one.3, (b.0, one.4, rest.leads));
        ends = rest.ends;
      }

  one_again : (at : PlacedTlv) (s u : S) → o.closed s ≡ false → may_stand (o.next s) at.element.kind ≡ true → o.read s at ≡ Ok u → one_more o (Ok at) s ≡ Ok u
  unfolding one_more
  one_again at s u open_ may read = rw (open_, may, read) refl

  leads_on : (es : List PlacedTlv) (rest : Items) (s t : S) → Leads o s es t → walked o end (items_of es ++ rest) s ≡ walked o end rest t
  unfolding walked
  leads_on [] rest s t leads = ap (walked o end rest) leads
  leads_on (at ∷ es) rest s t leads =
      let one : one_more o (Ok at) s ≡ Ok leads.2.0 = one_again at s leads.2.0 leads.0 leads.1 leads.2.1 in
      rw one (leads_on es rest leads.2.0 t leads.2.2)

  ends_here : (t : S) → o.whole t ≡ true → walked o end [] t ≡ Ok t
  unfolding walked
  ends_here t whole = rw whole refl

  pub whole_walked : (items : Items) (s t : S) → IsWhole o items s t → walked o end items s ≡ Ok t
  whole_walked items s t w =
      ap (λ (items : Items). walked o end items s) (w.split ∙ sym (append-nil (items_of w.es))) ∙ leads_on w.es [] s t w.leads ∙ ends_here t w.ends

  stands_walked : (f : F) (s : S) (rest : Items) → StandsAt o end f s rest → walked o end rest s ≡ Err f
  unfolding walked
  stands_walked f s [] stands = rw stands.0 (ap Err (sym stands.1))
  stands_walked f s (item ∷ items) stands = rw stands refl

  pub fault_walked : (items : Items) (s : S) (f : F) → IsFirstFault o end items s f → walked o end items s ≡ Err f
  fault_walked items s f w = ap (λ (items : Items). walked o end items s) w.split ∙ leads_on w.before w.rest s w.said w.leads ∙ stands_walked f w.said w.rest w.stands

  end_fault : (b : Bool) (f g : F) (s : S) → cond b (Ok s) (Err f) ≡ Err g → (b ≡ false) × (g ≡ f)
  end_fault true f g s e = absurd cc
  end_fault false f g s e = (refl, cc)

  step_fault : (item : Result PlacedTlv Cut) (items : Items) (s : S) (f : F) (r : Result S F) → one_more o item s ≡ r → (r >>= walked o end items) ≡ Err f
      → ((u : S) → walked o end items u ≡ Err f → IsFirstFault o end items u f) → IsFirstFault o end (item ∷ items) s f
  step_fault item items s f (Ok u) one e more =
      let step = one_ok item s u one in
      let rest = more u e in
      record {
        before = step.0 ∷ rest.before;
        rest = rest.rest;
        split = ap (λ (item : Result PlacedTlv Cut). item ∷ items) step.1 ∙ ap (λ (items : Items). Ok step.0 ∷ items) rest.split;
        said = rest.said;
        leads = (step.2, step.3, (u, step.4, rest.leads));
        stands = rest.stands;
      }
  step_fault item items s f (Err g) one e more =
      record { before = []; rest = item ∷ items; split = refl; said = s; leads = refl; stands = one ∙ e }

  pub walked_fault : (items : Items) (s : S) (f : F) → walked o end items s ≡ Err f → IsFirstFault o end items s f
  unfolding walked
  walked_fault [] s f e = record { before = []; rest = []; split = refl; said = s; leads = refl; stands = end_fault (o.whole s) (o.named (faults.Ends end)) f s e }
  walked_fault (item ∷ items) s f e = step_fault item items s f (one_more o item s) refl e (λ u e. walked_fault items u f e)

pub told : {S F : Type 0} (o : Order S F) (end : ℕ) (items : Items) (s t : S) (r : Result (Unit {0}) (Refused F)) → Steps (walked o end items s) t r → Tells o end items s t r
told o end items s t (Ok u) steps = walked_whole o end items s t steps
told o end items s t (Err (refused.Fault f)) steps = walked_fault o end items s f steps
told o end items s t (Err refused.NoMemory) steps = tt

-- ---- exactly one

by_walk : {S F : Type 0} (o : Order S F) (end : ℕ) (items : Items) (s : S) (r : Result S F) → walked o end items s ≡ r
    → ((t : S) × IsWhole o items s t) ⊎ ((fault : F) × IsFirstFault o end items s fault)
by_walk o end items s (Ok t) e = inl (t, walked_whole o end items s t e)
by_walk o end items s (Err f) e = inr (f, walked_fault o end items s f e)

pub one : {S F : Type 0} (o : Order S F) (end : ℕ) (items : Items) (s : S) → ((t : S) × IsWhole o items s t) ⊎ ((fault : F) × IsFirstFault o end items s fault)
one o end items s = by_walk o end items s (walked o end items s) refl

pub not_both : {S F : Type 0} (o : Order S F) (end : ℕ) (items : Items) (s t : S) (fault : F) → IsWhole o items s t → IsFirstFault o end items s fault → ⊥
not_both {S} {F} o end items s t fault whole first =
    let ok : walked o end items s ≡ Ok t = whole_walked o end items s t whole in
    let err : walked o end items s ≡ Err fault = fault_walked o end items s fault first in
    absurd cc

pub one_state : {S F : Type 0} (o : Order S F) (items : Items) (s t u : S) → IsWhole o items s t → IsWhole o items s u → t ≡ u
one_state {S} {F} o items s t u some other =
    let a : walked o 0 items s ≡ Ok t = whole_walked o 0 items s t some in
    let b : walked o 0 items s ≡ Ok u = whole_walked o 0 items s u other in
    cc

pub one_fault : {S F : Type 0} (o : Order S F) (end : ℕ) (items : Items) (s : S) (fault other : F) → IsFirstFault o end items s fault → IsFirstFault o end items s other → fault ≡ other
one_fault {S} {F} o end items s fault other first second =
    let a : walked o end items s ≡ Err fault = fault_walked o end items s fault first in
    let b : walked o end items s ≡ Err other = fault_walked o end items s other second in
    cc
