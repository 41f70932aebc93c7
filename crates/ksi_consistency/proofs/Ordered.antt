-- The elements of a front's file stand for what it has, one for one and in its order, and that is a front.
use Rattle.std.proofs.Common.{◌≡◌, ℕ, ◌^◌, ◌<◌, ◌≤◌, true, cond, eqb, ltb, List, [], ◌∷◌, ◌++◌, map, Ok, refl, sym, ap, subst, ◌∙◌}
use Rattle.std.specs.List.{AllByRecursion}
use Rattle.std.proofs.lemmas.Bool.{ltb-false}
use Rattle.std.proofs.lemmas.List.{map-append}
use Rattle.ksi_imprint.specs.Imprints.{IsImprint}
use Rattle.ksi_tlv.specs.Walking.{PlacedTlv}
use Rattle.ksi_tlv.specs.Order.{may_stand}
use Rattle.ksi_tlv.specs.Values.{time_at, imprint_at}
use Rattle.ksi_tlv.specs.Format.{or_named}
use Rattle.ksi_tlv.specs.Kinds.{kinds_of}
use Rattle.ksi_tlv.proofs.Steps.{Bounded, bind_ok, or_named_ok, ok_is, if_not_ok, any_kind, all_more, kinds_more, leads_keep, file_kinds}
use Rattle.ksi_consistency.specs.declared.fault.FrontFault.{FrontFault}
use Rattle.ksi_consistency.specs.declared.fault.FrontFault.TheVariants as faults
use Rattle.ksi_consistency.specs.declared.stage.Stage.{Stage}
use Rattle.ksi_consistency.specs.declared.stage.Stage.TheVariants as stages
use Rattle.ksi_consistency.specs.Elements.{Contents, Said, IsFront, named, kinds_next, is_whole, with_old, old_at, with_new, not_before, new_at, with_imprint, next_at, element_read, front_order, nothing_yet}
use Rattle.ksi_consistency.specs.File.{front_format, IsFrontFile}
use Rattle.ksi_consistency.specs.Kinds.{front_kinds, IsInOrder}

-- what is told so far, at each stage
abbrev Told : Stage → Said → List PlacedTlv → Type 0
Told stages.Old s es = (es ≡ []) × (s.contents.list ≡ [])
Told stages.New s es = (kinds_of es ≡ 1 ∷ []) × (s.contents.list ≡ []) × (s.contents.p1 < 2 ^ 63)
Told stages.Imprints s es = (kinds_of es ≡ front_kinds s.contents) × IsFront s.contents

-- an element of a kind is read as that kind is
by_kind : (s u : Said) (at : PlacedTlv) (kind : ℕ) → at.element.kind ≡ kind → element_read s at ≡ Ok u → cond (eqb kind 1) (old_at s at) (cond (eqb kind 2) (new_at s at) (next_at s at)) ≡ Ok u
unfolding element_read
by_kind s u at kind is e = subst (λ (k : ℕ). cond (eqb k 1) (old_at s at) (cond (eqb k 2) (new_at s at) (next_at s at)) ≡ Ok u) is e

old_step : (values : Bounded) (s u : Said) (es : List PlacedTlv) (at : PlacedTlv) → Told stages.Old s es → at.element.kind ≡ 1 → old_at s at ≡ Ok u → Told u.stage u (es ++ at ∷ [])
unfolding old_at
old_step values s u es at told kind e =
    let time = bind_ok (or_named named (time_at at)) _ u e in
    subst (λ (u : Said). Told u.stage u (es ++ at ∷ [])) (ok_is {F = FrontFault} (with_old s time.0) u time.2)
    (rw told.0 (ap (λ (k : ℕ). k ∷ []) kind), told.1, values.early at time.0 (or_named_ok named (time_at at) time.0 time.1))

not_before_ok : (s u : Said) (place p : ℕ) → not_before s place p ≡ Ok u → (s.contents.p1 ≤ p) × (with_new s p ≡ u)
not_before_ok s u place p e =
    let from = if_not_ok (ltb p s.contents.p1) (faults.Number place) (Ok (with_new s p)) u e in
    (ltb-false p s.contents.p1 from.0, ok_is {F = FrontFault} (with_new s p) u from.1)

new_step : (values : Bounded) (s u : Said) (es : List PlacedTlv) (at : PlacedTlv) → Told stages.New s es → at.element.kind ≡ 2 → new_at s at ≡ Ok u → Told u.stage u (es ++ at ∷ [])
unfolding new_at
new_step values s u es at told kind e =
    let time = bind_ok (or_named named (time_at at)) _ u e in
    let after = not_before_ok s u at.place time.0 time.2 in
    subst (λ (u : Said). Told u.stage u (es ++ at ∷ [])) after.1 (
      kinds_more es at 2 (1 ∷ []) told.0 kind ∙ ap (λ (xs : List (List ℕ)). 1 ∷ 2 ∷ map (λ imprint. 3) xs) (sym told.1),
      record {
        bounded = record { within = after.0; early = values.early at time.0 (or_named_ok named (time_at at) time.0 time.1) };
        imprints = subst (AllByRecursion IsImprint) (sym told.1) tt;
      },
    )

next_step : (values : Bounded) (s u : Said) (es : List PlacedTlv) (at : PlacedTlv) → s.stage ≡ stages.Imprints → Told stages.Imprints s es → at.element.kind ≡ 3 → next_at s at ≡ Ok u → Told u.stage u (es ++ at ∷ [])
unfolding next_at
next_step values s u es at stage told kind e =
    let x = bind_ok (or_named named (imprint_at at)) _ u e in
    let is = values.imprint at x.0 (or_named_ok named (imprint_at at) x.0 x.1) in
    subst (λ (u : Said). Told u.stage u (es ++ at ∷ [])) (ok_is {F = FrontFault} (with_imprint s x.0) u x.2)
    (subst (λ (at_stage : Stage). Told at_stage (with_imprint s x.0) (es ++ at ∷ [])) (sym stage) (
      kinds_more es at 3 (front_kinds s.contents) told.0 kind ∙ ap (λ (ks : List ℕ). 1 ∷ 2 ∷ ks) (sym (map-append (λ imprint. 3) s.contents.list (x.0 ∷ []))),
      record { bounded = told.1.bounded; imprints = all_more IsImprint s.contents.list x.0 told.1.imprints is },
    ))

read_step : (values : Bounded) (stage : Stage) (s u : Said) (es : List PlacedTlv) (at : PlacedTlv) → s.stage ≡ stage → Told stage s es → may_stand (kinds_next stage) at.element.kind ≡ true → element_read s at ≡ Ok u → Told u.stage u (es ++ at ∷ [])
read_step values stages.Old s u es at is told may e =
    let kind : at.element.kind ≡ 1 = any_kind (λ k. k ≡ 1) (1 ∷ []) at.element.kind may (refl, tt) in
    old_step values s u es at told kind (by_kind s u at 1 kind e)
read_step values stages.New s u es at is told may e =
    let kind : at.element.kind ≡ 2 = any_kind (λ k. k ≡ 2) (2 ∷ []) at.element.kind may (refl, tt) in
    new_step values s u es at told kind (by_kind s u at 2 kind e)
read_step values stages.Imprints s u es at is told may e =
    let kind : at.element.kind ≡ 3 = any_kind (λ k. k ≡ 3) (3 ∷ []) at.element.kind may (refl, tt) in
    next_step values s u es at is told kind (by_kind s u at 3 kind e)

whole_told : (stage : Stage) (said : Said) (es : List PlacedTlv) → is_whole stage ≡ true → Told stage said es → (kinds_of es ≡ front_kinds said.contents) × IsFront said.contents
whole_told stages.Old said es ends told = absurd cc
whole_told stages.New said es ends told = absurd cc
whole_told stages.Imprints said es ends told = told

abbrev Holds : Said → List PlacedTlv → Type 0
Holds s es = Told s.stage s es

module _ (values : Bounded) (bytes : List ℕ) (front : Contents) (file : IsFrontFile bytes front) where
  all : (kinds_of file.whole.es ≡ front_kinds file.said.contents) × IsFront file.said.contents
  unfolding front_format
  all = whole_told file.said.stage file.said file.whole.es file.whole.ends
      (leads_keep front_order Holds (λ s u es at told more may e. read_step values s.stage s u es at refl told may e) nothing_yet file.said [] file.whole.es (refl, refl) file.whole.leads)

  pub is_front : IsFront front
  unfolding front_format
  is_front = subst IsFront (sym file.has) all.1

  pub in_order : IsInOrder bytes front
  unfolding front_format
  in_order = file_kinds front_format front_kinds bytes front file all.0
