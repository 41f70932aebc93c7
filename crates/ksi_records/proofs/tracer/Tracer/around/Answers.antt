use Rattle.std.proofs.Common.{◌≡◌, ◌+◌, ◌<◌, ◌∙◌, ap, subst, arith, length, refl, List}
use Rattle.ksi_schedule.specs.Events.{History}
use Rattle.ksi_world.specs.Histories.{first_world}
use Rattle.ksi_records.specs.Marks.{marks_from}
use Rattle.ksi_records.proofs.MarkLemmas.{mark_at, mark_count, mark_there}
use Rattle.ksi_records.specs.declared.mark.Mark.{Mark}
use Rattle.ksi_records.proofs.tracer.Tracer.around.Goals as goal
use Rattle.ksi_records.proofs.tracer.Tracer.around.Goals.{then-place-marks-via-then-place-marks, then-place-marks-via-else-place-marks+then-marks-place-lt2}

pub returns-clause-there : goal.returns-clause-there
returns-clause-there g c =
    let image = g.C.Compress.image in
    let it = c.args.self.now in
    let are = c.as_slice-marks.ensures.value ∙ subst (λ (h : History). c.self.inside.marks.items ≡ marks_from image h.plan (first_world h.plan) h.events) c.self.view_is c.self.invariant in
    let there : c.args.step < length it.events = mark_there image it.plan it.events c.as_slice-marks.result.now c.args.step are c.if-marks-place-lt2.false in
    (λ _. there, λ _. refl)

pub returns-clause-before : goal.returns-clause-before
returns-clause-before g c =
    let image = g.C.Compress.image in
    let it = c.args.self.now in
    let are = c.as_slice-marks.ensures.value ∙ subst (λ (h : History). c.self.inside.marks.items ≡ marks_from image h.plan (first_world h.plan) h.events) c.self.view_is c.self.invariant in
    let there : c.args.step < length it.events = mark_there image it.plan it.events c.as_slice-marks.result.now c.args.step are c.if-marks-place-lt2.false in
    mark_at image it.plan it.events c.as_slice-marks.result.now c.args.step _ are (omega (arith, there))

pub returns-clause-after : goal.returns-clause-after
returns-clause-after g c =
    let image = g.C.Compress.image in
    let it = c.args.self.now in
    let are = c.as_slice-marks.ensures.value ∙ subst (λ (h : History). c.self.inside.marks.items ≡ marks_from image h.plan (first_world h.plan) h.events) c.self.view_is c.self.invariant in
    let there : c.args.step < length it.events = mark_there image it.plan it.events c.as_slice-marks.result.now c.args.step are c.if-marks-place-lt2.false in
    mark_at image it.plan it.events c.as_slice-marks.result.now (c.args.step + 1) _ are (omega (arith, there))

pub returns-then-place-marks-clause-there : goal.returns-then-place-marks-clause-there
returns-then-place-marks-clause-there g c =
    let image = g.C.Compress.image in
    let it = c.args.self.now in
    let are = c.as_slice-marks.ensures.value ∙ subst (λ (h : History). c.self.inside.marks.items ≡ marks_from image h.plan (first_world h.plan) h.events) c.self.view_is c.self.invariant in
    let count : length c.as_slice-marks.result.now ≡ length it.events + 1 = ap (λ (marks : List Mark). length marks) are ∙ mark_count image it.plan it.events in
    let none : c.args.step < length it.events → ⊥ =
    elim c.then-place-marks.branch [ then-place-marks-via-then-place-marks w ↦ λ lt. omega (arith, lt) | then-place-marks-via-else-place-marks+then-marks-place-lt2 w ↦ λ lt. omega (arith, lt) ] in
    (λ is. absurd (cc is), λ lt. absurd (none lt))
