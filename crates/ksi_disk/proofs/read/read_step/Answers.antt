use Rattle.std.proofs.Common.{◌≡◌, ◌+◌, ◌∙◌, [], ◌∷◌, ℕ, length, drop, ap, sym, subst, refl, arith, length-drop}
use Rattle.ksi_disk.specs.Gates.{behind, reading_at}
use Rattle.ksi_disk.proofs.Steps.{at_closed, at_broken, at_whole_in, record_is_read, wanting_where, whole_size}
use Rattle.ksi_disk.proofs.read.read_step.Goals as goal

pub overflow_add-next-in-Whole : goal.overflow_add-next-in-Whole
overflow_add-next-in-Whole g c =
    let file = g.D.Disk.content c.args.disk.now in
    let is = sym c.in-Whole.is ∙ c.in_ok-read_front.ensures.front in
    omega (arith, whole_size (drop c.args.place file) c.in-Whole.content is, length-drop c.args.place file, ap length c.as_slice.ensures)

pub returns-in-Closed-clause-step : goal.returns-in-Closed-clause-step
returns-in-Closed-clause-step g c =
    let file = g.D.Disk.content c.args.disk.now in
    (c.in_ok-read_front.ensures.stays, (refl, at_closed c.args.place (drop c.args.place file) (sym c.in-Closed.is ∙ c.in_ok-read_front.ensures.front)))

pub returns-in-Broken-clause-step : goal.returns-in-Broken-clause-step
returns-in-Broken-clause-step g c =
    let file = g.D.Disk.content c.args.disk.now in
    (c.in_ok-read_front.ensures.stays, (refl, at_broken c.args.place (drop c.args.place file) (sym c.in-Broken.is ∙ c.in_ok-read_front.ensures.front)))

pub returns-in_ok-keep-in-Whole-clause-step : goal.returns-in_ok-keep-in-Whole-clause-step
returns-in_ok-keep-in-Whole-clause-step g c =
    let file = g.D.Disk.content c.args.disk.now in
    let place = c.args.place in
    let content = c.in-Whole.content in
    let is = sym c.in-Whole.is ∙ c.in_ok-read_front.ensures.front in
    let size : length content ≡ length c.as_slice.result.now = sym (ap length c.as_slice.ensures) in
    let within = whole_size (drop place file) content is in (
      c.in_ok-read_front.ensures.stays,
      (
        content,
        c.in_ok-keep-in-Whole.ensures,
        subst (λ (n : ℕ). reading_at place (drop place file) ≡ behind (content ∷ []) (reading_at (place + (5 + n)) (drop (place + (5 + n)) file))) size (at_whole_in place file content is),
        omega arith,
        omega (arith, within, size, length-drop place file),
      ),
    )

pub returns-in_err-keep-in-Whole-clause-wanting : goal.returns-in_err-keep-in-Whole-clause-wanting
returns-in_err-keep-in-Whole-clause-wanting g c =
    let file = g.D.Disk.content c.args.disk.now in
    let is = sym c.in-Whole.is ∙ c.in_ok-read_front.ensures.front in
    wanting_where c.from_residual-in_err-keep-in-Whole.result _ (record_is_read c.in-Whole.content _ _ (at_whole_in c.args.place file c.in-Whole.content is))
