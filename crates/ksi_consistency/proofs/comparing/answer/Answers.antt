use Rattle.std.proofs.Common.{◌≡◌, ◌+◌, ℕ, List, Some, None, Ok, Err, reverse, refl, sym, ap, ◌∙◌}
use Rattle.ksi_calendar.specs.Calendar.{calendar_root}
use Rattle.ksi_consistency.specs.Answering.{first_apart, front_clash}
use Rattle.ksi_consistency.specs.Checked.{front_checked}
use Rattle.ksi_consistency.specs.declared.compared.Compared.TheVariants as answers
use Rattle.ksi_consistency.proofs.Finding.{answer_is}
use Rattle.ksi_consistency.proofs.comparing.answer.Goals as goal

pub returns-in-Err-clause-answer : goal.returns-in-Err-clause-answer
returns-in-Err-clause-answer g c =
    let image = g.C.Compress.image in
    let old = c.args.old.now in
    let new = c.args.new.now in
    let p1 = c.args.p1 in
    let p2 = c.args.p2 in
    let front = c.args.front.now in
    let checked : Err c.in-Err.refusal ≡ front_checked image p1 p2 (calendar_root image old p1) (calendar_root image new p2) front
    = sym c.in-Err.is ∙ c.check.ensures ∙ ap (λ (r : List ℕ). front_checked image p1 p2 r c.root-r2.result front) c.root-r1.ensures ∙ ap (λ (r : List ℕ). front_checked image p1 p2 (calendar_root image old p1) r front) c.root-r2.ensures in
    answer_is image old new p1 p2 front (Err c.in-Err.refusal) (first_apart old new p1) checked refl

pub returns-in-None-clause-answer : goal.returns-in-None-clause-answer
returns-in-None-clause-answer g c =
    let image = g.C.Compress.image in
    let old = c.args.old.now in
    let new = c.args.new.now in
    let p1 = c.args.p1 in
    let p2 = c.args.p2 in
    let front = c.args.front.now in
    let checked : Ok tt ≡ front_checked image p1 p2 (calendar_root image old p1) (calendar_root image new p2) front
    = sym c.in_default.is ∙ c.check.ensures ∙ ap (λ (r : List ℕ). front_checked image p1 p2 r c.root-r2.result front) c.root-r1.ensures ∙ ap (λ (r : List ℕ). front_checked image p1 p2 (calendar_root image old p1) r front) c.root-r2.ensures in
    let first : None ≡ first_apart old new p1 = sym c.in-None.is ∙ c.first_apart.ensures.first in
    answer_is image old new p1 p2 front (Ok tt) None checked first

pub returns-in_ok-clash_in_front-in-Some-clause-answer : goal.returns-in_ok-clash_in_front-in-Some-clause-answer
returns-in_ok-clash_in_front-in-Some-clause-answer g c =
    let image = g.C.Compress.image in
    let old = c.args.old.now in
    let new = c.args.new.now in
    let p1 = c.args.p1 in
    let p2 = c.args.p2 in
    let front = c.args.front.now in
    let second = c.in-Some.second in
    let checked : Ok tt ≡ front_checked image p1 p2 (calendar_root image old p1) (calendar_root image new p2) front
    = sym c.in_default.is ∙ c.check.ensures ∙ ap (λ (r : List ℕ). front_checked image p1 p2 r c.root-r2.result front) c.root-r1.ensures ∙ ap (λ (r : List ℕ). front_checked image p1 p2 (calendar_root image old p1) r front) c.root-r2.ensures in
    let first : Some second ≡ first_apart old new p1 = sym c.in-Some.is ∙ c.first_apart.ensures.first in
    let which = c.in_ok-clash_in_front-in-Some.ensures.which ∙ ap (λ (given : List ℕ). front_clash image old new given second 0 (p1 + 1) (p2 + 1) (reverse front)) c.root-r1.ensures in
    ap answers.Clash which ∙ answer_is image old new p1 p2 front (Ok tt) (Some second) checked first
