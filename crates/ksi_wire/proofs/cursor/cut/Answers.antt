use Rattle.std.proofs.Common.{◌≡◌, ◌<◌, ◌∙◌, ap, get_or, length, take, drop, subst, arith, suc, refl}
use Rattle.std.proofs.lemmas.Bool.{eqb-true}
use Rattle.std.proofs.lemmas.List.{take_all}
use Rattle.ksi_schedule.proofs.Cuts.{Lacks, lacks_before, words_at, words-whole, drop_one}
use Rattle.ksi_wire.proofs.cursor.cut.Goals as goal

pub returns-in-None : goal.returns-in-None
returns-in-None c =
    let before : Lacks 32 (take (length c.args.line.now) c.args.line.now) = lacks_before 32 (length c.args.line.now) c.args.line.now (λ k lt. c.in-None.ensures k (omega arith) lt) in
    let all : take (length c.args.line.now) c.args.line.now ≡ c.args.line.now = grind (arith, take_all) in
    words-whole c.args.line.now (subst (Lacks 32) all before)

pub returns-in-Some : goal.returns-in-Some
returns-in-Some c =
    let within : c.in-Some.place < length c.args.line.now = c.in-Some.ensures.0.high in
    let here : get_or c.args.line.now c.in-Some.place 0 ≡ 32 = eqb-true _ _ c.in-Some.ensures.1 in
    let free : Lacks 32 (take c.in-Some.place c.args.line.now) = lacks_before 32 c.in-Some.place c.args.line.now (λ k lt. c.in-Some.ensures.0.before k (omega arith) lt) in
    let front : c.split_at.result.0.now ≡ take c.in-Some.place c.args.line.now = c.split_at.ensures.front in
    let after : c.split_at-in-Some.result.1.now ≡ drop (suc c.in-Some.place) c.args.line.now =
    c.split_at-in-Some.ensures.back ∙ ap (drop 1) c.split_at.ensures.back ∙ drop_one c.in-Some.place c.args.line.now in
    rw (front, after) (words_at 32 c.args.line.now c.in-Some.place within here free refl)
