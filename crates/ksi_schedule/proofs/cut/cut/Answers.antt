use Rattle.std.proofs.Common.{◌≡◌, ◌<◌, ◌∙◌, ap, ℕ, get_or, length, take, drop, subst, arith, suc}
use Rattle.std.proofs.lemmas.Bool.{eqb-true}
use Rattle.std.proofs.lemmas.List.{take_all}
use Rattle.ksi_schedule.proofs.Cuts.{Lacks, lacks_before, words_at, lines_at, words-whole, lines-some, drop_one}
use Rattle.ksi_schedule.proofs.cut.cut.Goals as goal

pub returns-in-None : goal.returns-in-None
returns-in-None c =
    let before : Lacks c.args.mark (take (length c.args.bytes.now) c.args.bytes.now) = lacks_before c.args.mark (length c.args.bytes.now) c.args.bytes.now (λ k lt. c.in-None.ensures k (omega arith) lt) in
    let all : take (length c.args.bytes.now) c.args.bytes.now ≡ c.args.bytes.now = grind (arith, take_all) in
    let free : Lacks c.args.mark c.args.bytes.now = subst (Lacks c.args.mark) all before in
    record {
      words = λ space. words-whole c.args.bytes.now (subst (λ (m : ℕ). Lacks m c.args.bytes.now) space free);
      lines = λ feed some. lines-some c.args.bytes.now some (subst (λ (m : ℕ). Lacks m c.args.bytes.now) feed free);
      shorter = tt;
    }

pub returns-in-Some : goal.returns-in-Some
returns-in-Some c =
    let within : c.in-Some.place < length c.args.bytes.now = c.in-Some.ensures.0.high in
    let here : get_or c.args.bytes.now c.in-Some.place 0 ≡ c.args.mark = eqb-true _ _ c.in-Some.ensures.1 in
    let free : Lacks c.args.mark (take c.in-Some.place c.args.bytes.now) = lacks_before c.args.mark c.in-Some.place c.args.bytes.now (λ k lt. c.in-Some.ensures.0.before k (omega arith) lt) in
    let front : c.split_at.result.0.now ≡ take c.in-Some.place c.args.bytes.now = c.split_at.ensures.front in
    let after : c.split_at-in-Some.result.1.now ≡ drop (suc c.in-Some.place) c.args.bytes.now =
    c.split_at-in-Some.ensures.back ∙ ap (drop 1) c.split_at.ensures.back ∙ drop_one c.in-Some.place c.args.bytes.now in
    record {
      words = λ space. rw (front, after) (words_at c.args.mark c.args.bytes.now c.in-Some.place within here free space);
      lines = λ feed some. rw (front, after) (lines_at c.args.mark c.args.bytes.now c.in-Some.place within here free feed);
      shorter = omega (arith, c.split_at-in-Some.ensures.back_len, c.split_at.ensures.back_len);
    }
