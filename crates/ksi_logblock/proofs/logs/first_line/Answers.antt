use Rattle.std.proofs.Common.{◌≡◌, ◌∙◌, ap, suc, take, drop, arith}
use Rattle.ksi_logblock.proofs.LogLines.{drop_one, line_before, one_line}
use Rattle.ksi_logblock.proofs.logs.first_line.Goals as goal

pub returns-in-Some-clause-lines : goal.returns-in-Some-clause-lines
returns-in-Some-clause-lines c =
    let log = c.args.log.now in
    let place = c.in-Some.place in
    let front : c.split_at.result.0.now ≡ take place log = c.split_at.ensures.front in
    let behind : c.split_at-in-Some.result.1.now ≡ drop (suc place) log = c.split_at-in-Some.ensures.back ∙ ap (drop 1) c.split_at.ensures.back ∙ drop_one place log in
    rw (front, behind) (line_before place log c.in-Some.ensures.0.high c.in-Some.ensures.1 (λ k below. c.in-Some.ensures.0.before k (omega arith) below))

pub returns-in-None-clause-lines : goal.returns-in-None-clause-lines
returns-in-None-clause-lines c = one_line c.args.log.now c.requires (λ k below. c.in-None.ensures k (omega arith) below)
