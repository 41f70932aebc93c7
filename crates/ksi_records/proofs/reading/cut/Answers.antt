use Rattle.std.proofs.Common.{◌≡◌, ◌+◌, ◌∙◌, ap, ℕ, length, take, drop, arith, sym, []}
use Rattle.std.proofs.lemmas.Grind.{common_steps}
use Rattle.ksi_records.proofs.HeadLemmas.{space_at}
use Rattle.ksi_records.proofs.reading.cut.Goals as goal

pub returns-in-Some-clause-word : goal.returns-in-Some-clause-word
returns-in-Some-clause-word c =
    let line = c.args.line.now in
    let at = space_at line c.in-Some.place (omega (arith, c.in-Some.ensures.0.high)) (λ k lt. c.in-Some.ensures.0.before k (omega arith) lt) (λ _. c.in-Some.ensures.1) in
    c.split_at.ensures.front ∙ ap (λ (n : ℕ). take n line) (sym at)

pub returns-in-Some-clause-rest : goal.returns-in-Some-clause-rest
returns-in-Some-clause-rest c =
    let line = c.args.line.now in
    let at = space_at line c.in-Some.place (omega (arith, c.in-Some.ensures.0.high)) (λ k lt. c.in-Some.ensures.0.before k (omega arith) lt) (λ _. c.in-Some.ensures.1) in
    let behind : drop 1 (drop c.in-Some.place line) ≡ drop (c.in-Some.place + 1) line = grind (arith, common_steps) in
    c.split_at-in-Some.ensures.back ∙ ap (drop 1) c.split_at.ensures.back ∙ behind ∙ ap (λ (n : ℕ). drop (n + 1) line) (sym at)

pub returns-in-None-clause-word : goal.returns-in-None-clause-word
returns-in-None-clause-word c =
    let line = c.args.line.now in
    let at = space_at line (length line) (omega arith) (λ k lt. c.in-None.ensures k (omega arith) lt) (λ lt. absurd (omega (arith, lt))) in
    let all : line ≡ take (length line) line = grind (arith, common_steps) in
    all ∙ ap (λ (n : ℕ). take n line) (sym at)

pub returns-in-None-clause-rest : goal.returns-in-None-clause-rest
returns-in-None-clause-rest c =
    let line = c.args.line.now in
    let at = space_at line (length line) (omega arith) (λ k lt. c.in-None.ensures k (omega arith) lt) (λ lt. absurd (omega (arith, lt))) in
    let none : [] ≡ drop (length line + 1) line = grind (arith, common_steps) in
    none ∙ ap (λ (n : ℕ). drop (n + 1) line) (sym at)
