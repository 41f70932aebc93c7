use Rattle.std.proofs.Common.{◌≡◌, ◌∙◌, ◌+◌, ◌*◌, ◌-◌, ℕ, List, [], ◌∷◌, Some, None, length, drop, ap, sym, arith, length-append}
use Rattle.std.proofs.lemmas.List.{drop-drop}
use Rattle.ksi_printed.specs.Groups.{number_in}
use Rattle.ksi_printed.proofs.Loops.{next_number, no_more, no_number}
use Rattle.ksi_printed.proofs.reader.read_numbers.Goals as goal

pub returns-in-None-clause-fault : goal.returns-in-None-clause-fault
returns-in-None-clause-fault c =
    let done = c.reading.done in
    let rest = drop (5 * done) c.args.groups.now in
    let one : number_in rest ≡ None = ap number_in (sym c.split_at.ensures.back) ∙ sym c.number_in.ensures ∙ c.in-None.is in
    c.reading.invariant.so_far ∙ no_number c.reading.numbers.items done (21 - done) (21 - (done + 1)) rest (omega arith) one

pub reading-preserved : goal.reading-preserved
reading-preserved c =
    let done = c.reading.done in
    let rest = drop (5 * done) c.args.groups.now in
    let number = c.in-Some.number in
    let one : number_in rest ≡ Some number = ap number_in (sym c.split_at.ensures.back) ∙ sym c.number_in.ensures ∙ c.in-Some.is in
    let place : 5 * (done + 1) ≡ 5 * done + 5 = omega arith in
    record {
      so_far = c.reading.invariant.so_far
          ∙ next_number c.reading.numbers.items c.keep.new.numbers.items done (21 - done) (21 - (done + 1)) number rest (drop (5 * (done + 1)) c.args.groups.now)
          (omega arith) c.in_ok-keep-in-Some.ensures (ap (λ (n : ℕ). drop n c.args.groups.now) place ∙ sym (drop-drop 5 (5 * done) c.args.groups.now)) one;
      count = omega (arith, ap length c.in_ok-keep-in-Some.ensures, length-append c.reading.numbers.items (number ∷ []), c.reading.invariant.count);
    }

pub returns-clause-read : goal.returns-clause-read
returns-clause-read c =
    let done = c.reading.done in
    c.reading.invariant.so_far ∙ no_more c.reading.numbers.items done (21 - done) (drop (5 * done) c.args.groups.now) (omega arith)
