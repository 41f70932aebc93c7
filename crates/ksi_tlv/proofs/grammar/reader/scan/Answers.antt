use Rattle.std.proofs.Common.{◌≡◌, ◌∷◌, Ok, Err, ◌∙◌}
use Rattle.std.proofs.lemmas.Result.{err_from_is_err_and}
use Rattle.ksi_tlv.specs.Views.{view_placed, view_cut, rest}
use Rattle.ksi_tlv.proofs.Loop.{starts, goes_on, stops, is_cut, ends}
use Rattle.ksi_tlv.proofs.grammar.reader.scan.Goals as goal

pub loop-item-init : goal.loop-item-init
loop-item-init g c = rw c.at-elements.ensures.exact (starts g.G.Grammar.table c.args.place c.args.inside c.args.body.now)

pub loop-item-preserved : goal.loop-item-preserved
loop-item-preserved g c =
    let e : rest c.loop-item.elements ≡ Ok (view_placed c.in-Ok.at) ∷ rest c.next.new.self = rw c.in-Ok.is at c.in-Some.ensures.steps in
    goes_on g.G.Grammar.table c.args.place c.args.inside c.args.body.now c.loop-item.seen c.count.new.seen (view_placed c.in-Ok.at) (rest c.loop-item.elements) (rest c.next.new.self) g.met.G.Grammar.well_formed c.loop-item.invariant e c.in_ok-count-in-Ok.ensures

pub returns-in_err-count-in-Ok : goal.returns-in_err-count-in-Ok
returns-in_err-count-in-Ok g c =
    let p = err_from_is_err_and c.from_residual.result c.from_residual.ensures.1 in
    let e : rest c.loop-item.elements ≡ Ok (view_placed c.in-Ok.at) ∷ rest c.next.new.self = rw c.in-Ok.is at c.in-Some.ensures.steps in
    rw (p.1, p.2) (stops g.G.Grammar.table c.args.place c.args.inside c.args.body.now c.loop-item.seen (view_placed c.in-Ok.at) (rest c.loop-item.elements) (rest c.next.new.self) _ g.met.G.Grammar.well_formed c.loop-item.invariant e c.in_err-count-in-Ok.ensures)

pub returns-in-Err : goal.returns-in-Err
returns-in-Err g c =
    let e : rest c.loop-item.elements ≡ Err (view_cut c.in-Err.place c.in-Err.field-0-1) ∷ rest c.next.new.self = rw c.in-Err.is at c.in-Some.ensures.steps in
    is_cut g.G.Grammar.table c.args.place c.args.inside c.args.body.now c.loop-item.seen c.in-Err.place c.in-Err.field-0-1 (rest c.loop-item.elements) (rest c.next.new.self) c.loop-item.invariant e

pub returns : goal.returns
returns g c = c.end.ensures ∙ ends g.G.Grammar.table c.args.place c.args.inside c.args.body.now c.loop-item.seen (rest c.loop-item.elements) c.loop-item.invariant c.in_default.ensures.steps.0
