use Rattle.std.proofs.Common.{nat_cmp, ◌≡◌, ◌↔◌, ap}
use Rattle.std.specs.Prelude.{IsSome}
use Rattle.std.specs.BTreeMap.{get}
use Rattle.ksi_aggregator.specs.Rows.{RoundState, round_close}
use Rattle.ksi_aggregator.specs.Rounds.{AggregatorState, rounds_of, round_at}
use Rattle.ksi_signature.specs.declared.answer.Answer.{Answer}
use Rattle.ksi_signature.specs.declared.answer.Answer.TheVariants as answers
use Rattle.ksi_aggregator.proofs.Words.{by_row, closed_close}
use Rattle.ksi_aggregator.proofs.Found.{found_step, found_kept, after_close}
use Rattle.ksi_aggregator.proofs.aggregator.Aggregator.close.Goals as goal

pub invariant_of-self : goal.invariant_of-self
invariant_of-self g c =
    let image = g.C.Compress.image in
    let old = round_at c.self.inside.rounds in
    let new = round_at c.close.new.self in
    let places = get nat_cmp c.self.inside.requests in
    let turn = round_close image (old c.args.second) in (
      found_step c.close.result old new c.args.second turn places c.self.invariant.0
          (λ changes. found_kept old new c.args.second turn.after places c.self.invariant.0 changes (after_close image (old c.args.second))) c.close.ensures.step c.close.ensures.unchanged,
      c.self.invariant.1,
    )

pub returns-clause-closed : goal.returns-clause-closed
returns-clause-closed g c =
    let second = c.args.second in
    let r = round_at c.self.inside.rounds second in
    by_row c.close.result (round_at c.self.inside.rounds) (round_at c.close.new.self) second (round_close g.C.Compress.image r) r (rounds_of c.args.self.now second)
    (λ (r : RoundState) (answer : Answer). (answer ≡ answers.Closed) ↔ IsSome r.closed)
    (ap (λ (a : AggregatorState). rounds_of a second) c.self.view_is) c.close.ensures.step (closed_close g.C.Compress.image r)
