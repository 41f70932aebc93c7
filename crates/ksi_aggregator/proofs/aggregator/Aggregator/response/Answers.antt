use Rattle.std.proofs.Common.{nat_cmp, ◌≡◌, ◌↔◌, ◌⊎◌, ap}
use Rattle.std.specs.BTreeMap.{get}
use Rattle.ksi_aggregator.specs.Rows.{RoundState, round_response}
use Rattle.ksi_aggregator.specs.Rounds.{AggregatorState, rounds_of, round_at}
use Rattle.ksi_signature.specs.declared.answer.Answer.{Answer}
use Rattle.ksi_signature.specs.declared.answer.Answer.TheVariants as answers
use Rattle.ksi_aggregator.specs.Refusals.{AwaitsResponse}
use Rattle.ksi_aggregator.proofs.Words.{by_row, done_response, either_response}
use Rattle.ksi_aggregator.proofs.Found.{found_step, found_kept, after_response}
use Rattle.ksi_aggregator.proofs.aggregator.Aggregator.response.Goals as goal

pub invariant_of-self : goal.invariant_of-self
invariant_of-self g c =
    let image = g.C.Compress.image in
    let old = round_at c.self.inside.rounds in
    let new = round_at c.response.new.self in
    let places = get nat_cmp c.self.inside.requests in
    let turn = round_response image c.args.above.now (old c.args.second) in (
      found_step c.response.result old new c.args.second turn places c.self.invariant.0
          (λ changes. found_kept old new c.args.second turn.after places c.self.invariant.0 changes (after_response image c.args.above.now (old c.args.second))) c.response.ensures.step c.response.ensures.unchanged,
      c.self.invariant.1,
    )

pub returns-clause-done : goal.returns-clause-done
returns-clause-done g c =
    let second = c.args.second in
    let r = round_at c.self.inside.rounds second in
    by_row c.response.result (round_at c.self.inside.rounds) (round_at c.response.new.self) second (round_response g.C.Compress.image c.args.above.now r) r (rounds_of c.args.self.now second)
    (λ (r : RoundState) (answer : Answer). (answer ≡ answers.Done) ↔ AwaitsResponse r)
    (ap (λ (a : AggregatorState). rounds_of a second) c.self.view_is) c.response.ensures.step (done_response g.C.Compress.image c.args.above.now r)

pub returns-clause-nothing : goal.returns-clause-nothing
returns-clause-nothing g c =
    let second = c.args.second in
    let r = round_at c.self.inside.rounds second in
    by_row c.response.result (round_at c.self.inside.rounds) (round_at c.response.new.self) second (round_response g.C.Compress.image c.args.above.now r) r (rounds_of c.args.self.now second)
    (λ (r : RoundState) (answer : Answer). (answer ≡ answers.Done) ⊎ (answer ≡ answers.Nothing))
    (ap (λ (a : AggregatorState). rounds_of a second) c.self.view_is) c.response.ensures.step (either_response g.C.Compress.image c.args.above.now r)
