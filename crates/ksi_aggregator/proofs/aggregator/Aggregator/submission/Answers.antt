use Rattle.std.proofs.Common.{nat_cmp, ◌≡◌, ◌↔◌, ap}
use Rattle.std.specs.Prelude.{IsSome}
use Rattle.std.specs.BTreeMap.{get}
use Rattle.ksi_aggregator.specs.Rows.{RoundState, round_submission}
use Rattle.ksi_aggregator.specs.Rounds.{AggregatorState, rounds_of, round_at}
use Rattle.ksi_signature.specs.declared.answer.Answer.{Answer}
use Rattle.ksi_signature.specs.declared.answer.Answer.TheVariants as answers
use Rattle.ksi_aggregator.specs.Refusals.{IsKnown, IsFullFor}
use Rattle.ksi_aggregator.proofs.Words.{by_row, full_submission, known_submission, late_submission}
use Rattle.ksi_aggregator.proofs.Found.{found_step, found_submission}
use Rattle.ksi_aggregator.proofs.aggregator.Aggregator.submission.Goals as goal

pub invariant_of-self : goal.invariant_of-self
invariant_of-self g c =
    let old = round_at c.self.inside.rounds in
    let new = round_at c.submission.new.self in
    let places = get nat_cmp c.self.inside.requests in
    let turn = round_submission c.args.aggregator c.args.item (old c.args.second) in (
      found_step c.submission.result old new c.args.second turn places c.self.invariant.0
          (λ changes. found_submission c.args.aggregator c.args.item old new c.args.second places c.self.invariant.0 changes) c.submission.ensures.step c.submission.ensures.unchanged,
      c.self.invariant.1,
    )

pub returns-clause-late : goal.returns-clause-late
returns-clause-late g c =
    let second = c.args.second in
    let r = round_at c.self.inside.rounds second in
    by_row c.submission.result (round_at c.self.inside.rounds) (round_at c.submission.new.self) second (round_submission c.args.aggregator c.args.item r) r (rounds_of c.args.self.now second)
    (λ (r : RoundState) (answer : Answer). (answer ≡ answers.Late) ↔ IsSome r.closed)
    (ap (λ (a : AggregatorState). rounds_of a second) c.self.view_is) c.submission.ensures.step (late_submission c.args.aggregator c.args.item r)

pub returns-clause-known : goal.returns-clause-known
returns-clause-known g c =
    let second = c.args.second in
    let r = round_at c.self.inside.rounds second in
    by_row c.submission.result (round_at c.self.inside.rounds) (round_at c.submission.new.self) second (round_submission c.args.aggregator c.args.item r) r (rounds_of c.args.self.now second)
    (λ (r : RoundState) (answer : Answer). (answer ≡ answers.Known) ↔ IsKnown c.args.aggregator r)
    (ap (λ (a : AggregatorState). rounds_of a second) c.self.view_is) c.submission.ensures.step (known_submission c.args.aggregator c.args.item r)

pub returns-clause-full : goal.returns-clause-full
returns-clause-full g c =
    let second = c.args.second in
    let r = round_at c.self.inside.rounds second in
    by_row c.submission.result (round_at c.self.inside.rounds) (round_at c.submission.new.self) second (round_submission c.args.aggregator c.args.item r) r (rounds_of c.args.self.now second)
    (λ (r : RoundState) (answer : Answer). (answer ≡ answers.Full) ↔ IsFullFor c.args.aggregator r)
    (ap (λ (a : AggregatorState). rounds_of a second) c.self.view_is) c.submission.ensures.step (full_submission c.args.aggregator c.args.item r)
