use Rattle.std.proofs.Common.{◌≡◌, ◌≢◌, ℕ, length, Some, nat_cmp, sym, subst, ap, ◌∙◌, ◌↔◌}
use Rattle.std.specs.Prelude.{IsSome}
use Rattle.std.specs.BTreeMap.{get}
use Rattle.ksi_aggregator.specs.declared.place.Place.{Place}
use Rattle.ksi_aggregator.specs.Rows.{RoundState, round_request}
use Rattle.ksi_aggregator.specs.Rounds.{AggregatorState, rounds_of, round_at, items_in, IsNew}
use Rattle.ksi_aggregator.specs.Issuing.{AreFound}
use Rattle.ksi_signature.specs.declared.answer.Answer.{Answer}
use Rattle.ksi_signature.specs.declared.answer.Answer.TheVariants as answers
use Rattle.ksi_aggregator.specs.Refusals.{IsFull}
use Rattle.ksi_aggregator.proofs.Words.{by_row, full_request, late_request}
use Rattle.ksi_aggregator.proofs.Found.{found_step, found_new, found_request, early_new, other_key}
use Rattle.ksi_aggregator.proofs.aggregator.Aggregator.request.Goals as goal

pub invariant_of-self-2 : goal.invariant_of-self-2
invariant_of-self-2 g c =
    let number = c.args.number in
    let second = c.args.second in
    let old = round_at c.self.inside.rounds in
    let new = round_at c.request.new.self in
    let before = get nat_cmp c.self.inside.requests in
    let places = get nat_cmp c.insert.new.self in
    let place : Place = record { second = second; place = c.count-place.result } in
    let turn = round_request number c.args.imprint c.args.name (old second) in
    let is_new : IsNew number old = subst (λ (a : AggregatorState). IsNew number (rounds_of a)) (sym c.self.view_is) c.requires.new in
    let put : places number ≡ Some place = c.in_ok-insert.ensures.updates.1 in
    let keeps : (n : ℕ) → number ≢ n → places n ≡ before n = λ n ne. c.in_ok-insert.ensures.updates.2 n (other_key number n ne) in
    let found : AreFound old places = found_new old number before places c.self.invariant.0 is_new keeps in
    let at : places number ≡ Some (record { second = second; place = length (items_in (old second)) }) = put ∙ ap (λ (k : ℕ). Some (record { second = second; place = k })) c.count-place.ensures in (
      found_step c.request.result old new second turn places found
          (λ changes. found_request number c.args.imprint c.args.name old new second places found changes at) c.request.ensures.step c.request.ensures.unchanged,
      early_new number place before places c.self.invariant.1 c.requires.early put keeps,
    )

pub returns-clause-late : goal.returns-clause-late
returns-clause-late g c =
    let second = c.args.second in
    let r = round_at c.self.inside.rounds second in
    by_row c.request.result (round_at c.self.inside.rounds) (round_at c.request.new.self) second (round_request c.args.number c.args.imprint c.args.name r) r (rounds_of c.args.self.now second)
    (λ (r : RoundState) (answer : Answer). (answer ≡ answers.Late) ↔ IsSome r.closed)
    (ap (λ (a : AggregatorState). rounds_of a second) c.self.view_is) c.request.ensures.step (late_request c.args.number c.args.imprint c.args.name r)

pub returns-clause-full : goal.returns-clause-full
returns-clause-full g c =
    let second = c.args.second in
    let r = round_at c.self.inside.rounds second in
    by_row c.request.result (round_at c.self.inside.rounds) (round_at c.request.new.self) second (round_request c.args.number c.args.imprint c.args.name r) r (rounds_of c.args.self.now second)
    (λ (r : RoundState) (answer : Answer). (answer ≡ answers.Full) ↔ IsFull r)
    (ap (λ (a : AggregatorState). rounds_of a second) c.self.view_is) c.request.ensures.step (full_request c.args.number c.args.imprint c.args.name r)
