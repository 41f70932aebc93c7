use Rattle.std.proofs.Common.{◌≡◌, ◌∙◌, Some, None, nat_cmp, ap, sym, subst}
use Rattle.std.specs.Option.{option_copied}
use Rattle.std.specs.BTreeMap.{get}
use Rattle.ksi_aggregator.specs.declared.place.Place.{Place}
use Rattle.ksi_aggregator.specs.Rounds.{AggregatorState, rounds_of, round_at}
use Rattle.ksi_aggregator.specs.Issuing.{NotIssued, NotIssuedAt}
use Rattle.ksi_aggregator.proofs.Found.{none_weaker, not_found_not_issued, not_there_not_issued}
use Rattle.ksi_aggregator.proofs.aggregator.Aggregator.issued.Goals as goal

pub returns-in-None-clause-none : goal.returns-in-None-clause-none
returns-in-None-clause-none g c =
    let places = get nat_cmp c.self.inside.requests in
    let none : places c.args.number ≡ None = sym c.get.ensures.value ∙ ap option_copied c.in-None.is in
    subst (λ (a : AggregatorState). NotIssued (rounds_of a) c.args.number) c.self.view_is
    (not_found_not_issued (round_at c.self.inside.rounds) places c.args.number c.self.invariant.0 none)

pub returns-in-Some-clause-none : goal.returns-in-Some-clause-none
returns-in-Some-clause-none g c =
    let number = c.args.number in
    let rounds = round_at c.self.inside.rounds in
    let places = get nat_cmp c.self.inside.requests in
    let place : Place = c.in-Some.place.now in
    let is : places number ≡ Some place = sym c.get.ensures.value ∙ ap option_copied c.in-Some.is in
    none_weaker c.issued.result (NotIssuedAt (rounds place.second) number place.place) (NotIssued (rounds_of c.args.self.now) number)
    (λ h. subst (λ (a : AggregatorState). NotIssued (rounds_of a) number) c.self.view_is (not_there_not_issued rounds places number place c.self.invariant.0 is h))
    c.issued.ensures.none
