use Rattle.std.proofs.Common.{◌≡◌, ◌↔◌, ◌∙◌, true, Some, None, nat_cmp, refl, ap, sym, subst, not}
use Rattle.std.specs.Option.{option_copied}
use Rattle.std.specs.BTreeMap.{get}
use Rattle.ksi_aggregator.specs.declared.place.Place.{Place}
use Rattle.ksi_aggregator.specs.Rounds.{AggregatorState, rounds_of, round_at, IsNew}
use Rattle.ksi_aggregator.proofs.Found.{not_found_new, new_where}
use Rattle.ksi_aggregator.proofs.aggregator.Aggregator.is_new.Goals as goal

pub returns-in-None : goal.returns-in-None
returns-in-None g c =
    let places = get nat_cmp c.self.inside.requests in
    let none : places c.args.number ≡ None = sym c.get.ensures.value ∙ ap option_copied c.in-None.is in
    (λ e. subst (λ (a : AggregatorState). IsNew c.args.number (rounds_of a)) c.self.view_is (not_found_new (round_at c.self.inside.rounds) places c.args.number c.self.invariant.0 none), λ new. refl)

pub returns-in-Some : goal.returns-in-Some
returns-in-Some g c =
    let number = c.args.number in
    let places = get nat_cmp c.self.inside.requests in
    let place : Place = c.in-Some.place.now in
    let is : places number ≡ Some place = sym c.get.ensures.value ∙ ap option_copied c.in-Some.is in
    subst (λ (a : AggregatorState). (not c.has_request.result ≡ true) ↔ IsNew number (rounds_of a)) c.self.view_is
    (new_where (round_at c.self.inside.rounds) places number place c.has_request.result c.self.invariant.0 is c.has_request.ensures)
