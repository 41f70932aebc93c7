use Rattle.std.proofs.Common.{◌≡◌, ◌↔◌, ℕ, List, true, Option, Some, None, ap, sym, subst, ◌∙◌, nat_cmp}
use Rattle.std.specs.Prelude.{unwrap_or}
use Rattle.std.specs.Option.{option_copied}
use Rattle.std.specs.BTreeMap.{is_at}
use Rattle.std.specs.Map.{lookup}
use Rattle.ksi_aggregator.specs.Rows.{RoundState, fresh_round}
use Rattle.ksi_aggregator.specs.Rounds.{round_at, items_in, StandsAt}
use Rattle.ksi_aggregator.proofs.Found.{none_stands}
use Rattle.ksi_aggregator.proofs.rounds.Rounds.has_request.Goals as goal

pub returns-in-Some : goal.returns-in-Some
returns-in-Some g c =
    let second = c.args.second in
    let there : Some c.in-Some.round.now ≡ lookup (is_at (nat_cmp second)) c.self.inside.map.entries = ap option_copied (sym c.in-Some.is) ∙ c.get.ensures.value in
    let same : c.in-Some.round.now ≡ round_at c.args.self.now second =
    ap (λ (o : Option RoundState). unwrap_or o fresh_round) there ∙ ap (λ (kept : List (ℕ × RoundState)). round_at kept second) c.self.view_is in
    subst (λ (round : RoundState). (c.has_request.result ≡ true) ↔ StandsAt c.args.number (items_in round) c.args.place) same c.has_request.ensures

pub returns-in-None : goal.returns-in-None
returns-in-None g c =
    let second = c.args.second in
    let none : lookup (is_at (nat_cmp second)) c.self.inside.map.entries ≡ None = sym c.get.ensures.value ∙ ap option_copied c.in-None.is in
    let same : round_at c.args.self.now second ≡ fresh_round =
    ap (λ (kept : List (ℕ × RoundState)). round_at kept second) (sym c.self.view_is) ∙ ap (λ (o : Option RoundState). unwrap_or o fresh_round) none in
    none_stands c.args.number c.args.place (round_at c.args.self.now second) same
