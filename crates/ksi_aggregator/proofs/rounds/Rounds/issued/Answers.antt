use Rattle.std.proofs.Common.{◌≡◌, ℕ, List, Option, Some, ap, sym, subst, ◌∙◌, nat_cmp}
use Rattle.std.specs.Prelude.{unwrap_or}
use Rattle.std.specs.Option.{option_copied}
use Rattle.std.specs.BTreeMap.{is_at}
use Rattle.std.specs.Map.{lookup}
use Rattle.ksi_aggregator.specs.Rows.{RoundState, fresh_round}
use Rattle.ksi_aggregator.specs.Rounds.{round_at}
use Rattle.ksi_aggregator.specs.Issuing.{NotIssuedAt}
use Rattle.ksi_aggregator.proofs.Found.{none_weaker}
use Rattle.ksi_aggregator.proofs.rounds.Rounds.issued.Goals as goal

pub returns-in-Some-clause-none : goal.returns-in-Some-clause-none
returns-in-Some-clause-none g c =
    let second = c.args.second in
    let there : Some c.in-Some.round.now ≡ lookup (is_at (nat_cmp second)) c.self.inside.map.entries = ap option_copied (sym c.in-Some.is) ∙ c.get.ensures.value in
    let same : c.in-Some.round.now ≡ round_at c.args.self.now second =
    ap (λ (o : Option RoundState). unwrap_or o fresh_round) there ∙ ap (λ (kept : List (ℕ × RoundState)). round_at kept second) c.self.view_is in
    none_weaker c.issued.result (NotIssuedAt c.in-Some.round.now c.args.number c.args.place) (NotIssuedAt (round_at c.args.self.now second) c.args.number c.args.place)
    (λ h. subst (λ (round : RoundState). NotIssuedAt round c.args.number c.args.place) same h) c.issued.ensures.none
