use Rattle.std.proofs.Common.{◌≡◌, ◌++◌, length, refl, ap, ◌∙◌, arith, Some}
use Rattle.std.specs.Prelude.{slice_get, map}
use Rattle.std.proofs.lemmas.Option.{slice_get_read}
use Rattle.ksi_aggregator.specs.Rounds.{rounds_of}
use Rattle.ksi_aggregator.specs.Rows.{round_request}
use Rattle.ksi_world.specs.Histories.{round_message}
use Rattle.ksi_world.proofs.Turning.{at_error}
use Rattle.ksi_world.proofs.RoundTurning.{round_turned, aggregators_stay, none_requested}
use Rattle.ksi_world.proofs.aggregators.request.Goals as goal

pub post_round-requires : goal.post_round-requires
post_round-requires g c =
    let one = c.index_mut.result.now in
    let at : slice_get c.args.aggregators.now.items c.args.aggregator ≡ Some one = slice_get_read c.args.aggregators.now.items _ c.args.aggregator one refl c.requires.there c.index_mut.ensures.value in
    record { there = c.requires.planned; room = omega (arith, ap length (c.in_ok-step.ensures.step.sends ∙ none_requested c.args.number c.args.imprint c.args.name (rounds_of one c.args.second))) }

pub returns-in_err-step-clause-aggregators : goal.returns-in_err-step-clause-aggregators
returns-in_err-step-clause-aggregators g c =
    let one = c.index_mut.result.now in
    let at : slice_get c.args.aggregators.now.items c.args.aggregator ≡ Some one = slice_get_read c.args.aggregators.now.items _ c.args.aggregator one refl c.requires.there c.index_mut.ensures.value in
    at_error c.from_residual.result (aggregators_stay c.args.aggregators.now.items c.args.aggregator one c.request.new.self at c.request.ensures.me c.in_err-step.ensures.unchanged)

pub returns-clause-ok : goal.returns-clause-ok
returns-clause-ok g c =
    let one = c.index_mut.result.now in
    let at : slice_get c.args.aggregators.now.items c.args.aggregator ≡ Some one = slice_get_read c.args.aggregators.now.items _ c.args.aggregator one refl c.requires.there c.index_mut.ensures.value in
    round_turned (round_request c.args.number c.args.imprint c.args.name) c.args.plan.now c.args.aggregator c.args.second c.args.aggregators.now.items c.args.wire.now c.post_round.new.posted.messages one c.request.new.self c.in_ok-step.step c.post_round.result at c.request.ensures.me c.in_ok-step.ensures.step
    (c.post_round.ensures.messages ∙ ap (λ xs. xs ++ map (round_message c.args.plan.now c.args.aggregator c.args.second) c.in_ok-step.step.sends) c.wire.view_is) c.post_round.ensures.outcome
