use Rattle.std.proofs.Common.{◌≡◌, ◌++◌, length, refl, ap, ◌∙◌, arith, Some}
use Rattle.std.specs.Prelude.{slice_get, map}
use Rattle.std.proofs.lemmas.Option.{slice_get_read}
use Rattle.ksi_aggregator.specs.Rounds.{rounds_of}
use Rattle.ksi_aggregator.specs.Rows.{round_close}
use Rattle.ksi_world.specs.Histories.{round_message}
use Rattle.ksi_world.proofs.Turning.{at_error}
use Rattle.ksi_world.proofs.RoundTurning.{round_turned, aggregators_stay, one_closed}
use Rattle.ksi_world.proofs.aggregators.close.Goals as goal

pub post_round-requires : goal.post_round-requires
post_round-requires g c =
    let one = c.index_mut.result.now in
    let at : slice_get c.args.aggregators.now.items c.args.aggregator ≡ Some one = slice_get_read c.args.aggregators.now.items _ c.args.aggregator one refl c.requires.there c.index_mut.ensures.value in
    record { there = c.requires.planned; room = omega (arith, ap length c.in_ok-step.ensures.step.sends, one_closed g.C.Compress.image (rounds_of one c.args.second), c.in_ok-reserve.ensures.room) }

pub returns-in_err-step-clause-aggregators : goal.returns-in_err-step-clause-aggregators
returns-in_err-step-clause-aggregators g c =
    let one = c.index_mut.result.now in
    let at : slice_get c.args.aggregators.now.items c.args.aggregator ≡ Some one = slice_get_read c.args.aggregators.now.items _ c.args.aggregator one refl c.requires.there c.index_mut.ensures.value in
    at_error c.from_residual-in_err-step.result (aggregators_stay c.args.aggregators.now.items c.args.aggregator one c.close.new.self at c.close.ensures.me c.in_err-step.ensures.unchanged)

pub returns-clause-ok : goal.returns-clause-ok
returns-clause-ok g c =
    let one = c.index_mut.result.now in
    let at : slice_get c.args.aggregators.now.items c.args.aggregator ≡ Some one = slice_get_read c.args.aggregators.now.items _ c.args.aggregator one refl c.requires.there c.index_mut.ensures.value in
    round_turned (round_close g.C.Compress.image) c.args.plan.now c.args.aggregator c.args.second c.args.aggregators.now.items c.args.wire.now c.post_round.new.posted.messages one c.close.new.self c.in_ok-step.step c.post_round.result at c.close.ensures.me c.in_ok-step.ensures.step
    (c.post_round.ensures.messages ∙ ap (λ xs. xs ++ map (round_message c.args.plan.now c.args.aggregator c.args.second) c.in_ok-step.step.sends) (c.reserve.ensures.messages ∙ c.wire.view_is)) c.post_round.ensures.outcome
