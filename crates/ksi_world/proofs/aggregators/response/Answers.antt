use Rattle.std.proofs.Common.{◌++◌, sym, ap, subst, ◌∙◌, arith}
use Rattle.std.specs.Prelude.{map}
use Rattle.ksi_world.specs.declared.message.Content.{Content}
use Rattle.ksi_world.specs.Histories.{round_message}
use Rattle.ksi_world.specs.Nodes.{CanTake, RoundMove, response_row}
use Rattle.ksi_world.proofs.RoundTurning.{moved, few_taken}
use Rattle.ksi_world.proofs.Stored.{content_is}
use Rattle.ksi_world.proofs.aggregators.response.Goals as goal

pub answer-requires-clause-response : goal.answer-requires-clause-response
answer-requires-clause-response g c =
    let m = c.requires.response.0 in
    let content = c.content_of-content.result.now in
    let same = content_is c.args.wire.now c.reserve.new.self.messages c.args.number m content (c.reserve.ensures.messages ∙ c.wire.view_is) c.requires.response.1 c.content_of-content.ensures in
    (c.args.plan.now, subst (λ (said : Content). CanTake g.C.Compress.image c.args.plan.now c.args.aggregator c.args.second c.args.aggregators.now.items said) same c.requires.response.2)

pub post_round-requires : goal.post_round-requires
post_round-requires g c =
    let m = c.requires.response.0 in
    let content = c.content_of-content.result.now in
    let same = content_is c.args.wire.now c.reserve.new.self.messages c.args.number m content (c.reserve.ensures.messages ∙ c.wire.view_is) c.requires.response.1 c.content_of-content.ensures in
    let can = subst (λ (said : Content). CanTake g.C.Compress.image c.args.plan.now c.args.aggregator c.args.second c.args.aggregators.now.items said) same c.requires.response.2 in
    let few = few_taken g.C.Compress.image c.args.plan.now c.args.aggregator c.args.second c.args.aggregators.now.items c.answer.new.aggregators.items content c.in_ok-step.step can c.in_ok-step.ensures.ok in
    record { there = c.requires.planned; room = omega (arith, few, c.in_ok-reserve.ensures.room, c.aggregators.ensures.count) }

pub returns-clause-ok : goal.returns-clause-ok
returns-clause-ok g c = λ m at.
    let content = c.content_of-content.result.now in
    let same = content_is c.args.wire.now c.reserve.new.self.messages c.args.number m content (c.reserve.ensures.messages ∙ c.wire.view_is) at c.content_of-content.ensures in
    let move = subst (λ (said : Content). RoundMove (response_row g.C.Compress.image said) c.args.aggregator c.args.second c.args.aggregators.now.items c.answer.new.aggregators.items c.in_ok-step.step) (sym same) c.in_ok-step.ensures.ok in
    moved (response_row g.C.Compress.image m.content) c.args.plan.now c.args.aggregator c.args.second c.args.aggregators.now.items c.answer.new.aggregators.items c.args.wire.now c.post_round.new.posted.messages c.in_ok-step.step c.post_round.result move
    (c.post_round.ensures.messages ∙ ap (λ xs. xs ++ map (round_message c.args.plan.now c.args.aggregator c.args.second) c.in_ok-step.step.sends) (c.reserve.ensures.messages ∙ c.wire.view_is)) c.post_round.ensures.outcome
