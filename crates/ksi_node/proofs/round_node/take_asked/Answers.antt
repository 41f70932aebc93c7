use Rattle.std.proofs.Common.{refl, sym, subst, Ok}
use Rattle.ksi_aggregator.specs.Rounds.{AggregatorState, rounds_of}
use Rattle.ksi_schedule.specs.Pieces.{Text}
use Rattle.ksi_wire.specs.declared.event.AggregatorLine.{AggregatorLine}
use Rattle.ksi_node.specs.RoundOutcomes.{AskedRound, SignTold}
use Rattle.ksi_node.proofs.ServeLemmas.{passed_on}
use Rattle.ksi_node.proofs.round_node.take_asked.Goals as goal

pub say_signature-requires-clause-told : goal.say_signature-requires-clause-told
say_signature-requires-clause-told g c =
    let image = g.C.Compress.image in
    let aggregator = c.args.store.now.aggregator in
    let number = c.in-Sign.number in
    let told : SignTold image (rounds_of aggregator) number c.in_ok-text-in-Sign.text.items
    = subst (λ (a : AggregatorState). SignTold image (rounds_of a) number c.in_ok-text-in-Sign.text.items) c.aggregator-in-Sign.ensures c.in_ok-text-in-Sign.ensures in
    subst (λ (t : Text). SignTold image (rounds_of aggregator) number t) (sym c.deref.ensures.value) told

pub returns-in_ok-say_signature-in-Sign-clause-answered : goal.returns-in_ok-say_signature-in-Sign-clause-answered
returns-in_ok-say_signature-in-Sign-clause-answered g c =
    let image = g.C.Compress.image in
    let store = c.args.store.now in
    let number = c.in-Sign.number in
    let said = c.deref.result.now in
    let told : SignTold image (rounds_of store.aggregator) number c.in_ok-text-in-Sign.text.items
    = subst (λ (a : AggregatorState). SignTold image (rounds_of a) number c.in_ok-text-in-Sign.text.items) c.aggregator-in-Sign.ensures c.in_ok-text-in-Sign.ensures in
    let same : SignTold image (rounds_of store.aggregator) number said = subst (λ (t : Text). SignTold image (rounds_of store.aggregator) number t) (sym c.deref.ensures.value) told in (
      said,
      subst (λ (asked : AggregatorLine). AskedRound image c.args.plan.now c.args.me (Ok asked) store store said) (sym c.in-Sign.is) (refl, same),
      c.in_ok-say_signature-in-Sign.ensures.said,
    )

pub returns-in_err-put_refusal-in-Event-clause-counted : goal.returns-in_err-put_refusal-in-Event-clause-counted
returns-in_err-put_refusal-in-Event-clause-counted g c = passed_on c.from_residual.result _ _ c.from_residual.ensures.1 (c.in_err-put_refusal-in-Event.ensures.calm (g.D.Disk.faults c.args.store.now.log.disk))
