use Rattle.std.proofs.Common.{◌∙◌, ℕ, inl, subst, sym}
use Rattle.ksi_aggregator.specs.Lawful.{with_new}
use Rattle.ksi_roundstore.specs.Stores.{IsStoreOf}
use Rattle.ksi_roundstore.proofs.Made.{early}
use Rattle.ksi_wire.specs.Steps.{round_step_text}
use Rattle.ksi_node.proofs.round_node.take_event.Goals as goal

pub say_round_step-requires : goal.say_round_step-requires
say_round_step-requires g c = record {
  before = c.args.store.now;
  event = c.args.event;
  step = c.in_ok-step.step;
  due = c.requires.due;
  turn = c.in_ok-step.ensures.turn;
  stored = c.in_ok-step.ensures.stored;
  facts = c.requires.kept.0;
  kept = subst (λ (n : ℕ). IsStoreOf g.D.Disk.content g.D.Disk.images n c.args.plan.now (with_new c.requires.kept.0 c.in_ok-step.step.fact) c.take.new.self) (sym c.requires.me)
      (c.stores_go_on.ensures.stored c.args.me c.args.plan.now c.requires.kept.0 c.args.store.now c.take.new.self c.args.event c.in_ok-step.step c.requires.kept.1 c.requires.due (early c.args.event c.requires.fits) c.requires.written c.in_ok-step.ensures.turn c.in_ok-step.ensures.stored);
  text = c.deref.ensures.value ∙ c.in_ok-text.ensures ∙ (λ i. round_step_text c.args.plan.now (sym c.requires.me i) (c.second_of-second.ensures.second i) c.in_ok-step.step.answer (c.is_some.ensures i) (c.as_slice-sends.ensures i));
}

pub returns-clause-kept : goal.returns-clause-kept
returns-clause-kept g c = (
  with_new c.requires.kept.0 c.in_ok-step.step.fact,
  c.stores_go_on.ensures.stored c.args.me c.args.plan.now c.requires.kept.0 c.args.store.now c.take.new.self c.args.event c.in_ok-step.step c.requires.kept.1 c.requires.due (early c.args.event c.requires.fits) c.requires.written c.in_ok-step.ensures.turn c.in_ok-step.ensures.stored,
)

pub returns-clause-answered : goal.returns-clause-answered
returns-clause-answered g c = (
  c.deref.result.now,
  inl (record {
    step = c.in_ok-step.step;
    due = c.requires.due;
    turn = c.in_ok-step.ensures.turn;
    text = c.deref.ensures.value ∙ c.in_ok-text.ensures ∙ (λ i. round_step_text c.args.plan.now c.args.me (c.second_of-second.ensures.second i) c.in_ok-step.step.answer (c.is_some.ensures i) (c.as_slice-sends.ensures i));
  }),
  c.in_ok-say_round_step.ensures.said,
)
