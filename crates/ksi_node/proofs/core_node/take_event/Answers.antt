use Rattle.std.proofs.Common.{◌∙◌, inl, sym}
use Rattle.ksi_wire.specs.Steps.{core_step_text}
use Rattle.ksi_node.proofs.SayLemmas.{may_say, stored_store}
use Rattle.ksi_node.proofs.core_node.take_event.Goals as goal

pub say_step-requires : goal.say_step-requires
say_step-requires g c =
    may_say g.C.Compress.image g.D.Disk.content g.D.Disk.images c.args.store.now c.take.new.self c.args.event c.in_ok-step.step c.deref.result.now c.requires.stored c.in_ok-step.ensures.stored c.requires.taken c.in_ok-step.ensures.turn
    (c.deref.ensures.value ∙ c.in_ok-text.ensures ∙ (λ i. core_step_text (sym c.requires.me i) (c.second_of-second.ensures i) c.in_ok-step.step))

pub returns-clause-stored : goal.returns-clause-stored
returns-clause-stored g c = stored_store g.C.Compress.image g.D.Disk.content g.D.Disk.images c.args.store.now c.take.new.self c.in_ok-step.step c.requires.stored c.in_ok-step.ensures.stored

pub returns-clause-answered : goal.returns-clause-answered
returns-clause-answered g c = (
  c.deref.result.now,
  inl (record {
    taken = c.requires.taken;
    step = c.in_ok-step.step;
    turn = c.in_ok-step.ensures.turn;
    text = c.deref.ensures.value ∙ c.in_ok-text.ensures ∙ (λ i. core_step_text c.args.me (c.second_of-second.ensures i) c.in_ok-step.step);
  }),
  c.in_ok-say_step.ensures.said,
)
