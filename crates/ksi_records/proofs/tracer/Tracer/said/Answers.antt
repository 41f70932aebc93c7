use Rattle.std.proofs.Common.{◌∙◌, List, ap, drop, sym, refl}
use Rattle.ksi_schedule.specs.Events.{History}
use Rattle.ksi_world.specs.declared.message.Message.{Message}
use Rattle.ksi_world.specs.Histories.{world_of}
use Rattle.ksi_records.proofs.SaidLemmas.{step_block}
use Rattle.ksi_records.proofs.tracer.Tracer.said.Goals as goal

pub returns-then-branch-clause-answer : goal.returns-then-branch-clause-answer
returns-then-branch-clause-answer g c =
    let image = g.C.Compress.image in
    let old = c.args.self.now in
    let before = c.in_ok-before.before in
    let sent = ap (λ (ms : List Message). drop before ms) (c.wire.ensures.wire ∙ ap (λ (h : History). (world_of image h).wire) c.in_ok-before.ensures.event) in
    let come = (c.in_ok-has_come.ensures c.in_ok-before.ensures.named).0 c.if-not-has_come.false in
    let told = c.in_ok-is_block.ensures.0 c.if-branch.true in
    let block = step_block image old.plan old.events c.args.given.now before c.in_ok-before.answer (drop before c.wire.result.now) told.0 c.in_ok-before.ensures.before c.in_ok-before.ensures.answer sent in
    ((c.in_ok-before.ensures.named, come, told.0, told.1 ∙ block), refl)

pub returns-else-branch-clause-answer : goal.returns-else-branch-clause-answer
returns-else-branch-clause-answer g c =
    let image = g.C.Compress.image in
    let old = c.args.self.now in
    let before = c.in_ok-before.before in
    let sent = ap (λ (ms : List Message). drop before ms) (c.wire.ensures.wire ∙ ap (λ (h : History). (world_of image h).wire) c.in_ok-before.ensures.event) in (
      c.in_ok-before.ensures.named,
      λ told.
          let block = step_block image old.plan old.events c.args.given.now before c.in_ok-before.answer (drop before c.wire.result.now) told.2 c.in_ok-before.ensures.before c.in_ok-before.ensures.answer sent in
          let yes = c.in_ok-is_block.ensures.1 (told.2, told.3 ∙ sym block) in
          absurd (cc (yes, c.if-branch.false)),
    )
