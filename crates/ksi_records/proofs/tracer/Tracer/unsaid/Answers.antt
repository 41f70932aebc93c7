use Rattle.std.proofs.Common.{◌≡◌, ◌∙◌, List, [], false, ap, drop, arith}
use Rattle.std.proofs.lemmas.Grind.{common_steps}
use Rattle.ksi_schedule.specs.Events.{History}
use Rattle.ksi_world.specs.declared.message.Message.{Message}
use Rattle.ksi_world.specs.Histories.{world_of}
use Rattle.ksi_records.proofs.SaidLemmas.{step_block}
use Rattle.ksi_records.proofs.tracer.Tracer.unsaid.Goals as goal

pub returns-clause-answer : goal.returns-clause-answer
returns-clause-answer g c =
    let image = g.C.Compress.image in
    let old = c.args.self.now in
    let before = c.in_ok-before.before in
    let sent = ap (λ (ms : List Message). drop before ms) (c.wire.ensures.wire ∙ ap (λ (h : History). (world_of image h).wire) c.in_ok-before.ensures.event) in
    let block = step_block image old.plan old.events c.args.given.now before c.in_ok-before.answer (drop before c.wire.result.now) false c.in_ok-before.ensures.before c.in_ok-before.ensures.answer sent in
    let none : c.args.said.now ≡ [] = grind (arith, common_steps) in
    ((c.in_ok-before.ensures.named, (c.in_ok-has_come.ensures c.in_ok-before.ensures.named).0 c.if-not-has_come.false, none), c.from_vec.ensures ∙ c.in_ok-text.ensures ∙ block)
