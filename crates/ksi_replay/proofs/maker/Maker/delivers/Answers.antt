use Rattle.std.proofs.Common.{◌+◌, ◌-◌, ◌<◌, ◌≤◌, length, refl, sym, ap, subst, ◌∙◌, arith}
use Rattle.ksi_imprint.specs.Imprints.{imprint_of}
use Rattle.ksi_world.specs.Histories.{world_of}
use Rattle.ksi_replay.specs.Making.{each_message}
use Rattle.ksi_replay.specs.Generate.{delivered, delivers}
use Rattle.ksi_replay.proofs.Loops.{messages_end, messages_next, messages_none}
use Rattle.ksi_replay.proofs.maker.Maker.delivers.Goals as goal

pub messages-init : goal.messages-init
unfolding delivers
messages-init c = refl

pub messages-preserved : goal.messages-preserved
messages-preserved c =
    let steps = delivered c.args.manner in
    let there : c.messages.number < length (world_of imprint_of c.messages.self.history).wire = subst (λ n. c.messages.number < n) c.messages-in-messages.ensures c.if-number-messages.true in
    ap (λ m. (each_message (c.messages.left - 1) (c.messages.number + 1) steps m).1) c.in_ok-delivered.ensures
    ∙ sym (messages_next c.messages.left c.messages.number steps c.messages.self (omega arith) there)
    ∙ c.messages.invariant

pub returns-else-number-messages : goal.returns-else-number-messages
returns-else-number-messages c =
    let end : length (world_of imprint_of c.messages.self.history).wire ≤ c.messages.number = subst (λ n. n ≤ c.messages.number) c.messages-in-messages.ensures c.if-number-messages.false in
    sym (messages_end c.messages.left c.messages.number (delivered c.args.manner) c.messages.self end) ∙ c.messages.invariant

pub returns-after-messages : goal.returns-after-messages
returns-after-messages c = sym (messages_none c.messages.left c.messages.number (delivered c.args.manner) c.messages.self (omega arith)) ∙ c.messages.invariant
