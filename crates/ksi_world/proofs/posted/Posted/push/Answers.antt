use Rattle.std.proofs.Common.{◌++◌, ◌∷◌, [], ap, ◌∙◌}
use Rattle.ksi_world.specs.declared.posted.Said.{Said}
use Rattle.ksi_world.specs.declared.posted.Sent.{Sent}
use Rattle.ksi_world.specs.Messages.{PostedState}
use Rattle.ksi_world.proofs.Stored.{messages_more}
use Rattle.ksi_world.proofs.posted.Posted.push.Goals as goal

pub returns-clause-messages : goal.returns-clause-messages
returns-clause-messages c =
    let old = c.self.inside in
    let message = c.args.message in
    let one : Sent = record { addressee = message.addressee; said = c.say-place.result } in
    let new : Said = record { sender = message.sender; second = message.second; content = message.content } in
    messages_more old.said.items c.say-place.ensures.kept.0 c.say-place.new.said.items old.sent.items c.push_reserved.new.self.items one new
    c.say-place.ensures.kept.1 c.push_reserved.ensures.items c.say-place.ensures.place c.self.invariant.0
    ∙ ap (λ (p : PostedState). p.messages ++ message ∷ []) c.self.view_is
