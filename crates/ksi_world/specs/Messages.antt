-- Messages as they are stored: what was said once each, and to whom which of it was sent.
use Rattle.std.specs.Prelude.{ℕ, ◌<◌, List, length, map, slice_get, Option, Some, None}
use Rattle.std.specs.List.{AllByRecursion}
use Rattle.ksi_synod.specs.declared.messages.SynodMessage.TheVariants as votes
use Rattle.ksi_schedule.specs.declared.actor.Actor.{Actor}
use Rattle.ksi_world.specs.declared.message.Content.{Content}
use Rattle.ksi_world.specs.declared.message.Content.TheVariants as contents
use Rattle.ksi_world.specs.declared.message.Message.{Message}
use Rattle.ksi_world.specs.declared.message.LentMessage.{LentMessage}
use Rattle.ksi_world.specs.declared.posted.Said.{Said}
use Rattle.ksi_world.specs.declared.posted.Sent.{Sent}

-- the messages, and how many more there is room for
pub record PostedState : Type 0 where
  pub messages : List Message
  pub room : ℕ

abbrev pub lent_message : LentMessage → Message
lent_message m = record { sender = m.sender; addressee = m.addressee; second = m.second; content = m.content.now }

abbrev pub content_of : Message → Content
content_of m = m.content

-- what was said, to this addressee; whatever it is where nothing was said
abbrev pub addressed : Actor → Option Said → Message
addressed to (Some said) = record { sender = said.sender; addressee = to; second = said.second; content = said.content }
addressed to None = record { sender = to; addressee = to; second = 0; content = contents.Synod (votes.NextBallot 0) }

abbrev pub message_in : List Said → Sent → Message
message_in said sent = addressed sent.addressee (slice_get said sent.said)

abbrev pub messages_in : List Said → List Sent → List Message
messages_in said sent = map (message_in said) sent

-- what was sent was said
abbrev pub AreSaid : List Said → List Sent → Type 0
AreSaid said sent = AllByRecursion (λ (one : Sent). one.said < length said) sent
