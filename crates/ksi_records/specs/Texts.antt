-- What a log's values are as text: the line of a message, and the block of what was said.
use Rattle.std.specs.Prelude.{ℕ, List, [], ◌∷◌, codes, map, Bool}
use Rattle.std.specs.Fmt.{decimal}
use Rattle.ksi_schedule.specs.Pieces.{Text}
use Rattle.ksi_schedule.specs.Printed.{actor_word}
use Rattle.ksi_schedule.specs.declared.actor.Actor.{Actor}
use Rattle.ksi_schedule.specs.declared.actor.Actor.TheVariants as actors
use Rattle.ksi_corenode.specs.declared.event.CoreEvent.TheVariants as core_events
use Rattle.ksi_world.specs.declared.message.Content.{Content}
use Rattle.ksi_world.specs.declared.message.Content.TheVariants as contents
use Rattle.ksi_world.specs.declared.message.Message.{Message}
use Rattle.ksi_wire.specs.Lines.{core_words}
use Rattle.ksi_wire.specs.Responses.{above_text}
use Rattle.ksi_wire.specs.Steps.{step_text}
use Rattle.ksi_records.specs.Logs.{Said}

-- the line that the addressee takes; one empty word of what nobody sends
abbrev pub content_words : (sender : Actor) (second : ℕ) → Content → List Text
content_words (actors.Core j) second (contents.Synod m) = core_words (core_events.Receive j second m)
content_words (actors.Aggregator k) second (contents.Submission item) = core_words (core_events.Submission k second item)
content_words sender second (contents.Response above) = codes "response" ∷ decimal second ∷ above_text second above ∷ []
content_words _ second _ = [] ∷ []

abbrev pub message_words : Message → List Text
message_words m = codes "send" ∷ actor_word m.addressee ∷ content_words m.sender m.second m.content

-- the block of what was said, and of whether a fact was stored
abbrev pub said_text : Said → (stored : Bool) → Text
said_text said stored = step_text said.answer stored (map message_words said.sent)
