-- The block of a step, from what a world says of its event.
use Rattle.std.proofs.Common.{◌≡◌, ℕ, Bool, List, [], ◌∷◌, ◌++◌, length, drop, map, ◌∙◌}
use Rattle.ksi_schedule.specs.Plans.{PlanState}
use Rattle.ksi_schedule.specs.declared.event.Event.{Event}
use Rattle.ksi_signature.specs.declared.answer.Answer.{Answer}
use Rattle.ksi_world.specs.declared.message.Message.{Message}
use Rattle.ksi_world.specs.Histories.{happens, after}
use Rattle.ksi_wire.specs.Steps.{step_text}
use Rattle.ksi_records.specs.declared.head.Given.{Given}
use Rattle.ksi_records.specs.Told.{answer_as, block_text, event_of}
use Rattle.ksi_records.specs.Texts.{message_words}
use Rattle.ksi_records.proofs.MarkLemmas.{after_more}

module _ (image : List ℕ → List ℕ) (plan : PlanState) where
  pub step_block : (es : List Event) (it : Given) (before : ℕ) (answer : Answer) (sent : List Message) (stored : Bool) → before ≡ length (after image plan es).wire
      → answer ≡ answer_as it (happens image plan (after image plan es) (event_of image plan es it)).outcome.answer
      → sent ≡ drop before (after image plan (es ++ event_of image plan es it ∷ [])).wire
      → step_text answer stored (map message_words sent) ≡ block_text it (after image plan es).wire stored (happens image plan (after image plan es) (event_of image plan es it))
  step_block es it before answer sent stored before_is answer_is sent_is =
      let same_sent : sent ≡ drop (length (after image plan es).wire) (happens image plan (after image plan es) (event_of image plan es it)).world.wire =
      sent_is ∙ (λ i. drop (before_is i) (after_more image plan es (event_of image plan es it) i).wire) in
      λ i. step_text (answer_is i) stored (map message_words (same_sent i))
