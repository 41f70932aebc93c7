-- Rounds that are done with.
use Rattle.std.specs.Prelude.{◌≡◌, ℕ, List, [], ◌∷◌, Option, Some, None}
use Rattle.ksi_aggtree.specs.declared.entries.Entry.{Entry}
use Rattle.ksi_signature.specs.declared.above.Above.{Above}
use Rattle.ksi_signature.specs.declared.answer.Answer.{Answer}
use Rattle.ksi_signature.specs.declared.answer.Answer.TheVariants as answers
use Rattle.ksi_aggregator.specs.declared.event.RoundEvent.{RoundEvent}
use Rattle.ksi_aggregator.specs.declared.event.RoundEvent.TheVariants as events
use Rattle.ksi_aggregator.specs.Rows.{RoundState}

-- a round is settled: it is closed, and has a response where it has items
pub record IsSettled (r : RoundState) : Type 0 where
  pub entries : List Entry
  pub closed : r.closed ≡ Some entries
  pub done : r.answered ≡ None → entries ≡ []

-- what a settled round answers
abbrev pub settled_answer : RoundEvent → Answer
settled_answer (events.Request number second imprint name) = answers.Late
settled_answer (events.Submission from second item) = answers.Late
settled_answer (events.Close second) = answers.Closed
settled_answer (events.Response second above) = answers.Nothing
