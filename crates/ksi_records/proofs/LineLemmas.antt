-- What a step was given, behind another word.
use Rattle.std.proofs.Common.{◌≡◌, ◌∷◌, refl}
use Rattle.ksi_schedule.specs.Printed.{line_of, spaced}
use Rattle.ksi_schedule.specs.declared.event.Event.TheVariants as events
use Rattle.ksi_records.specs.declared.head.Given.{Given}
use Rattle.ksi_records.specs.declared.head.Given.TheVariants as given
use Rattle.ksi_records.specs.Entries.{given_words}

pub given_spaced : (it : Given) → spaced (given_words it) ≡ 32 ∷ line_of (given_words it)
given_spaced (given.Line number (events.Request k t imprint name)) = refl
given_spaced (given.Line number (events.Close k t)) = refl
given_spaced (given.Line number (events.Seal j t)) = refl
given_spaced (given.Line number (events.Ballot j t)) = refl
given_spaced (given.Line number (events.Deliver m)) = refl
given_spaced (given.Line number (events.Tell j t)) = refl
given_spaced (given.Line number (events.Respond j t)) = refl
given_spaced (given.Line number (events.Publish j t)) = refl
given_spaced (given.Line number (events.RestartCore j)) = refl
given_spaced (given.Line number (events.RestartAggregator k)) = refl
given_spaced (given.Message step place) = refl
