-- What the letter of a message says of it.
use Rattle.std.proofs.Common.{◌≡◌, refl}
use Rattle.ksi_signature.specs.declared.above.Above.{Above}
use Rattle.ksi_schedule.specs.declared.actor.Actor.{Actor}
use Rattle.ksi_schedule.specs.declared.actor.Actor.TheVariants as actors
use Rattle.ksi_world.specs.declared.message.Content.{Content}
use Rattle.ksi_world.specs.declared.message.Content.TheVariants as contents
use Rattle.ksi_world.specs.declared.letter.Letter.{Letter}
use Rattle.ksi_world.specs.declared.letter.Letter.TheVariants as letters
use Rattle.ksi_world.specs.Letters.{letter_of}
use Rattle.ksi_schedule.specs.Plans.{PlanState}
use Rattle.ksi_world.specs.Sound.{IsSent}

-- the message, where its letter is this one
abbrev pub Says : (sender addressee : Actor) → Content → Letter → Type 0
Says sender addressee content (letters.Vote from to m) = (sender ≡ actors.Core from) × (addressee ≡ actors.Core to) × (content ≡ contents.Synod m)
Says sender addressee content (letters.ToCore from to item) = (sender ≡ actors.Aggregator from) × (addressee ≡ actors.Core to) × (content ≡ contents.Submission item)
Says sender addressee content (letters.ToAggregator from to item) = (sender ≡ actors.Aggregator from) × (addressee ≡ actors.Aggregator to) × (content ≡ contents.Submission item)
Says sender addressee content (letters.Response to) = (addressee ≡ actors.Aggregator to) × ((above : Above) × (content ≡ contents.Response above))
Says sender addressee content letters.None = (plan : PlanState) → IsSent plan sender addressee content → ⊥

pub letter_says : (sender addressee : Actor) (content : Content) → Says sender addressee content (letter_of sender addressee content)
letter_says (actors.Core from) (actors.Core to) (contents.Synod m) = (refl, refl, refl)
letter_says (actors.Core from) (actors.Aggregator to) (contents.Synod m) = λ plan sent. sent
letter_says (actors.Aggregator from) (actors.Core to) (contents.Synod m) = λ plan sent. sent
letter_says (actors.Aggregator from) (actors.Aggregator to) (contents.Synod m) = λ plan sent. sent
letter_says (actors.Core from) (actors.Core to) (contents.Submission item) = λ plan sent. sent
letter_says (actors.Core from) (actors.Aggregator to) (contents.Submission item) = λ plan sent. sent
letter_says (actors.Aggregator from) (actors.Core to) (contents.Submission item) = (refl, refl, refl)
letter_says (actors.Aggregator from) (actors.Aggregator to) (contents.Submission item) = (refl, refl, refl)
letter_says (actors.Core from) (actors.Core to) (contents.Response above) = λ plan sent. sent
letter_says (actors.Aggregator from) (actors.Core to) (contents.Response above) = λ plan sent. sent
letter_says (actors.Core from) (actors.Aggregator to) (contents.Response above) = (refl, (above, refl))
letter_says (actors.Aggregator from) (actors.Aggregator to) (contents.Response above) = (refl, (above, refl))
