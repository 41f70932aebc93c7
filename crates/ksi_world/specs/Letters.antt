-- What a message asks of its addressee.
use Rattle.ksi_aggtree.specs.declared.item.Item.{Item}
use Rattle.ksi_synod.specs.declared.messages.SynodMessage.{SynodMessage}
use Rattle.ksi_schedule.specs.declared.actor.Actor.{Actor}
use Rattle.ksi_schedule.specs.declared.actor.Actor.TheVariants as actors
use Rattle.ksi_world.specs.declared.message.Content.{Content}
use Rattle.ksi_world.specs.declared.message.Content.TheVariants as contents
use Rattle.ksi_world.specs.declared.letter.Letter.{Letter}
use Rattle.ksi_world.specs.declared.letter.Letter.TheVariants as letters

abbrev pub vote_of : (sender addressee : Actor) → SynodMessage → Letter
vote_of (actors.Core from) (actors.Core to) m = letters.Vote from to m
vote_of (actors.Core from) (actors.Aggregator to) m = letters.None
vote_of (actors.Aggregator from) to m = letters.None

abbrev pub item_of : (sender addressee : Actor) → Item → Letter
item_of (actors.Aggregator from) (actors.Core to) item = letters.ToCore from to item
item_of (actors.Aggregator from) (actors.Aggregator to) item = letters.ToAggregator from to item
item_of (actors.Core from) to item = letters.None

abbrev pub response_to : (addressee : Actor) → Letter
response_to (actors.Core to) = letters.None
response_to (actors.Aggregator to) = letters.Response to

abbrev pub letter_of : (sender addressee : Actor) → Content → Letter
letter_of sender addressee (contents.Synod m) = vote_of sender addressee m
letter_of sender addressee (contents.Submission item) = item_of sender addressee item
letter_of sender addressee (contents.Response above) = response_to addressee
