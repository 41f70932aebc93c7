-- A decree is chosen if a majority of the voters voted for it in one ballot.
use Rattle.std.specs.Prelude.{◌≡◌, ℕ, ◌*◌, ◌<◌, Bool, true, List, length, slice_get, Some}
use Rattle.std.specs.List.{count_by}
use Rattle.ksi_synod.specs.declared.messages.SynodMessage.{SynodMessage}
use Rattle.ksi_synod.specs.declared.messages.SynodMessage.TheVariants as message
use Rattle.ksi_synod.specs.History.{SetUp, Message, Moment}

-- the core sent the message, now or earlier
pub record IsOnWire (m : Moment) (sender : ℕ) (what : SynodMessage) : Type 0 where
  pub number : ℕ
  pub message : Message
  pub at : slice_get m.wire number ≡ Some message
  pub sender_is : message.sender ≡ sender
  pub what_is : message.what ≡ what

-- BeginBallot of this ballot and decree was sent, and more than half of the voters sent Voted of this ballot
pub record IsChosen (set_up : SetUp) (m : Moment) (ballot : ℕ) (decree : List ℕ) : Type 0 where
  pub by : ℕ
  pub begun : IsOnWire m by (message.BeginBallot ballot decree)
  pub who : ℕ → Bool
  pub most : length set_up.voters < 2 * count_by who set_up.voters
  pub voted : (core : ℕ) → who core ≡ true → IsOnWire m core (message.Voted ballot)
