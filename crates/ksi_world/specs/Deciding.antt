-- The messages after which a core may come to hold a root, and their seconds.
use Rattle.std.specs.Prelude.{◌≡◌, ℕ, Bool, true, false, List, slice_get, Some}
use Rattle.ksi_synod.specs.declared.messages.SynodMessage.{SynodMessage}
use Rattle.ksi_synod.specs.declared.messages.SynodMessage.TheVariants as votes
use Rattle.ksi_world.specs.declared.message.Content.{Content}
use Rattle.ksi_world.specs.declared.message.Content.TheVariants as contents
use Rattle.ksi_world.specs.declared.message.Message.{Message}

abbrev pub decides_vote : SynodMessage → Bool
decides_vote (votes.NextBallot b) = false
decides_vote (votes.LastVote l) = false
decides_vote (votes.BeginBallot b d) = false
decides_vote (votes.Voted b) = true
decides_vote (votes.Success d) = true

abbrev pub decides : Content → Bool
decides (contents.Synod m) = decides_vote m
decides (contents.Submission item) = false
decides (contents.Response above) = false

-- such a message was sent for the second
pub record IsTold (wire : List Message) (second : ℕ) : Type 0 where
  pub number : ℕ
  pub message : Message
  pub at : slice_get wire number ≡ Some message
  pub about : message.second ≡ second
  pub decisive : decides message.content ≡ true
