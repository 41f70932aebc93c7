-- The result of a row of the step table, and the addressees of what is sent.
use Rattle.std.specs.Prelude.{ℕ, List, [], ◌∷◌, map, Option, Some, None}
use Rattle.ksi_synod.specs.declared.messages.SynodMessage.{SynodMessage}
use Rattle.ksi_synod.specs.declared.messages.SynodMessage.TheVariants as message
use Rattle.ksi_synod.specs.Voters.{cores_below}
use Rattle.ksi_synod.specs.CorePlans.{CorePlanState, voters_of}
use Rattle.ksi_synod.specs.VoteState.{VoteState}
use Rattle.ksi_signature.specs.declared.answer.Answer.{Answer}
use Rattle.ksi_corenode.specs.declared.step.Send.{Send}
use Rattle.ksi_corenode.specs.declared.step.Send.TheVariants as sends
use Rattle.ksi_corenode.specs.declared.fact.What.{What}
use Rattle.ksi_corenode.specs.SecondState.{SecondState}

-- the second after a row, its answer, the fact stored if any, and the messages sent, in order
pub record Turn : Type 0 where
  pub after : SecondState
  pub answer : Answer
  pub fact : Option What
  pub sends : List Send

-- nothing changes, and nothing is sent
abbrev pub still : SecondState → Answer → Turn
still s answer = record { after = s; answer = answer; fact = None; sends = [] }

-- the message to each of these cores
abbrev pub to_each : List ℕ → SynodMessage → List Send
to_each cores m = map (λ core. sends.Synod core m) cores

-- LastVote and Voted go to the sender, NextBallot and BeginBallot to the voters of the second, Success to all cores
abbrev pub addressed : CorePlanState → (second from : ℕ) → SynodMessage → List Send
addressed plan second from (message.NextBallot b) = to_each (voters_of plan second) (message.NextBallot b)
addressed plan second from (message.LastVote l) = sends.Synod from (message.LastVote l) ∷ []
addressed plan second from (message.BeginBallot b d) = to_each (voters_of plan second) (message.BeginBallot b d)
addressed plan second from (message.Voted b) = sends.Synod from (message.Voted b) ∷ []
addressed plan second from (message.Success d) = to_each (cores_below plan.cores) (message.Success d)

-- the messages for a message that may have to be sent
abbrev pub told : CorePlanState → (second from : ℕ) → Option SynodMessage → List Send
told plan second from None = []
told plan second from (Some m) = addressed plan second from m

-- the vote after a row, the message to send, the answer, and the fact to store
abbrev pub voted_with : CorePlanState → (second from : ℕ) → SecondState → VoteState × Option SynodMessage → Answer → Option What → Turn
voted_with plan second from s row answer fact = record { after = record s { vote = row.0 }; answer = answer; fact = fact; sends = told plan second from row.1 }
