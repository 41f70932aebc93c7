-- The vote on one second as single steps of cores, however messages are numbered and delivered: for layers whose histories
-- have more than one second.
use Rattle.std.specs.Prelude.{◌≡◌, ◌≢◌, ℕ, ◌<◌, List, [], ◌∷◌, Option, Some, None}
use Rattle.ksi_synod.specs.declared.messages.SynodMessage.{SynodMessage}
use Rattle.ksi_synod.specs.VoteState.{VoteState, fresh_vote}
use Rattle.ksi_synod.specs.Rows.{seal, try_ballot, ballot_told, held_told, restarted, receive}

-- a message, and the core that sent it
pub record Said : Type 0 where
  pub by : ℕ
  pub what : SynodMessage

abbrev pub says : ℕ → SynodMessage → Said
says by what = record { by = by; what = what }

-- the message is in the list, newest first
pub data Has : List Said → Said → Type 0 where
  here : {x : Said} {said : List Said} → Has (x ∷ said) x
  there : {x y : Said} {said : List Said} → Has said y → Has (x ∷ said) y

-- the list with the message that a core sends now, if any
abbrev pub more : Option SynodMessage → (core : ℕ) → List Said → List Said
more None core said = said
more (Some m) core said = says core m ∷ said

-- a step of a core: its new state, and the message it sends
pub data IsStep (core : ℕ) (s : VoteState) (said : List Said) (r : VoteState × Option SynodMessage) : Type 0 where
  seals : (candidate : List ℕ) → r ≡ (seal s candidate, None) → IsStep core s said r
  tries : core < 16 → r ≡ ((try_ballot s).0, ballot_told (try_ballot s).1) → IsStep core s said r
  tells : r ≡ (s, held_told s.held) → IsStep core s said r
  takes : (from : ℕ) (m : SynodMessage) → Has said (says from m) → r ≡ receive s from m → IsStep core s said r
  restarts : r ≡ (restarted s, None) → IsStep core s said r

-- the states of the cores and the messages sent that some steps can reach, each step being one core's
pub data Reached (voters : List ℕ) : (ℕ → VoteState) → List Said → Type 0 where
  start : {states : ℕ → VoteState} → ((k : ℕ) → states k ≡ fresh_vote k voters) → Reached voters states []
  step : {states states' : ℕ → VoteState} {said : List Said} {r : VoteState × Option SynodMessage} (core : ℕ) →
      Reached voters states said → IsStep core (states core) said r →
      ((k : ℕ) → k ≢ core → states' k ≡ states k) → states' core ≡ r.0 → Reached voters states' (more r.1 core said)
