-- The vote on one second by itself: a ballot that is answered.
use Rattle.std.specs.Prelude.{[], ◌≡◌, ℕ, ◌<◌, true, List, ◌∷◌, ◌++◌, length, map, Some}
use Rattle.ksi_synod.specs.declared.messages.SynodMessage.{SynodMessage}
use Rattle.ksi_synod.specs.declared.messages.SynodMessage.TheVariants as message
use Rattle.ksi_synod.specs.Runs.{three}
use Rattle.ksi_synod.specs.Voters.{is_voter}
use Rattle.ksi_synod.specs.Rows.{next_ballot}
use Rattle.ksi_synod.specs.History.{SetUp, Event, Seal, Ballot, Deliver, Restart, Message, Moment, IsHistory, after, held_by}
use Rattle.ksi_laws_progress.specs.Numbers.{ballot_numbers}

-- the core's next ballot is beyond all that these cores promised
abbrev pub IsAhead : Moment → (core : ℕ) → (some : List ℕ) → Type 0
IsAhead m core some = (k : ℕ) → is_voter some k ≡ true → (m.states k).promised < next_ballot (m.states core)

-- The core seals a candidate, unless it did, and tries a ballot. Each message of it to or from some voters is delivered
-- once, and each core is sent the decision
abbrev pub ballot_events : SetUp → Moment → (core : ℕ) → (candidate : List ℕ) → (some : List ℕ) → List Event
ballot_events set_up m core candidate some = Seal core candidate ∷ Ballot core ∷ map Deliver (ballot_numbers (length m.wire) set_up.voters some set_up.cores)

-- these events may follow, and then all cores hold one root
pub record Decides (set_up : SetUp) (events later : List Event) : Type 0 where
  pub may : IsHistory set_up (events ++ later)
  pub root : List ℕ
  pub held : (core : ℕ) → core < set_up.cores → held_by (after set_up (events ++ later)) core ≡ Some root

-- Cores 0 and 1 promise the ballot 16 of core 0, which begins its candidate a. Core 1 alone votes for it, and its Voted is
-- lost. Core 0 restarts. Core 2 seals b and tries its ballot 18, which core 0 promises. Its LastVote is lost, and core 2
-- restarts. No core holds anything, none has a ballot in hand, and their promises are 18, 16 and none
abbrev pub in_trouble : (a b : List ℕ) → List Event
in_trouble a b = Seal 0 a ∷ Ballot 0 ∷ Deliver 0 ∷ Deliver 1 ∷ Deliver 3 ∷ Deliver 4 ∷ Deliver 6 ∷ Restart 0 ∷ Seal 2 b ∷ Ballot 2 ∷ Deliver 9 ∷ Restart 2 ∷ []

-- the decrees that a message begins, if any
abbrev pub begun_by : SynodMessage → List (List ℕ)
begun_by (message.NextBallot b) = []
begun_by (message.LastVote l) = []
begun_by (message.BeginBallot b decree) = decree ∷ []
begun_by (message.Voted b) = []
begun_by (message.Success decree) = []

-- the decrees that these messages begin, each as often as it is sent
abbrev pub begun_among : List Message → List (List ℕ)
begun_among [] = []
begun_among (x ∷ xs) = begun_by x.what ++ begun_among xs

-- Core 0 begins a in ballot 16, and votes for it. Cores 1 and 2 promise the ballot 18 of core 2, whose candidate is c: their
-- LastVotes, with no vote, are messages 12 and 13, on their way. Both promise the ballot 33 of core 1, which begins b, and
-- core 1 votes for it
abbrev pub late_answers : (a b c : List ℕ) → List Event
late_answers a b c =
    Seal 0 a ∷ Ballot 0 ∷ Deliver 0 ∷ Deliver 1 ∷ Deliver 3 ∷ Deliver 4 ∷ Deliver 5
    ∷ Seal 2 c ∷ Ballot 2 ∷ Deliver 10 ∷ Deliver 11
    ∷ Seal 1 b ∷ Ballot 1 ∷ Deliver 15 ∷ Deliver 16 ∷ Deliver 17 ∷ Deliver 18 ∷ Deliver 20 ∷ []

-- These answers come: core 2 begins c in ballot 18, which core 0 promises and votes in
abbrev pub old_ballot : (a b c : List ℕ) → List Event
old_ballot a b c = late_answers a b c ++ (Deliver 12 ∷ Deliver 13 ∷ Deliver 9 ∷ Deliver 23 ∷ [])

-- and then a ballot of core 2 that cores 0 and 2 answer
abbrev pub old_ballot_wins : (a b c : List ℕ) → List Event
old_ballot_wins a b c = old_ballot a b c ++ ballot_events three (after three (old_ballot a b c)) 2 c (0 ∷ 2 ∷ [])
