-- A history, event by event.
use Rattle.std.specs.Prelude.{ℕ, List, [], ◌∷◌}
use Rattle.ksi_synod.specs.Voters.{cores_below}
use Rattle.ksi_synod.specs.History.{SetUp, Event, Seal, Ballot, Deliver}

-- three cores, all of which vote
abbrev pub three : SetUp
three = record { cores = 3; voters = cores_below 3 }

-- three cores, of which core 1 alone votes
abbrev pub one_of_three : SetUp
one_of_three = record { cores = 3; voters = 1 ∷ [] }

-- Cores 0 and 1 promise and vote in the ballot 16 of core 0, which comes to hold its candidate a. Messages 0 to 2 are
-- NextBallot(16), 3 and 4 LastVote(16, none), 5 to 7 BeginBallot(16, a), 8 and 9 Voted(16), 10 to 12 Success(a). None of
-- the last three is delivered. Core 2 seals b, and cores 1 and 2 promise and vote in its ballot 18. Messages 13 to 15 are
-- NextBallot(18), 16 is LastVote(18, (16, a)), 17 LastVote(18, none), 18 to 20 BeginBallot(18, a), 21 and 22 Voted(18)
unfoldable pub taken_over : (a b : List ℕ) → List Event
taken_over a b = Seal 0 a ∷ Ballot 0 ∷ Deliver 0 ∷ Deliver 1 ∷ Deliver 3 ∷ Deliver 4 ∷ Deliver 5 ∷ Deliver 6 ∷ Deliver 8 ∷ Deliver 9 ∷
    Seal 2 b ∷ Ballot 2 ∷ Deliver 14 ∷ Deliver 15 ∷ Deliver 16 ∷ Deliver 17 ∷ Deliver 19 ∷ Deliver 20 ∷ Deliver 21 ∷ Deliver 22 ∷ []

-- Core 0, which does not vote, tries its ballot 16, in which core 1 alone promises and votes. Message 0 is NextBallot(16)
-- to core 1, 1 its LastVote(16, none), 2 BeginBallot(16, a) to core 1, 3 its Voted(16), 4 to 6 Success(a) to each core
unfoldable pub one_votes : (a : List ℕ) → List Event
one_votes a = Seal 0 a ∷ Ballot 0 ∷ Deliver 0 ∷ Deliver 1 ∷ Deliver 2 ∷ Deliver 3 ∷ []
