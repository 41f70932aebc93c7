-- Runs of whole histories, computed.
use Rattle.std.specs.Prelude.{◌≡◌, ℕ, List, [], ◌∷◌, length, refl, Option, Some, None}
use Rattle.std.proofs.Common.{arith}
use Rattle.ksi_synod.specs.VoteState.{fresh_vote}
use Rattle.ksi_synod.specs.Rows.{try_ballot, on_next, on_last, on_begin, on_voted, receive, seal}
use Rattle.ksi_synod.specs.History.{Event, Seal, Ballot, Deliver, Restart, Moment, happens, first_moment, after, IsHistory, held_by, candidate_of}
use Rattle.ksi_synod.specs.Runs.{three, taken_over, one_of_three, one_votes}

-- what the three cores hold, and how many messages were sent
record Seen : Type 0 where
  held : List (Option (List ℕ))
  messages : ℕ

abbrev seen_in : Moment → Seen
seen_in m = record { held = held_by m 0 ∷ held_by m 1 ∷ held_by m 2 ∷ []; messages = length m.wire }

abbrev seen : List Event → Seen
seen events = seen_in (after three events)

-- repeats of one core's LastVote are no majority, and after a restart the LastVotes of the tried ballot count no more
abbrev repeated : List Event
repeated = Seal 0 (5 ∷ []) ∷ Ballot 0 ∷ Deliver 1 ∷ Deliver 3 ∷ Deliver 3 ∷ Deliver 3 ∷ []

abbrev restarted_core : List Event
restarted_core = Seal 0 (5 ∷ []) ∷ Ballot 0 ∷ Deliver 0 ∷ Deliver 1 ∷ Deliver 3 ∷ Restart 0 ∷ Deliver 4 ∷ []

-- the later ballot takes over the vote of the earlier one
pub first_is : (a b : List ℕ) → held_by (after three (taken_over a b)) 0 ≡ Some a
unfolding taken_over happens first_moment fresh_vote seal try_ballot on_next on_last on_begin on_voted receive
first_is a b = refl

pub second_is : (a b : List ℕ) → held_by (after three (taken_over a b)) 2 ≡ Some a
unfolding taken_over happens first_moment fresh_vote seal try_ballot on_next on_last on_begin on_voted receive
second_is a b = refl

pub candidate_is : (a b : List ℕ) → candidate_of (after three (taken_over a b)) 2 ≡ Some b
unfolding taken_over happens first_moment fresh_vote seal try_ballot on_next on_last on_begin on_voted receive
candidate_is a b = refl

pub history_is : (a b : List ℕ) → IsHistory three (taken_over a b)
unfolding taken_over
history_is a b = record { few = omega arith; theirs = refl }

-- a core that does not vote comes to hold its candidate by the one that does
pub one_history_is : (a : List ℕ) → IsHistory one_of_three (one_votes a)
unfolding one_votes
one_history_is a = record { few = omega arith; theirs = refl }

pub one_holds : (a : List ℕ) → held_by (after one_of_three (one_votes a)) 0 ≡ Some a
unfolding one_votes happens first_moment fresh_vote seal try_ballot on_next on_last on_begin on_voted receive
one_holds a = refl

pub one_sends : (a : List ℕ) → length (after one_of_three (one_votes a)).wire ≡ 7
unfolding one_votes happens first_moment fresh_vote seal try_ballot on_next on_last on_begin on_voted receive
one_sends a = refl

repeated_is : seen repeated ≡ record { held = None ∷ None ∷ None ∷ []; messages = 4 }
unfolding happens first_moment fresh_vote seal try_ballot on_next on_last on_begin on_voted receive
repeated_is = refl

restarted_core_is : seen restarted_core ≡ record { held = None ∷ None ∷ None ∷ []; messages = 5 }
unfolding happens first_moment fresh_vote seal try_ballot on_next on_last on_begin on_voted receive
restarted_core_is = refl
