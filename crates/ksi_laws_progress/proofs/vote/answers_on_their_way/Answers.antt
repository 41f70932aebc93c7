use Rattle.std.proofs.Common.{refl, arith}
use Rattle.ksi_synod.specs.VoteState.{fresh_vote}
use Rattle.ksi_synod.specs.Rows.{try_ballot, on_next, on_last, on_begin, on_voted, on_success, receive, seal}
use Rattle.ksi_synod.specs.History.{happens, first_moment}
use Rattle.ksi_laws_progress.proofs.vote.answers_on_their_way.Goals as goal

pub returns-clause-votes : goal.returns-clause-votes
unfolding happens first_moment fresh_vote seal try_ballot on_next on_last on_begin on_voted on_success receive
returns-clause-votes c = λ a b c. (refl, refl, refl)

pub returns-clause-begun : goal.returns-clause-begun
unfolding happens first_moment fresh_vote seal try_ballot on_next on_last on_begin on_voted on_success receive
returns-clause-begun c = λ a b c. refl

pub returns-clause-wins : goal.returns-clause-wins
unfolding happens first_moment fresh_vote seal try_ballot on_next on_last on_begin on_voted on_success receive
returns-clause-wins c = λ a b c. (refl, refl, refl)

pub returns-clause-history : goal.returns-clause-history
unfolding happens first_moment fresh_vote seal try_ballot on_next on_last on_begin on_voted on_success receive
returns-clause-history c = λ a b c. record { few = omega arith; theirs = refl }
