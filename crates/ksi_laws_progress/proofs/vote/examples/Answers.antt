use Rattle.std.proofs.Common.{refl}
use Rattle.ksi_synod.specs.VoteState.{fresh_vote}
use Rattle.ksi_synod.specs.Rows.{try_ballot, on_next, on_last, on_begin, on_voted, on_success, receive, seal}
use Rattle.ksi_synod.specs.History.{happens, first_moment}
use Rattle.ksi_laws_progress.proofs.vote.examples.Goals as goal

pub returns-clause-two : goal.returns-clause-two
unfolding happens first_moment fresh_vote seal try_ballot on_next on_last on_begin on_voted on_success receive
returns-clause-two c = λ a. refl

pub returns-clause-one : goal.returns-clause-one
unfolding happens first_moment fresh_vote seal try_ballot on_next on_last on_begin on_voted on_success receive
returns-clause-one c = λ a. refl

pub returns-clause-taken_over : goal.returns-clause-taken_over
unfolding happens first_moment fresh_vote seal try_ballot on_next on_last on_begin on_voted on_success receive
returns-clause-taken_over c = λ a b c. refl

pub returns-clause-won : goal.returns-clause-won
unfolding happens first_moment fresh_vote seal try_ballot on_next on_last on_begin on_voted on_success receive
returns-clause-won c = λ a b c. refl
