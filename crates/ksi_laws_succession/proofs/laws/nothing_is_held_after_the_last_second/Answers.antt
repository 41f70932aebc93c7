use Rattle.std.proofs.Common.{◌++◌, []}
use Rattle.ksi_laws_crashed.specs.Crashed.{all_events}
use Rattle.ksi_laws_succession.proofs.Retiring.{none_before}
use Rattle.ksi_laws_succession.proofs.laws.nothing_is_held_after_the_last_second.Goals as goal

pub returns-clause-retired : goal.returns-clause-retired
returns-clause-retired c = λ image plan is last before later are each core second above.
    let majority = each second above in
    none_before (c.held_stays.ensures image plan before later core second)
    (c.a_retired_majority_decides_nothing.ensures.history image plan is (before ++ later) are last second majority.0 above majority.1 majority.2 core)

pub returns-clause-unasked : goal.returns-clause-unasked
returns-clause-unasked c = λ image plan is last before later are each core second above.
    returns-clause-retired c image plan is last before later are
    (λ t past. let majority = each t past in (majority.0, majority.1, λ k yes. c.cores_retire.ensures.unasked image plan last (before ++ later) k (majority.2 k yes)))
    core second above

pub returns-clause-run : goal.returns-clause-run
returns-clause-run c = λ image plan is last deeds old new nodes runs each core second there above.
    let went = c.crashed_nodes_have_a_history.ensures.run image plan is deeds [] old new tt nodes runs in
    let majority = each second above in
    c.a_retired_majority_decides_nothing.ensures.nodes image plan is (all_events deeds) went.0 last second majority.0 above majority.1 majority.2 core (new.cores core) (went.1.cores core there)
