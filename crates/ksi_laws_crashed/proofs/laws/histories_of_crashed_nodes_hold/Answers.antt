use Rattle.std.proofs.Common.{◌++◌}
use Rattle.ksi_laws_crashed.specs.Crashed.{all_events}
use Rattle.ksi_laws_crashed.specs.Headline.{history_of}
use Rattle.ksi_laws_crashed.proofs.Headline.{is_history, published_there}
use Rattle.ksi_laws_crashed.proofs.laws.histories_of_crashed_nodes_hold.Goals as goal

pub returns-clause-history : goal.returns-clause-history
returns-clause-history c = λ image plan is deeds before old new are nodes runs few.
    is_history plan (before ++ all_events deeds) is (c.crashed_nodes_have_a_history.ensures.run image plan is deeds before old new are nodes runs).0 few

pub returns-clause-holds : goal.returns-clause-holds
returns-clause-holds c = λ image plan images bytes is deeds before old new are nodes runs few.
    c.all_holds.ensures.any image (history_of plan (before ++ all_events deeds)) images bytes (returns-clause-history c image plan is deeds before old new are nodes runs few)

pub returns-clause-held : goal.returns-clause-held
returns-clause-held c = λ image plan events j running is second. c.forgetful_cores_have_a_history.ensures.held image plan events j running is second

pub returns-clause-lasts : goal.returns-clause-lasts
returns-clause-lasts c = λ image plan images bytes events is k running number text after issued.
    let at = c.crashed_nodes_have_a_history.ensures.issued image plan events k running number text after issued in
    (at.0, at.1, (c.all_holds.ensures.any image (history_of plan events) images bytes is).lasts at.0 text at.2)

pub returns-clause-published : goal.returns-clause-published
returns-clause-published c = λ image plan images bytes before later is j p old new root there from core took answers.
    published_there image plan (c.forgetful_cores_have_a_history.ensures.held image plan) before later j p old new root (c.all_holds.ensures.any image (history_of plan (before ++ later)) images bytes is) core took there from answers
