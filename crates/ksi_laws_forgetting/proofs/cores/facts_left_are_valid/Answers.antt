use Rattle.ksi_corenode.specs.CoreState.{state_of}
use Rattle.ksi_corenode.specs.Lawful.{stored_by}
use Rattle.ksi_corenode.specs.Rows.{restart_row}
use Rattle.ksi_laws_forgetting.specs.Left.{is_forgotten}
use Rattle.ksi_laws_forgetting.proofs.Leaving.{left_facts, seconds_left, gone_there, forgotten_held, early_forgotten, restart_of}
use Rattle.ksi_laws_forgetting.proofs.cores.facts_left_are_valid.Goals as goal

pub returns-clause-valid : goal.returns-clause-valid
returns-clause-valid c = λ cores start forgotten facts lawful.
    (left_facts cores start forgotten (c.facts_one_by_one.ensures.none cores start) (c.facts_one_by_one.ensures.more cores start) c.facts_one_by_one.ensures.stored facts lawful).lawful

pub returns-clause-seconds : goal.returns-clause-seconds
returns-clause-seconds c = λ image me plan forgotten facts whole other lawful held of of_left.
    seconds_left image me plan forgotten facts (state_of whole) (state_of other) held of.seconds of_left.seconds
    (left_facts plan.cores plan.start forgotten (c.facts_one_by_one.ensures.none plan.cores plan.start) (c.facts_one_by_one.ensures.more plan.cores plan.start) c.facts_one_by_one.ensures.stored facts lawful)

pub returns-clause-back : goal.returns-clause-back
returns-clause-back c = λ image plan forgotten facts core other has held of_left.
    seconds_left image core.me plan forgotten facts (λ t. restart_row (state_of core t)) (state_of other) held (restart_of image plan facts core has) of_left.seconds
    (left_facts plan.cores plan.start forgotten (c.facts_one_by_one.ensures.none plan.cores plan.start) (c.facts_one_by_one.ensures.more plan.cores plan.start) c.facts_one_by_one.ensures.stored facts has.lawful)

pub returns-clause-held : goal.returns-clause-held
returns-clause-held c = forgotten_held

pub returns-clause-gone : goal.returns-clause-gone
returns-clause-gone c = λ image me before plan facts whole other lawful of of_left t early held.
    gone_there image me plan (is_forgotten before (stored_by facts)) facts (state_of whole) (state_of other) (forgotten_held before facts) of.seconds of_left.seconds
    (left_facts plan.cores plan.start (is_forgotten before (stored_by facts)) (c.facts_one_by_one.ensures.none plan.cores plan.start) (c.facts_one_by_one.ensures.more plan.cores plan.start) c.facts_one_by_one.ensures.stored facts lawful)
    t (early_forgotten image me before plan facts (state_of whole) of.seconds t early held)
