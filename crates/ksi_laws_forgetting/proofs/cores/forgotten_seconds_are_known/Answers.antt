use Rattle.ksi_corenode.specs.CoreState.{state_of}
use Rattle.ksi_corenode.specs.Rows.{restart_row}
use Rattle.ksi_laws_forgetting.proofs.Known.{are_forgotten, facts_alike, forgets_again, left_none, left_twice, restarted, turns_after, turns_alike}
use Rattle.ksi_laws_forgetting.proofs.Leaving.{each_left, left_facts, restart_of}
use Rattle.ksi_laws_forgetting.proofs.cores.forgotten_seconds_are_known.Goals as goal

pub returns : goal.returns
returns c = record {
  are = are_forgotten;
  alike = λ image plan start me forgotten seconds forgot event known may. turns_alike image plan start me forgotten seconds forgot known event may;
  after = λ image plan start me forgotten seconds forgot event known may. turns_after image plan start me forgotten seconds forgot known event may;
  restart = restarted;
  facts = λ image plan start me forgotten seconds forgot event facts known may. facts_alike image plan start me forgotten seconds forgot known event may facts;
  back = λ image plan forgotten facts core other has held of_left.
      each_left image core.me plan forgotten facts (λ t. restart_row (state_of core t)) (state_of other) held (restart_of image plan facts core has) of_left.seconds
      (left_facts plan.cores plan.start forgotten (c.facts_one_by_one.ensures.none plan.cores plan.start) (c.facts_one_by_one.ensures.more plan.cores plan.start) c.facts_one_by_one.ensures.stored facts has.lawful);
  again = forgets_again;
  left_again = λ forgotten later facts. left_twice forgotten later facts;
  left_none = left_none;
}
