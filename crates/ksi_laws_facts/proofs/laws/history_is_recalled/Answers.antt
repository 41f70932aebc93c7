use Rattle.std.proofs.Common.{◌≡◌, ◌++◌, List, sym, subst}
use Rattle.ksi_schedule.specs.declared.event.Event.{Event}
use Rattle.ksi_laws_facts.specs.Seen.{seen}
use Rattle.ksi_laws_facts.specs.Deeds.{Deed, facts}
use Rattle.ksi_laws_facts.proofs.Voters.{planned}
use Rattle.ksi_laws_facts.proofs.Recalling.{after_seconds, after_rounds}
use Rattle.ksi_laws_facts.proofs.ReadOff.{world_is}
use Rattle.ksi_laws_facts.proofs.Stepping.{by_facts}
use Rattle.ksi_laws_facts.proofs.Growing.{facts_grow, core_adds_none, aggregator_adds_none}
use Rattle.ksi_laws_facts.proofs.laws.history_is_recalled.Goals as goal

pub returns : goal.returns
returns c = λ image h is. record {
  seconds = λ core second. after_seconds image h.plan (planned c.voters_are_cores.ensures.voters h.plan is) h.events core second;
  rounds = λ aggregator second. after_rounds image h.plan (planned c.voters_are_cores.ensures.voters h.plan is) h.events aggregator second;
  world = λ before later same. world_is image h.plan (planned c.voters_are_cores.ensures.voters h.plan is) before;
  steps = λ before later event same. by_facts image h.plan (planned c.voters_are_cores.ensures.voters h.plan is) before event;
  grow = λ actor before later same.
      subst (λ (es : List Event). (more : List Deed) × (facts actor (seen image h.plan es) ≡ more ++ facts actor (seen image h.plan before))) (sym same) (facts_grow image h.plan actor before later);
  core_restarts = λ actor core. core_adds_none image h.plan actor h.events core;
  aggregator_restarts = λ actor aggregator. aggregator_adds_none image h.plan actor h.events aggregator;
}
