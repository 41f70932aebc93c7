use Rattle.std.proofs.Common.{◌≡◌, ◌⊎◌, inl, inr, List, subst}
use Rattle.ksi_aggregator.specs.declared.fact.Fact.{Fact}
use Rattle.ksi_aggregator.specs.Rounds.{rounds_of}
use Rattle.ksi_aggregator.specs.Lawful.{with_new}
use Rattle.ksi_aggregator.specs.Restored.{HasFacts}
use Rattle.ksi_roundstore.specs.Takes.{fact_added}
use Rattle.ksi_roundstore.proofs.Onward.{Laws, restart_either}
use Rattle.ksi_roundstore.proofs.laws.a_crash_is_a_restart.Goals as goal

pub returns-clause-restarted : goal.returns-clause-restarted
returns-clause-restarted c = λ me plan facts others file aggregator other has one two of.
    let same = c.a_file_is_of_one_list_of_facts.ensures me plan facts others file one two in
    c.one_aggregator_of_facts.ensures.restarted me others (rounds_of aggregator) other (subst (λ (l : List Fact). HasFacts l (rounds_of aggregator)) same has) of

pub returns-clause-left : goal.returns-clause-left
returns-clause-left c = λ image me plan facts others file aggregator other event has may early either two of.
    let laws : Laws = record { facts = c.steps_are_lawful.ensures.facts; restarted = c.one_aggregator_of_facts.ensures.restarted } in
    let more = with_new facts (fact_added image aggregator event) in
    let one_of : (facts ≡ others) ⊎ (more ≡ others) =
    elim either [
      | inl before ↦ inl (c.a_file_is_of_one_list_of_facts.ensures me plan facts others file before two)
      | inr after ↦ inr (c.a_file_is_of_one_list_of_facts.ensures me plan more others file after two)
    ] in
    restart_either laws image me facts others aggregator other event has may early one_of of
