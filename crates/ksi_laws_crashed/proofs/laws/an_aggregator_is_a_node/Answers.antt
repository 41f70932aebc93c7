use Rattle.ksi_laws_crashed.proofs.OneNode.{is_node}
use Rattle.ksi_laws_crashed.proofs.laws.an_aggregator_is_a_node.Goals as goal

pub returns : goal.returns
returns c = λ image me. is_node image me
    (λ facts old new event step has may early turn. c.steps_are_lawful.ensures.facts image facts old new event step has may early turn)
    (λ facts old new has after. c.steps_are_lawful.ensures.restart facts old new has after)
    (λ facts rounds other has of t. c.one_aggregator_of_facts.ensures.restarted me facts rounds other has of t)
