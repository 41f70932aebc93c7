use Rattle.ksi_logblock.proofs.Leading.{own_led, root_led, way_led}
use Rattle.ksi_logblock.proofs.laws.own_proofs.Goals as goal

pub returns-clause-root : goal.returns-clause-root
returns-clause-root c = λ image block proof k there mask links few. root_led image block proof k there mask links c.one_chain.ensures.climbs c.one_climb.ensures.climbs few

pub returns-clause-way : goal.returns-clause-way
returns-clause-way c = λ image block proof k there mask links. way_led image block proof k there mask links c.one_chain.ensures.way

pub returns-clause-own : goal.returns-clause-own
returns-clause-own c = λ image block proof k mask links. own_led image block proof k mask links
