use Rattle.ksi_roundstore.proofs.Onward.{Laws, goes_on, left_files}
use Rattle.ksi_roundstore.proofs.laws.stores_go_on.Goals as goal

pub returns-clause-stored : goal.returns-clause-stored
returns-clause-stored g c = λ me plan facts old new event step is may early written took stored.
    let laws : Laws = record { facts = c.steps_are_lawful.ensures.facts; restarted = c.one_aggregator_of_facts.ensures.restarted } in
    goes_on laws g.C.Compress.image g.D.Disk.content g.D.Disk.images me plan facts old new event step is may early written took stored

pub returns-clause-left : goal.returns-clause-left
returns-clause-left g c = λ me plan facts old event file is may early written either.
    let laws : Laws = record { facts = c.steps_are_lawful.ensures.facts; restarted = c.one_aggregator_of_facts.ensures.restarted } in
    left_files laws g.C.Compress.image me plan facts old.aggregator event (g.D.Disk.content old.log.disk) file is.has is.items is.file may early written either
