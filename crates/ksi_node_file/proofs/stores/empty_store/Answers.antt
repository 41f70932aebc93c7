use Rattle.std.proofs.Common.{[]}
use Rattle.ksi_disk.specs.Deeds.{content_of}
use Rattle.ksi_node_file.proofs.Rooms.{new_file}
use Rattle.ksi_node_file.proofs.stores.empty_store.Goals as goal

pub opened-requires-clause-file : goal.opened-requires-clause-file
opened-requires-clause-file g c =
    let plan = c.args.plan.now in
    ([], new_file c.args.core plan (content_of c.in_ok-disk.disk) (c.a_new_file_has_no_facts.ensures c.args.core plan c.requires.member c.cores.ensures.limits) c.in_ok-disk.ensures.text)

pub returns : goal.returns
returns g c =
    let plan = c.args.plan.now in
    c.opened.ensures [] (new_file c.args.core plan (content_of c.in_ok-disk.disk) (c.a_new_file_has_no_facts.ensures c.args.core plan c.requires.member c.cores.ensures.limits) c.in_ok-disk.ensures.text) c.in_ok-disk.ensures.text
