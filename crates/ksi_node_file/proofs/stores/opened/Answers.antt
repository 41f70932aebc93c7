use Rattle.std.proofs.Common.{List, ℕ, ap, sym, subst}
use Rattle.ksi_disk.specs.Deeds.{content_of}
use Rattle.ksi_nodestore.specs.Stores.{IsFileOf}
use Rattle.ksi_node_file.proofs.Rooms.{affords_now, opened_as, want_of}
use Rattle.ksi_node_file.proofs.stores.opened.Goals as goal

pub returns-in-Ok : goal.returns-in-Ok
returns-in-Ok g c = λ facts is exact.
    let opens = c.in-Ok.ensures.opens in
    opened_as g.C.Compress.image c.args.core c.args.plan.now facts opens.0 c.args.disk c.make_room.new.self c.in-Ok.store c.in_ok-make_room.ensures.made c.requires.sure
    (λ facts others file one other. c.a_crash_is_a_restart.ensures.one c.args.core c.args.plan.now facts others file one other) is exact opens.1 opens.2 opens.3 c.in-Ok.ensures.stays c.in-Ok.ensures.costs

pub want-requires : goal.want-requires
want-requires g c =
    let made = c.in_ok-make_room.ensures.made in
    let facts = c.requires.file.0 in
    let is : IsFileOf c.args.core c.args.plan.now facts (content_of c.make_room.new.self) = subst (λ (l : List ℕ). IsFileOf c.args.core c.args.plan.now facts l) (ap content_of (sym made)) c.requires.file.1 in
    want_of c.in-Err.refusal c.in-Err.field-0-1
    (c.files_of_facts_are_opened.ensures c.args.core c.args.plan.now facts (content_of c.make_room.new.self) c.in-Err.refusal is c.in-Err.ensures.opens)
    (c.in-Err.ensures.sure (affords_now c.args.disk c.make_room.new.self 0 1 made c.requires.sure))
