use Rattle.std.proofs.Common.{◌<◌, length, arith}
use Rattle.ksi_split.proofs.Rooms.{row_kept, room_set, room_others}
use Rattle.ksi_split.proofs.levels.grow_one.Goals as goal

pub returns-clause-kept : goal.returns-clause-kept
returns-clause-kept g c k =
    let lt : c.args.level < length c.args.rows.now.items = omega (arith, c.args.rows.now.ok.0) in
    row_kept c.args.rows.now.items c.args.level c.index_mut.result.now c.grow.new.self lt c.index_mut.ensures.value c.grow.ensures.parts k

pub returns-clause-others : goal.returns-clause-others
returns-clause-others g c k ne = room_others c.args.rows.now.items c.args.level k c.grow.new.self ne

pub returns-clause-room : goal.returns-clause-room
returns-clause-room g c =
    let lt : c.args.level < length c.args.rows.now.items = omega (arith, c.args.rows.now.ok.0) in
    rw (room_set c.args.rows.now.items c.args.level c.grow.new.self lt) c.grow.ensures.room
