use Rattle.std.proofs.Common.{◌++◌, ◌∷◌, ◌<◌, [], length, List, ◌∙◌, sym, ap, arith}
use Rattle.ksi_split.proofs.Rooms.{row_is, room_of, row_set, row_others, room_others, room_set}
use Rattle.ksi_split.proofs.levels.put.Goals as goal

pub put-requires : goal.put-requires
put-requires g c =
    let lt : c.args.level < length c.args.rows.now.items = omega (arith, c.args.rows.now.ok.0) in
    let r = room_of c.args.rows.now.items c.args.level c.index_mut.result.now lt c.index_mut.ensures.value in
    let some = c.requires.room in
    omega arith

pub returns-clause-added : goal.returns-clause-added
returns-clause-added g c =
    let lt : c.args.level < length c.args.rows.now.items = omega (arith, c.args.rows.now.ok.0) in
    row_set c.args.rows.now.items c.args.level c.put.new.self lt ∙ c.put.ensures.parts
    ∙ ap (λ (xs : List _). xs ++ c.args.node ∷ []) (sym (row_is c.args.rows.now.items c.args.level c.index_mut.result.now lt c.index_mut.ensures.value))

pub returns-clause-others : goal.returns-clause-others
returns-clause-others g c k ne = row_others c.args.rows.now.items c.args.level k c.put.new.self ne

pub returns-clause-rooms : goal.returns-clause-rooms
returns-clause-rooms g c k ne = room_others c.args.rows.now.items c.args.level k c.put.new.self ne

pub returns-clause-room : goal.returns-clause-room
returns-clause-room g c =
    let lt : c.args.level < length c.args.rows.now.items = omega (arith, c.args.rows.now.ok.0) in
    omega (arith, room_set c.args.rows.now.items c.args.level c.put.new.self lt, c.put.ensures.room, room_of c.args.rows.now.items c.args.level c.index_mut.result.now lt c.index_mut.ensures.value)
