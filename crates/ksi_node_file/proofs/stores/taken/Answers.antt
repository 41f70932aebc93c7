use Rattle.std.proofs.Common.{◌∙◌, ap, sym, subst}
use Rattle.ksi_corenode.specs.Events.{core_row, event_second}
use Rattle.ksi_corenode.specs.Facts.{stable_state}
use Rattle.ksi_corenode.specs.CoreState.{CoreState, IsTurn, state_of}
use Rattle.ksi_disk.specs.Deeds.{StoredDisk, content_of, meter_of}
use Rattle.ksi_nodestore.specs.StoreState.{StoreState}
use Rattle.ksi_nodestore.specs.Takes.{AffordsMost, fact_added}
use Rattle.ksi_node_file.proofs.Rooms.{affords_most, affords_now, sure_for, take_want_of}
use Rattle.ksi_node_file.proofs.stores.taken.Goals as goal

pub returns-in-Ok : goal.returns-in-Ok
returns-in-Ok g c = λ me plan facts is.
    let image = g.C.Compress.image in
    let store = c.args.store in
    let event = c.args.event in
    let roomy = c.make_room.new.self in
    let made = c.in_ok-make_room.ensures.made in
    let core_is = ap (λ (s : StoreState StoredDisk). s.core) made in
    let disk_is = ap (λ (s : StoreState StoredDisk). s.log.disk) made in
    let stored = c.in_ok-make_room.ensures.stored me plan facts is.stored in
    record {
      step = c.in-Ok.field-0;
      turn = subst (λ (core : CoreState). IsTurn core c.take.new.self.core (event_second event) (core_row image core event) c.in-Ok.field-0) core_is c.in-Ok.ensures.turn;
      held = record {
        stored = c.in-Ok.ensures.stored me plan facts stored;
        exact = c.in-Ok.ensures.exact me plan facts stored (ap content_of disk_is ∙ is.exact);
        sure = sure_for store.log.disk roomy.log.disk c.take.new.self.log.disk 6750227 4 (fact_added image roomy.core event) disk_is is.sure c.in-Ok.ensures.costs.spends;
      };
    }

pub take_want-requires : goal.take_want-requires
take_want-requires g c =
    let image = g.C.Compress.image in
    let event = c.args.event in
    let store = c.args.store in
    let core = store.core in
    let roomy = c.make_room.new.self in
    let is = c.requires.held.3 in
    let made = c.in_ok-make_room.ensures.made in
    let core_is = ap (λ (s : StoreState StoredDisk). s.core) made in
    let disk_is = ap (λ (s : StoreState StoredDisk). s.log.disk) made in
    let may = c.steps_are_lawful.ensures.fact image core event c.requires.event c.requires.asked c.requires.owned is.stored.has.there (is.stored.has.well (event_second event)) in
    let affords = affords_most core.plan.cores core.start (event_second event) (stable_state (state_of core (event_second event))) (core_row image core event).fact (meter_of roomy.log.disk)
    (affords_now store.log.disk roomy.log.disk 6750227 4 disk_is is.sure) may in
    let most = subst (λ (c : CoreState). AffordsMost (fact_added image c event) (meter_of roomy.log.disk)) (sym core_is) affords in
    take_want_of c.take.result c.in-Err.refusal roomy.log.is_spent c.in-Err.is (λ failed. c.take.ensures.costs.enough most failed) (λ spent. c.take.ensures.spent.0 spent) (ap (λ (s : StoreState StoredDisk). s.log.is_spent) made ∙ is.stored.settled.fresh)
