use Rattle.std.proofs.Common.{◌≡◌, ◌∙◌, false, Option, sym, subst, arith}
use Rattle.ksi_corenode.specs.declared.fact.Fact.{Fact}
use Rattle.ksi_corenode.specs.Events.{event_second, IsAsked, MayTake}
use Rattle.ksi_corenode.specs.Lawful.{with_new}
use Rattle.ksi_corenode.specs.Owners.{BringsOwned}
use Rattle.ksi_disk.specs.Images.{LeavesOnly}
use Rattle.ksi_nodestore.specs.Opens.{IsLogOf}
use Rattle.ksi_nodestore.specs.StoreState.{StoreState}
use Rattle.ksi_nodestore.specs.Takes.{IsFileBeforeOrAfter}
use Rattle.ksi_nodestore.proofs.Acknowledged.{goes_on, may_go_on, room_left}
use Rattle.ksi_nodestore.proofs.Readied.{ready_for}
use Rattle.ksi_nodestore.proofs.store.NodeStore.take_on.Goals as goal

pub returns-in_err-keep-clause-any_moment : goal.returns-in_err-keep-clause-any_moment
returns-in_err-keep-clause-any_moment g c = rw (← c.self.view_is) (λ me plan facts is.
    let store : StoreState g.row.D.Denot = record { core = c.self.inside.core; log = c.self.inside.log; records = c.self.inside.records } in
    let event = c.args.event.now in
    let takes = subst (λ (s : StoreState g.row.D.Denot). MayTake s.core event) (sym c.self.view_is) c.requires.event in
    let asked = subst (λ (s : StoreState g.row.D.Denot). IsAsked s.core (event_second event)) (sym c.self.view_is) c.requires.asked in
    let owned = subst (λ (s : StoreState g.row.D.Denot). BringsOwned s.core.plan.cores event) (sym c.self.view_is) c.requires.owned in
    let turn = c.in_ok-step.ensures.turn in
    let row = c.steps_are_lawful.ensures.fact g.C.Compress.image store.core event takes asked owned is.has.there (is.has.well (event_second event)) in
    let may = may_go_on g.C.Compress.image plan facts store.core c.take.new.self event c.in_ok-step.step is.has turn row in
    let log : IsLogOf g.D.Disk.content g.D.Disk.images me plan facts store.log = record { settled = is.settled; from = is.from; file = is.file } in
    subst (λ (f : Option Fact). LeavesOnly g.D.Disk.moment g.D.Disk.images_since store.log.disk c.keep.new.log.disk (IsFileBeforeOrAfter me plan facts f)) turn.fact (c.keep.ensures.any_moment me plan facts log may))

pub invariant_of-self : goal.invariant_of-self
invariant_of-self g c = λ fresh.
    let stored = c.self.invariant fresh in
    let is = stored.3 in
    let same = c.in_err-step.ensures.unchanged in (
      stored.0,
      stored.1,
      stored.2,
      record {
        mine = same.me ∙ is.mine;
        has = c.steps_are_lawful.ensures.same g.C.Compress.image stored.1 stored.2 c.self.inside.core c.take.new.self is.has same;
        counted = is.counted;
        settled = is.settled;
        from = is.from;
        file = is.file;
      },
    )

pub keep-requires-clause-ready : goal.keep-requires-clause-ready
keep-requires-clause-ready g c =
    let fresh = subst (λ (s : StoreState g.row.D.Denot). s.log.is_spent ≡ false) (sym c.self.view_is) c.requires.fresh in
    let is = (c.self.invariant fresh).3 in
    let core = c.self.inside.core in
    let event = c.args.event.now in
    let takes = subst (λ (s : StoreState g.row.D.Denot). MayTake s.core event) (sym c.self.view_is) c.requires.event in
    let asked = subst (λ (s : StoreState g.row.D.Denot). IsAsked s.core (event_second event)) (sym c.self.view_is) c.requires.asked in
    let owned = subst (λ (s : StoreState g.row.D.Denot). BringsOwned s.core.plan.cores event) (sym c.self.view_is) c.requires.owned in
    let row = c.steps_are_lawful.ensures.fact g.C.Compress.image core event takes asked owned is.has.there (is.has.well (event_second event)) in
    ready_for g.C.Compress.image core event c.in_ok-record_.record_ c.in_ok-step.step.fact c.in_ok-record_.ensures c.in_ok-step.ensures.turn.fact row

pub overflow_add-self : goal.overflow_add-self
overflow_add-self g c =
    let fresh = subst (λ (s : StoreState g.row.D.Denot). s.log.is_spent ≡ false) (sym c.self.view_is) c.requires.fresh in
    let stored = c.self.invariant fresh in
    let is = stored.3 in
    let log = c.self.inside.log in
    let file = g.D.Disk.content log.disk in
    let room = room_left file log.from log.gate c.self.inside.records stored.2 is.counted is.file.are.texts is.from is.settled.standing is.settled.within (c.records_stand_one_after_the_other.ensures 18 file) in
    omega (arith, room, c.count_of.ensures.few)

pub returns-clause-stored : goal.returns-clause-stored
returns-clause-stored g c = rw (← c.self.view_is) (λ me plan facts is.
    let store : StoreState g.row.D.Denot = record { core = c.self.inside.core; log = c.self.inside.log; records = c.self.inside.records } in
    let event = c.args.event.now in
    let takes = subst (λ (s : StoreState g.row.D.Denot). MayTake s.core event) (sym c.self.view_is) c.requires.event in
    let asked = subst (λ (s : StoreState g.row.D.Denot). IsAsked s.core (event_second event)) (sym c.self.view_is) c.requires.asked in
    let owned = subst (λ (s : StoreState g.row.D.Denot). BringsOwned s.core.plan.cores event) (sym c.self.view_is) c.requires.owned in
    let turn = c.in_ok-step.ensures.turn in
    let row = c.steps_are_lawful.ensures.fact g.C.Compress.image store.core event takes asked owned is.has.there (is.has.well (event_second event)) in
    let may = may_go_on g.C.Compress.image plan facts store.core c.take.new.self event c.in_ok-step.step is.has turn row in
    let log : IsLogOf g.D.Disk.content g.D.Disk.images me plan facts store.log = record { settled = is.settled; from = is.from; file = is.file } in
    let step = c.in_ok-step.step in
    let has = c.in_ok-keep.ensures.kept me plan facts log may in
    record {
      stored = goes_on g.C.Compress.image g.D.Disk.content g.D.Disk.images me plan facts store c.take.new.self c.keep.new.log c.count_of.result step.fact is turn.me
          (c.steps_are_lawful.ensures.facts g.C.Compress.image plan facts store.core c.take.new.self event step is.has takes asked owned turn) c.count_of.ensures.count has.log;
      exact = has.exact;
    })

pub returns-clause-any_moment : goal.returns-clause-any_moment
returns-clause-any_moment g c = rw (← c.self.view_is) (λ me plan facts is.
    let store : StoreState g.row.D.Denot = record { core = c.self.inside.core; log = c.self.inside.log; records = c.self.inside.records } in
    let event = c.args.event.now in
    let takes = subst (λ (s : StoreState g.row.D.Denot). MayTake s.core event) (sym c.self.view_is) c.requires.event in
    let asked = subst (λ (s : StoreState g.row.D.Denot). IsAsked s.core (event_second event)) (sym c.self.view_is) c.requires.asked in
    let owned = subst (λ (s : StoreState g.row.D.Denot). BringsOwned s.core.plan.cores event) (sym c.self.view_is) c.requires.owned in
    let turn = c.in_ok-step.ensures.turn in
    let row = c.steps_are_lawful.ensures.fact g.C.Compress.image store.core event takes asked owned is.has.there (is.has.well (event_second event)) in
    let may = may_go_on g.C.Compress.image plan facts store.core c.take.new.self event c.in_ok-step.step is.has turn row in
    let log : IsLogOf g.D.Disk.content g.D.Disk.images me plan facts store.log = record { settled = is.settled; from = is.from; file = is.file } in
    subst (λ (f : Option Fact). LeavesOnly g.D.Disk.moment g.D.Disk.images_since store.log.disk c.keep.new.log.disk (IsFileBeforeOrAfter me plan facts f)) turn.fact (c.keep.ensures.any_moment me plan facts log may))

pub returns-clause-leaves : goal.returns-clause-leaves
returns-clause-leaves g c =
    let fresh = subst (λ (s : StoreState g.row.D.Denot). s.log.is_spent ≡ false) (sym c.self.view_is) c.requires.fresh in
    let stored = c.self.invariant fresh in
    let me = stored.0 in
    let plan = stored.1 in
    let facts = stored.2 in
    let is = stored.3 in
    let store : StoreState g.row.D.Denot = record { core = c.self.inside.core; log = c.self.inside.log; records = c.self.inside.records } in
    let event = c.args.event.now in
    let takes = subst (λ (s : StoreState g.row.D.Denot). MayTake s.core event) (sym c.self.view_is) c.requires.event in
    let asked = subst (λ (s : StoreState g.row.D.Denot). IsAsked s.core (event_second event)) (sym c.self.view_is) c.requires.asked in
    let owned = subst (λ (s : StoreState g.row.D.Denot). BringsOwned s.core.plan.cores event) (sym c.self.view_is) c.requires.owned in
    let turn = c.in_ok-step.ensures.turn in
    let row = c.steps_are_lawful.ensures.fact g.C.Compress.image store.core event takes asked owned is.has.there (is.has.well (event_second event)) in
    let may = may_go_on g.C.Compress.image plan facts store.core c.take.new.self event c.in_ok-step.step is.has turn row in
    let log : IsLogOf g.D.Disk.content g.D.Disk.images me plan facts store.log = record { settled = is.settled; from = is.from; file = is.file } in
    (c.in_ok-keep.ensures.kept me plan facts log may).log.settled.fresh

pub invariant_of-self-2 : goal.invariant_of-self-2
invariant_of-self-2 g c = λ goes.
    let fresh = subst (λ (s : StoreState g.row.D.Denot). s.log.is_spent ≡ false) (sym c.self.view_is) c.requires.fresh in
    let stored = c.self.invariant fresh in
    let me = stored.0 in
    let plan = stored.1 in
    let facts = stored.2 in
    let is = stored.3 in
    let store : StoreState g.row.D.Denot = record { core = c.self.inside.core; log = c.self.inside.log; records = c.self.inside.records } in
    let event = c.args.event.now in
    let takes = subst (λ (s : StoreState g.row.D.Denot). MayTake s.core event) (sym c.self.view_is) c.requires.event in
    let asked = subst (λ (s : StoreState g.row.D.Denot). IsAsked s.core (event_second event)) (sym c.self.view_is) c.requires.asked in
    let owned = subst (λ (s : StoreState g.row.D.Denot). BringsOwned s.core.plan.cores event) (sym c.self.view_is) c.requires.owned in
    let turn = c.in_ok-step.ensures.turn in
    let row = c.steps_are_lawful.ensures.fact g.C.Compress.image store.core event takes asked owned is.has.there (is.has.well (event_second event)) in
    let may = may_go_on g.C.Compress.image plan facts store.core c.take.new.self event c.in_ok-step.step is.has turn row in
    let log : IsLogOf g.D.Disk.content g.D.Disk.images me plan facts store.log = record { settled = is.settled; from = is.from; file = is.file } in
    let step = c.in_ok-step.step in
    let has = c.in_ok-keep.ensures.kept me plan facts log may in (
      me,
      plan,
      with_new facts step.fact,
      goes_on g.C.Compress.image g.D.Disk.content g.D.Disk.images me plan facts store c.take.new.self c.keep.new.log c.count_of.result step.fact is turn.me
          (c.steps_are_lawful.ensures.facts g.C.Compress.image plan facts store.core c.take.new.self event step is.has takes asked owned turn) c.count_of.ensures.count has.log,
    )
