use Rattle.std.proofs.Common.{◌≡◌, false, sym, subst, arith}
use Rattle.ksi_aggregator.specs.Events.{MayTake}
use Rattle.ksi_aggregator.specs.Rounds.{rounds_of}
use Rattle.ksi_disk.specs.Images.{LeavesOnly}
use Rattle.ksi_roundstore.specs.StoreState.{StoreState}
use Rattle.ksi_roundstore.specs.Takes.{HasEither, fact_added}
use Rattle.ksi_roundstore.proofs.Kept.{left_now, room_left, stored_on}
use Rattle.ksi_roundstore.proofs.store.RoundStore.take_on.Goals as goal

pub take-requires-clause-may : goal.take-requires-clause-may
take-requires-clause-may g c = subst (λ (s : StoreState g.row.D.Denot). MayTake (rounds_of s.aggregator) c.args.event) (sym c.self.view_is) c.requires.event

pub returns-in_err-record_-clause-any_moment : goal.returns-in_err-record_-clause-any_moment
returns-in_err-record_-clause-any_moment g c =
    let fresh = subst (λ (s : StoreState g.row.D.Denot). s.log.is_spent ≡ false) (sym c.self.view_is) c.requires.fresh in
    let stored = c.self.invariant fresh in
    let log = c.self.inside.log in
    subst (λ (s : StoreState g.row.D.Denot). LeavesOnly g.D.Disk.moment g.D.Disk.images_since s.log.disk s.log.disk (HasEither (g.D.Disk.content s.log.disk) (fact_added g.C.Compress.image s.aggregator c.args.event))) c.self.view_is
    (left_now g.D.Disk.content g.D.Disk.images log stored.settled stored.from g.D.Disk.moment g.D.Disk.images_since (fact_added g.C.Compress.image c.self.inside.aggregator c.args.event) (g.met.D.Disk.only_now log.disk))

pub returns-in_err-step-clause-any_moment : goal.returns-in_err-step-clause-any_moment
returns-in_err-step-clause-any_moment g c =
    let fresh = subst (λ (s : StoreState g.row.D.Denot). s.log.is_spent ≡ false) (sym c.self.view_is) c.requires.fresh in
    let stored = c.self.invariant fresh in
    let log = c.self.inside.log in
    subst (λ (s : StoreState g.row.D.Denot). LeavesOnly g.D.Disk.moment g.D.Disk.images_since s.log.disk log.disk (HasEither (g.D.Disk.content s.log.disk) (fact_added g.C.Compress.image s.aggregator c.args.event))) c.self.view_is
    (left_now g.D.Disk.content g.D.Disk.images log stored.settled stored.from g.D.Disk.moment g.D.Disk.images_since (fact_added g.C.Compress.image c.self.inside.aggregator c.args.event) (g.met.D.Disk.only_now log.disk))

pub overflow_add-self : goal.overflow_add-self
overflow_add-self g c =
    let fresh = subst (λ (s : StoreState g.row.D.Denot). s.log.is_spent ≡ false) (sym c.self.view_is) c.requires.fresh in
    let stored = c.self.invariant fresh in
    let log = c.self.inside.log in
    let room = room_left g.D.Disk.content g.D.Disk.images log stored.settled stored.from c.self.inside.records stored.counted (c.records_stand_one_after_the_other.ensures 20 (g.D.Disk.content log.disk)) in
    omega (arith, room, c.count_of.ensures.few)

pub invariant_of-self-2 : goal.invariant_of-self-2
invariant_of-self-2 g c = λ goes.
    let fresh = subst (λ (s : StoreState g.row.D.Denot). s.log.is_spent ≡ false) (sym c.self.view_is) c.requires.fresh in
    let stored = c.self.invariant fresh in
    stored_on g.D.Disk.content g.D.Disk.images c.self.inside.log c.keep.new.log c.take.new.self c.self.inside.records c.count_of.result c.in_ok-step.step.fact stored.counted c.count_of.ensures.count c.in_ok-keep.ensures.stored
