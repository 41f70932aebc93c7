use Rattle.std.proofs.Common.{◌≡◌, suc, ◌+◌, take, [], ◌∷◌, ◌++◌, sym, ap, subst, ◌∙◌, arith}
use Rattle.std.proofs.Math.Seq.{take-suc}
use Rattle.ksi_schedule.specs.Events.{IsEvent}
use Rattle.ksi_world.specs.Histories.{after}
use Rattle.ksi_world.specs.Nodes.{IsWorld}
use Rattle.ksi_world.proofs.Running.{each_event, world_first, world_ready, world_more}
use Rattle.ksi_world.proofs.nodes.Nodes.after.Goals as goal

pub events-init : goal.events-init
events-init g c = world_first g.C.Compress.image c.args.plan.now c.in_ok-nodes.nodes c.requires.plan c.in_ok-nodes.ensures

pub happen-requires : goal.happen-requires
happen-requires g c =
    let image = g.C.Compress.image in
    let plan = c.args.plan.now in
    let events = c.args.events.now in
    let event : IsEvent plan c.event-item.result = subst (IsEvent plan) (sym c.event-item.is) (each_event plan events c.events.event-index c.event-item.result c.requires.events c.events-test.true) in
    world_ready image plan (take c.events.event-index events) c.event-item.result c.events.nodes c.events.invariant event

pub events-preserved : goal.events-preserved
events-preserved g c =
    let image = g.C.Compress.image in
    let plan = c.args.plan.now in
    let events = c.args.events.now in
    let k = c.events.event-index in
    let item = c.event-item.result in
    let event : IsEvent plan item = subst (IsEvent plan) (sym c.event-item.is) (each_event plan events k item c.requires.events c.events-test.true) in
    let before = c.events.invariant in
    let next : suc k ≡ k + 1 = omega arith in
    subst (λ es. IsWorld image plan es c.happen.new.self) (ap (λ e. take k events ++ e ∷ []) c.event-item.is ∙ sym (take-suc events k item c.events-test.true) ∙ ap (λ n. take n events) next)
    (world_more image plan (c.one_round.ensures.level image) (take k events) item c.events.nodes c.happen.new.self before event
    ((c.in_ok-happen.ensures.ok (after image plan (take k events)) before.fits).0))
