use Rattle.std.proofs.Common.{◌≡◌, ◌^◌, ◌<◌, sym, ap, subst, ◌∙◌}
use Rattle.ksi_schedule.specs.Events.{History}
use Rattle.ksi_aggtree.specs.declared.second.Second.{Second}
use Rattle.ksi_world.specs.Histories.{after, world_of}
use Rattle.ksi_world.specs.Records.{kept_seconds}
use Rattle.ksi_world.specs.Validity.{AreRising, EachKept, IsKept}
use Rattle.ksi_world.proofs.Voted.{after_voted}
use Rattle.ksi_world.proofs.Deciding.{kept_rising, kept_early, kept_trees}
use Rattle.ksi_world.proofs.Listed.{listed_is}
use Rattle.ksi_world.proofs.world.World.kept.Goals as goal

pub returns-clause-seconds : goal.returns-clause-seconds
returns-clause-seconds g c =
    let image = g.C.Compress.image in
    let plan = c.self.inside.plan in
    let events = c.self.inside.events.items in
    let is = c.self.invariant in
    c.kept_under.ensures.seconds
    ∙ listed_is image plan (after image plan events) c.self.inside.nodes c.in_ok-seconds.seconds.items c.start.result c.all_seconds-many.result is.fits c.start.ensures c.all_seconds-many.ensures c.in_ok-seconds.ensures
    ∙ ap (λ (h : History). kept_seconds image h.plan (world_of image h)) c.self.view_is

pub returns-clause-rising : goal.returns-clause-rising
returns-clause-rising g c =
    let image = g.C.Compress.image in
    let plan = c.self.inside.plan in
    let events = c.self.inside.events.items in
    let is = c.self.invariant in
    let voted = after_voted image plan is.plan_is events is.are in
    let all : c.kept_under.result.seconds ≡ kept_seconds image plan (after image plan events) = c.kept_under.ensures.seconds ∙ listed_is image plan (after image plan events) c.self.inside.nodes c.in_ok-seconds.seconds.items c.start.result c.all_seconds-many.result is.fits c.start.ensures c.all_seconds-many.ensures c.in_ok-seconds.ensures in
    subst (λ start. AreRising start c.kept_under.result.seconds) (sym c.kept_under.ensures.start)
    (subst (λ ks. AreRising plan.start ks) (sym all) (kept_rising image plan is.plan_is c.steps_agree.ensures.validity (after image plan events) is.sound voted))

pub returns-clause-early : goal.returns-clause-early
returns-clause-early g c =
    let image = g.C.Compress.image in
    let plan = c.self.inside.plan in
    let events = c.self.inside.events.items in
    let is = c.self.invariant in
    let voted = after_voted image plan is.plan_is events is.are in
    let all : c.kept_under.result.seconds ≡ kept_seconds image plan (after image plan events) = c.kept_under.ensures.seconds ∙ listed_is image plan (after image plan events) c.self.inside.nodes c.in_ok-seconds.seconds.items c.start.result c.all_seconds-many.result is.fits c.start.ensures c.all_seconds-many.ensures c.in_ok-seconds.ensures in
    subst (λ ks. EachKept (λ (one : Second). one.second < 2 ^ 63) ks) (sym all) (kept_early image plan is.plan_is c.steps_agree.ensures.validity (after image plan events) is.sound voted)

pub returns-clause-trees : goal.returns-clause-trees
returns-clause-trees g c =
    let image = g.C.Compress.image in
    let plan = c.self.inside.plan in
    let events = c.self.inside.events.items in
    let is = c.self.invariant in
    let voted = after_voted image plan is.plan_is events is.are in
    let all : c.kept_under.result.seconds ≡ kept_seconds image plan (after image plan events) = c.kept_under.ensures.seconds ∙ listed_is image plan (after image plan events) c.self.inside.nodes c.in_ok-seconds.seconds.items c.start.result c.all_seconds-many.result is.fits c.start.ensures c.all_seconds-many.ensures c.in_ok-seconds.ensures in
    subst (λ ks. EachKept (IsKept image) ks) (sym all) (kept_trees image plan is.plan_is c.steps_agree.ensures.validity (after image plan events) is.sound voted)
