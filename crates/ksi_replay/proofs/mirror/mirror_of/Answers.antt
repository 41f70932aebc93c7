use Rattle.std.proofs.Common.{◌≡◌, ◌∙◌, ℕ, List, sym, ap, subst}
use Rattle.std.specs.List.{AllByRecursion}
use Rattle.ksi_imprint.specs.Imprints.{IsImprint}
use Rattle.ksi_schedule.specs.Plans.{PlanState}
use Rattle.ksi_world.specs.Histories.{world_of}
use Rattle.ksi_mirror.specs.Mirrors.{MirrorState, IsMirror}
use Rattle.ksi_replay.specs.Mirrors.{HasSealedImprints}
use Rattle.ksi_replay.proofs.Copying.{mirror_is}
use Rattle.ksi_replay.proofs.CoreCopied.{copied_is}
use Rattle.ksi_replay.proofs.mirror.mirror_of.Goals as goal

pub new-requires : goal.new-requires
new-requires g c =
    let image = g.C.Compress.image in
    let h = c.args.world.now in
    let w = world_of image h in
    let parts = c.in_ok-parts.parts in
    let begins : c.start-start.result ≡ h.plan.start = c.start-start.ensures ∙ ap (λ (p : PlanState). p.start) c.plan.ensures.plan in
    let same = copied_is h.plan w c.args.core c.core.result.now c.core.ensures.seconds c.start-start.result parts.start parts.roots.items parts.lists.items begins
    c.in_ok-parts.ensures.start c.in_ok-parts.ensures.roots c.in_ok-parts.ensures.lists in
    subst IsMirror (sym same)
    (mirror_is h.plan w c.args.core c.plan.ensures.limits c.requires.core
    (λ t entries at. c.sealed_is_listed.ensures.round image h c.plan.ensures.limits c.events-events.ensures.lawful c.args.core t entries at)
    (subst (AllByRecursion (λ (one : ℕ × List ℕ). IsImprint one.1)) (c.deref.ensures.value ∙ ap (λ (m : MirrorState). m.roots) same) c.imprints_of_roots.ensures)
    (subst (AllByRecursion HasSealedImprints) (c.deref-2.ensures.value ∙ ap (λ (m : MirrorState). m.lists) same) c.imprints_of_lists.ensures))
