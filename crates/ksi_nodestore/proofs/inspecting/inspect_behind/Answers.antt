use Rattle.std.proofs.Common.{ℕ, List, sym, ap, subst, arith}
use Rattle.ksi_synod.specs.CorePlans.{CorePlanState}
use Rattle.ksi_disk.specs.Costs.{Affords}
use Rattle.ksi_disk.specs.Deeds.{StoredDisk, content_of, meter_of, new_disk}
use Rattle.ksi_nodestore.specs.Opens.{IsRefused}
use Rattle.ksi_nodestore.specs.Stores.{IsFileOf}
use Rattle.ksi_nodestore.proofs.Tellings.{counts_are, fault_said, not_failed, own_header, said_of}
use Rattle.ksi_nodestore.proofs.inspecting.inspect_behind.Goals as goal

pub returns-in-Ok : goal.returns-in-Ok
returns-in-Ok g c =
    let file = c.args.bytes.now in
    let head = c.args.head.now in
    let plan = c.new-plan.result in
    let opens = c.in-Ok.ensures.opens in
    let facts = opens.0 in
    let is : IsFileOf head.core plan facts file = subst (λ (l : List ℕ). IsFileOf head.core plan facts l) (ap content_of c.in_ok-disk.ensures.made) opens.1 in
    let stored = c.one_core_of_facts.ensures.stored g.C.Compress.image head.core plan facts c.in-Ok.store.core opens.2 in
    said_of file head plan facts c.counts.result (ap (λ (p : CorePlanState). p.cores) c.new-plan.ensures.plan) (ap (λ (p : CorePlanState). p.start) c.new-plan.ensures.plan) (ap (λ (p : CorePlanState). p.voters) c.new-plan.ensures.plan) c.requires.head is
    (counts_are facts c.in-Ok.store.core stored c.counts.result c.in-Ok.store.records opens.3.counted c.counts.ensures.records c.counts.ensures.sealed c.counts.ensures.held)

pub returns : goal.returns
returns g c =
    let file = c.args.bytes.now in
    let head = c.args.head.now in
    let plan = c.new-plan.result in
    let cores = ap (λ (p : CorePlanState). p.cores) c.new-plan.ensures.plan in
    let start = ap (λ (p : CorePlanState). p.start) c.new-plan.ensures.plan in
    let made = c.in_ok-disk.ensures.made in
    let affords : Affords 0 1 (meter_of c.in_ok-disk.disk) =
    subst (λ (d : StoredDisk). Affords 0 1 (meter_of d)) (sym made) (subst (λ (l : List ℕ). Affords 0 1 (meter_of (new_disk file 0 1 l))) (sym c.new.ensures.items) (omega arith, omega arith)) in
    let is : IsRefused head.core plan file c.in-Err.refusal = subst (λ (l : List ℕ). IsRefused head.core plan l c.in-Err.refusal) (ap content_of made) c.in-Err.ensures.opens in
    let broken = own_header file head plan c.in-Err.refusal cores start c.requires.head (not_failed StoredDisk c.in-Err.refusal c.in-Err.field-0-1 (c.in-Err.ensures.sure affords)) is in
    fault_said file head plan c.in-Err.refusal c.refused.result cores start c.requires.head broken is c.refused.ensures
