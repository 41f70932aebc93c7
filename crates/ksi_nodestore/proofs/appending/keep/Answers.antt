use Rattle.std.proofs.Common.{◌⊎◌, ℕ, List, Option, Some, IfSome, inl, inr, subst, sym}
use Rattle.ksi_corenode.specs.declared.fact.Fact.{Fact}
use Rattle.ksi_corenode.specs.Lawful.{stored_by, IsLawful}
use Rattle.std.specs.Prelude.{OnOk}
use Rattle.ksi_disk.specs.Images.{LeavesOnly}
use Rattle.ksi_disk.specs.ImageLaws.{leaves_now}
use Rattle.ksi_nodestore.specs.Stores.{IsFileOf}
use Rattle.ksi_nodestore.specs.Takes.{AffordsFor, AffordsMost, HasKept, IsFileBeforeOrAfter}
use Rattle.ksi_nodestore.proofs.Onward.{on_both}
use Rattle.ksi_nodestore.proofs.appending.keep.Goals as goal

pub returns-in-None-clause-any_moment : goal.returns-in-None-clause-any_moment
returns-in-None-clause-any_moment g c = λ me plan facts is may.
    let disk = c.args.log.now.disk in
    leaves_now g.D.Disk.moment g.D.Disk.images_since disk (IsFileBeforeOrAfter me plan facts c.args.fact.now)
    (λ image left. inl (subst (λ (l : List ℕ). IsFileOf me plan facts l) (sym (is.settled.durable image (g.met.D.Disk.only_now disk image left))) is.file))

pub returns-in-Some-record_-clause-any_moment : goal.returns-in-Some-record_-clause-any_moment
returns-in-Some-record_-clause-any_moment g c = λ me plan facts is may.
    subst (λ (f : Option Fact). IfSome f (λ fact. IsLawful plan.cores plan.start (stored_by facts fact.second) fact) → LeavesOnly g.D.Disk.moment g.D.Disk.images_since c.args.log.now.disk c.append_fact.new.log.disk (IsFileBeforeOrAfter me plan facts f))
    (sym c.in-Some.is) (λ lawful. c.append_fact.ensures.any_moment me plan facts is lawful) may

pub returns-in-None-clause-kept : goal.returns-in-None-clause-kept
returns-in-None-clause-kept g c = λ me plan facts is may.
    subst (λ (f : Option Fact). HasKept g.D.Disk.content g.D.Disk.images me plan facts f c.args.log.now c.args.log.now) (sym c.in-None.is) (record { log = is; exact = λ file_is. file_is })

pub returns-in-Some-record_-clause-kept : goal.returns-in-Some-record_-clause-kept
returns-in-Some-record_-clause-kept g c = λ me plan facts is may.
    subst (λ (f : Option Fact). IfSome f (λ fact. IsLawful plan.cores plan.start (stored_by facts fact.second) fact) → OnOk c.append_fact.result (HasKept g.D.Disk.content g.D.Disk.images me plan facts f c.args.log.now c.append_fact.new.log)) (sym c.in-Some.is)
    (λ lawful. on_both c.append_fact.result (c.append_fact.ensures.kept me plan facts is lawful) (λ file_is. c.append_fact.ensures.exact me plan facts is file_is) (λ log exact. record { log = log; exact = exact })) may

pub returns-in-Some-record_-clause-sure : goal.returns-in-Some-record_-clause-sure
returns-in-Some-record_-clause-sure g c = λ either.
    let meter = g.D.Disk.meter c.args.log.now.disk in
    let here : AffordsFor (Some c.in-Some.fact) meter ⊎ AffordsMost (Some c.in-Some.fact) meter = subst (λ (f : Option Fact). AffordsFor f meter ⊎ AffordsMost f meter) c.in-Some.is either in
    elim here [ inl text ↦ c.append_fact.ensures.sure text | inr most ↦ c.append_fact.ensures.enough most ]
