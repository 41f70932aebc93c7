use Rattle.std.proofs.Common.{◌≡◌, ◌∙◌, ℕ, List, Option, IfSome, ap, refl, sym, subst}
use Rattle.ksi_schedule.specs.Plans.{PlanState}
use Rattle.ksi_schedule.specs.Events.{History, AreEvents}
use Rattle.ksi_schedule.specs.declared.event.Event.{Event}
use Rattle.ksi_records.specs.declared.entry.Next.{Next}
use Rattle.ksi_records.specs.declared.sum.Sum.{Sum}
use Rattle.ksi_records.specs.declared.verdict.Retraced.{Retraced}
use Rattle.ksi_records.specs.Heads.{came_in}
use Rattle.ksi_records.specs.Steps.{IsHeld, IsNext}
use Rattle.ksi_records.specs.Sums.{sum_with}
use Rattle.ksi_records.specs.Told.{with_head}
use Rattle.ksi_records.proofs.RecordLemmas.{IsSoFar, agrees, ends, goes_on, refuses}
use Rattle.ksi_records.proofs.stream.entry_by_entry.Goals as goal

pub returns-in-Refused : goal.returns-in-Refused
returns-in-Refused g c =
    let image = g.C.Compress.image in
    let plan = c.args.plan.now in
    let version = c.args.version in
    let now = g.S.Read.remaining c.entries.log in
    let later = g.S.Read.remaining c.next_entry.new.log in
    let line = c.next_entry.new.line.items in
    let block = c.next_entry.new.block.items in
    let are = subst (λ (plan : PlanState). AreEvents plan c.entries.tracer.events) c.entries.invariant.plan c.steps-steps.ensures.allowed in
    let is = subst (λ (next : Next). IsNext plan version now later line block next) c.in-Refused.is c.in_ok-next.ensures.next in
    refuses image plan version (g.S.Read.remaining c.args.log.now) now (g.W.Write.contents c.args.out.now) (g.W.Write.contents c.entries.out) c.entries.tracer.events c.entries.sum c.in-Refused.fault
    c.entries.sum.place are c.steps-steps.ensures.few c.entries.invariant.so_far is refl

pub returns-in-End : goal.returns-in-End
returns-in-End g c =
    let image = g.C.Compress.image in
    let plan = c.args.plan.now in
    let version = c.args.version in
    let now = g.S.Read.remaining c.entries.log in
    let later = g.S.Read.remaining c.next_entry.new.log in
    let line = c.next_entry.new.line.items in
    let block = c.next_entry.new.block.items in
    let are = subst (λ (plan : PlanState). AreEvents plan c.entries.tracer.events) c.entries.invariant.plan c.steps-steps.ensures.allowed in
    let is = subst (λ (next : Next). IsNext plan version now later line block next) c.in-End.is c.in_ok-next.ensures.next in
    agrees image plan version (g.S.Read.remaining c.args.log.now) now (g.W.Write.contents c.args.out.now) (g.W.Write.contents c.entries.out) c.entries.tracer.events c.entries.sum c.steps-steps.result
    c.counts-counts.result are c.steps-steps.ensures.few c.entries.invariant.so_far is c.steps-steps.ensures.count c.counts-counts.ensures

pub returns-in-Some : goal.returns-in-Some
returns-in-Some g c =
    let image = g.C.Compress.image in
    let plan = c.args.plan.now in
    let version = c.args.version in
    let now = g.S.Read.remaining c.entries.log in
    let later = g.S.Read.remaining c.next_entry.new.log in
    let mid = g.W.Write.contents c.entries.out in
    let new = g.W.Write.contents c.held.new.out in
    let line = c.next_entry.new.line.items in
    let block = c.next_entry.new.block.items in
    let es = c.entries.tracer.events in
    let place = c.entries.sum.place in
    let head = c.in-Entry.head in
    let came = came_in version line in
    let are = subst (λ (plan : PlanState). AreEvents plan es) c.entries.invariant.plan c.steps-steps.ensures.allowed in
    let is = subst (λ (next : Next). IsNext plan version now later line block next) c.in-Entry.is c.in_ok-next.ensures.next in
    let of_plan = subst (λ (plan : PlanState). IsHeld image plan version es place head c.came_in-came.result.now c.deref-in-entries.result.now mid new c.in_ok-verdict.verdict) c.entries.invariant.plan c.in_ok-verdict.ensures.held in
    let came_is : c.came_in-came.result.now ≡ came = c.came_in-came.ensures ∙ ap (came_in version) c.deref.ensures.value in
    let of_line = subst (λ (came : List ℕ). IsHeld image plan version es place head came c.deref-in-entries.result.now mid new c.in_ok-verdict.verdict) came_is of_plan in
    let of_block = subst (λ (text : List ℕ). IsHeld image plan version es place head came text mid new c.in_ok-verdict.verdict) c.deref-in-entries.ensures.value of_line in
    let held = subst (λ (verdict : Option Retraced). IsHeld image plan version es place head came block mid new verdict) c.in-Some.is of_block in
    ends image plan version (g.S.Read.remaining c.args.log.now) now later (g.W.Write.contents c.args.out.now) mid new es c.entries.sum head came block c.in-Some.verdict are c.steps-steps.ensures.few c.entries.invariant.so_far is held

pub entries-preserved : goal.entries-preserved
entries-preserved g c =
    let image = g.C.Compress.image in
    let plan = c.args.plan.now in
    let version = c.args.version in
    let first = g.S.Read.remaining c.args.log.now in
    let now = g.S.Read.remaining c.entries.log in
    let later = g.S.Read.remaining c.next_entry.new.log in
    let old = g.W.Write.contents c.args.out.now in
    let mid = g.W.Write.contents c.entries.out in
    let new = g.W.Write.contents c.held.new.out in
    let line = c.next_entry.new.line.items in
    let block = c.next_entry.new.block.items in
    let es = c.entries.tracer.events in
    let sum = c.entries.sum in
    let head = c.in-Entry.head in
    let came = came_in version line in
    let is = subst (λ (next : Next). IsNext plan version now later line block next) c.in-Entry.is c.in_ok-next.ensures.next in
    let of_plan = subst (λ (plan : PlanState). IsHeld image plan version es sum.place head c.came_in-came.result.now c.deref-in-entries.result.now mid new c.in_ok-verdict.verdict) c.entries.invariant.plan c.in_ok-verdict.ensures.held in
    let came_is : c.came_in-came.result.now ≡ came = c.came_in-came.ensures ∙ ap (came_in version) c.deref.ensures.value in
    let of_line = subst (λ (came : List ℕ). IsHeld image plan version es sum.place head came c.deref-in-entries.result.now mid new c.in_ok-verdict.verdict) came_is of_plan in
    let of_block = subst (λ (text : List ℕ). IsHeld image plan version es sum.place head came text mid new c.in_ok-verdict.verdict) c.deref-in-entries.ensures.value of_line in
    let held = subst (λ (verdict : Option Retraced). IsHeld image plan version es sum.place head came block mid new verdict) c.in-None.is of_block in
    let goes = goes_on image plan version first now later old mid new es sum head came block c.entries.invariant.so_far is held in
    let same = c.in_ok-verdict.ensures.events c.in-None.is in
    let events : with_head image plan es head ≡ c.held.new.tracer.events = ap (λ (plan : PlanState). with_head image plan es head) (sym c.entries.invariant.plan) ∙ sym (ap (λ (h : History). h.events) same) in
    let sums = sym (c.with-sum.ensures ∙ ap (λ (text : List ℕ). sum_with sum head text) c.deref-in-entries-2.ensures.value) in
    record {
      plan = ap (λ (h : History). h.plan) same ∙ c.entries.invariant.plan;
      so_far = subst (λ (sum : Sum). IfSome first (λ text. IsSoFar image plan version text later old new c.held.new.tracer.events sum)) sums
          (subst (λ (es : List Event). IfSome first (λ text. IsSoFar image plan version text later old new es (sum_with sum head block))) events goes);
    }
