use Rattle.std.proofs.Common.{◌∙◌, List, refl, ap, subst}
use Rattle.ksi_aggtree.specs.declared.entries.Entry.{Entry}
use Rattle.ksi_corenode.specs.Rows.{taken}
use Rattle.ksi_corenode.specs.Stored.{VolatileState, volatile_at}
use Rattle.ksi_corenode.specs.CoreState.{CoreState, state_of, stable_at, IsSame, IsChange}
use Rattle.ksi_corenode.proofs.Changes.{change_of, items_put, stays_at, same_volatile_parts, open_items_are, on_err}
use Rattle.ksi_corenode.proofs.seconds.Seconds.add_item.Goals as goal

pub returns-in_err-answer-clause-unchanged : goal.returns-in_err-answer-clause-unchanged
returns-in_err-answer-clause-unchanged g c =
    let inside = c.self.inside in
    let old : CoreState = record { me = inside.me; plan = inside.plan; start = inside.stable_parts.start; bare = inside.stable_parts.bare; settled = inside.stable_parts.settled; unsettled = inside.stable_parts.unsettled; items = inside.items.items; volatile_parts = inside.volatile_parts.entries } in
    let new : CoreState = record old { volatile_parts = c.submit.new.volatile_parts.entries } in
    on_err c.from_residual.result (IsSame c.args.self.now new)
    (subst (λ (core : CoreState). IsSame core new) c.self.view_is (same_volatile_parts old c.submit.new.volatile_parts.entries c.in_err-answer.ensures.unchanged))

pub returns-clause-change : goal.returns-clause-change
returns-clause-change g c =
    let inside = c.self.inside in
    let t = c.args.second in
    let old : CoreState = record { me = inside.me; plan = inside.plan; start = inside.stable_parts.start; bare = inside.stable_parts.bare; settled = inside.stable_parts.settled; unsettled = inside.stable_parts.unsettled; items = inside.items.items; volatile_parts = inside.volatile_parts.entries } in
    let new : CoreState = record old { volatile_parts = c.submit.new.volatile_parts.entries } in
    let items : List Entry = (taken c.args.aggregator c.args.item.now (volatile_at old.volatile_parts t).open_items).0 in
    let volatile : VolatileState = record (volatile_at old.volatile_parts t) { open_items = items } in
    subst (λ (core : CoreState). IsChange core new t (record (state_of core t) { open_items = (taken c.args.aggregator c.args.item.now (state_of core t).open_items).0 })) c.self.view_is
    (change_of old new t (stable_at old t) volatile (record (state_of old t) { open_items = (taken c.args.aggregator c.args.item.now (state_of old t).open_items).0 }) refl refl refl refl
    (stays_at (stable_at old) t) c.in_ok-answer.ensures.after
    (items_put old t items ∙ ap (λ (es : List Entry). record (state_of old t) { open_items = (taken c.args.aggregator c.args.item.now es).0 }) (open_items_are old t)))

pub returns-clause-answer : goal.returns-clause-answer
returns-clause-answer g c =
    let inside = c.self.inside in
    let t = c.args.second in
    let old : CoreState = record { me = inside.me; plan = inside.plan; start = inside.stable_parts.start; bare = inside.stable_parts.bare; settled = inside.stable_parts.settled; unsettled = inside.stable_parts.unsettled; items = inside.items.items; volatile_parts = inside.volatile_parts.entries } in
    c.in_ok-answer.ensures.answer
    ∙ ap (λ (es : List Entry). (taken c.args.aggregator c.args.item.now es).1) (open_items_are old t)
    ∙ ap (λ (core : CoreState). (taken c.args.aggregator c.args.item.now (state_of core t).open_items).1) c.self.view_is
