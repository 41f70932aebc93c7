use Rattle.std.proofs.Common.{[], refl, subst}
use Rattle.ksi_corenode.specs.Stored.{VolatileState, volatile_at}
use Rattle.ksi_corenode.specs.CoreState.{CoreState, state_of, stable_at, IsChange}
use Rattle.ksi_corenode.proofs.Changes.{change_of, items_put, stays_at}
use Rattle.ksi_corenode.proofs.seconds.Seconds.forget_open.Goals as goal

pub returns : goal.returns
returns g c =
    let inside = c.self.inside in
    let t = c.args.second in
    let old : CoreState = record { me = inside.me; plan = inside.plan; start = inside.stable_parts.start; bare = inside.stable_parts.bare; settled = inside.stable_parts.settled; unsettled = inside.stable_parts.unsettled; items = inside.items.items; volatile_parts = inside.volatile_parts.entries } in
    let new : CoreState = record old { volatile_parts = c.forget_items.new.volatile_parts.entries } in
    let volatile : VolatileState = record (volatile_at old.volatile_parts t) { open_items = [] } in
    subst (λ (core : CoreState). IsChange core new t (record (state_of core t) { open_items = [] })) c.self.view_is
    (change_of old new t (stable_at old t) volatile (record (state_of old t) { open_items = [] }) refl refl refl refl
    (stays_at (stable_at old) t) c.forget_items.ensures (items_put old t []))
