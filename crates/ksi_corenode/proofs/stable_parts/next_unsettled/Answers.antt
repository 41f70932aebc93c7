use Rattle.std.proofs.Common.{◌∙◌, All, sym, subst}
use Rattle.std.specs.Ordering.{nat_cmp}
use Rattle.std.specs.BTreeMap.Range.{IsEntryInRange}
use Rattle.std.specs.declared.ops.Bound.TheVariants.{Included, Unbounded}
use Rattle.ksi_corenode.proofs.Following.{IsRest, rest_first, rest_next, rest_here, rest_none}
use Rattle.ksi_corenode.proofs.stable_parts.next_unsettled.Goals as goal

pub following-init : goal.following-init
following-init c =
    rest_first c.args.unsettled.now.entries c.into_iter-t-iterator.result c.args.from (c.into_iter-t-iterator.ensures.into_iter_gives ∙ c.range-t-items.ensures.between tt)
    c.range-t-items.ensures.ordered (subst (All (IsEntryInRange nat_cmp (Included c.args.from) Unbounded c.args.unsettled.now)) (sym c.into_iter-t-iterator.ensures.into_iter_gives) (c.range-t-items.ensures.in_range tt).0)

pub returns-then-is_held_or_sealed-clause-next : goal.returns-then-is_held_or_sealed-clause-next
returns-then-is_held_or_sealed-clause-next c =
    let left = subst (λ rest. IsRest c.args.unsettled.now.entries rest c.args.from) c.in-Some.ensures.steps c.following.invariant in
    rest_here c.args.unsettled.now.entries c.next.new.self c.args.from c.in-Some.t.now c.in-Some.part.now left (sym c.is_held_or_sealed.ensures ∙ c.if-is_held_or_sealed.true)

pub following-preserved : goal.following-preserved
following-preserved c =
    let left = subst (λ rest. IsRest c.args.unsettled.now.entries rest c.args.from) c.in-Some.ensures.steps c.following.invariant in
    rest_next c.args.unsettled.now.entries c.next.new.self c.args.from c.in-Some.t.now c.in-Some.part.now left (sym c.is_held_or_sealed.ensures ∙ c.if-is_held_or_sealed.false)

pub returns-clause-none : goal.returns-clause-none
returns-clause-none c = λ _.
    rest_none c.args.unsettled.now.entries c.args.from (subst (λ rest. IsRest c.args.unsettled.now.entries rest c.args.from) c.in-None.ensures.steps.0 c.following.invariant)
