use Rattle.std.proofs.Common.{◌≡◌, ◌<◌, ◌≤◌, List, [], ◌∷◌, length, true, false, arith}
use Rattle.ksi_mirror.proofs.ByKeys.{alone_case, before_case, behind_case, both_case, differ_case, not_so}
use Rattle.ksi_mirror.proofs.uniting.least.Goals as goal

none_there : {A : Type 0} (xs : List A) → (0 < length xs → false ≡ true) → length xs ≤ 0
none_there [] none = omega arith
none_there (x ∷ xs) none = absurd (let e = none (omega arith) in cc)

pub returns-in_default-split_first : goal.returns-in_default-split_first
returns-in_default-split_first g c =
    alone_case g.E.Keyed.key c.args.left.now c.args.right.now c.requires.left c.requires.right c.in-Some.one.now c.in-Some.one.now c.in-Some.others.now c.in-Some.others.now
    c.in-Some.ensures.cases.0 (none_there c.args.right.now c.in_default-split_first.ensures.variant.1)

pub returns-then-is_before : goal.returns-then-is_before
returns-then-is_before g c =
    before_case g.E.Keyed.key c.args.left.now c.args.right.now c.requires.left c.requires.right c.in-Some.one.now c.in-Some-split_first.two.now c.in-Some.others.now c.in-Some-split_first.further.now
    c.in-Some.ensures.cases.0 c.in-Some-split_first.ensures.cases.0 (c.is_before.ensures.0 c.if-is_before.true)

pub returns-then-is_before-2 : goal.returns-then-is_before-2
returns-then-is_before-2 g c =
    behind_case g.E.Keyed.key c.args.left.now c.args.right.now c.requires.left c.requires.right c.in-Some.one.now c.in-Some-split_first.two.now c.in-Some.others.now c.in-Some-split_first.further.now
    c.in-Some.ensures.cases.0 c.in-Some-split_first.ensures.cases.0 (c.is_before-else-is_before.ensures.0 c.if-is_before-2.true)

pub returns-then-is_same : goal.returns-then-is_same
returns-then-is_same g c =
    both_case g.E.Keyed.key c.args.left.now c.args.right.now c.requires.left c.requires.right c.in-Some.one.now c.in-Some-split_first.two.now c.in-Some.others.now c.in-Some-split_first.further.now
    c.in-Some.ensures.cases.0 c.in-Some-split_first.ensures.cases.0 (c.is_same.ensures.0 c.if-is_same.true)

pub returns-else-is_same : goal.returns-else-is_same
returns-else-is_same g c =
    differ_case g.E.Keyed.key c.args.left.now c.args.right.now c.requires.left c.requires.right c.in-Some.one.now c.in-Some-split_first.two.now c.in-Some.others.now c.in-Some-split_first.further.now
    c.in-Some.ensures.cases.0 c.in-Some-split_first.ensures.cases.0
    (not_so _ _ c.is_before.ensures c.if-is_before.false) (not_so _ _ c.is_before-else-is_before.ensures c.if-is_before-2.false) (not_so _ _ c.is_same.ensures c.if-is_same.false)
