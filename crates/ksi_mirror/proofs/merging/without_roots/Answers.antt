use Rattle.std.proofs.Common.{sym, subst}
use Rattle.ksi_mirror.specs.Mirrors.{rank}
use Rattle.ksi_mirror.specs.Merging.{IsMergeRefusal}
use Rattle.ksi_mirror.proofs.MergingMirrors.{roots_differ, united_by, lists_rise_by}
use Rattle.ksi_mirror.proofs.merging.without_roots.Goals as goal

pub united-requires-clause-one : goal.united-requires-clause-one
united-requires-clause-one c = lists_rise_by c.args.one.now c.lists.result.now c.lists.ensures.mirror c.lists.ensures.lists

pub united-requires-clause-two : goal.united-requires-clause-two
united-requires-clause-two c = lists_rise_by c.args.two.now c.lists-2.result.now c.lists-2.ensures.mirror c.lists-2.ensures.lists

pub returns-in-Ok-clause-refused : goal.returns-in-Ok-clause-refused
returns-in-Ok-clause-refused c =
    subst (λ refusal. IsMergeRefusal c.args.one.now c.args.two.now refusal) (sym c.conflict.ensures)
    (roots_differ c.args.one.now c.args.two.now c.lists.ensures.mirror c.lists-2.ensures.mirror c.requires.start c.args.first.now c.args.second.now c.requires.differ
    (λ k lt. (united_by rank c.lists.result.now c.args.one.now.lists c.lists-2.result.now c.args.two.now.lists c.in-Ok.field-0.items c.lists.ensures.lists c.lists-2.ensures.lists c.in-Ok.ensures.united).agree k))
