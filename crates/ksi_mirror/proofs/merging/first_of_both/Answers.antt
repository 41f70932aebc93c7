use Rattle.std.proofs.Common.{sym, subst}
use Rattle.ksi_mirror.proofs.MergingMirrors.{lists_items, trees_refused, roots_differ, agree_before, lists_to}
use Rattle.ksi_mirror.specs.Merging.{IsMergeRefusal}
use Rattle.ksi_mirror.proofs.merging.first_of_both.Goals as goal

pub trees-requires : goal.trees-requires
trees-requires c = lists_items c.args.one.now c.args.two.now c.mirror_is_kept.ensures c.mirror_is_kept-2.ensures c.requires.start c.args.lists.0.now c.args.lists.1.now c.requires.lists

pub returns-then-lists-roots : goal.returns-then-lists-roots
returns-then-lists-roots c =
    trees_refused c.args.one.now c.args.two.now c.mirror_is_kept.ensures c.mirror_is_kept-2.ensures c.requires.start c.args.lists.0.now c.args.lists.1.now c.trees.result c.requires.lists c.trees.ensures
    (agree_before c.args.one.now.roots c.args.two.now.roots c.args.roots.0.now c.args.roots.1.now c.args.lists.0.now.second c.requires.roots c.if-lists-roots.true)

pub returns-else-lists-roots : goal.returns-else-lists-roots
returns-else-lists-roots c =
    subst (λ refusal. IsMergeRefusal c.args.one.now c.args.two.now refusal) (sym c.conflict.ensures)
    (roots_differ c.args.one.now c.args.two.now c.mirror_is_kept.ensures c.mirror_is_kept-2.ensures c.requires.start c.args.roots.0.now c.args.roots.1.now c.requires.roots
    (lists_to c.args.one.now.lists c.args.two.now.lists c.args.lists.0.now c.args.lists.1.now c.args.roots.0.now.0 c.requires.lists c.if-lists-roots.false))
