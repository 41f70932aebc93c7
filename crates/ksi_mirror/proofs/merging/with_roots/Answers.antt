use Rattle.std.proofs.Common.{sym, subst}
use Rattle.ksi_mirror.specs.Merging.{Merges}
use Rattle.ksi_mirror.specs.Mirrors.{rank}
use Rattle.ksi_mirror.proofs.MergingMirrors.{merged_merges, lists_items, trees_refused, united_by, differ_by, lists_rise_by, agree_to}
use Rattle.ksi_mirror.proofs.merging.with_roots.Goals as goal

pub united-requires-clause-one : goal.united-requires-clause-one
united-requires-clause-one c = lists_rise_by c.args.one.now c.lists.result.now c.lists.ensures.mirror c.lists.ensures.lists

pub united-requires-clause-two : goal.united-requires-clause-two
united-requires-clause-two c = lists_rise_by c.args.two.now c.lists-2.result.now c.lists-2.ensures.mirror c.lists-2.ensures.lists

pub new-requires : goal.new-requires
new-requires c =
    (merged_merges c.args.one.now c.args.two.now c.lists.ensures.mirror c.lists-2.ensures.mirror c.requires.start _ c.start-start.ensures.start c.requires.roots
    (united_by rank c.lists.result.now c.args.one.now.lists c.lists-2.result.now c.args.two.now.lists c.in-Ok.lists.items c.lists.ensures.lists c.lists-2.ensures.lists c.in-Ok.ensures.united)).0

pub returns-in-Ok-clause-merged : goal.returns-in-Ok-clause-merged
returns-in-Ok-clause-merged c =
    subst (λ merged. Merges c.args.one.now c.args.two.now merged) (sym c.new.ensures)
    (merged_merges c.args.one.now c.args.two.now c.lists.ensures.mirror c.lists-2.ensures.mirror c.requires.start _ c.start-start.ensures.start c.requires.roots
    (united_by rank c.lists.result.now c.args.one.now.lists c.lists-2.result.now c.args.two.now.lists c.in-Ok.lists.items c.lists.ensures.lists c.lists-2.ensures.lists c.in-Ok.ensures.united)).1

pub trees-requires : goal.trees-requires
trees-requires c =
    lists_items c.args.one.now c.args.two.now c.lists.ensures.mirror c.lists-2.ensures.mirror c.requires.start c.in-Err-Fault.first.now c.in-Err-Fault.second.now
    (differ_by rank c.lists.result.now c.args.one.now.lists c.lists-2.result.now c.args.two.now.lists c.in-Err-Fault.first.now c.in-Err-Fault.second.now c.lists.ensures.lists c.lists-2.ensures.lists (rw c.in-Err-Fault.field-0-is at c.in-Err-Fault.ensures.refused))

pub returns-in-Err-Fault-clause-refused : goal.returns-in-Err-Fault-clause-refused
returns-in-Err-Fault-clause-refused c =
    trees_refused c.args.one.now c.args.two.now c.lists.ensures.mirror c.lists-2.ensures.mirror c.requires.start c.in-Err-Fault.first.now c.in-Err-Fault.second.now c.trees.result
    (differ_by rank c.lists.result.now c.args.one.now.lists c.lists-2.result.now c.args.two.now.lists c.in-Err-Fault.first.now c.in-Err-Fault.second.now c.lists.ensures.lists c.lists-2.ensures.lists (rw c.in-Err-Fault.field-0-is at c.in-Err-Fault.ensures.refused))
    c.trees.ensures (agree_to _ _ _ _ c.requires.roots)
