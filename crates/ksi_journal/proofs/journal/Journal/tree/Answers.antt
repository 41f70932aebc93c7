use Rattle.std.proofs.Common.{List, Option, subst, sym, ap, ◌∙◌}
use Rattle.ksi_aggtree.specs.declared.item.Item.{Item}
use Rattle.ksi_aggtree.specs.Rounds.{some_items}
use Rattle.ksi_journal.specs.Journal.{root_at}
use Rattle.ksi_journal.proofs.Trees.{HasRoot, NoneAtZero, kept_tree}
use Rattle.ksi_journal.proofs.journal.Journal.tree.Goals as goal

pub returns-clause-root : goal.returns-clause-root
returns-clause-root g c =
    let now = c.args.self.now in
    let same = c.over.ensures ∙ ap some_items c.round.ensures.items in
    subst (λ (tree : Option (List Item)). HasRoot g.C.Compress.image tree (root_at now c.args.second)) (sym same)
    (kept_tree g.C.Compress.image now c.args.second c.round.ensures.journal).0

pub returns-clause-none : goal.returns-clause-none
returns-clause-none g c =
    let now = c.args.self.now in
    let same = c.over.ensures ∙ ap some_items c.round.ensures.items in
    subst (λ (tree : Option (List Item)). NoneAtZero g.C.Compress.image tree (root_at now c.args.second)) (sym same)
    (kept_tree g.C.Compress.image now c.args.second c.round.ensures.journal).1
