use Rattle.std.proofs.Common.{◌∙◌, sym, ap, Some, None}
use Rattle.ksi_mirror.specs.Whole.{kept_with}
use Rattle.ksi_mirror.proofs.JournalOf.{second_tree, failed_test}
use Rattle.ksi_mirror.proofs.whole_journal.second.Goals as goal

pub returns-in-None : goal.returns-in-None
returns-in-None g c =
    sym (second_tree g.C.Compress.image c.args.lists.now c.args.root.now None (failed_test _ _ c.is_zero.ensures c.if-is_zero.false) c.requires.rise c.requires.lists c.in-None.ensures)

pub returns-in_ok-items-in-Some : goal.returns-in_ok-items-in-Some
returns-in_ok-items-in-Some g c =
    ap Some (c.kept_with-in-Some.ensures ∙ ap (kept_with c.args.root.now.0 c.args.root.now.1) c.in_ok-items-in-Some.ensures)
    ∙ sym (second_tree g.C.Compress.image c.args.lists.now c.args.root.now (Some c.in-Some.items.now) (failed_test _ _ c.is_zero.ensures c.if-is_zero.false) c.requires.rise c.requires.lists c.in-Some.ensures)
