use Rattle.std.proofs.Common.{◌+◌, ◌∷◌, ◌∙◌, ap, sym, drop}
use Rattle.std.proofs.lemmas.List.{drop_more}
use Rattle.ksi_mirror.specs.declared.sealed_list.SealedList.{SealedList}
use Rattle.ksi_mirror.proofs.Texts.{lists_told}
use Rattle.ksi_mirror.proofs.writer.put_lists.Goals as goal

pub lists-preserved : goal.lists-preserved
lists-preserved c =
    let more = drop_more c.args.lists.now c.lists.one-index c.one-item.result c.lists-test.true in
    let left = more ∙ ap (λ (s : SealedList). s ∷ drop (c.lists.one-index + 1) c.args.lists.now) (sym c.one-item.is) in
    lists_told c.lists.writer c.put_list.new.writer _ c.one-item.result _ _ left c.lists.invariant c.in_ok-put_list.ensures
