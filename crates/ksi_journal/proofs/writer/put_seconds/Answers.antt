use Rattle.std.proofs.Common.{◌+◌, ◌∷◌, ◌∙◌, ap, sym, drop}
use Rattle.std.proofs.lemmas.List.{drop_more}
use Rattle.ksi_aggtree.specs.declared.second.Second.{Second}
use Rattle.ksi_journal.proofs.Texts.{seconds_told}
use Rattle.ksi_journal.proofs.writer.put_seconds.Goals as goal

pub loop-kept-preserved : goal.loop-kept-preserved
loop-kept-preserved c =
    let more = drop_more c.args.seconds.now c.loop-kept.kept-index c.kept-item.result c.loop-kept-test.true in
    let left = more ∙ ap (λ (s : Second). s ∷ drop (c.loop-kept.kept-index + 1) c.args.seconds.now) (sym c.kept-item.is) in
    seconds_told c.loop-kept.writer c.put_second.new.writer _ c.kept-item.result _ _ left c.loop-kept.invariant c.in_ok-put_second.ensures
