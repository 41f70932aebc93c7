use Rattle.std.proofs.Common.{[], ◌∷◌, codes, length}
use Rattle.std.specs.Fmt.{decimal}
use Rattle.std.proofs.lemmas.Result.{on_ok_weaker}
use Rattle.ksi_texts.specs.Text.{pairs_rows}
use Rattle.ksi_texts.proofs.RowLemmas.{then_rows}
use Rattle.ksi_texts.proofs.publications.put_publications.Goals as goal

pub returns : goal.returns
returns c =
    on_ok_weaker _ (then_rows _ _ _ ((codes "publications file with" ∷ decimal (length c.args.pairs.now) ∷ codes "records" ∷ []) ∷ []) (pairs_rows c.args.pairs.now) c.in_ok-put.ensures) c.put_pairs.ensures
