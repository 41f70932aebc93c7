use Rattle.std.proofs.Common.{List, ◌++◌, length, ap, ◌∙◌, ℕ}
use Rattle.std.proofs.lemmas.List.{drop-replicate}
use Rattle.ksi_aggtree.proofs.name.filled.Goals as goal

pub returns : goal.returns
returns c =
    ap (λ (front : List ℕ). front ++ c.split_at_mut-front.result.1.now) c.copy_from_slice.ensures.after
    ∙ ap (λ (behind : List ℕ). c.args.bytes.now ++ behind) (c.split_at_mut-front.ensures.back ∙ drop-replicate (length c.args.bytes.now) 64 0)
