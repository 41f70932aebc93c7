use Rattle.std.proofs.Common.{◌≡◌, ℕ, [], ◌∷◌, ◌++◌, length, get_or, List, sym, ap, ◌∙◌, arith, below_more, length-append}
use Rattle.std.proofs.lemmas.List.{get_or_append_left}
use Rattle.std.proofs.Math.Seq.{get_or-append_seam}
use Rattle.ksi_split.specs.Stored.{zero_part}
use Rattle.ksi_split.proofs.Complete.{zero_step}
use Rattle.ksi_split.proofs.zeros.Zeros.new.Goals as goal
use Rattle.ksi_split.proofs.zeros.Zeros.new.Goals.{then-level-gt0, else-level-gt0}

pub loop-level-preserved : goal.loop-level-preserved
loop-level-preserved g c =
    let k = c.loop-level.level in
    let inv = c.loop-level.invariant in
    let xs = c.loop-level.parts.parts in
    let more = c.if-level-gt0.part ∷ [] in
    let zero_at = zero_part g.J.Joins.joined c.args.leaf in
    let part : c.if-level-gt0.part ≡ zero_at k = elim c.if-level-gt0.branch [
      | then-level-gt0 w ↦ w.part-is ∙ w.join-part.ensures ∙ zero_step g.J.Joins.joined c.args.leaf c.loop-level.part k w.if-level-gt0.true inv.last
      | else-level-gt0 w ↦ w.part-is ∙ inv.last ∙ ap zero_at (omega (arith, w.if-level-gt0.false))
    ] in
    let row : c.put.new.self.parts ≡ xs ++ more = c.put.ensures.parts ∙ ap (λ (ys : List _). ys ++ more) c.grow.ensures.parts in
    let size = ap length row in
    record {
      whole = below_more _ _
          (λ i lt. ap (λ (ys : List _). get_or ys i c.args.leaf) row ∙ get_or_append_left xs more c.args.leaf i (omega (arith, inv.many)) ∙ inv.whole i lt)
          (ap (λ (ys : List _). get_or ys k c.args.leaf) row ∙ ap (λ (i : ℕ). get_or (xs ++ more) i c.args.leaf) (sym inv.many)
          ∙ get_or-append_seam xs c.if-level-gt0.part [] c.args.leaf ∙ part);
      many = omega (arith, size, length-append xs more, inv.many);
      last = part ∙ ap zero_at (omega arith);
    }
