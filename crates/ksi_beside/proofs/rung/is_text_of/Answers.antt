use Rattle.std.proofs.Common.{List, ℕ, ◌++◌, ap, ◌∙◌}
use Rattle.std.specs.Str.{bytes_eq}
use Rattle.ksi_aggtree.specs.Nodes.{other_bytes}
use Rattle.ksi_beside.proofs.Strings.{level_differs, level_same}
use Rattle.ksi_beside.proofs.rung.is_text_of.Goals as goal

pub returns-then-level-parts : goal.returns-then-level-parts
returns-then-level-parts c = let p = c.args.parts.now in level_differs c.args.left.now c.args.right.now p.left (other_bytes p.other) c.args.level p.level c.if-level-parts.true

pub returns : goal.returns
returns c =
    let p = c.args.parts.now in
    let left = c.as_slice-first.ensures ∙ c.bytes.ensures.value in
    c.are_together.ensures
    ∙ ap (λ (x : List ℕ). bytes_eq (c.args.left.now ++ c.args.right.now) (x ++ c.bytes-2.result.now)) left
    ∙ ap (λ (x : List ℕ). bytes_eq (c.args.left.now ++ c.args.right.now) (p.left ++ x)) c.bytes-2.ensures.bytes
    ∙ level_same c.args.left.now c.args.right.now p.left (other_bytes p.other) c.args.level p.level c.if-level-parts.false
