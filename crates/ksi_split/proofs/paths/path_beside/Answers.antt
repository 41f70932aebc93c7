use Rattle.std.proofs.Common.{◌≡◌, ◌+◌, ◌/◌, [], ◌∷◌, ℕ, Vec, Global, length, refl, sym, ap, ◌∙◌, arith, add-one, append-nil}
use Rattle.ksi_split.specs.Leaves.{leaf_of, TreeTo}
use Rattle.ksi_split.specs.Trees.{path_of}
use Rattle.ksi_split.specs.Upward.{halves, links_up}
use Rattle.ksi_split.specs.declared.tree_link.TreeLink.{TreeLink}
use Rattle.ksi_split.proofs.Powers.{halves_rise}
use Rattle.ksi_split.proofs.Upward.{path_is, links_next}
use Rattle.ksi_split.proofs.paths.path_beside.Goals as goal
use Rattle.ksi_split.proofs.paths.path_beside.Goals.{in-Some+in_ok-push, in_default}

pub loop-level-init : goal.loop-level-init
unfolding links_up
loop-level-init g c = record { at = refl; path = c.in_ok-path.ensures.items }

pub link_up-requires-clause-within : goal.link_up-requires-clause-within
link_up-requires-clause-within g c =
    let last = ap (λ (v : TreeTo g.row.N.Denot). v.last) c.paths.view_is in
    omega (arith, halves_rise c.loop-level.level c.args.t c.paths.inside.last (omega (arith, last, c.requires.within)), c.loop-level.invariant.at)

pub loop-level-preserved : goal.loop-level-preserved
loop-level-preserved g c =
    let joined = g.J.Joins.joined in
    let leaf = leaf_of c.paths.inside.rows.now in
    let k = c.loop-level.level in
    let inv = c.loop-level.invariant in
    record {
      at = ap (λ (i : ℕ). i / 2) inv.at ∙ ap (λ (i : ℕ). halves i c.args.t) (sym (add-one k));
      path = elim c.match-link_up.branch [
        | in-Some+in_ok-push w ↦
            ap (λ (v : Vec (TreeLink g.row.N.Denot) Global). v.items) w.path-is ∙ w.in_ok-push.ensures.items
            ∙ links_next joined leaf c.paths.inside.last k c.args.t c.loop-level.at c.loop-level.path.items (w.in-Some.link ∷ []) inv.at inv.path w.in-Some.ensures.link
        | in_default w ↦
            ap (λ (v : Vec (TreeLink g.row.N.Denot) Global). v.items) w.path-is ∙ sym (append-nil c.loop-level.path.items)
            ∙ links_next joined leaf c.paths.inside.last k c.args.t c.loop-level.at c.loop-level.path.items [] inv.at inv.path w.in_default.ensures.link
      ];
    }

pub returns : goal.returns
returns g c =
    let joined = g.J.Joins.joined in
    let rows = c.paths.inside.rows.now in
    let last = c.paths.inside.last in
    let levels = length c.paths.inside.borders.items in
    let same = ap (λ (v : TreeTo g.row.N.Denot). v.last) c.paths.view_is in
    let level : c.loop-level.level ≡ levels = omega (arith, c.len-levels.ensures, c.loop-level.auto.level-end, c.loop-level-test.false) in
    c.loop-level.invariant.path ∙ ap (λ (k : ℕ). links_up joined (leaf_of rows) last k c.args.t) level
    ∙ sym (path_is joined (leaf_of rows) last levels c.args.t (omega (arith, same, c.requires.within)) c.paths.invariant.1.enough)
    ∙ ap (λ (v : TreeTo g.row.N.Denot). path_of joined (leaf_of v.leaves) 0 c.args.t (v.last + 1)) c.paths.view_is
