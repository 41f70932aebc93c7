use Rattle.std.proofs.Common.{◌≡◌, ℕ, ◌+◌, ◌-◌, sym, ap, ◌∙◌}
use Rattle.ksi_split.specs.Powers.{IsSplit}
use Rattle.ksi_split.specs.Trees.{tree}
use Rattle.ksi_split.proofs.Powers.{split_some, split_only}
use Rattle.ksi_split.proofs.Within.{tree_one, tree_cut}
use Rattle.ksi_split.proofs.Same.{tree_same}
use Rattle.ksi_split.proofs.trees.one_tree.Goals as goal

cut_at : {A : Type 0} (join : A → A → A) (leaf : ℕ → A) (lo n k : ℕ) → IsSplit n k → tree join leaf lo n ≡ join (tree join leaf lo k) (tree join leaf (lo + k) (n - k))
cut_at join leaf lo n k h = tree_cut join leaf lo n (split_some n k h)
    ∙ ap (λ (i : ℕ). join (tree join leaf lo i) (tree join leaf (lo + i) (n - i))) (sym (split_only n k h))

pub returns-clause-one_leaf : goal.returns-clause-one_leaf
returns-clause-one_leaf g c = λ join leaf lo. tree_one join leaf lo

pub returns-clause-cut : goal.returns-clause-cut
returns-clause-cut g c = λ join leaf lo n k h. cut_at join leaf lo n k h

pub returns-clause-own_leaves : goal.returns-clause-own_leaves
returns-clause-own_leaves g c = λ join leaf other lo n some same. tree_same join leaf other lo n some same
