use Rattle.std.proofs.Common.{◌≡◌, ◌+◌, ◌*◌, ◌^◌, ◌<◌, ℕ, refl, sym, ◌∙◌, arith}
use Rattle.std.proofs.lemmas.Nat.{shl-shr}
use Rattle.ksi_split.specs.Trees.{tree}
use Rattle.ksi_split.specs.Upward.{halves, whole}
use Rattle.ksi_split.proofs.Powers.{halves_quotient}
use Rattle.ksi_split.proofs.Upward.{complete, node_whole, node_tree, node_is_root, path_is, climb_up}
use Rattle.ksi_split.proofs.trees.from_below.Goals as goal

-- the part has another one behind it in some tree
whole_tree : {A : Type 0} (join : A → A → A) (leaf : ℕ → A) (k j : ℕ) → whole join leaf k j ≡ tree join leaf (j * 2 ^ k) (2 ^ k)
whole_tree join leaf k j =
    let last = (j + 1) * 2 ^ k in
    let at : halves k ((j + 1) * 2 ^ k) ≡ j + 1 = halves_quotient k ((j + 1) * 2 ^ k) ∙ shl-shr (j + 1) k in
    let lt : j < halves k ((j + 1) * 2 ^ k) = omega arith in
    sym (node_whole join leaf ((j + 1) * 2 ^ k) k j lt) ∙ node_tree join leaf ((j + 1) * 2 ^ k) k j (2 ^ k) (complete lt refl)

pub returns-clause-complete : goal.returns-clause-complete
returns-clause-complete g c = λ join leaf k j. whole_tree join leaf k j

pub returns-clause-before_last : goal.returns-clause-before_last
returns-clause-before_last g c = λ join leaf last k j lt. node_whole join leaf last k j lt

pub returns-clause-root : goal.returns-clause-root
returns-clause-root g c = λ join leaf last k small. node_is_root join leaf last k small

pub returns-clause-path : goal.returns-clause-path
returns-clause-path g c = λ join leaf last k t within small. sym (path_is join leaf last k t within small)

pub returns-clause-climbs : goal.returns-clause-climbs
returns-clause-climbs g c = λ join leaf last k t within. climb_up join leaf last k t within
