-- A round that is built again, item by item.
use Rattle.std.proofs.Common.{◌≡◌, ℕ, ◌+◌, ◌<◌, ◌≤◌, List, [], ◌∷◌, ◌++◌, length, take, add-one, sym, ap, ◌∙◌, arith}
use Rattle.std.proofs.Math.Seq.{take-suc}
use Rattle.std.proofs.lemmas.List.{length-take-le}
use Rattle.ksi_aggtree.specs.declared.item.Item.{Item}
use Rattle.ksi_aggtree.specs.Rounds.{item_at, most_items, no_item}

pub next_few : (others : List Item) (last : Item) (k : ℕ) → length (others ++ last ∷ []) ≡ length others + 1 → length others < most_items → k < length others + 1
    → length (take k (others ++ last ∷ [])) < most_items
next_few others last k n few below =
    let taken = length-take-le k (others ++ last ∷ []) (omega (arith, n, below)) in
    omega (arith, taken, few, below)

pub next_more : (items : List Item) (k : ℕ) (item : Item) → k < length items → item ≡ item_at items k → take k items ++ item ∷ [] ≡ take (k + 1) items
next_more items k item inside is =
    ap (λ (i : Item). take k items ++ i ∷ []) is ∙ sym (take-suc items k no_item inside) ∙ ap (λ (n : ℕ). take n items) (sym (add-one k))
