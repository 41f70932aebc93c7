-- What stands above the items of a round.
use Rattle.std.proofs.Common.{◌≡◌, ◌∙◌, ℕ, zero, suc, ◌+◌, ◌<◌, ◌≤◌, List, [], ◌∷◌, ◌++◌, length, take, drop, slice_get, Option, Some, None, refl, sym, ap, subst, append_assoc, add-one, arith, inl, inr}
use Rattle.std.specs.Prelude.{IfSome}
use Rattle.std.specs.List.{AllByRecursion}
use Rattle.std.proofs.lemmas.Option.{slice_get_within, get_or_from_slice_get}
use Rattle.std.proofs.Math.Seq.{drop-cons, take-suc}
use Rattle.std.proofs.lemmas.List.{length-map, length-take-le}
use Rattle.ksi_split.specs.declared.tree_link.TreeLink.{TreeLink}
use Rattle.ksi_aggtree.specs.declared.chains.node.Node.{Node}
use Rattle.ksi_aggtree.specs.declared.item.Item.{Item}
use Rattle.ksi_aggtree.specs.declared.chains.link.Link.{Link}
use Rattle.ksi_aggtree.specs.declared.entries.Entry.{Entry}
use Rattle.ksi_aggtree.specs.Rounds.{item_at, leaf_level, leaf_of_place, no_item, tree_path, IsRound, most_items, highest_item}
use Rattle.ksi_aggtree.specs.Names.{IsName, meta_of}
use Rattle.ksi_aggtree.specs.Paths.{name_links, links_from, chain_of}
use Rattle.ksi_aggtree.specs.Entries.{items_of}
use Rattle.ksi_signature.specs.declared.above.Above.{Above}
use Rattle.ksi_signature.specs.Above.{IsNode, AreRoundLinks}
use Rattle.ksi_corenode.specs.declared.step.Send.{Send}
use Rattle.ksi_corenode.specs.Rows.{response_to, responses_from}

-- links of a tree stand beside imprints
links_nodes : (others : List (TreeLink Node)) (level : ℕ) → AllByRecursion (λ (link : Link). IsNode link.sibling) (links_from level others)
links_nodes [] level = tt
links_nodes (other ∷ others) level = (tt, links_nodes others _)

-- the metadata of each name is short
abbrev pub ShortMetas : Type 0
ShortMetas = (name : List ℕ) → IsName name → (1 ≤ length (meta_of name)) × (length (meta_of name) ≤ 70)

abbrev IsOther : Link → Type 0
IsOther link = IsNode link.sibling

round_links_of : ShortMetas → (name : Option (List ℕ)) (others : List (TreeLink Node)) (level : ℕ) → IfSome name IsName → length (name_links name ++ links_from level others) ≤ 17 → AreRoundLinks (name_links name ++ links_from level others)
round_links_of short None [] level is few = record { count = few; lowest = tt; others = tt }
round_links_of short None (other ∷ others) level is few = record { count = few; lowest = (inl tt, tt); others = links_nodes others _ }
round_links_of short (Some name) others level is few = record { count = few; lowest = (inr (record { side = refl; correction = refl; sibling = short name is }), tt); others = links_nodes others level }

pub round_links : ShortMetas → (image : List ℕ → List ℕ) (items : List Item) (k : ℕ) (links : List Link) →
    IfSome (item_at items k).name IsName → links ≡ chain_of image items k → length links ≤ 17 → AreRoundLinks links
round_links short image items k links named is few =
    subst AreRoundLinks (sym is)
    (round_links_of short (item_at items k).name (tree_path image items k) (leaf_of_place image items k).level
    named (subst (λ (links : List Link). length links ≤ 17) is few))

-- links and the sides of them are as many
pub entry_item : (entries : List Entry) (k : ℕ) (entry : Entry) → slice_get entries k ≡ Some entry → item_at (items_of entries) k ≡ entry.item
entry_item [] k entry is = absurd (cc is)
entry_item (e ∷ es) zero entry is = ap (λ (o : Option Entry). item_or o) is
  where
    item_or : Option Entry → Item
    item_or None = no_item
    item_or (Some entry) = entry.item
entry_item (e ∷ es) (suc k) entry is = entry_item es k entry is

-- one response less is to come
pub responses_later : (above : ℕ → Above) (sends : List Send) (entries : List Entry) (k : ℕ) (entry : Entry) → slice_get entries k ≡ Some entry →
    (sends ++ response_to entry.origin (above k)) ++ responses_from above (k + 1) (drop (k + 1) entries) ≡ sends ++ responses_from above k (drop k entries)
responses_later above sends entries k entry is =
    let rest : drop k entries ≡ entry ∷ drop (suc k) entries =
    drop-cons entries k entry (slice_get_within entries k entry is) ∙ ap (λ (e : Entry). e ∷ drop (suc k) entries) (get_or_from_slice_get entries k entry entry is) in
    append_assoc sends (response_to entry.origin (above k)) (responses_from above (k + 1) (drop (k + 1) entries))
    ∙ ap (λ (n : ℕ). sends ++ (response_to entry.origin (above k) ++ responses_from above n (drop n entries))) (add-one k)
    ∙ ap (λ (es : List Entry). sends ++ responses_from above k es) (sym rest)

-- ALL ITEMS OF A ROUND ARE ADDED TO A TREE

-- what the next one is, behind those before it
pub record IsNext (items : List Item) (k : ℕ) (item : Item) : Type 0 where
  pub level : leaf_level item ≤ highest_item
  pub few : length (take k items) < most_items
  pub more : take k items ++ item ∷ [] ≡ take (k + 1) items

pub round_next : (entries : List Entry) (k : ℕ) (entry : Entry) → IsRound (items_of entries) → slice_get entries k ≡ Some entry → IsNext (items_of entries) k entry.item
round_next entries k entry round is =
    let within : k < length entries = slice_get_within entries k entry is in
    let inside : k < length (items_of entries) = omega (arith, within, length-map entries (λ (e : Entry). e.item)) in
    let same : item_at (items_of entries) k ≡ entry.item = entry_item entries k entry is in
    record {
      level = subst (λ (item : Item). leaf_level item ≤ highest_item) same (round.low k);
      few = omega (arith, inside, round.few, length-take-le k (items_of entries) (omega (arith, inside)));
      more = ap (λ (item : Item). take k (items_of entries) ++ item ∷ []) (sym same) ∙ sym (take-suc (items_of entries) k no_item inside) ∙ ap (λ (n : ℕ). take n (items_of entries)) (sym (add-one k));
    }
