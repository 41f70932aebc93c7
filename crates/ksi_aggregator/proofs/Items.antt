-- The items of a round: reading one of them, and what they are below a response.
use Rattle.std.proofs.Common.{◌≡◌, ℕ, zero, suc, ◌+◌, ◌≤◌, ◌++◌, List, [], ◌∷◌, length, drop, take, Bool, true, false, ◌||◌, Option, Some, None, refl, ap, sym, subst, append_assoc, ◌∙◌, arith, ◌⊎◌, inl, inr}
use Rattle.std.specs.Prelude.{slice_get, max, IfSome}
use Rattle.std.specs.List.{AllByRecursion}
use Rattle.std.proofs.lemmas.Option.{none-some}
use Rattle.std.proofs.lemmas.Bool.{false≢true}
use Rattle.ksi_split.specs.declared.tree_link.TreeLink.{TreeLink}
use Rattle.ksi_aggtree.specs.declared.chains.node.Node.{Node}
use Rattle.ksi_aggtree.specs.declared.item.Item.{Item}
use Rattle.ksi_aggtree.specs.declared.chains.link.Link.{Link}
use Rattle.ksi_aggtree.specs.declared.entries.Entry.{Entry}
use Rattle.ksi_aggtree.specs.Names.{IsName, meta_of}
use Rattle.ksi_aggtree.specs.Rounds.{item_at, leaf_of_place, tree_path}
use Rattle.ksi_aggtree.specs.Paths.{name_links, links_from, chain_of}
use Rattle.ksi_signature.specs.Issued.{own_chain}
use Rattle.ksi_aggtree.specs.Entries.{items_of}
use Rattle.ksi_signature.specs.Above.{IsNode, AreRoundLinks}
use Rattle.ksi_signature.specs.declared.above.Above.{Above}
use Rattle.ksi_aggregator.specs.declared.step.Send.{Send}
use Rattle.ksi_aggregator.specs.Responses.{is_lower, has_lower, told_to, chain_at, below, responses_from}

-- an item that is read
pub read_item : (entries : List Entry) (k : ℕ) (entry : Entry) → slice_get entries k ≡ Some entry → item_at (items_of entries) k ≡ entry.item
read_item [] k entry e = absurd (none-some entry e)
read_item (x ∷ xs) zero entry e = ap (λ (o : Option Entry). item_or o) e
  where
    item_or : Option Entry → Item
    item_or None = entry.item
    item_or (Some y) = y.item
read_item (x ∷ xs) (suc k) entry e = read_item xs k entry e

-- from an item on, it stands first
pub drop_read : (entries : List Entry) (k : ℕ) (entry : Entry) → slice_get entries k ≡ Some entry → drop k entries ≡ entry ∷ drop (suc k) entries
drop_read [] k entry e = absurd (none-some entry e)
drop_read (x ∷ xs) zero entry e = ap (λ (o : Option Entry). first_or o) e
  where
    first_or : Option Entry → List Entry
    first_or None = x ∷ xs
    first_or (Some y) = y ∷ xs
drop_read (x ∷ xs) (suc k) entry e = drop_read xs k entry e

-- an item of a lower aggregator is one of those that are there
pub lower_read : (entries : List Entry) (k : ℕ) (entry : Entry) → slice_get entries k ≡ Some entry → is_lower entry.origin ≡ true → has_lower entries ≡ true
lower_read [] k entry e lower = absurd (none-some entry e)
lower_read (x ∷ xs) zero entry e lower = first (is_lower x.origin) (ap (λ (o : Option Entry). lower_or o) e ∙ lower)
  where
    lower_or : Option Entry → Bool
    lower_or None = false
    lower_or (Some y) = is_lower y.origin

    first : (b : Bool) → b ≡ true → (b || has_lower xs) ≡ true
    first true h = refl
    first false h = absurd (false≢true h)
lower_read (x ∷ xs) (suc k) entry e lower = later (is_lower x.origin) (lower_read xs k entry e lower)
  where
    later : (b : Bool) → has_lower xs ≡ true → (b || has_lower xs) ≡ true
    later true h = refl
    later false h = h

-- the items up to one that is no lower aggregator's have none of these, where those before it have none
pub lower_next : (entries : List Entry) (k : ℕ) (entry : Entry) → slice_get entries k ≡ Some entry → is_lower entry.origin ≡ false → has_lower (take k entries) ≡ false → has_lower (take (suc k) entries) ≡ false
lower_next [] k entry e other before = refl
lower_next (x ∷ xs) zero entry e other before = first (is_lower x.origin) (ap (λ (o : Option Entry). lower_or o) e ∙ other)
  where
    lower_or : Option Entry → Bool
    lower_or None = false
    lower_or (Some y) = is_lower y.origin

    first : (b : Bool) → b ≡ false → (b || false) ≡ false
    first true h = h
    first false h = refl
lower_next (x ∷ xs) (suc k) entry e other before = later (is_lower x.origin) before (lower_next xs k entry e other)
  where
    later : (b : Bool) → (b || has_lower (take k xs)) ≡ false → (has_lower (take k xs) ≡ false → has_lower (take (suc k) xs) ≡ false) → (b || has_lower (take (suc k) xs)) ≡ false
    later true h next = h
    later false h next = next h

-- above an item's leaf the links stand beside imprints
nodes_from : (level : ℕ) (others : List (TreeLink Node)) → AllByRecursion (λ (link : Link). IsNode link.sibling) (links_from level others)
nodes_from level [] = tt
nodes_from level (s ∷ others) = (tt, nodes_from (max level s.sibling.level + 1) others)

-- the metadata of each name is some bytes, but few
abbrev pub AreShort : Type 0
AreShort = (name : List ℕ) → IsName name → (1 ≤ length (meta_of name)) × (length (meta_of name) ≤ 70)

links_with : AreShort → (name : Option (List ℕ)) (level : ℕ) (others : List (TreeLink Node)) → IfSome name IsName → length (name_links name ++ links_from level others) ≤ 17 → AreRoundLinks (name_links name ++ links_from level others)
links_with short None level [] is few = record { count = few; lowest = tt; others = tt }
links_with short None level (s ∷ others) is few = record { count = few; lowest = (inl tt, tt); others = nodes_from (max level s.sibling.level + 1) others }
links_with short (Some name) level others is few = record { count = few; lowest = (inr (record { side = refl; correction = refl; sibling = short name is }), tt); others = nodes_from level others }

-- the chain of an item is links of a round
pub round_links : AreShort → (image : List ℕ → List ℕ) (items : List Item) (k : ℕ) (links : List Link)
    → links ≡ chain_of image items k → IfSome (item_at items k).name IsName → length links ≤ 17 → AreRoundLinks links
round_links short image items k links is named few =
    subst AreRoundLinks (sym is)
    (links_with short (item_at items k).name (leaf_of_place image items k).level (tree_path image items k) named (subst (λ (links : List Link). length links ≤ 17) is few))

-- an item among those there are and one more is one of these, or the one more
pub read_more : (xs : List Entry) (x : Entry) (k : ℕ) (y : Entry) → slice_get (xs ++ x ∷ []) k ≡ Some y → (slice_get xs k ≡ Some y) ⊎ ((k ≡ length xs) × (Some x ≡ Some y))
read_more [] x zero y e = inr (refl, e)
read_more [] x (suc k) y e = absurd (none-some y e)
read_more (z ∷ zs) x zero y e = inl e
read_more (z ∷ zs) x (suc k) y e = elim (read_more zs x k y e) [ inl h ↦ inl h | inr h ↦ inr (ap suc h.0, h.1) ]

-- the next response goes behind those before it
pub next_response : (image : List ℕ → List ℕ) (above : Above) (entries : List Entry) (k : ℕ) (entry : Entry) (sends more whole : List Send)
    → slice_get entries k ≡ Some entry → more ≡ sends ++ told_to entry.origin (below image above (items_of entries) k)
    → sends ++ responses_from image k above (items_of entries) (drop k entries) ≡ whole
    → more ++ responses_from image (k + 1) above (items_of entries) (drop (k + 1) entries) ≡ whole
next_response image above entries k entry sends more whole at put before =
    let next : suc k ≡ k + 1 = omega arith in
    let told = told_to entry.origin (below image above (items_of entries) k) in
    subst (λ (j : ℕ). more ++ responses_from image j above (items_of entries) (drop j entries) ≡ whole) next
    (ap (λ (xs : List Send). xs ++ responses_from image (suc k) above (items_of entries) (drop (suc k) entries)) put
    ∙ append_assoc sends told (responses_from image (suc k) above (items_of entries) (drop (suc k) entries))
    ∙ ap (λ (xs : List Entry). sends ++ responses_from image k above (items_of entries) xs) (sym (drop_read entries k entry at))
    ∙ before)

-- an item and links that are item k and its chain
pub chain_like : (image : List ℕ → List ℕ) (items : List Item) (k : ℕ) (item : Item) (links : List Link) → item ≡ item_at items k → links ≡ chain_of image items k → own_chain item.imprint links ≡ chain_at image items k
chain_like image items k item links same is =
    ap (λ (x : Item). own_chain x.imprint links) same ∙ ap (λ (ls : List Link). own_chain (item_at items k).imprint ls) is
