-- Items with where they came from, as lists of origins and of items.
use Rattle.std.proofs.Common.{◌≡◌, ℕ, zero, suc, ◌+◌, ◌<◌, get_or, sym, take, add-one, ◌∙◌, ◌++◌, List, [], ◌∷◌, length, map, Bool, ◌||◌, Option, Some, None, refl, ap, arith}
use Rattle.std.specs.List.{list_any}
use Rattle.ksi_aggtree.specs.declared.chains.node.Node.{Node}
use Rattle.ksi_aggtree.specs.declared.item.Item.{Item}
use Rattle.ksi_aggtree.specs.declared.entries.Origin.{Origin}
use Rattle.ksi_aggtree.specs.declared.entries.Entry.{Entry}
use Rattle.ksi_aggtree.specs.Entries.{items_of, is_from, has_from, entries_of, candidate_of}
use Rattle.ksi_imprint.specs.Imprints.{zero_imprint}
use Rattle.ksi_aggtree.specs.Rounds.{item_at, root_of}
use Rattle.std.specs.Prelude.{slice_get}
use Rattle.std.proofs.lemmas.Option.{slice_get_within, get_or_from_slice_get}
use Rattle.std.proofs.Math.Seq.{take-suc}

abbrev pub beside : Origin → Item → Entry
beside origin item = record { origin = origin; item = item }

pub beside_origins : (origins : List Origin) (items : List Item) → length origins ≡ length items → map (λ (entry : Entry). entry.origin) (entries_of origins items) ≡ origins
beside_origins [] items e = refl
beside_origins (o ∷ os) [] e = absurd (omega (arith, e))
beside_origins (o ∷ os) (x ∷ xs) e = ap (λ (others : List Origin). o ∷ others) (beside_origins os xs (omega (arith, e)))

pub beside_items : (origins : List Origin) (items : List Item) → length origins ≡ length items → items_of (entries_of origins items) ≡ items
beside_items [] [] e = refl
beside_items [] (x ∷ xs) e = absurd (omega (arith, e))
beside_items (o ∷ os) [] e = refl
beside_items (o ∷ os) (x ∷ xs) e = ap (λ (others : List Item). x ∷ others) (beside_items os xs (omega (arith, e)))

pub beside_count : (origins : List Origin) (items : List Item) → length origins ≡ length items → length (entries_of origins items) ≡ length items
beside_count [] [] e = refl
beside_count [] (x ∷ xs) e = absurd (omega (arith, e))
beside_count (o ∷ os) [] e = refl
beside_count (o ∷ os) (x ∷ xs) e = ap suc (beside_count os xs (omega (arith, e)))

pub beside_more : (origins : List Origin) (items : List Item) (o : Origin) (x : Item) → length origins ≡ length items
    → entries_of (origins ++ o ∷ []) (items ++ x ∷ []) ≡ entries_of origins items ++ beside o x ∷ []
beside_more [] [] o x e = refl
beside_more [] (y ∷ ys) o x e = absurd (omega (arith, e))
beside_more (p ∷ ps) [] o x e = absurd (omega (arith, e))
beside_more (p ∷ ps) (y ∷ ys) o x e = ap (λ (others : List Entry). beside p y ∷ others) (beside_more ps ys o x (omega (arith, e)))

pub beside_from : (aggregator : ℕ) (origins : List Origin) (items : List Item) → length origins ≡ length items → has_from aggregator (entries_of origins items) ≡ list_any (is_from aggregator) origins
beside_from aggregator [] items e = refl
beside_from aggregator (o ∷ os) [] e = absurd (omega (arith, e))
beside_from aggregator (o ∷ os) (x ∷ xs) e = ap (λ (others : Bool). is_from aggregator o || others) (beside_from aggregator os xs (omega (arith, e)))

pub beside_entry : (origins : List Origin) (items : List Item) (k : ℕ) (origin : Origin) → length origins ≡ length items → k < length items → origin ≡ get_or origins k origin
    → slice_get (entries_of origins items) k ≡ Some (beside origin (item_at items k))
beside_entry [] [] k origin e lt of = absurd (omega (arith, lt))
beside_entry [] (x ∷ xs) k origin e lt of = absurd (omega (arith, e))
beside_entry (o ∷ os) [] k origin e lt of = absurd (omega (arith, e))
beside_entry (o ∷ os) (x ∷ xs) zero origin e lt of = ap (λ (o : Origin). Some (beside o x)) (sym of)
beside_entry (o ∷ os) (x ∷ xs) (suc k) origin e lt of = beside_entry os xs k origin (omega (arith, e)) (omega (arith, lt)) of

-- the imprint of a node, the zero imprint where there is none
abbrev pub imprint_or : Option Node → List ℕ
imprint_or None = zero_imprint
imprint_or (Some node) = node.imprint

pub imprint_candidate : (image : List ℕ → List ℕ) (entries : List Entry) → imprint_or (root_of image (items_of entries)) ≡ candidate_of image entries
imprint_candidate image [] = refl
imprint_candidate image (x ∷ xs) = refl

-- one more of the first entries
pub take_next : (entries : List Entry) (k : ℕ) (entry : Entry) → slice_get entries k ≡ Some entry → take (k + 1) entries ≡ take k entries ++ entry ∷ []
take_next entries k entry is =
    ap (λ (n : ℕ). take n entries) (add-one k) ∙ take-suc entries k entry (slice_get_within entries k entry is)
    ∙ ap (λ (e : Entry). take k entries ++ e ∷ []) (get_or_from_slice_get entries k entry entry is)
