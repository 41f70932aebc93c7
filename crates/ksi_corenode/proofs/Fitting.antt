-- Items of a core's round, tested one by one.
use Rattle.std.proofs.Common.{◌≡◌, ℕ, zero, suc, ◌≤◌, ◌&&◌, leb, Bool, true, false, List, [], ◌∷◌, length, refl, ap, arith, ◌↔◌, le-leb}
use Rattle.std.specs.List.{list_all}
use Rattle.std.proofs.lemmas.Bool.{and_parts, leb-true}
use Rattle.ksi_aggtree.specs.declared.entries.Entry.{Entry}
use Rattle.ksi_aggtree.specs.Rounds.{IsRound, item_at, leaf_level, highest_item, most_items}
use Rattle.ksi_aggtree.specs.Entries.{items_of}
use Rattle.ksi_corenode.specs.Lawful.{is_submitted, is_fit, AreSubmitted}

items_length : (entries : List Entry) → length (items_of entries) ≡ length entries
items_length [] = refl
items_length (x ∷ xs) = ap suc (items_length xs)

both_true : (a b : Bool) → a ≡ true → b ≡ true → (a && b) ≡ true
both_true true b is also = also
both_true false b is also = absurd (cc is)

low_of : (entries : List Entry) → list_all is_fit entries ≡ true → (k : ℕ) → leaf_level (item_at (items_of entries) k) ≤ highest_item
low_of [] are k = omega arith
low_of (x ∷ xs) are zero =
    let parts : (is_fit x ≡ true) × (list_all is_fit xs ≡ true) = and_parts (is_fit x) (list_all is_fit xs) are in
    leb-true (leaf_level x.item) highest_item (and_parts (leb (leaf_level x.item) highest_item) (is_submitted x.origin) parts.0).0
low_of (x ∷ xs) are (suc k) = low_of xs (and_parts (is_fit x) (list_all is_fit xs) are).1 k

submitted_of : (entries : List Entry) → list_all is_fit entries ≡ true → AreSubmitted entries
submitted_of [] are = refl
submitted_of (x ∷ xs) are =
    let parts : (is_fit x ≡ true) × (list_all is_fit xs ≡ true) = and_parts (is_fit x) (list_all is_fit xs) are in
    both_true (is_submitted x.origin) (list_all (λ (entry : Entry). is_submitted entry.origin) xs)
    (and_parts (leb (leaf_level x.item) highest_item) (is_submitted x.origin) parts.0).1 (submitted_of xs parts.1)

fit_of : (entries : List Entry) → ((k : ℕ) → leaf_level (item_at (items_of entries) k) ≤ highest_item) → AreSubmitted entries → list_all is_fit entries ≡ true
fit_of [] low are = refl
fit_of (x ∷ xs) low are =
    let parts : (is_submitted x.origin ≡ true) × (list_all (λ (entry : Entry). is_submitted entry.origin) xs ≡ true) = and_parts (is_submitted x.origin) (list_all (λ (entry : Entry). is_submitted entry.origin) xs) are in
    both_true (is_fit x) (list_all is_fit xs)
    (both_true (leb (leaf_level x.item) highest_item) (is_submitted x.origin) (le-leb (leaf_level x.item) highest_item (low 0)) parts.0)
    (fit_of xs (λ k. low (suc k)) parts.1)

pub fit_round : (entries : List Entry) → length entries ≤ most_items → (list_all is_fit entries ≡ true) ↔ (IsRound (items_of entries) × AreSubmitted entries)
fit_round entries few = (
  λ are. (record { few = omega (arith, few, items_length entries); low = low_of entries are }, submitted_of entries are),
  λ both. fit_of entries both.0.low both.1,
)
