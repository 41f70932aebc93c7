-- Whether a fact is lawful, as a test.
use Rattle.std.proofs.Common.{◌≡◌, ℕ, zero, suc, ◌≤◌, ◌^◌, ◌&&◌, not, nat_le, nat_lt, eqb, Bool, true, false, List, [], ◌∷◌, length, is_some, if◌then◌else◌, Option, Some, None, refl, ap, ◌∙◌, arith}
use Rattle.std.specs.List.{list_all}
use Rattle.std.proofs.lemmas.Bool.{and_parts, and_from, leb-true, ltb-true, eqb-true, le-leb, lt-ltb, eq-eqb, not_from_false, false_from_ne_true}
use Rattle.ksi_aggtree.specs.declared.entries.Entry.{Entry}
use Rattle.ksi_aggtree.specs.Rounds.{item_at, leaf_level, highest_item, most_items}
use Rattle.ksi_aggtree.specs.Entries.{items_of}
use Rattle.ksi_synod.specs.Ballots.{IsBallot}
use Rattle.ksi_synod.specs.Rows.{is_older}
use Rattle.ksi_corenode.specs.declared.fact.What.{What}
use Rattle.ksi_corenode.specs.declared.fact.What.TheVariants.{Sealed, Tried, Promised, Cast, Holds}
use Rattle.ksi_corenode.specs.declared.fact.Fact.{Fact}
use Rattle.ksi_corenode.specs.Facts.{StableState}
use Rattle.ksi_corenode.specs.Owners.{owner_of, StoresOwned}
use Rattle.ksi_corenode.specs.Lawful.{is_submitted, is_fit, stored_by, AreSubmitted, IsLawful, MayStore}
use Rattle.ksi_nodestore.specs.FactReading.{is_ballot, is_lawful, may_store, next_fact, stores_owned, where_lawful}
use Rattle.ksi_nodestore.specs.Texts.{IsTextOf}
use Rattle.ksi_nodestore.specs.TextReading.{fact_at}
use Rattle.ksi_nodestore.proofs.Spelled.{fact_again}

-- ITEMS OF A ROUND

pub items_length : (entries : List Entry) → length (items_of entries) ≡ length entries
items_length [] = refl
items_length (x ∷ xs) = ap suc (items_length xs)

low_of : (entries : List Entry) → list_all is_fit entries ≡ true → (k : ℕ) → leaf_level (item_at (items_of entries) k) ≤ highest_item
low_of [] are k = omega arith
low_of (x ∷ xs) are zero = leb-true (leaf_level x.item) highest_item (and_parts (nat_le (leaf_level x.item) highest_item) (is_submitted x.origin) (and_parts (is_fit x) (list_all is_fit xs) are).0).0
low_of (x ∷ xs) are (suc k) = low_of xs (and_parts (is_fit x) (list_all is_fit xs) are).1 k

submitted_of : (entries : List Entry) → list_all is_fit entries ≡ true → AreSubmitted entries
submitted_of [] are = refl
submitted_of (x ∷ xs) are =
    let parts : (is_fit x ≡ true) × (list_all is_fit xs ≡ true) = and_parts (is_fit x) (list_all is_fit xs) are in
    and_from (is_submitted x.origin) (list_all (λ (entry : Entry). is_submitted entry.origin) xs)
    (and_parts (nat_le (leaf_level x.item) highest_item) (is_submitted x.origin) parts.0).1 (submitted_of xs parts.1)

fit_of : (entries : List Entry) → ((k : ℕ) → leaf_level (item_at (items_of entries) k) ≤ highest_item) → AreSubmitted entries → list_all is_fit entries ≡ true
fit_of [] low are = refl
fit_of (x ∷ xs) low are =
    let parts : (is_submitted x.origin ≡ true) × (list_all (λ (entry : Entry). is_submitted entry.origin) xs ≡ true) = and_parts (is_submitted x.origin) (list_all (λ (entry : Entry). is_submitted entry.origin) xs) are in
    and_from (is_fit x) (list_all is_fit xs)
    (and_from (nat_le (leaf_level x.item) highest_item) (is_submitted x.origin) (le-leb (leaf_level x.item) highest_item (low 0)) parts.0)
    (fit_of xs (λ k. low (suc k)) parts.1)

-- WHAT MAY BE STORED

ballot_tested : (ballot : ℕ) → IsBallot ballot → is_ballot ballot ≡ true
ballot_tested ballot is = and_from (nat_le 16 ballot) (nat_lt ballot (2 ^ 36)) (le-leb 16 ballot is.0) (lt-ltb ballot (2 ^ 36) is.1)

ballot_known : (ballot : ℕ) → is_ballot ballot ≡ true → IsBallot ballot
ballot_known ballot is = let both = and_parts (nat_le 16 ballot) (nat_lt ballot (2 ^ 36)) is in (leb-true 16 ballot both.0, ltb-true ballot (2 ^ 36) both.1)

is_not : (b : Bool) → not b ≡ true → b ≡ false
is_not true is = absurd (cc is)
is_not false is = refl

may_tested : (s : StableState) (what : What) → MayStore s what → may_store s what ≡ true
may_tested s (Sealed items) may =
    let few : length items ≤ most_items = omega (arith, may.1.few, items_length items) in
    and_from (not (is_some s.sealed)) (nat_le (length items) most_items && list_all is_fit items) (not_from_false (is_some s.sealed) may.0)
    (and_from (nat_le (length items) most_items) (list_all is_fit items) (le-leb (length items) most_items few) (fit_of items may.1.low may.2))
may_tested s (Tried ballot) may =
    and_from (is_some s.sealed) (nat_lt s.tried ballot && is_ballot ballot) may.0
    (and_from (nat_lt s.tried ballot) (is_ballot ballot) (lt-ltb s.tried ballot may.1) (ballot_tested ballot may.2))
may_tested s (Promised ballot) may = and_from (nat_lt s.promised ballot) (is_ballot ballot) (lt-ltb s.promised ballot may.0) (ballot_tested ballot may.1)
may_tested s (Cast vote) may =
    and_from (eqb vote.ballot s.promised) (is_older s.vote vote.ballot && is_ballot vote.ballot) (eq-eqb vote.ballot s.promised may.0)
    (and_from (is_older s.vote vote.ballot) (is_ballot vote.ballot) may.1 (ballot_tested vote.ballot may.2))
may_tested s (Holds root) may = not_from_false (is_some s.held) may

may_known : (s : StableState) (what : What) → may_store s what ≡ true → MayStore s what
may_known s (Sealed items) is =
    let one = and_parts (not (is_some s.sealed)) (nat_le (length items) most_items && list_all is_fit items) is in
    let two = and_parts (nat_le (length items) most_items) (list_all is_fit items) one.1 in
    let few = leb-true (length items) most_items two.0 in
    (is_not (is_some s.sealed) one.0, record { few = omega (arith, few, items_length items); low = low_of items two.1 }, submitted_of items two.1)
may_known s (Tried ballot) is =
    let one = and_parts (is_some s.sealed) (nat_lt s.tried ballot && is_ballot ballot) is in
    let two = and_parts (nat_lt s.tried ballot) (is_ballot ballot) one.1 in
    (one.0, ltb-true s.tried ballot two.0, ballot_known ballot two.1)
may_known s (Promised ballot) is =
    let one = and_parts (nat_lt s.promised ballot) (is_ballot ballot) is in
    (ltb-true s.promised ballot one.0, ballot_known ballot one.1)
may_known s (Cast vote) is =
    let one = and_parts (eqb vote.ballot s.promised) (is_older s.vote vote.ballot && is_ballot vote.ballot) is in
    let two = and_parts (is_older s.vote vote.ballot) (is_ballot vote.ballot) one.1 in
    (eqb-true vote.ballot s.promised one.0, two.0, ballot_known vote.ballot two.1)
may_known s (Holds root) is = is_not (is_some s.held) is

owned_tested : (cores : ℕ) (what : What) → StoresOwned cores what → stores_owned cores what ≡ true
owned_tested cores (Sealed items) owned = refl
owned_tested cores (Tried ballot) owned = lt-ltb (owner_of ballot) cores owned
owned_tested cores (Promised ballot) owned = lt-ltb (owner_of ballot) cores owned
owned_tested cores (Cast vote) owned = lt-ltb (owner_of vote.ballot) cores owned
owned_tested cores (Holds root) owned = refl

owned_known : (cores : ℕ) (what : What) → stores_owned cores what ≡ true → StoresOwned cores what
owned_known cores (Sealed items) is = tt
owned_known cores (Tried ballot) is = ltb-true (owner_of ballot) cores is
owned_known cores (Promised ballot) is = ltb-true (owner_of ballot) cores is
owned_known cores (Cast vote) is = ltb-true (owner_of vote.ballot) cores is
owned_known cores (Holds root) is = tt

pub lawful_tested : (cores start : ℕ) (s : StableState) (fact : Fact) → IsLawful cores start s fact → is_lawful cores start s fact ≡ true
lawful_tested cores start s fact is =
    and_from (nat_le start fact.second) (nat_lt fact.second (2 ^ 63) && (stores_owned cores fact.what && may_store s fact.what)) (le-leb start fact.second is.from)
    (and_from (nat_lt fact.second (2 ^ 63)) (stores_owned cores fact.what && may_store s fact.what) (lt-ltb fact.second (2 ^ 63) is.below)
    (and_from (stores_owned cores fact.what) (may_store s fact.what) (owned_tested cores fact.what is.owned) (may_tested s fact.what is.what)))

pub lawful_known : (cores start : ℕ) (s : StableState) (fact : Fact) → is_lawful cores start s fact ≡ true → IsLawful cores start s fact
lawful_known cores start s fact is =
    let one = and_parts (nat_le start fact.second) (nat_lt fact.second (2 ^ 63) && (stores_owned cores fact.what && may_store s fact.what)) is in
    let two = and_parts (nat_lt fact.second (2 ^ 63)) (stores_owned cores fact.what && may_store s fact.what) one.1 in
    let three = and_parts (stores_owned cores fact.what) (may_store s fact.what) two.1 in
    record { from = leb-true start fact.second one.0; below = ltb-true fact.second (2 ^ 63) two.0; owned = owned_known cores fact.what three.0; what = may_known s fact.what three.1 }

-- THE NEXT FACT

-- what is spelled and lawful is the next
pub next_is : (cores start : ℕ) (facts : List Fact) (fact : Fact) (content : List ℕ) → IsTextOf fact content → IsLawful cores start (stored_by facts fact.second) fact → next_fact cores start facts content ≡ Some fact
next_is cores start facts fact content text lawful =
    ap (λ (found : Option Fact). where_lawful cores start facts found) (fact_again fact content text)
    ∙ ap (λ (b : Bool). if b then Some fact else None) (lawful_tested cores start (stored_by facts fact.second) fact lawful)

-- what is spelled and not lawful is none
pub next_none : (cores start : ℕ) (facts : List Fact) (fact : Fact) (content : List ℕ) → fact_at content ≡ Some fact → (IsLawful cores start (stored_by facts fact.second) fact → ⊥) → next_fact cores start facts content ≡ None
next_none cores start facts fact content read unlawful =
    let no : is_lawful cores start (stored_by facts fact.second) fact ≡ false = false_from_ne_true (is_lawful cores start (stored_by facts fact.second) fact) (λ is. unlawful (lawful_known cores start (stored_by facts fact.second) fact is)) in
    ap (λ (found : Option Fact). where_lawful cores start facts found) read ∙ ap (λ (b : Bool). if b then Some fact else None) no
