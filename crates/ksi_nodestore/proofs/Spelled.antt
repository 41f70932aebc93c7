-- What is spelled is read again.
use Rattle.std.specs.Int.{w32, w64, from_be_bytes, to_be_bytes}
use Rattle.std.specs.List.{All, flat_map}
use Rattle.std.proofs.Common.{◌≡◌, ℕ, ◌≤◌, ◌<◌, ◌^◌, ◌==◌, ◌&&◌, nat_le, Bool, true, false, if◌then◌else◌, List, [], ◌∷◌, ◌++◌, length, take, drop, slice_index, option_map, Option, Some, None, IfSome, Ok, refl, ◌∙◌, ap, arith, append_assoc, length-append}
use Rattle.std.proofs.lemmas.Nat.{from_be_bytes-to_be_bytes_4, from_be_bytes-to_be_bytes_8}
use Rattle.std.proofs.lemmas.List.{take_at, drop_at}
use Rattle.std.proofs.lemmas.List.Elements.{All-head, All-tail}
use Rattle.std.proofs.lemmas.Bool.Decides.{nat_tests}
use Rattle.ksi_imprint.specs.Imprints.{IsImprint}
use Rattle.ksi_imprint.specs.Reading.{imprint_at}
use Rattle.ksi_aggtree.specs.Names.{IsName}
use Rattle.ksi_aggtree.specs.declared.item.Item.{Item}
use Rattle.ksi_aggtree.specs.declared.entries.Entry.{Entry}
use Rattle.ksi_aggtree.specs.declared.entries.Origin.{Origin}
use Rattle.ksi_aggtree.specs.declared.entries.Origin.TheVariants as origins
use Rattle.ksi_corenode.specs.declared.fact.What.{What}
use Rattle.ksi_corenode.specs.declared.fact.What.TheVariants.{Sealed, Tried, Promised, Cast, Holds}
use Rattle.ksi_corenode.specs.declared.fact.Fact.{Fact}
use Rattle.ksi_corenode.specs.Facts.{fact_of}
use Rattle.ksi_corenode.specs.Lawful.{is_submitted}
use Rattle.ksi_nodestore.specs.Texts.{name_text, number_of, entry_text, what_text, tag_of, fact_text, IsSpelled, FitsWhat, IsTextOf, IsReadOf}
use Rattle.ksi_nodestore.specs.TextReading.{is_name, name_in, name_at, entry_of, entry_behind, entry_at, more_entries, entries_at, vote_of, root_of, what_at, fact_at}

imprint_again : (imprint : List ℕ) → IsImprint imprint → imprint_at imprint ≡ Ok imprint
imprint_again [] is = absurd (omega (arith, is.size))
imprint_again (algorithm ∷ digest) is = let first : algorithm ≡ 1 = is.algorithm in let size : length digest ≡ 32 = omega (arith, is.size) in grind (arith, nat_tests)

name_there : (name more : List ℕ) → IsName name → nat_le (length name) (length (name ++ more)) && is_name name ≡ true
name_there name more is =
    let some = is.some in let few = is.few in let each = is.each in
    let within : length name ≤ length (name ++ more) = omega (arith, length-append name more) in
    grind (arith, nat_tests)

not_empty : (name : List ℕ) → 1 ≤ length name → (length name == 0) ≡ false
not_empty name some = grind (arith, nat_tests)

name_again : (name : Option (List ℕ)) (more : List ℕ) → IfSome name IsName → name_at (slice_index (name_text name ++ more) 0) (drop 1 (name_text name ++ more)) ≡ Some name
name_again None more is = refl
name_again (Some name) more is =
    let front : take (length name) (name ++ more) ≡ name = take_at name more (length name) refl in
    ap (λ (b : Bool). if b then Some None else name_in (length name) (name ++ more)) (not_empty name is.some)
    ∙ ap (λ (l : List ℕ). if nat_le (length name) (length (name ++ more)) && is_name l then Some (Some l) else None) front
    ∙ ap (λ (b : Bool). if b then Some (Some name) else None) (name_there name more is)

behind_again : (from level : ℕ) (imprint : List ℕ) (name : Option (List ℕ)) (more : List ℕ) → IsImprint imprint → IfSome name IsName
    → entry_behind from (imprint ++ (level ∷ (name_text name ++ more))) ≡ Some (record { origin = origins.Aggregator from; item = record { imprint = imprint; level = level; name = name } })
behind_again from level imprint name more is named =
    let rest = level ∷ (name_text name ++ more) in
    let front : take 33 (imprint ++ rest) ≡ imprint = take_at imprint rest 33 is.size in
    let back : drop 33 (imprint ++ rest) ≡ rest = drop_at imprint rest 33 is.size in
    (λ i. entry_of from (imprint_at (front i)) (slice_index (back i) 0) (name_at (slice_index (back i) 1) (drop 2 (back i))))
    ∙ (λ i. entry_of from (imprint_again imprint is i) level (name_again name more named i))

parts_again : (from level : ℕ) (imprint : List ℕ) (name : Option (List ℕ)) (more : List ℕ) → from < 2 ^ 32 → IsImprint imprint → IfSome name IsName → 2 ≤ length (level ∷ (name_text name ++ more))
    → entry_at (to_be_bytes w32 from ++ (imprint ++ (level ∷ (name_text name ++ more)))) ≡ Some (record { origin = origins.Aggregator from; item = record { imprint = imprint; level = level; name = name } })
unfolding entry_at
parts_again from level imprint name more fits is named two =
    let rest = imprint ++ (level ∷ (name_text name ++ more)) in
    let size : 35 ≤ length rest = omega (arith, length-append imprint (level ∷ (name_text name ++ more)), is.size) in
    let there : nat_le 39 (length (to_be_bytes w32 from ++ rest)) ≡ true = grind (arith, nat_tests) in
    ap (λ (b : Bool). if b then entry_behind (from_be_bytes w32 (to_be_bytes w32 from)) rest else None) there
    ∙ ap (λ (n : ℕ). entry_behind n rest) (from_be_bytes-to_be_bytes_4 from fits)
    ∙ behind_again from level imprint name more is named

two_there : (level : ℕ) (name : Option (List ℕ)) (more : List ℕ) → 2 ≤ length (level ∷ (name_text name ++ more))
two_there level None more = omega arith
two_there level (Some name) more = omega arith

entry_apart : (four imprint name more : List ℕ) (level : ℕ) → (four ++ (imprint ++ level ∷ name)) ++ more ≡ four ++ (imprint ++ (level ∷ (name ++ more)))
entry_apart four imprint name more level = append_assoc four (imprint ++ level ∷ name) more ∙ ap (λ (l : List ℕ). four ++ l) (append_assoc imprint (level ∷ name) more)

pub entry_again : (entry : Entry) (more : List ℕ) → IsSpelled entry → entry_at (entry_text entry ++ more) ≡ Some entry
entry_again entry more is = of_origin entry.origin entry.item is.submitted is.number is.imprint is.name
  where
    of_origin : (origin : Origin) (item : Item) → is_submitted origin ≡ true → number_of origin < 2 ^ 32 → IsImprint item.imprint → IfSome item.name IsName
        → entry_at (entry_text (record { origin = origin; item = item }) ++ more) ≡ Some (record { origin = origin; item = item })
    of_origin (origins.Request number) item submitted fits imprint name = absurd (cc submitted)
    of_origin (origins.Aggregator from) item submitted fits imprint name =
        ap (λ (l : List ℕ). entry_at l) (entry_apart (to_be_bytes w32 from) item.imprint (name_text item.name) more item.level)
        ∙ parts_again from item.level item.imprint item.name more fits imprint name (two_there item.level item.name more)

pub entries_again : (items : List Entry) → All IsSpelled items → entries_at (length items) (flat_map entry_text items) ≡ Some items
entries_again [] each = refl
entries_again (entry ∷ items) each =
    let text = entry_text entry in
    let others = flat_map entry_text items in
    ap (λ (found : Option Entry). more_entries (entries_at (length items)) (text ++ others) found) (entry_again entry others (All-head IsSpelled entry items each))
    ∙ ap (λ (l : List ℕ). option_map (λ (entries : List Entry). entry ∷ entries) (entries_at (length items) l)) (drop_at text others (length text) refl)
    ∙ ap (λ (found : Option (List Entry)). option_map (λ (entries : List Entry). entry ∷ entries) found) (entries_again items (All-tail IsSpelled entry items each))

what_again : (what : What) → FitsWhat what → what_at (tag_of what) (what_text what) ≡ Some what
what_again (Sealed items) fits =
    let there : nat_le 4 (length (to_be_bytes w32 (length items) ++ flat_map entry_text items)) ≡ true = grind (arith, nat_tests) in
    ap (λ (b : Bool). if b then option_map (λ (items : List Entry). Sealed items) (entries_at (from_be_bytes w32 (to_be_bytes w32 (length items))) (flat_map entry_text items)) else None) there
    ∙ ap (λ (n : ℕ). option_map (λ (items : List Entry). Sealed items) (entries_at n (flat_map entry_text items))) (from_be_bytes-to_be_bytes_4 (length items) fits.0)
    ∙ ap (λ (found : Option (List Entry)). option_map (λ (items : List Entry). Sealed items) found) (entries_again items fits.1)
what_again (Tried ballot) fits = ap (λ (n : ℕ). Some (Tried n)) (from_be_bytes-to_be_bytes_8 ballot fits)
what_again (Promised ballot) fits = ap (λ (n : ℕ). Some (Promised n)) (from_be_bytes-to_be_bytes_8 ballot fits)
what_again (Cast vote) fits =
    let there : nat_le 8 (length (to_be_bytes w64 vote.ballot ++ vote.imprint)) ≡ true = grind (arith, nat_tests) in
    ap (λ (b : Bool). if b then vote_of (from_be_bytes w64 (to_be_bytes w64 vote.ballot)) (imprint_at vote.imprint) else None) there
    ∙ (λ i. vote_of (from_be_bytes-to_be_bytes_8 vote.ballot fits.0 i) (imprint_again vote.imprint fits.1 i))
what_again (Holds root) fits = ap root_of (imprint_again root fits)

text_again : (fact : Fact) → fact.second < 2 ^ 64 → FitsWhat fact.what → fact_at (fact_text fact) ≡ Some fact
text_again fact second fits =
    let text = what_text fact.what in
    let there : nat_le 9 (length (fact_text fact)) ≡ true = grind (arith, nat_tests) in
    ap (λ (b : Bool). if b then option_map (fact_of (from_be_bytes w64 (to_be_bytes w64 fact.second))) (what_at (tag_of fact.what) text) else None) there
    ∙ ap (λ (n : ℕ). option_map (fact_of n) (what_at (tag_of fact.what) text)) (from_be_bytes-to_be_bytes_8 fact.second second)
    ∙ ap (λ (found : Option What). option_map (fact_of fact.second) found) (what_again fact.what fits)

-- the bytes are read as the fact whose spelling they are
pub fact_again : (fact : Fact) (bytes : List ℕ) → IsTextOf fact bytes → fact_at bytes ≡ Some fact
fact_again fact bytes is = ap (λ (l : List ℕ). fact_at l) is.text ∙ text_again fact is.second is.what

pub one_fact : (one other : Fact) (bytes : List ℕ) → IsTextOf one bytes → IsTextOf other bytes → one ≡ other
one_fact one other bytes is_one is_other = let a = fact_again one bytes is_one in let b = fact_again other bytes is_other in cc

pub read_again : (fact : Fact) (bytes : List ℕ) (found : Option Fact) → IsTextOf fact bytes → IsReadOf bytes found → found ≡ Some fact
read_again fact bytes None is read = absurd (read fact is)
read_again fact bytes (Some other) is read = ap Some (one_fact other fact bytes read is)
