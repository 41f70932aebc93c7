-- How many bytes spellings have.
use Rattle.std.specs.List.{All, flat_map}
use Rattle.std.proofs.Common.{ℕ, ◌+◌, ◌*◌, ◌≤◌, ◌<◌, ◌^◌, List, [], ◌∷◌, length, Option, Some, None, IfSome, ap, arith, length-append}
use Rattle.std.proofs.lemmas.List.Elements.{All-head, All-tail}
use Rattle.ksi_aggtree.specs.Names.{IsName}
use Rattle.ksi_aggtree.specs.declared.entries.Entry.{Entry}
use Rattle.ksi_corenode.specs.declared.fact.What.{What}
use Rattle.ksi_corenode.specs.declared.fact.What.TheVariants.{Sealed, Tried, Promised, Cast, Holds}
use Rattle.ksi_corenode.specs.declared.fact.Fact.{Fact}
use Rattle.ksi_nodestore.specs.Texts.{name_text, entry_text, what_text, fact_text, IsSpelled, FitsWhat, IsTextOf}
use Rattle.ksi_disk.specs.Costs.{Affords, Meter}
use Rattle.ksi_nodestore.specs.Writing.{CanSpell, most_bytes}

name_few : (name : Option (List ℕ)) → IfSome name IsName → length (name_text name) ≤ 65
name_few None is = omega arith
name_few (Some name) is = let few = is.few in omega arith

entry_few : (entry : Entry) → IsSpelled entry → length (entry_text entry) ≤ 103
entry_few entry is =
    let imprint = is.imprint.size in
    omega (arith, imprint, name_few entry.item.name is.name, length-append entry.item.imprint (entry.item.level ∷ name_text entry.item.name))

entries_few : (items : List Entry) → All IsSpelled items → length (flat_map entry_text items) ≤ 103 * length items
entries_few [] each = omega arith
entries_few (entry ∷ items) each =
    omega (arith, entry_few entry (All-head IsSpelled entry items each), entries_few items (All-tail IsSpelled entry items each), length-append (entry_text entry) (flat_map entry_text items))

what_few : (what : What) → FitsWhat what → CanSpell what → length (what_text what) ≤ 4 + 103 * 65536
what_few (Sealed items) fits can = let few = can.0 in omega (arith, entries_few items fits.1, few)
what_few (Tried ballot) fits can = omega arith
what_few (Promised ballot) fits can = omega arith
what_few (Cast vote) fits can = let size = fits.1.size in omega (arith, size)
what_few (Holds root) fits can = let size = fits.size in omega (arith, size)

pub text_few : (fact : Fact) (bytes : List ℕ) → IsTextOf fact bytes → CanSpell fact.what → length bytes < 2 ^ 32
text_few fact bytes is can = omega (arith, ap length is.text, what_few fact.what is.what can)

what_most : (what : What) → FitsWhat what → length (what_text what) + 9 ≤ most_bytes what
what_most (Sealed items) fits = omega (arith, entries_few items fits.1)
what_most (Tried ballot) fits = omega arith
what_most (Promised ballot) fits = omega arith
what_most (Cast vote) fits = let size = fits.1.size in omega (arith, size)
what_most (Holds root) fits = let size = fits.size in omega (arith, size)

-- what affords the most affords the text
pub affords_text : (fact : Fact) (bytes : List ℕ) (meter : Option Meter) → IsTextOf fact bytes → Affords (most_bytes fact.what + 6) 4 meter → Affords (length (fact_text fact) + 6) 4 meter
affords_text fact bytes None is affords = affords
affords_text fact bytes (Some meter) is affords = (omega (arith, what_most fact.what is.what, affords.0), affords.1)
