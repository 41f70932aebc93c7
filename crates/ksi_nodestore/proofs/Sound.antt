-- What is read has this spelling.
use Rattle.std.specs.Int.{w32, w64, from_be_bytes, to_be_bytes}
use Rattle.std.specs.List.{flat_map}
use Rattle.std.proofs.Common.{◌≡◌, ℕ, zero, suc, ◌+◌, ◌≤◌, ◌<◌, nat_le, Bool, true, false, if◌then◌else◌, List, [], ◌∷◌, ◌++◌, length, take, drop, slice_index, option_map, Option, Some, None, IfSome, refl, sym, subst, ◌∙◌, ap, arith, append_assoc, length-append}
use Rattle.std.proofs.Math.Seq.{take-append-add, take-add}
use Rattle.std.proofs.lemmas.List.{append-nil, take-append-drop, drop-drop, drop_all, flat_map_more}
use Rattle.ksi_aggtree.specs.Names.{IsName}
use Rattle.ksi_aggtree.specs.declared.entries.Entry.{Entry}
use Rattle.ksi_corenode.specs.declared.fact.What.{What}
use Rattle.ksi_corenode.specs.declared.fact.Fact.{Fact}
use Rattle.ksi_corenode.specs.Facts.{fact_of}
use Rattle.ksi_nodestore.specs.Texts.{name_text, entry_text, IsSpelled, IsTextOf}
use Rattle.ksi_nodestore.specs.TextReading.{entry_at, more_entries, entries_at, what_at, fact_at}
use Rattle.ksi_nodestore.proofs.Spelled.{fact_again}

cut_off : (front rest text : List ℕ) → take (length text) rest ≡ text → take (length (front ++ text)) (front ++ rest) ≡ front ++ text
cut_off front rest text is = ap (λ (k : ℕ). take k (front ++ rest)) (length-append front text) ∙ take-append-add front rest (length text) ∙ ap (λ (l : List ℕ). front ++ l) is

two_front : (rest name : List ℕ) → 2 ≤ length rest → take (length name) (slice_index rest 1 ∷ drop 2 rest) ≡ name → take (length (slice_index rest 0 ∷ name)) rest ≡ slice_index rest 0 ∷ name
two_front [] name two is = absurd (omega arith)
two_front (x ∷ []) name two is = absurd (omega arith)
two_front (x ∷ y ∷ rest) name two is = ap (λ (l : List ℕ). x ∷ l) is

cut_drop : (n : ℕ) (bytes text : List ℕ) → take (length text) (drop n bytes) ≡ text → take (length (take n bytes ++ text)) bytes ≡ take n bytes ++ text
cut_drop n bytes text is = ap (λ (l : List ℕ). take (length (take n bytes ++ text)) l) (sym (take-append-drop n bytes)) ∙ cut_off (take n bytes) (drop n bytes) text is

pub entry_front : (bytes name : List ℕ) → 2 ≤ length (drop 33 (drop 4 bytes)) → take (length name) (slice_index (drop 33 (drop 4 bytes)) 1 ∷ drop 2 (drop 33 (drop 4 bytes))) ≡ name
    → let text = take 4 bytes ++ (take 33 (drop 4 bytes) ++ slice_index (drop 33 (drop 4 bytes)) 0 ∷ name) in take (length text) bytes ≡ text
entry_front bytes name two is =
    cut_drop 4 bytes (take 33 (drop 4 bytes) ++ slice_index (drop 33 (drop 4 bytes)) 0 ∷ name)
    (cut_drop 33 (drop 4 bytes) (slice_index (drop 33 (drop 4 bytes)) 0 ∷ name) (two_front (drop 33 (drop 4 bytes)) name two is))

named : (name : Option (Option (List ℕ))) (one : Option (List ℕ)) (count : ℕ) (rest : List ℕ) → name ≡ Some one
    → IfSome name (λ name. IfSome name IsName × (take (length (name_text name)) (count ∷ rest) ≡ name_text name)) → take (length (name_text one)) (count ∷ rest) ≡ name_text one
named None one count rest is sound = absurd (cc is)
named (Some name) one count rest is sound = let same : name ≡ one = cc in subst (λ (n : Option (List ℕ)). take (length (name_text n)) (count ∷ rest) ≡ name_text n) same sound.1

pub entry_sound : (bytes four imprint rest back : List ℕ) (from level count : ℕ) (name : Option (Option (List ℕ))) (found : Option Entry)
    → to_be_bytes w32 from ≡ take 4 bytes → imprint ≡ take 33 (drop 4 bytes) → rest ≡ drop 33 (drop 4 bytes) → level ≡ slice_index rest 0 → count ≡ slice_index rest 1 → back ≡ drop 2 rest → 2 ≤ length rest
    → IfSome name (λ name. IfSome name IsName × (take (length (name_text name)) (count ∷ back) ≡ name_text name))
    → IfSome found (λ entry. IsSpelled entry × (entry_text entry ≡ to_be_bytes w32 from ++ (imprint ++ level ∷ name_text entry.item.name)) × (name ≡ Some entry.item.name))
    → IfSome found (λ entry. IsSpelled entry × (take (length (entry_text entry)) bytes ≡ entry_text entry))
entry_sound bytes four imprint rest back from level count name None four_is imprint_is rest_is level_is count_is back_is two named_is sound = tt
entry_sound bytes four imprint rest back from level count name (Some entry) four_is imprint_is rest_is level_is count_is back_is two named_is sound =
    let last = drop 33 (drop 4 bytes) in
    let name_is : take (length (name_text entry.item.name)) (count ∷ back) ≡ name_text entry.item.name = named name entry.item.name count back sound.2 named_is in
    let count_of : count ≡ slice_index last 1 = count_is ∙ ap (λ (l : List ℕ). slice_index l 1) rest_is in
    let back_of : back ≡ drop 2 last = back_is ∙ ap (λ (l : List ℕ). drop 2 l) rest_is in
    let level_of : level ≡ slice_index last 0 = level_is ∙ ap (λ (l : List ℕ). slice_index l 0) rest_is in
    let front_is : take (length (name_text entry.item.name)) (slice_index last 1 ∷ drop 2 last) ≡ name_text entry.item.name = subst (λ (l : List ℕ). take (length (name_text entry.item.name)) l ≡ name_text entry.item.name) (λ i. count_of i ∷ back_of i) name_is in
    let same : entry_text entry ≡ take 4 bytes ++ (take 33 (drop 4 bytes) ++ slice_index last 0 ∷ name_text entry.item.name) = sound.1 ∙ (λ i. four_is i ++ (imprint_is i ++ level_of i ∷ name_text entry.item.name)) in
    (sound.0, subst (λ (text : List ℕ). take (length text) bytes ≡ text) (sym same) (entry_front bytes (name_text entry.item.name) (subst (λ (l : List ℕ). 2 ≤ length l) rest_is two) front_is))

pub no_fact : (bytes : List ℕ) → fact_at bytes ≡ None → (fact : Fact) → IsTextOf fact bytes → ⊥
no_fact bytes none fact is = let some = fact_again fact bytes is in absurd (cc (none, some))

-- ITEMS ONE BY ONE

-- these items, and then others, if there are any
abbrev pub prepended : List Entry → Option (List Entry) → Option (List Entry)
prepended entries others = option_map (λ (more : List Entry). entries ++ more) others

prepended_none : (found : Option (List Entry)) → found ≡ prepended [] found
prepended_none None = refl
prepended_none (Some entries) = refl

pub begun : (count : ℕ) (bytes : List ℕ) → entries_at count bytes ≡ prepended [] (entries_at count bytes)
begun count bytes = prepended_none (entries_at count bytes)

prepended_more : (entries : List Entry) (entry : Entry) (found : Option (List Entry)) → prepended entries (option_map (λ (more : List Entry). entry ∷ more) found) ≡ prepended (entries ++ entry ∷ []) found
prepended_more entries entry None = refl
prepended_more entries entry (Some more) = ap Some (sym (append_assoc entries (entry ∷ []) more))

pub stopped : (left : ℕ) (bytes : List ℕ) (entries : List Entry) → 0 < left → entry_at bytes ≡ None → prepended entries (entries_at left bytes) ≡ None
stopped zero bytes entries some none = absurd (omega arith)
stopped (suc left) bytes entries some none = ap (λ (found : Option Entry). prepended entries (more_entries (entries_at left) bytes found)) none

pub stepped : (left less place next : ℕ) (bytes : List ℕ) (entries : List Entry) (entry : Entry) → left ≡ suc less → next ≡ place + length (entry_text entry) → entry_at (drop place bytes) ≡ Some entry
    → prepended entries (entries_at left (drop place bytes)) ≡ prepended (entries ++ entry ∷ []) (entries_at less (drop next bytes))
stepped left less place next bytes entries entry left_is next_is some =
    let text = length (entry_text entry) in
    ap (λ (n : ℕ). prepended entries (entries_at n (drop place bytes))) left_is
    ∙ ap (λ (found : Option Entry). prepended entries (more_entries (entries_at less) (drop place bytes) found)) some
    ∙ prepended_more entries entry (entries_at less (drop text (drop place bytes)))
    ∙ ap (λ (l : List ℕ). prepended (entries ++ entry ∷ []) (entries_at less l)) (drop-drop text place bytes ∙ ap (λ (n : ℕ). drop n bytes) (sym next_is))

pub text_more : (place next : ℕ) (bytes : List ℕ) (entries : List Entry) (entry : Entry) → flat_map entry_text entries ≡ take place bytes → next ≡ place + length (entry_text entry)
    → take (length (entry_text entry)) (drop place bytes) ≡ entry_text entry → place ≤ length bytes → flat_map entry_text (entries ++ entry ∷ []) ≡ take next bytes
text_more place next bytes entries entry so_far next_is text within =
    let n = length (entry_text entry) in
    sym (flat_map_more entry_text [] entries entry)
    ∙ (λ i. so_far i ++ sym text i)
    ∙ sym (take-add place n bytes)
    ∙ ap (λ (k : ℕ). take k bytes) (sym next_is)

-- at the end nothing is behind them
pub ended : (place : ℕ) (bytes : List ℕ) (entries : List Entry) → length bytes ≤ place → prepended entries (entries_at 0 (drop place bytes)) ≡ Some entries
ended place bytes entries all = ap (λ (l : List ℕ). prepended entries (entries_at 0 l)) (drop_all place bytes all) ∙ ap Some (append-nil entries)

none_either : (b : Bool) (found : Option Fact) → found ≡ None → (if b then found else None) ≡ None
none_either true found none = none
none_either false found none = refl

pub what_none : (bytes : List ℕ) → what_at (slice_index bytes 0) (drop 9 bytes) ≡ None → fact_at bytes ≡ None
what_none bytes none =
    let second = from_be_bytes w64 (take 8 (drop 1 bytes)) in
    none_either (nat_le 9 (length bytes)) (option_map (fact_of second) (what_at (slice_index bytes 0) (drop 9 bytes))) (ap (λ (found : Option What). option_map (fact_of second) found) none)
