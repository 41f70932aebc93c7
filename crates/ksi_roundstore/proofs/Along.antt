-- Along the records of a file.
use Rattle.std.proofs.Common.{◌≡◌, ℕ, ◌+◌, ◌≤◌, ◌<◌, List, [], ◌∷◌, ◌++◌, length, take, drop, get_or, sym, ◌∙◌, ap, arith, length-append}
use Rattle.std.proofs.lemmas.List.{take_more, take-append-drop}
use Rattle.ksi_disk.specs.Gates.{record_text, records_text}

-- one record more of a list
pub taken : (records : List (List ℕ)) (k : ℕ) (content : List ℕ) → k < length records → content ≡ get_or records k content → take (k + 1) records ≡ take k records ++ content ∷ []
taken records k content within is = take_more records k content within ∙ ap (λ (c : List ℕ). take k records ++ c ∷ []) (sym is)

text_more : (records : List (List ℕ)) (content : List ℕ) → length (records_text (records ++ content ∷ [])) ≡ length (records_text records) + (5 + length content)
text_more [] content = omega (arith, length-append (record_text content) [])
text_more (c ∷ cs) content = omega (arith, length-append (record_text c) (records_text (cs ++ content ∷ [])), length-append (record_text c) (records_text cs), text_more cs content)

text_apart : (records others : List (List ℕ)) → length (records_text (records ++ others)) ≡ length (records_text records) + length (records_text others)
text_apart [] others = omega arith
text_apart (c ∷ cs) others = omega (arith, length-append (record_text c) (records_text (cs ++ others)), length-append (record_text c) (records_text cs), text_apart cs others)

pub place_more : (records : List (List ℕ)) (k place : ℕ) (content : List ℕ) → k < length records → content ≡ get_or records k content → place ≡ 20 + length (records_text (take k records))
    → place + (5 + length content) ≡ 20 + length (records_text (take (k + 1) records))
place_more records k place content within is here = omega (arith, text_more (take k records) content, ap (λ (l : List (List ℕ)). length (records_text l)) (taken records k content within is))

-- no place is behind the end
pub place_within : (records : List (List ℕ)) (k : ℕ) → length (records_text (take k records)) ≤ length (records_text records)
place_within records k = omega (arith, text_apart (take k records) (drop k records), ap (λ (l : List (List ℕ)). length (records_text l)) (take-append-drop k records))

-- there are no more records than bytes in them
pub few_records : (records : List (List ℕ)) → length records ≤ length (records_text records)
few_records [] = omega arith
few_records (content ∷ contents) = omega (arith, few_records contents, length-append (record_text content) (records_text contents))
