-- Counts of one entry more.
use Rattle.std.proofs.Common.{◌≡◌, ℕ, ◌+◌, Bool, List, [], ◌∷◌, ◌++◌, length, cond, sym, ap, ◌∙◌, arith, length-append}
use Rattle.std.specs.Io.Iter.{u64_saturate}
use Rattle.ksi_records.specs.Blocks.{lines_in}
use Rattle.ksi_records.specs.Entries.{Entry}
use Rattle.ksi_records.specs.Verdicts.{how_many, lines_of, is_unsaid, is_signature}
use Rattle.ksi_records.specs.Sums.{sum_of, sum_with}

saturated : (a b : ℕ) → u64_saturate (u64_saturate a + b) ≡ u64_saturate (a + b)
saturated a b = omega arith

many_more : (test : Entry → Bool) (entries : List Entry) (entry : Entry) → how_many test (entries ++ entry ∷ []) ≡ how_many test entries + cond (test entry) 1 0
many_more test [] entry = omega arith
many_more test (x ∷ entries) entry = let rest = many_more test entries entry in omega (arith, rest)

lines_behind : (entries : List Entry) (entry : Entry) → lines_of (entries ++ entry ∷ []) ≡ lines_of entries + (1 + lines_in entry.block)
lines_behind [] entry = omega arith
lines_behind (x ∷ entries) entry = let rest = lines_behind entries entry in omega (arith, rest)

line_behind : (lines new all : ℕ) → all ≡ lines + (1 + new) → u64_saturate (all + 1) ≡ u64_saturate (u64_saturate (u64_saturate (lines + 1) + 1) + new)
line_behind lines new all is = omega (arith, is)

pub sum_more : (entries : List Entry) (entry : Entry) → sum_of (entries ++ entry ∷ []) ≡ sum_with (sum_of entries) entry.head entry.block
sum_more entries entry =
    let count : u64_saturate (length (entries ++ entry ∷ [])) ≡ u64_saturate (u64_saturate (length entries) + 1) = omega (arith, length-append entries (entry ∷ [])) in
    let line = line_behind (lines_of entries) (lines_in entry.block) (lines_of (entries ++ entry ∷ [])) (lines_behind entries entry) in
    let unsaid : u64_saturate (how_many (λ entry. is_unsaid entry.head) (entries ++ entry ∷ [])) ≡ u64_saturate (u64_saturate (how_many (λ entry. is_unsaid entry.head) entries) + cond (is_unsaid entry.head) 1 0) =
    ap u64_saturate (many_more (λ entry. is_unsaid entry.head) entries entry) ∙ sym (saturated _ _) in
    let signatures : u64_saturate (how_many (λ entry. is_signature entry.head entry.block) (entries ++ entry ∷ [])) ≡ u64_saturate (u64_saturate (how_many (λ entry. is_signature entry.head entry.block) entries) + cond (is_signature entry.head entry.block) 1 0) =
    ap u64_saturate (many_more (λ entry. is_signature entry.head entry.block) entries entry) ∙ sym (saturated _ _) in
    λ i. record {
      place = record { entry = count i; line = line i };
      unsaid = unsaid i;
      signatures = signatures i;
    }
