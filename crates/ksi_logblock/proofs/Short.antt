-- No string of a block's tree stands deeper than a way is long.
use Rattle.std.proofs.Common.{◌≡◌, ℕ, ◌+◌, ◌^◌, ◌<◌, ◌≤◌, List, [], ◌∷◌, ◌++◌, length, Ok, Some, refl, arith, inl, inr, length-append}
use Rattle.ksi_split.specs.declared.side.Side.{Side}
use Rattle.ksi_split.specs.Parts.{Part, half_of, part_at}
use Rattle.ksi_split.specs.Ways.{IsWay, LeadsTo}
use Rattle.ksi_logblock.specs.Blocks.{Masked}
use Rattle.ksi_logblock.specs.Locating.{text_below, block_text}
use Rattle.ksi_logblock.proofs.Cases.{eq_cases}

-- where there is a string, the sides lead to a part
pub text_part : (image : List ℕ → List ℕ) (block : Masked) (place : ℕ) (part : Part) (sides : List Side) (text : List ℕ) → text_below image block part sides ≡ Some text → (q : Part) × (part_at place part sides ≡ Ok q)
text_part image block place part [] text e = (part, refl)
text_part image block place part (side ∷ sides) text e = elim (eq_cases part.count 1) [
  | inl one ↦ (let none = rw one.0 at e in absurd cc)
  | inr some ↦ (let further = rw some.0 at e in
      let lower = text_part image block (place + 1) (half_of part side) sides text further in
      (lower.0, rw some.0 lower.1))
]

module _ (leaves : (n : ℕ) (sides : List Side) (part : Part) → 0 < n → part_at 0 (record { first = 0; count = n }) sides ≡ Ok part → LeadsTo n sides part.first part.count)
    (short : (t n k : ℕ) (sides : List Side) → n ≤ 2 ^ k → IsWay t n sides → length sides ≤ k) where
  pub text_short : (image : List ℕ → List ℕ) (block : Masked) (sides : List Side) (text : List ℕ) → 0 < length block.lines → length block.lines ≤ 65536 → block_text image block sides ≡ Some text → length sides ≤ 16
  text_short image block sides text some few e =
      let n = length block.lines in
      let part = text_part image block 0 (record { first = 0; count = n }) sides text e in
      let q = part.0 in
      let l = leaves n sides q some part.1 in
      let count = l.some in
      let begins = (l.leaves q.first).1 (omega arith, omega (arith, count)) in
      let s = short q.first n 16 (sides ++ begins.0) few begins.1 in
      omega (arith, s, length-append sides begins.0)
