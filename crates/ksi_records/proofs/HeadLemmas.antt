-- Words of a line.
use Rattle.std.proofs.Common.{◌≡◌, ◌<◌, ◌≤◌, ◌==◌, List, ℕ, Bool, true, false, get_or, length, Result, Ok, Err, refl, ap, ◌∙◌}
use Rattle.std.specs.List.{position_or_len}
use Rattle.std.proofs.lemmas.List.Sums.{position_or_len_is}
use Rattle.std.specs.Str.{IsUtf8}
use Rattle.ksi_imprint.specs.Reading.{hex_at}
use Rattle.ksi_imprint.specs.declared.fault.HexFault.{HexFault}
use Rattle.ksi_schedule.specs.Pieces.{Text}
use Rattle.ksi_schedule.specs.Words as schedule
use Rattle.ksi_schedule.specs.declared.fault.LineFault.{LineFault}
use Rattle.ksi_schedule.proofs.Digests.{no_text}
use Rattle.ksi_wire.specs.declared.fault.WireFault.TheVariants as faults
use Rattle.ksi_records.specs.Heads.{or_hash}

abbrev ok : List ℕ → Result (List ℕ) LineFault
ok imprint = Ok imprint

abbrev err : LineFault → Result (List ℕ) LineFault
err fault = Err fault

differ : {P : Type 0} (imprint : List ℕ) (fault : LineFault) → err fault ≡ ok imprint → P
differ imprint fault is = absurd cc

-- bytes that are no text are no digest
pub no_imprint : (word : Text) → (IsUtf8 word → ⊥) → or_hash (hex_at word) ≡ Err faults.Hash
no_imprint word none = by_answer (hex_at word) refl
  where
    by_answer : (r : Result (List ℕ) HexFault) → hex_at word ≡ r → or_hash r ≡ Err faults.Hash
    by_answer (Ok imprint) is = differ imprint _ (no_text word none ∙ ap schedule.or_hash is)
    by_answer (Err fault) is = refl

not_true : (b : Bool) → (b ≡ true → ⊥) → b ≡ false
not_true true not = absurd (not refl)
not_true false not = refl

-- the place of the first space, or the length where there is none
pub space_at : (line : Text) (place : ℕ) → place ≤ length line → ((k : ℕ) → k < place → (get_or line k 0 == 32) ≡ true → ⊥) → (place < length line → (get_or line place 0 == 32) ≡ true)
    → position_or_len (λ b. b == 32) line ≡ place
space_at line place within before here = position_or_len_is (λ b. b == 32) line place 0 within (λ k lt. not_true (get_or line k 0 == 32) (before k lt)) here
