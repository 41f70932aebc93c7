-- Words of a line.
use Rattle.std.proofs.Common.{◌≡◌, ℕ, ◌<◌, Bool, true, false, not, List, [], ◌∷◌, length, Option, Some, None, is_some, Result, Ok, Err, refl, ap, ◌∙◌, arith}
use Rattle.std.specs.Borrow.{Bor}
use Rattle.std.specs.Str.{IsUtf8}
use Rattle.ksi_imprint.specs.Reading.{hex_at}
use Rattle.ksi_imprint.specs.declared.fault.HexFault.{HexFault}
use Rattle.ksi_schedule.specs.Pieces.{Text, words}
use Rattle.ksi_schedule.specs.Reading.{words_left}
use Rattle.ksi_schedule.specs.Words as schedule
use Rattle.ksi_schedule.specs.declared.fault.LineFault.{LineFault}
use Rattle.ksi_schedule.proofs.Cuts.{more_words}
use Rattle.ksi_schedule.proofs.Digests.{no_text}
use Rattle.ksi_wire.specs.declared.fault.WireFault.TheVariants as faults
use Rattle.ksi_wire.specs.Asked.{or_hash, is_empty}

some_left : (ws : List Text) → 0 < length ws → false ≡ is_empty ws
some_left [] lt = absurd (omega (arith, lt))
some_left (w ∷ ws) lt = refl

pub at_end : (left : Option (Bor Text)) (result : Bool) → is_some left ≡ not result → result ≡ is_empty (words_left left)
at_end None true is = refl
at_end None false is = absurd cc
at_end (Some rest) true is = absurd cc
at_end (Some rest) false is = some_left (words rest.now) (more_words rest.now)

abbrev ok : List ℕ → Result (List ℕ) LineFault
ok imprint = Ok imprint

abbrev err : LineFault → Result (List ℕ) LineFault
err fault = Err fault

differ : {P : Type 0} (imprint : List ℕ) (fault : LineFault) → err fault ≡ ok imprint → P
differ imprint fault is = absurd cc

-- bytes that are no text are no digest
pub no_imprint : (word : Text) (rest : List Text) → (IsUtf8 word → ⊥) → or_hash (hex_at word) rest ≡ Err faults.Hash
no_imprint word rest none = by_answer (hex_at word) refl
  where
    by_answer : (r : Result (List ℕ) HexFault) → hex_at word ≡ r → or_hash r rest ≡ Err faults.Hash
    by_answer (Ok imprint) is = differ imprint _ (no_text word none ∙ ap schedule.or_hash is)
    by_answer (Err fault) is = refl
