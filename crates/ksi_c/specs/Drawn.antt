-- What C is given of a step of a signature.
use Rattle.std.specs.Prelude.{ℕ, Bool, true, false, List, ◌++◌, ◌-◌, length, take, drop, replicate, slice_get, Option, Some, None, Result, Ok, Err}
use Rattle.ksi_split.specs.declared.side.Side.{Side}
use Rattle.ksi_split.specs.declared.side.Side.TheVariants.{Left, Right}
use Rattle.ksi_imprint.specs.Imprints.{imprint_of}
use Rattle.ksi_signature.specs.declared.fault.SignatureFault.{SignatureFault}
use Rattle.ksi_signature.specs.declared.signature.Signature.{Signature}
use Rattle.ksi_verifier.specs.Steps.{PlainStep, steps}
use Rattle.ksi_c.specs.declared.drawn.KsiStep.{KsiStep}

abbrev pub flag : Bool → ℕ
flag true = 1
flag false = 0

abbrev pub side_number : Side → ℕ
side_number Left = 0
side_number Right = 1

-- this many bytes: the first ones, followed by zeros if they are fewer
unfoldable pub padded : ℕ → List ℕ → List ℕ
padded room bytes = take room bytes ++ replicate (room - length bytes) 0

-- 4,096 bytes of those beside the node, and the digests of both imprints
abbrev pub step_told : PlainStep → KsiStep
step_told step = record {
  chain = step.chain;
  place = step.place;
  size = length step.sibling;
  calendar = flag step.calendar;
  side = side_number step.side;
  level = step.level;
  raw = flag step.raw;
  node = drop 1 step.node;
  join = drop 1 step.join;
  sibling = padded 4096 step.sibling;
}

-- if there is no step, the old content stays
abbrev pub step_or : KsiStep → Option PlainStep → KsiStep
step_or old None = old
step_or old (Some step) = step_told step

abbrev pub found_status : Option PlainStep → ℕ
found_status None = 1
found_status (Some step) = 0

-- the step of this number, if the bytes are a signature that has it
abbrev pub step_in : Result Signature SignatureFault → ℕ → Option PlainStep
step_in (Ok signature) number = slice_get (steps imprint_of signature) number
step_in (Err fault) number = None

-- 0 where it is there, 1 where it is not, 3 where the bytes are no signature
abbrev pub step_status : Result Signature SignatureFault → ℕ → ℕ
step_status (Ok signature) number = found_status (slice_get (steps imprint_of signature) number)
step_status (Err fault) number = 3
