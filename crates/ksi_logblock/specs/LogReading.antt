-- The lines of a log, or why they make no block, one line after the other. The law `log_is_read` says that these are those
-- of `Logs`.
use Rattle.std.specs.Prelude.{ℕ, ◌+◌, nat_lt, List, [], ◌∷◌, length, Option, Some, None, Result, Ok, Err, if◌then◌else◌}
use Rattle.ksi_logblock.specs.declared.logs.LogRefusal.{LogRefusal}
use Rattle.ksi_logblock.specs.declared.logs.LogRefusal.TheVariants.{NoLines, TooManyLines, LineTooLong}
use Rattle.ksi_logblock.specs.Blocks.{longest_line, most_lines}
use Rattle.ksi_logblock.specs.Logs.{lines_of}

-- the first refusal of the lines from number k on
abbrev pub refusal_from : ℕ → List (List ℕ) → Option LogRefusal
refusal_from k [] = None
refusal_from k (line ∷ lines) =
    if nat_lt k most_lines
    then (if nat_lt longest_line (length line) then Some (LineTooLong k (length line)) else refusal_from (k + 1) lines)
    else Some TooManyLines

abbrev pub first_refusal : List (List ℕ) → Option LogRefusal
first_refusal [] = Some NoLines
first_refusal (line ∷ lines) = refusal_from 0 (line ∷ lines)

abbrev pub unless : Option LogRefusal → List (List ℕ) → Result (List (List ℕ)) LogRefusal
unless None lines = Ok lines
unless (Some refusal) lines = Err refusal

unfoldable pub log_at : List ℕ → Result (List (List ℕ)) LogRefusal
log_at log = unless (first_refusal (lines_of log)) (lines_of log)
