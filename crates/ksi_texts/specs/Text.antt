-- The texts of signatures and of publications files.
use Rattle.std.specs.Prelude.{ℕ, List, [], ◌∷◌, ◌++◌, length, map, codes}
use Rattle.std.specs.Fmt.{decimal}
use Rattle.ksi_schedule.specs.Printed.{hex_of, text_of_lines}
use Rattle.ksi_signature.specs.declared.signature.Signature.{Signature}
use Rattle.ksi_verifier.specs.Chains.{PlainChain, first_chain, plain_chains}
use Rattle.ksi_texts.specs.Calendar.{calendar_rows, record_rows}
use Rattle.ksi_texts.specs.Chains.{chains_rows}
use Rattle.ksi_texts.specs.Words.{second_text}

-- the hash that the lowest chain begins with
abbrev pub document_row : PlainChain → List (List ℕ)
document_row lowest = codes "  of the document with the SHA-256" ∷ hex_of lowest.input ∷ []

-- a signature of this many bytes
abbrev pub signature_rows : (size : ℕ) → Signature → List (List (List ℕ))
signature_rows size signature =
    (codes "signature of" ∷ decimal size ∷ codes "bytes" ∷ [])
    ∷ document_row (first_chain (plain_chains signature.chains))
    ∷ chains_rows 0 0 (plain_chains signature.chains)
    ++ (calendar_rows signature.calendar ++ record_rows signature.publication)

unfoldable pub signature_text : (size : ℕ) → Signature → List ℕ
signature_text size signature = text_of_lines (signature_rows size signature)

-- a published time, with the root of the calendar to it
abbrev pub pair_row : ℕ × List ℕ → List (List ℕ)
pair_row pair = codes " " ∷ second_text pair.0 ∷ codes "root" ∷ hex_of pair.1 ∷ []

abbrev pub pairs_rows : List (ℕ × List ℕ) → List (List (List ℕ))
pairs_rows pairs = map pair_row pairs

-- a publications file
abbrev pub publications_rows : List (ℕ × List ℕ) → List (List (List ℕ))
publications_rows pairs = (codes "publications file with" ∷ decimal (length pairs) ∷ codes "records" ∷ []) ∷ pairs_rows pairs
