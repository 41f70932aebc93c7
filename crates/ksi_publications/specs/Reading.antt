-- The published times and hashes of bytes, or their first fault. The law `publications_are_read` says that these are the
-- ones in `File`.
use Rattle.std.specs.Prelude.{ℕ, ◌==◌, List, [], ◌∷◌, Option, Some, None, Result, Ok, Err, if◌then◌else◌}
use Rattle.ksi_tlv.specs.Walking.{elements}
use Rattle.ksi_tlv.specs.declared.grammar.fault.ElementFault.{ElementFault}
use Rattle.ksi_tlv.specs.declared.grammar.fault.ElementFault.TheVariants as faults
use Rattle.ksi_tlv.specs.Table.{Verdict}
use Rattle.ksi_tlv.specs.Containing.{container_verdict}
use Rattle.ksi_tlv.specs.Inside.{whole}
use Rattle.ksi_publications.specs.declared.fault.PublicationsFault.{PublicationsFault}
use Rattle.ksi_publications.specs.declared.fault.PublicationsFault.TheVariants as answers
use Rattle.ksi_publications.specs.Tables.{file_table}
use Rattle.ksi_publications.specs.File.{magic, pairs_of}

-- the bytes after a prefix, if the bytes begin with it
abbrev pub behind : List ℕ → List ℕ → Option (List ℕ)
behind [] bytes = Some bytes
behind (b ∷ front) [] = None
behind (b ∷ front) (c ∷ bytes) = if b == c then behind front bytes else None

-- the fault of a file, from the fault of an element; the last four occur only in signatures
abbrev pub name_of : ElementFault → PublicationsFault
name_of (faults.Tlv place) = answers.Tlv place
name_of (faults.RefusedElement kind place) = answers.RefusedElement kind place
name_of (faults.UnknownCritical kind place) = answers.UnknownCritical kind place
name_of (faults.Missing kind place) = answers.Missing kind place
name_of (faults.Repeated kind place) = answers.Repeated kind place
name_of (faults.Imprint place) = answers.Imprint place
name_of (faults.Number place) = answers.Number place
name_of (faults.Time place) = answers.Time place
name_of (faults.Algorithm value) = answers.Magic
name_of (faults.Links place) = answers.Magic
name_of (faults.Chains place) = answers.Magic
name_of (faults.Sibling place) = answers.Magic

abbrev pub Read : Type 0
Read = Result (List (ℕ × List ℕ)) PublicationsFault

abbrev pub read_as : List (ℕ × List ℕ) → Verdict → Read
read_as pairs (Ok u) = Ok pairs
read_as pairs (Err fault) = Err (name_of fault)

abbrev pub read_behind : Option (List ℕ) → Read
read_behind None = Err answers.Magic
read_behind (Some rest) = read_as (pairs_of (whole (elements 8 rest))) (container_verdict file_table 0 8 rest)

unfoldable pub publications_at : List ℕ → Read
publications_at bytes = read_behind (behind magic bytes)
