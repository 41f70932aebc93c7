-- The faults of files as they are printed: a code and its values.
use Rattle.std.specs.Prelude.{◌≡◌, ℕ, List, [], ◌∷◌, codes}
use Rattle.std.specs.Fmt.{decimal}
use Rattle.ksi_signature.specs.declared.fault.SignatureFault.{SignatureFault}
use Rattle.ksi_signature.specs.declared.fault.SignatureFault.TheVariants as signatures
use Rattle.ksi_publications.specs.declared.fault.PublicationsFault.{PublicationsFault}
use Rattle.ksi_publications.specs.declared.fault.PublicationsFault.TheVariants as publications
use Rattle.ksi_journal.specs.declared.fault.JournalFault.{JournalFault}
use Rattle.ksi_journal.specs.declared.fault.JournalFault.TheVariants as journals
use Rattle.ksi_consistency.specs.declared.fault.FrontFault.{FrontFault}
use Rattle.ksi_consistency.specs.declared.fault.FrontFault.TheVariants as fronts
use Rattle.ksi_logblock.specs.declared.proof_fault.ProofFault.{ProofFault}
use Rattle.ksi_logblock.specs.declared.proof_fault.ProofFault.TheVariants as proofs
use Rattle.ksi_nodestore.specs.declared.inspected.NodeFault.{NodeFault}
use Rattle.ksi_nodestore.specs.declared.inspected.NodeFault.TheVariants as nodes
use Rattle.ksi_schedule.specs.declared.fault.LineFault.{LineFault}
use Rattle.ksi_schedule.specs.declared.fault.LineFault.TheVariants as lines
use Rattle.ksi_schedule.specs.declared.fault.ScheduleFault.{ScheduleFault}
use Rattle.ksi_schedule.specs.declared.fault.ScheduleFault.TheVariants as schedules
use Rattle.ksi_schedule.specs.Printed.{hex_of}
use Rattle.ksi_lines.specs.Lines.{malformed_line}

abbrev pub signature_fault : SignatureFault → List (List ℕ)
signature_fault (signatures.Tlv place) = codes "S1" ∷ decimal place ∷ []
signature_fault (signatures.After place) = codes "S2" ∷ decimal place ∷ []
signature_fault (signatures.NotSignature kind) = codes "S3" ∷ decimal kind ∷ []
signature_fault (signatures.RefusedElement kind place) = codes "S4" ∷ decimal kind ∷ decimal place ∷ []
signature_fault (signatures.UnknownCritical kind place) = codes "S5" ∷ decimal kind ∷ decimal place ∷ []
signature_fault (signatures.Missing kind place) = codes "S6" ∷ decimal kind ∷ decimal place ∷ []
signature_fault (signatures.Repeated kind place) = codes "S7" ∷ decimal kind ∷ decimal place ∷ []
signature_fault (signatures.Imprint place) = codes "S8" ∷ decimal place ∷ []
signature_fault (signatures.Number place) = codes "S9" ∷ decimal place ∷ []
signature_fault (signatures.Algorithm value) = codes "S10" ∷ decimal value ∷ []
signature_fault (signatures.Links place) = codes "S11" ∷ decimal place ∷ []
signature_fault (signatures.Chains place) = codes "S12" ∷ decimal place ∷ []
signature_fault (signatures.Sibling place) = codes "S13" ∷ decimal place ∷ []
signature_fault (signatures.Time place) = codes "S14" ∷ decimal place ∷ []

abbrev pub publications_fault : PublicationsFault → List (List ℕ)
publications_fault publications.Magic = codes "Q1" ∷ []
publications_fault (publications.Tlv place) = codes "Q2" ∷ decimal place ∷ []
publications_fault (publications.RefusedElement kind place) = codes "Q3" ∷ decimal kind ∷ decimal place ∷ []
publications_fault (publications.UnknownCritical kind place) = codes "Q4" ∷ decimal kind ∷ decimal place ∷ []
publications_fault (publications.Missing kind place) = codes "Q5" ∷ decimal kind ∷ decimal place ∷ []
publications_fault (publications.Repeated kind place) = codes "Q6" ∷ decimal kind ∷ decimal place ∷ []
publications_fault (publications.Imprint place) = codes "Q7" ∷ decimal place ∷ []
publications_fault (publications.Number place) = codes "Q8" ∷ decimal place ∷ []
publications_fault (publications.Time place) = codes "Q9" ∷ decimal place ∷ []

abbrev pub journal_fault : JournalFault → List (List ℕ)
journal_fault journals.Magic = codes "J1" ∷ []
journal_fault (journals.Tlv place) = codes "J2" ∷ decimal place ∷ []
journal_fault (journals.Order place) = codes "J3" ∷ decimal place ∷ []
journal_fault (journals.TreeRoot second kept computed) = codes "J4" ∷ decimal second ∷ hex_of kept ∷ hex_of computed ∷ []
journal_fault (journals.Bound place) = codes "J5" ∷ decimal place ∷ []
journal_fault (journals.Imprint place) = codes "J6" ∷ decimal place ∷ []
journal_fault (journals.Count second) = codes "J7" ∷ decimal second ∷ []
journal_fault (journals.Ends place) = codes "J8" ∷ decimal place ∷ []
journal_fault (journals.Name place) = codes "J9" ∷ decimal place ∷ []
journal_fault (journals.Voters place) = codes "J10" ∷ decimal place ∷ []

abbrev pub front_fault : FrontFault → List (List ℕ)
front_fault fronts.Magic = codes "C1" ∷ []
front_fault (fronts.Tlv place) = codes "C2" ∷ decimal place ∷ []
front_fault (fronts.Order place) = codes "C3" ∷ decimal place ∷ []
front_fault (fronts.Imprint place) = codes "C4" ∷ decimal place ∷ []
front_fault (fronts.Number place) = codes "C5" ∷ decimal place ∷ []

-- of a schedule the value is the line, from 1
abbrev pub line_code : LineFault → List ℕ
line_code lines.Word = codes "L1"
line_code lines.Number = codes "L2"
line_code lines.Hash = codes "L3"
line_code lines.NoSuchActor = codes "L4"
line_code lines.SecondOutOfRange = codes "L5"
line_code lines.TooManyEvents = codes "L6"
line_code lines.Header = codes "L7"
line_code lines.Name = codes "L8"

abbrev pub schedule_fault : LineFault × ℕ → List (List ℕ)
schedule_fault at = line_code at.0 ∷ decimal at.1 ∷ []

-- the line of a fault of a schedule
abbrev pub IsLineOf : ℕ → ScheduleFault → List ℕ → Type 0
IsLineOf n (schedules.Line fault line) text = text ≡ malformed_line n (schedule_fault (fault, line))

abbrev pub proof_fault : ProofFault → List (List ℕ)
proof_fault proofs.Magic = codes "G1" ∷ []
proof_fault (proofs.Tlv place) = codes "G2" ∷ decimal place ∷ []
proof_fault (proofs.Order place) = codes "G3" ∷ decimal place ∷ []
proof_fault (proofs.Imprint place) = codes "G4" ∷ decimal place ∷ []
proof_fault (proofs.Number place) = codes "G5" ∷ decimal place ∷ []
proof_fault (proofs.Links place) = codes "G6" ∷ decimal place ∷ []

abbrev pub node_fault : NodeFault → List (List ℕ)
node_fault nodes.NotFormatted = codes "N1" ∷ []
node_fault (nodes.Malformed place) = codes "N2" ∷ decimal place ∷ []
node_fault (nodes.Bad core cores start) = codes "N3" ∷ decimal core ∷ decimal cores ∷ decimal start ∷ []
