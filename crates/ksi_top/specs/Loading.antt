-- The meaning of a file word.
use Rattle.std.specs.Prelude.{ℕ, List, [], ◌∷◌, codes, length, unwrap_or, nat_lt, Result, Ok, Err, if◌then◌else◌}
use Rattle.std.specs.Fmt.{decimal}
use Rattle.ksi_ports.specs.Stored.{Held}
use Rattle.ksi_signature.specs.declared.signature.Signature.{Signature}
use Rattle.ksi_signature.specs.Reading.{signature_at}
use Rattle.ksi_publications.specs.Reading.{publications_at}
use Rattle.ksi_imprint.specs.Imprints.{imprint_of}
use Rattle.ksi_journal.specs.Journal.{Contents}
use Rattle.ksi_journal.specs.Reading.{journal_at}
use Rattle.ksi_consistency.specs.Elements as fronts
use Rattle.ksi_consistency.specs.Reading.{front_at}
use Rattle.ksi_logblock.specs.declared.line_proof.LineProof.{LineProof}
use Rattle.ksi_logblock.specs.ProofReading.{proof_at}
use Rattle.ksi_mirror.specs.Mirrors.{MirrorState}
use Rattle.ksi_mirror.specs.Reading.{mirror_at}
use Rattle.ksi_schedule.specs.Events.{History}
use Rattle.ksi_schedule.specs.Reading.{schedule_at}
use Rattle.ksi_nodestore.specs.declared.inspected.Inspected.{Inspected}
use Rattle.ksi_nodestore.specs.Inspecting.{inspected}
use Rattle.ksi_top.specs.declared.report.Report.{Report}
use Rattle.ksi_top.specs.declared.report.Halt.{Halt}
use Rattle.ksi_top.specs.declared.status.Status.TheVariants.{Malformed, TooLong}
use Rattle.ksi_top.specs.Reports.{report, and_then}
use Rattle.ksi_lines.specs.FaultWords.{signature_fault, publications_fault, journal_fault, front_fault, schedule_fault, proof_fault, node_fault}
use Rattle.ksi_lines.specs.Lines.{line_text, malformed_line}

-- the most bytes that a signature file may have, and those of any other file but that of a line
abbrev pub signature_limit : ℕ
signature_limit = 65539

abbrev pub file_limit : ℕ
file_limit = 67108864

-- what is held under a name, and no bytes where nothing is: such a load fails, so nothing is claimed of its run
abbrev pub content : Held → List ℕ → List ℕ
content held name = unwrap_or (held name) []

abbrev pub too_long_line : ℕ → List ℕ
too_long_line n = line_text (codes "too" ∷ codes "long" ∷ decimal n ∷ [])

abbrev pub within : ℕ → ℕ → List ℕ → Result (List ℕ) Report
within limit n bytes = if nat_lt limit (length bytes) then Err (report TooLong (too_long_line n)) else Ok bytes

-- the bytes of file word n, where they are within the limit
unfoldable pub loaded : ℕ → ℕ → Held → List ℕ → Result (List ℕ) Report
loaded limit n held name = within limit n (content held name)

-- ---- what the bytes of file word n are, where they are in the file's grammar, or the first fault

-- a kind of file: the words by which its faults are reported, and the reading of bytes
pub record FileKind (T : Type 0) : Type 1 where
  pub Fault : Type 0
  pub words : Fault → List (List ℕ)
  pub read : List ℕ → Result T Fault

abbrev pub file_of : {T F : Type 0} → (F → List (List ℕ)) → (List ℕ → Result T F) → FileKind T
file_of {F = F} words read = record { Fault = F; words = words; read = read }

abbrev pub signature_file : FileKind Signature
signature_file = file_of signature_fault signature_at

abbrev pub publications_file : FileKind (List (ℕ × List ℕ))
publications_file = file_of publications_fault publications_at

abbrev pub journal_file : FileKind Contents
journal_file = file_of journal_fault (journal_at imprint_of)

abbrev pub front_file : FileKind fronts.Contents
front_file = file_of front_fault front_at

abbrev pub schedule_file : FileKind History
schedule_file = file_of schedule_fault schedule_at

abbrev pub proof_file : FileKind LineProof
proof_file = file_of proof_fault proof_at

-- the faults of a mirror are those of a journal
abbrev pub mirror_file : FileKind MirrorState
mirror_file = file_of journal_fault mirror_at

abbrev pub node_file : FileKind Inspected
node_file = file_of node_fault inspected

abbrev pub or_malformed : {T F : Type 0} → (F → List (List ℕ)) → ℕ → Result T F → Result T Report
or_malformed words_of n (Ok value) = Ok value
or_malformed words_of n (Err fault) = Err (report Malformed (malformed_line n (words_of fault)))

abbrev pub read_as : {T : Type 0} → FileKind T → ℕ → List ℕ → Result T Report
read_as file n bytes = or_malformed file.words n (file.read bytes)

-- what a lent value shows, or the halt in its place
abbrev pub shown_or_halt : {T U : Type 0} → (T → U) → Result T Halt → Result U Halt
shown_or_halt shows (Ok view) = Ok (shows view)
shown_or_halt shows (Err halt) = Err halt

-- ---- the reading of file word n: a file that exceeds its limit, or is malformed, has the report of its fault instead

unfoldable pub loaded_as : {T : Type 0} → FileKind T → ℕ → ℕ → Held → List ℕ → Result T Report
loaded_as file limit n held name = and_then (loaded limit n held name) (read_as file n)

abbrev pub loaded_signature : ℕ → Held → List ℕ → Result Signature Report
loaded_signature = loaded_as signature_file signature_limit

abbrev pub loaded_publications : ℕ → Held → List ℕ → Result (List (ℕ × List ℕ)) Report
loaded_publications = loaded_as publications_file file_limit

abbrev pub loaded_journal : ℕ → Held → List ℕ → Result Contents Report
loaded_journal = loaded_as journal_file file_limit

abbrev pub loaded_front : ℕ → Held → List ℕ → Result fronts.Contents Report
loaded_front = loaded_as front_file file_limit

abbrev pub loaded_schedule : ℕ → Held → List ℕ → Result History Report
loaded_schedule = loaded_as schedule_file file_limit

abbrev pub loaded_proof : ℕ → Held → List ℕ → Result LineProof Report
loaded_proof = loaded_as proof_file file_limit

abbrev pub loaded_mirror : ℕ → Held → List ℕ → Result MirrorState Report
loaded_mirror = loaded_as mirror_file file_limit

abbrev pub loaded_node : ℕ → Held → List ℕ → Result Inspected Report
loaded_node = loaded_as node_file file_limit
