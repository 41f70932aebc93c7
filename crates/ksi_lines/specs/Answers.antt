-- The lines of what is answered: why a signature is not extended, where an audit finds it, and what a front shows.
use Rattle.std.specs.Prelude.{ℕ, List, [], ◌∷◌, ◌++◌, codes}
use Rattle.std.specs.Fmt.{decimal}
use Rattle.hex.specs.Hex.{encode_lower}
use Rattle.ksi_split.specs.declared.side.Side.{Side}
use Rattle.ksi_split.specs.declared.side.Side.TheVariants.{Left, Right}
use Rattle.ksi_schedule.specs.Printed.{hex_of}
use Rattle.ksi_extender.specs.declared.refusal.ExtendRefusal.{ExtendRefusal}
use Rattle.ksi_extender.specs.declared.refusal.ExtendRefusal.TheVariants as refusals
use Rattle.ksi_auditor.specs.declared.answer.Audit.{Audit}
use Rattle.ksi_auditor.specs.declared.answer.Audit.TheVariants as answers
use Rattle.ksi_consistency.specs.declared.refusal.FrontRefusal.{FrontRefusal}
use Rattle.ksi_consistency.specs.declared.refusal.FrontRefusal.TheVariants as front_refusals
use Rattle.ksi_consistency.specs.declared.compared.Compared.{Compared}
use Rattle.ksi_consistency.specs.declared.compared.Compared.TheVariants as compared
use Rattle.ksi_lines.specs.Lines.{line_text, malformed_line, refused_for, refused_line}
use Rattle.ksi_lines.specs.FaultWords.{signature_fault}

-- The signature is file word n.
abbrev pub not_extended_line : (n : ℕ) → ExtendRefusal → List ℕ
not_extended_line n (refusals.Malformed fault) = malformed_line n (signature_fault fault)
not_extended_line n (refusals.Refused refusal) = refused_line refusal
not_extended_line n (refusals.RootDiffers second kept given) = refused_for (codes "E1" ∷ decimal second ∷ hex_of kept ∷ hex_of given ∷ [])
not_extended_line n (refusals.Undecided second) = refused_for (codes "E2" ∷ decimal second ∷ [])
not_extended_line n (refusals.TooEarly second publication) = refused_for (codes "E3" ∷ decimal second ∷ decimal publication ∷ [])
not_extended_line n (refusals.BeforeStart second) = refused_for (codes "E4" ∷ decimal second ∷ [])
not_extended_line n (refusals.TooLarge size) = refused_for (codes "E5" ∷ decimal size ∷ [])

-- ---- an audit

abbrev pub letter : Side → List ℕ
letter Left = codes "L"
letter Right = codes "R"

abbrev pub letters : List Side → List ℕ
letters [] = []
letters (side ∷ sides) = letter side ++ letters sides

-- the sides of a path, or a dash if there are none
abbrev pub way_text : List Side → List ℕ
way_text [] = codes "-"
way_text (side ∷ sides) = letters (side ∷ sides)

abbrev pub inside_line : (second : ℕ) → List Side → List ℕ
inside_line second way = line_text (codes "inside" ∷ decimal second ∷ way_text way ∷ [])

-- two strings in hex
abbrev pub clash_line : (one two : List ℕ) → List ℕ
clash_line one two = line_text (codes "clash" ∷ encode_lower one ∷ encode_lower two ∷ [])

-- a journal's start is after the second
abbrev pub before_start_line : (second : ℕ) → List ℕ
before_start_line second = line_text (codes "before" ∷ codes "start" ∷ decimal second ∷ [])

-- the first second that a journal does not keep
abbrev pub undecided_line : (second : ℕ) → List ℕ
undecided_line second = line_text (codes "undecided" ∷ decimal second ∷ [])

abbrev pub audit_line : Audit → List ℕ
audit_line (answers.Inside second way) = inside_line second way
audit_line (answers.Beneath second item links) = line_text (codes "beneath" ∷ decimal second ∷ decimal item ∷ decimal links ∷ [])
audit_line (answers.Clash clash) = clash_line clash.one clash.two
audit_line (answers.NotAccepted refusal) = refused_line refusal
audit_line (answers.BeforeStart publication) = before_start_line publication
audit_line (answers.Undecided second) = undecided_line second
audit_line (answers.NotDecided publication given kept) = line_text (codes "not" ∷ codes "decided" ∷ decimal publication ∷ hex_of given ∷ hex_of kept ∷ [])

-- ---- what a front shows of two calendars

abbrev pub not_front_line : FrontRefusal → List ℕ
not_front_line (front_refusals.Length needed given) = refused_for (codes "F1" ∷ decimal needed ∷ decimal given ∷ [])
not_front_line (front_refusals.OldDiffers computed given) = refused_for (codes "F2" ∷ hex_of computed ∷ hex_of given ∷ [])
not_front_line (front_refusals.NewDiffers computed given) = refused_for (codes "F3" ∷ hex_of computed ∷ hex_of given ∷ [])

-- the last second of the older calendar is p1
abbrev pub compared_line : (p1 : ℕ) → Compared → List ℕ
compared_line p1 (compared.NotAccepted refusal) = not_front_line refusal
compared_line p1 compared.Equal = line_text (codes "equal" ∷ decimal p1 ∷ [])
compared_line p1 (compared.Clash clash) = clash_line clash.one clash.two
