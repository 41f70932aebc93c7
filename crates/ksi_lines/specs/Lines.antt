-- Printed lines: words parted by single spaces, as in a schedule, and a line feed.
use Rattle.std.specs.Prelude.{ℕ, List, [], ◌∷◌, ◌++◌, codes, Option, Some, None}
use Rattle.std.specs.Fmt.{decimal}
use Rattle.ksi_schedule.specs.Printed.{line_of, hex_of}
use Rattle.ksi_split.specs.declared.fault.ShapeFault.{ShapeFault}
use Rattle.ksi_split.specs.declared.fault.ShapeFault.TheVariants.{TooMany, TooFew}
use Rattle.ksi_verifier.specs.declared.difference.RecordDifference.{RecordDifference}
use Rattle.ksi_verifier.specs.declared.difference.RecordDifference.TheVariants as differences
use Rattle.ksi_verifier.specs.declared.refusal.Refusal.{Refusal}
use Rattle.ksi_verifier.specs.declared.refusal.Refusal.TheVariants.{WrongHash, IndexOrder, IndexShape, Level, ChainBreak, AggregationTimes, BareMetadata, NoCalendar, CalendarInput, MissedSecond, CalendarShape, TimeField, RecordDiffers, NoPublication, PublicationDiffers}

abbrev pub line_text : List (List ℕ) → List ℕ
line_text words = line_of words ++ (10 ∷ [])

-- a number, or a dash if there is none
abbrev pub optional_text : Option ℕ → List ℕ
optional_text None = codes "-"
optional_text (Some n) = decimal n

-- file word n has a fault: its code and its values
abbrev pub malformed_line : ℕ → List (List ℕ) → List ℕ
malformed_line n fault = line_text (codes "malformed" ∷ decimal n ∷ fault)

-- what is asked for is refused: a code and its values
abbrev pub refused_for : List (List ℕ) → List ℕ
refused_for words = line_text (codes "refused" ∷ words)

-- ---- a check that fails

abbrev pub shape_words : ShapeFault → List (List ℕ)
shape_words (TooMany place) = codes "many" ∷ decimal place ∷ []
shape_words (TooFew rest) = codes "few" ∷ decimal rest ∷ []

abbrev pub difference_words : RecordDifference → List (List ℕ)
difference_words (differences.Time record_time publication) = codes "time" ∷ decimal record_time ∷ decimal publication ∷ []
difference_words (differences.Hash record_hash computed) = codes "hash" ∷ hex_of record_hash ∷ hex_of computed ∷ []

abbrev pub refusal_words : Refusal → List (List ℕ)
refusal_words (WrongHash in_signature given) = codes "V1" ∷ hex_of in_signature ∷ hex_of given ∷ []
refusal_words (IndexOrder chain place lower higher) = codes "V2" ∷ decimal chain ∷ decimal place ∷ optional_text lower ∷ optional_text higher ∷ []
refusal_words (IndexShape chain part shape) = codes "V3" ∷ decimal chain ∷ decimal part ∷ decimal shape ∷ []
refusal_words (Level chain link level) = codes "V4" ∷ decimal chain ∷ decimal link ∷ decimal level ∷ []
refusal_words (ChainBreak chain computed stated) = codes "V5" ∷ decimal chain ∷ hex_of computed ∷ hex_of stated ∷ []
refusal_words (AggregationTimes chain first this) = codes "V6" ∷ decimal chain ∷ decimal first ∷ decimal this ∷ []
refusal_words (BareMetadata chain link) = codes "V15" ∷ decimal chain ∷ decimal link ∷ []
refusal_words NoCalendar = codes "V7" ∷ []
refusal_words (CalendarInput computed stated) = codes "V8" ∷ hex_of computed ∷ hex_of stated ∷ []
refusal_words MissedSecond = codes "V9" ∷ []
refusal_words (CalendarShape fault) = codes "V10" ∷ shape_words fault
refusal_words (TimeField field second) = codes "V11" ∷ decimal field ∷ decimal second ∷ []
refusal_words (RecordDiffers difference) = codes "V12" ∷ difference_words difference
refusal_words (NoPublication time) = codes "V13" ∷ decimal time ∷ []
refusal_words (PublicationDiffers time in_file computed) = codes "V14" ∷ decimal time ∷ hex_of in_file ∷ hex_of computed ∷ []

abbrev pub refused_line : Refusal → List ℕ
refused_line refusal = refused_for (refusal_words refusal)
