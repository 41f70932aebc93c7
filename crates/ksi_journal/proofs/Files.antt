-- What is read in bytes is the journal that they are, or their first fault; so they have exactly one of these.
use Rattle.std.proofs.Common.{◌≡◌, ◌⊎◌, inl, inr, ℕ, ◌+◌, Bool, true, false, cond, List, ◌++◌, length, take, drop, Result, Ok, Err, refl, ap, subst}
use Rattle.std.specs.Prelude.{◌↔◌}
use Rattle.std.specs.Str.{bytes_eq}
use Rattle.ksi_imprint.specs.Refused.{IfRefused}
use Rattle.ksi_imprint.specs.declared.refused.Refused.{Refused}
use Rattle.ksi_imprint.specs.declared.refused.Refused.TheVariants.{Fault, NoMemory}
use Rattle.ksi_tlv.specs.Walking.{elements}
use Rattle.ksi_tlv.specs.Sequence.{IsWhole, IsWanting, Tells}
use Rattle.ksi_tlv.specs.Format as files
use Rattle.ksi_tlv.specs.Format.{Format, IsFile, IsFileFault}
use Rattle.ksi_tlv.specs.Reading.{file_at}
use Rattle.ksi_tlv.proofs.Files as formats
use Rattle.ksi_tlv.proofs.Refusing.{inside_refused}
use Rattle.ksi_journal.specs.declared.fault.JournalFault.{JournalFault}
use Rattle.ksi_journal.specs.declared.version.Version.{Version}
use Rattle.ksi_journal.specs.declared.version.Version.TheVariants.{One, Two}
use Rattle.ksi_journal.specs.Journal.{Contents}
use Rattle.ksi_journal.specs.Elements.{Loaded, WantsFor, journal_order, nothing_yet}
use Rattle.ksi_journal.specs.File.{magic, journal_format, IsJournalFile, IsOther, IsJournalFault, IsWantingInside}
use Rattle.ksi_journal.specs.Reading.{journal_at}

-- the laws of files of one format
pub record Laws : Type 0 where
  pub value : (f : Format Loaded JournalFault Contents) (bytes : List ℕ) (value : Contents) → (file_at f bytes ≡ Ok value) ↔ IsFile f bytes value
  pub fault : (f : Format Loaded JournalFault Contents) (bytes : List ℕ) (fault : JournalFault) → (file_at f bytes ≡ Err fault) ↔ IsFileFault f bytes fault

-- ---- one version

abbrev is_one : List ℕ → Bool
is_one bytes = bytes_eq (take 8 bytes) (magic One)

abbrev is_first : Version → Bool
is_first One = true
is_first Two = false

one_version : (version : Version) (bytes rest : List ℕ) → bytes ≡ magic version ++ rest → is_one bytes ≡ is_first version
one_version One bytes rest e = ap is_one e
one_version Two bytes rest e = ap is_one e

module _ (image : List ℕ → List ℕ) (bytes : List ℕ) where
  file_version : (version : Version) (journal : Contents) → IsFile (journal_format image version) bytes journal → is_one bytes ≡ is_first version
  unfolding journal_format
  file_version version journal file = one_version version bytes file.rest file.begins

  fault_version : (version : Version) (fault : JournalFault) → files.IsFaultInside (journal_format image version) bytes fault → is_one bytes ≡ is_first version
  unfolding journal_format
  fault_version version fault inside = one_version version bytes inside.rest inside.begins

  is_not_one : (rest : List ℕ) → is_one bytes ≡ false → bytes ≡ magic One ++ rest → ⊥
  is_not_one rest other e = absurd (let same = one_version One bytes rest e in cc)

  no_version : is_one bytes ≡ false → files.IsOther (journal_format image Two) bytes → IsOther bytes
  unfolding journal_format
  no_version not_one other One rest e = is_not_one rest not_one e
  no_version not_one other Two rest e = other rest e

  -- ---- what is read stands, by the magic

  module _ (laws : Laws) where
    abbrev read_if : Bool → Result Contents JournalFault
    read_if one = cond one (file_at (journal_format image One) bytes) (file_at (journal_format image Two) bytes)

    file_of : (one : Bool) (journal : Contents) → read_if one ≡ Ok journal → IsJournalFile image bytes journal
    file_of true journal e = record { version = One; file = (laws.value (journal_format image One) bytes journal).0 e }
    file_of false journal e = record { version = Two; file = (laws.value (journal_format image Two) bytes journal).0 e }

    of_file : (one : Bool) (version : Version) (journal : Contents) → is_one bytes ≡ one → IsFile (journal_format image version) bytes journal → read_if one ≡ Ok journal
    of_file true One journal is file = (laws.value (journal_format image One) bytes journal).1 file
    of_file true Two journal is file = absurd (let other = file_version Two journal file in cc)
    of_file false One journal is file = absurd (let other = file_version One journal file in cc)
    of_file false Two journal is file = (laws.value (journal_format image Two) bytes journal).1 file

    fault_in : (one : Bool) (fault : JournalFault) → is_one bytes ≡ one → read_if one ≡ Err fault → IsJournalFault image bytes fault
    unfolding journal_format
    fault_in true fault is e = elim ((laws.fault (journal_format image One) bytes fault).0 e) [
      | inl other ↦ absurd (other.begins (drop 8 bytes) (formats.begins (magic One) bytes is))
      | inr inside ↦ inr (record { version = One; first = inside })
    ]
    fault_in false fault is e = elim ((laws.fault (journal_format image Two) bytes fault).0 e) [
      | inl other ↦ inl (record { begins = no_version is other.begins; named = other.named })
      | inr inside ↦ inr (record { version = Two; first = inside })
    ]

    of_inside : (one : Bool) (version : Version) (fault : JournalFault) → is_one bytes ≡ one → files.IsFaultInside (journal_format image version) bytes fault → read_if one ≡ Err fault
    of_inside true One fault is inside = (laws.fault (journal_format image One) bytes fault).1 (inr inside)
    of_inside true Two fault is inside = absurd (let other = fault_version Two fault inside in cc)
    of_inside false One fault is inside = absurd (let other = fault_version One fault inside in cc)
    of_inside false Two fault is inside = (laws.fault (journal_format image Two) bytes fault).1 (inr inside)

    of_fault : (one : Bool) (fault : JournalFault) → is_one bytes ≡ one → IsJournalFault image bytes fault → read_if one ≡ Err fault
    unfolding journal_format
    of_fault true fault is (inl other) = absurd (other.begins One (drop 8 bytes) (formats.begins (magic One) bytes is))
    of_fault false fault is (inl other) = (laws.fault (journal_format image Two) bytes fault).1 (inl (record { begins = other.begins Two; named = other.named }))
    of_fault one fault is (inr inside) = of_inside one inside.version fault is inside.first

    pub journal_read : (journal : Contents) → (journal_at image bytes ≡ Ok journal) ↔ IsJournalFile image bytes journal
    unfolding journal_at
    journal_read journal = (λ e. file_of (is_one bytes) journal e, λ is. of_file (is_one bytes) is.version journal refl is.file)

    pub fault_read : (fault : JournalFault) → (journal_at image bytes ≡ Err fault) ↔ IsJournalFault image bytes fault
    unfolding journal_at
    fault_read fault = (λ e. fault_in (is_one bytes) fault refl e, λ is. of_fault (is_one bytes) fault refl is)

-- ---- why the elements are refused

abbrev refusal : Refused JournalFault → Result (Unit {0}) (Refused JournalFault)
refusal refused = Err refused

pub journal_refused : (image : List ℕ → List ℕ) (version : Version) (bytes rest : List ℕ) (s t : Loaded) (refused : Refused JournalFault)
    → bytes ≡ magic version ++ rest → s ≡ nothing_yet version → Tells (journal_order image) (8 + length rest) (elements 8 rest) s t (Err refused)
    → (refusal refused ≡ Err NoMemory → IsWanting (journal_order image) (WantsFor image) (elements 8 rest) s)
    → IfRefused {T = Contents} (Err refused) (IsJournalFault image bytes) (IsWantingInside image bytes ⊎ ((journal : Contents) × IsJournalFile image bytes journal))
unfolding journal_format
journal_refused image One bytes rest s t (Fault fault) begins start told wanting =
    inr (record { version = One; first = inside_refused (journal_format image One) (WantsFor image) bytes rest s t (Fault fault) begins start told wanting })
journal_refused image Two bytes rest s t (Fault fault) begins start told wanting =
    inr (record { version = Two; first = inside_refused (journal_format image Two) (WantsFor image) bytes rest s t (Fault fault) begins start told wanting })
journal_refused image One bytes rest s t NoMemory begins start told wanting =
    inl (record { version = One; wanting = inside_refused (journal_format image One) (WantsFor image) bytes rest s t NoMemory begins start told wanting })
journal_refused image Two bytes rest s t NoMemory begins start told wanting =
    inl (record { version = Two; wanting = inside_refused (journal_format image Two) (WantsFor image) bytes rest s t NoMemory begins start told wanting })

-- whole elements behind the magic of a version
pub journal_whole : (image : List ℕ → List ℕ) (version : Version) (bytes rest : List ℕ) (s t : Loaded) → bytes ≡ magic version ++ rest → s ≡ nothing_yet version → IsWhole (journal_order image) (elements 8 rest) s t
    → IsJournalFile image bytes t.contents
unfolding journal_format
journal_whole image One bytes rest s t begins start whole =
    record { version = One; file = record { rest = rest; begins = begins; said = t; whole = subst (λ (u : Loaded). IsWhole (journal_order image) (elements 8 rest) u t) start whole; has = refl } }
journal_whole image Two bytes rest s t begins start whole =
    record { version = Two; file = record { rest = rest; begins = begins; said = t; whole = subst (λ (u : Loaded). IsWhole (journal_order image) (elements 8 rest) u t) start whole; has = refl } }

-- ---- exactly one

pub record IsRead (image : List ℕ → List ℕ) (bytes : List ℕ) : Type 0 where
  pub journal : (journal : Contents) → (journal_at image bytes ≡ Ok journal) ↔ IsJournalFile image bytes journal
  pub fault : (fault : JournalFault) → (journal_at image bytes ≡ Err fault) ↔ IsJournalFault image bytes fault

module _ (image : List ℕ → List ℕ) (bytes : List ℕ) (read : IsRead image bytes) where
  by_reading : (r : Result Contents JournalFault) → journal_at image bytes ≡ r → ((journal : Contents) × IsJournalFile image bytes journal) ⊎ ((fault : JournalFault) × IsJournalFault image bytes fault)
  by_reading (Ok journal) is = inl (journal, (read.journal journal).0 is)
  by_reading (Err fault) is = inr (fault, (read.fault fault).0 is)

  pub one_of : ((journal : Contents) × IsJournalFile image bytes journal) ⊎ ((fault : JournalFault) × IsJournalFault image bytes fault)
  one_of = by_reading (journal_at image bytes) refl

  pub not_both : (journal : Contents) (fault : JournalFault) → IsJournalFile image bytes journal → IsJournalFault image bytes fault → ⊥
  not_both journal fault file first = absurd (let ok = (read.journal journal).1 file in let err = (read.fault fault).1 first in cc)

  pub one_journal : (some other : Contents) → IsJournalFile image bytes some → IsJournalFile image bytes other → some ≡ other
  one_journal some other file also = let a = (read.journal some).1 file in let b = (read.journal other).1 also in cc

  pub one_fault : (fault other : JournalFault) → IsJournalFault image bytes fault → IsJournalFault image bytes other → fault ≡ other
  one_fault fault other first also = let a = (read.fault fault).1 first in let b = (read.fault other).1 also in cc
