-- Which bytes are which journal, and the first fault of bytes that are none.
use Rattle.std.specs.Prelude.{◌≡◌, ◌⊎◌, List, ◌++◌, ℕ, codes}
use Rattle.ksi_tlv.specs.Format as files
use Rattle.ksi_tlv.specs.Format.{Format, IsFile}
use Rattle.ksi_journal.specs.declared.fault.JournalFault.{JournalFault}
use Rattle.ksi_journal.specs.declared.fault.JournalFault.TheVariants as faults
use Rattle.ksi_journal.specs.declared.version.Version.{Version}
use Rattle.ksi_journal.specs.declared.version.Version.TheVariants.{One, Two}
use Rattle.ksi_journal.specs.Journal.{Contents}
use Rattle.ksi_journal.specs.Elements.{Loaded, WantsFor, journal_order, nothing_yet}

-- the eight bytes that a journal begins with, by its version
abbrev pub magic : Version → List ℕ
magic One = codes "KSIJRNL1"
magic Two = codes "KSIJRNL2"

-- after the magic of the version there are whole elements in their order, which encode the content of the journal
unfoldable pub journal_format : (List ℕ → List ℕ) → Version → Format Loaded JournalFault Contents
journal_format image version =
    record { magic = magic version; other = faults.Magic; order = journal_order image; start = nothing_yet version; value = λ s. s.contents }

-- a file of one of the versions
pub record IsJournalFile (image : List ℕ → List ℕ) (bytes : List ℕ) (journal : Contents) : Type 0 where
  pub version : Version
  pub file : IsFile (journal_format image version) bytes journal

-- the bytes begin with the magic of no version
abbrev pub IsOther : List ℕ → Type 0
IsOther bytes = (version : Version) (rest : List ℕ) → bytes ≡ magic version ++ rest → ⊥

pub record IsOtherFile (bytes : List ℕ) (fault : JournalFault) : Type 0 where
  pub begins : IsOther bytes
  pub named : fault ≡ faults.Magic

-- the first fault of the elements after the magic of a version
pub record IsFaultInside (image : List ℕ → List ℕ) (bytes : List ℕ) (fault : JournalFault) : Type 0 where
  pub version : Version
  pub first : files.IsFaultInside (journal_format image version) bytes fault

abbrev pub IsJournalFault : (List ℕ → List ℕ) → List ℕ → JournalFault → Type 0
IsJournalFault image bytes fault = IsOtherFile bytes fault ⊎ IsFaultInside image bytes fault

-- memory ran out for an element after the start, up to which there is no fault
pub record IsWantingInside (image : List ℕ → List ℕ) (bytes : List ℕ) : Type 0 where
  pub version : Version
  pub wanting : files.IsWantingInside (journal_format image version) (WantsFor image) bytes
