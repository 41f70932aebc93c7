-- The journal that bytes are, or their first fault. The law `journal_is_read` says that these are those of `File`.
use Rattle.std.specs.Prelude.{ℕ, List, take, Result, if◌then◌else◌}
use Rattle.std.specs.Str.{bytes_eq}
use Rattle.ksi_tlv.specs.Reading.{file_at}
use Rattle.ksi_journal.specs.declared.fault.JournalFault.{JournalFault}
use Rattle.ksi_journal.specs.declared.version.Version.TheVariants.{One, Two}
use Rattle.ksi_journal.specs.Journal.{Contents}
use Rattle.ksi_journal.specs.File.{magic, journal_format}

-- a file of version 1 where it has that magic, else one of version 2
unfoldable pub journal_at : (List ℕ → List ℕ) → List ℕ → Result Contents JournalFault
journal_at image bytes =
    if bytes_eq (take 8 bytes) (magic One) then file_at (journal_format image One) bytes
    else file_at (journal_format image Two) bytes
