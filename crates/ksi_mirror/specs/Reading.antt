-- The mirror that bytes are, or their first fault. The law `mirror_is_read` says that these are those of `File`.
use Rattle.std.specs.Prelude.{ℕ, List, Result}
use Rattle.ksi_tlv.specs.Reading.{file_at}
use Rattle.ksi_journal.specs.declared.fault.JournalFault.{JournalFault}
use Rattle.ksi_mirror.specs.Mirrors.{MirrorState}
use Rattle.ksi_mirror.specs.File.{mirror_format}

unfoldable pub mirror_at : List ℕ → Result MirrorState JournalFault
mirror_at bytes = file_at mirror_format bytes
