-- Which bytes are which mirror, and the first fault of bytes that are none.
use Rattle.std.specs.Prelude.{ℕ, List, codes}
use Rattle.ksi_tlv.specs.Format as files
use Rattle.ksi_tlv.specs.Format.{Format, IsFile, IsFileFault}
use Rattle.ksi_journal.specs.declared.fault.JournalFault.{JournalFault}
use Rattle.ksi_journal.specs.declared.fault.JournalFault.TheVariants as faults
use Rattle.ksi_mirror.specs.Mirrors.{MirrorState}
use Rattle.ksi_mirror.specs.Elements.{MirrorSaid, WantsFor, mirror_order, nothing_yet}

-- the eight bytes that a mirror's file begins with
abbrev pub magic : List ℕ
magic = codes "KSIMIRR1"

-- after the magic there are whole elements in their order, which encode the content of the mirror
unfoldable pub mirror_format : Format MirrorSaid JournalFault MirrorState
mirror_format = record { magic = magic; other = faults.Magic; order = mirror_order; start = nothing_yet; value = λ s. s.mirror }

abbrev pub IsMirrorFile : List ℕ → MirrorState → Type 0
IsMirrorFile = IsFile mirror_format

abbrev pub IsMirrorFault : List ℕ → JournalFault → Type 0
IsMirrorFault = IsFileFault mirror_format

-- the bytes begin with another magic
abbrev pub IsOther : List ℕ → Type 0
IsOther = files.IsOther mirror_format

-- memory ran out for an element after the start, up to which there is no fault
abbrev pub IsWantingInside : List ℕ → Type 0
IsWantingInside = files.IsWantingInside mirror_format WantsFor
