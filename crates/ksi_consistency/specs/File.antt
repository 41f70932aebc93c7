-- Which bytes are which front, and the first fault of bytes that are none.
use Rattle.std.specs.Prelude.{ℕ, List, codes}
use Rattle.ksi_tlv.specs.Format.{Format, IsFile, IsFileFault}
use Rattle.ksi_consistency.specs.declared.fault.FrontFault.{FrontFault}
use Rattle.ksi_consistency.specs.declared.fault.FrontFault.TheVariants as faults
use Rattle.ksi_consistency.specs.Elements.{Contents, Said, front_order, nothing_yet}

-- the eight bytes that the file of a front begins with
abbrev pub magic : List ℕ
magic = codes "KSIFRNT1"

-- after the magic there are whole elements in their order, which encode the content of the front
unfoldable pub front_format : Format Said FrontFault Contents
front_format = record { magic = magic; other = faults.Magic; order = front_order; start = nothing_yet; value = λ s. s.contents }

abbrev pub IsFrontFile : List ℕ → Contents → Type 0
IsFrontFile = IsFile front_format

abbrev pub IsFrontFault : List ℕ → FrontFault → Type 0
IsFrontFault = IsFileFault front_format
