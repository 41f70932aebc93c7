-- The front that bytes are, or their first fault. The law `front_is_read` says that these are those of `File`.
use Rattle.std.specs.Prelude.{ℕ, List, Result}
use Rattle.ksi_tlv.specs.Reading.{file_at}
use Rattle.ksi_consistency.specs.declared.fault.FrontFault.{FrontFault}
use Rattle.ksi_consistency.specs.Elements.{Contents}
use Rattle.ksi_consistency.specs.File.{front_format}

unfoldable pub front_at : List ℕ → Result Contents FrontFault
front_at bytes = file_at front_format bytes
