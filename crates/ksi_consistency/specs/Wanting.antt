-- When memory may run out while a front's file is read.
use Rattle.std.specs.Prelude.{◌≢◌, IsOk, ℕ, List}
use Rattle.ksi_tlv.specs.Walking.{PlacedTlv}
use Rattle.ksi_tlv.specs.Format as files
use Rattle.ksi_consistency.specs.Elements.{Said, element_read}
use Rattle.ksi_consistency.specs.File.{front_format}

-- an element that has no fault, and is neither the older second nor the newer one
abbrev pub WantsFor : Said → PlacedTlv → Type 0
WantsFor s at = (at.element.kind ≢ 1) × (at.element.kind ≢ 2) × IsOk (element_read s at)

-- memory ran out for an imprint after both seconds, up to which there is no fault
abbrev pub IsWantingInside : List ℕ → Type 0
IsWantingInside = files.IsWantingInside front_format WantsFor
