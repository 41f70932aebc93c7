-- When memory may run out while a proof file is read.
use Rattle.std.specs.Prelude.{◌≡◌, true, IsOk, ℕ, List}
use Rattle.ksi_tlv.specs.Walking.{PlacedTlv}
use Rattle.ksi_tlv.specs.Format as files
use Rattle.ksi_logblock.specs.Elements.{Said, element_read}
use Rattle.ksi_logblock.specs.File.{proof_format}

-- an element that has no fault, and is not the mask
abbrev pub WantsFor : Said → PlacedTlv → Type 0
WantsFor s at = (s.started ≡ true) × IsOk (element_read s at)

-- memory ran out for a link, up to which there is no fault
abbrev pub IsWantingInside : List ℕ → Type 0
IsWantingInside = files.IsWantingInside proof_format WantsFor
