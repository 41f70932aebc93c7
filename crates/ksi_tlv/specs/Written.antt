-- Elements that a container may have, at any place.
use Rattle.std.specs.Prelude.{ℕ, List}
use Rattle.std.specs.List.{AllByRecursion}
use Rattle.ksi_tlv.specs.Spelling.{Tlv, FitsLong}
use Rattle.ksi_tlv.specs.Walking.{placed_at}
use Rattle.ksi_tlv.specs.Writing.{placed}
use Rattle.ksi_tlv.specs.Table.{Table}
use Rattle.ksi_tlv.specs.Valid.{MayStand, AreWithin, AreEnough}

-- an element is valid at any place, whatever the size of its encoding
pub record MayStandAnywhere (t : Table) (e : Tlv) : Type 0 where
  pub spelled : FitsLong e
  pub stands : (place size : ℕ) → MayStand t (placed_at place e size)

-- Elements that a container may have in this order: each is valid, no slot has too many, and none is missing.
pub record MayBeWritten (t : Table) (es : List Tlv) : Type 0 where
  pub each : AllByRecursion (MayStandAnywhere t) es
  pub within : AreWithin t.slots (placed 0 es)
  pub enough : AreEnough t.slots (placed 0 es)
