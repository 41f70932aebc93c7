-- The cost of disk calls, and when they fail.
use Rattle.std.specs.Prelude.{◌≡◌, ℕ, ◌+◌, ◌≤◌, Option, Some, None, Result, Ok, Err}
use Rattle.ksi_disk.specs.declared.disk.DiskFailed.{DiskFailed}
use Rattle.ksi_ports.specs.Outside.{Raises}

-- the count of faults after a call: it rises if the call failed, and is unchanged otherwise
abbrev pub DiskCounts : {T : Type 0} → ℕ → ℕ → Result T DiskFailed → Type 0
DiskCounts before now (Ok value) = now ≡ before
DiskCounts before now (Err failed) = Raises before now

-- the capacity left: bytes to write, and writes and syncs
pub record Meter : Type 0 where
  pub room : ℕ
  pub turns : ℕ

-- if the disk reports its capacity, it has this many bytes and calls left
abbrev pub Affords : ℕ → ℕ → Option Meter → Type 0
Affords bytes turns None = ⊥
Affords bytes turns (Some meter) = (bytes ≤ meter.room) × (turns ≤ meter.turns)

-- it still reports its capacity, and at most this many bytes and calls were used
abbrev pub Spends : ℕ → ℕ → Option Meter → Option Meter → Type 0
Spends bytes turns None new = new ≡ None
Spends bytes turns (Some old) None = ⊥
Spends bytes turns (Some old) (Some new) = (old.room ≤ new.room + bytes) × (old.turns ≤ new.turns + turns)
