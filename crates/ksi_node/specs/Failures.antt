-- Why a node ends: the word of each failure, the failure of an error or a refusal, and what it says of the disk.
use Rattle.std.specs.Prelude.{◌≡◌, ℕ, codes, Result, Ok, Err}
use Rattle.std.specs.IoError.{error_kind}
use Rattle.std.specs.declared.io.Error.{Error}
use Rattle.std.specs.declared.io.ErrorKind.{ErrorKind}
use Rattle.std.specs.declared.io.ErrorKind.TheVariants as kinds
use Rattle.ksi_ports.specs.Outside.{Raises}
use Rattle.ksi_nodestore.specs.declared.refusal.TakeRefusal.{TakeRefusal}
use Rattle.ksi_nodestore.specs.declared.refusal.TakeRefusal.TheVariants as core_refusals
use Rattle.ksi_roundstore.specs.declared.refusal.TakeRefusal as rounds
use Rattle.ksi_roundstore.specs.declared.refusal.TakeRefusal.TheVariants as round_refusals
use Rattle.ksi_schedule.specs.Pieces.{Text}
use Rattle.ksi_node.specs.declared.failure.Failure.{Failure}
use Rattle.ksi_node.specs.declared.failure.Failure.TheVariants.{Words, Plan, Node, File, Disk, Memory, Stream}

-- the word after `failed`
abbrev pub failure_word : Failure → Text
failure_word Words = codes "words"
failure_word Plan = codes "plan"
failure_word Node = codes "node"
failure_word File = codes "file"
failure_word Disk = codes "disk"
failure_word Memory = codes "memory"
failure_word Stream = codes "stream"

-- `Memory` if the error is of this kind, else the other failure
abbrev pub failure_of_kind : ErrorKind → Failure → Failure
failure_of_kind kinds.OutOfMemory other = Memory
failure_of_kind _ other = other

abbrev pub failure_of : Error → Failure → Failure
failure_of error other = failure_of_kind (error_kind error) other

-- the failure if taking an event is refused
abbrev pub taken_failure : TakeRefusal → Failure
taken_failure core_refusals.Failed = Disk
taken_failure core_refusals.Spent = Disk
taken_failure core_refusals.NoMemory = Memory

abbrev pub taken_round_failure : rounds.TakeRefusal → Failure
taken_round_failure round_refusals.Failed = Disk
taken_round_failure round_refusals.Spent = Disk
taken_round_failure round_refusals.NoMemory = Memory

-- the disk's count of faults after a call: it rises if the call ends with the failure of the disk, and is unchanged otherwise;
-- the other four failures occur only before a node serves
abbrev pub FaultsCounted : {T : Type 0} → (before now : ℕ) → Result T Failure → Type 0
FaultsCounted before now (Ok value) = now ≡ before
FaultsCounted before now (Err Words) = ⊥
FaultsCounted before now (Err Plan) = ⊥
FaultsCounted before now (Err Node) = ⊥
FaultsCounted before now (Err File) = ⊥
FaultsCounted before now (Err Disk) = Raises before now
FaultsCounted before now (Err Memory) = now ≡ before
FaultsCounted before now (Err Stream) = now ≡ before
