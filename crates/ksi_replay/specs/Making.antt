-- Schedules in the making: steps that take bytes of a stream and add events.
use Rattle.std.specs.Prelude.{ℕ, zero, suc, ◌%◌, nat_lt, Bool, true, false, List, ◌∷◌, length, is_some}
use Rattle.std.specs.Int.{w64, from_be_bytes}
use Rattle.ksi_imprint.specs.Imprints.{imprint_of}
use Rattle.ksi_schedule.specs.declared.event.Event.{Event}
use Rattle.ksi_schedule.specs.Events.{History, with_event}
use Rattle.ksi_world.specs.Histories.{world_of, held_in}
use Rattle.ksi_replay.specs.Stream.{Place, stream, further}

-- how far the making has come: which bytes of the stream are taken, and the history so far
pub record Making : Type 0 where
  pub place : Place
  pub history : History

-- what steps find, and how far they come
abbrev pub Steps : Type 0 → Type 0
Steps A = Making → A × Making

-- no step, with this for what is found
abbrev pub done : {A : Type 0} → A → Steps A
done found = λ m. (found, m)

-- one after the other, with what the first found and without
infixl 10 ◌>>=◌ ◌>>◌
abbrev pub ◌>>=◌ : {A B : Type 0} → Steps A → (A → Steps B) → Steps B
first >>= next = λ m. next (first m).0 (first m).1

abbrev pub ◌>>◌ : {A B : Type 0} → Steps A → Steps B → Steps B
first >> next = λ m. next (first m).1

-- ---- the stream

-- the next bytes of the stream, this many
abbrev pub bytes : ℕ → Steps (List ℕ)
bytes count = λ m. (stream m.place count, record m { place = further m.place count })

-- the next eight bytes as a number, most significant first, modulo this
unfoldable pub draw : (modulo : ℕ) → Steps ℕ
draw modulo = do
  eight ← bytes 8
  done (from_be_bytes w64 eight % modulo)

-- the next 32 bytes as a digest, which is an imprint after its algorithm byte
unfoldable pub digest : Steps (List ℕ)
digest = do
  all ← bytes 32
  done (1 ∷ all)

-- ---- the history

-- an event
abbrev pub happen : Event → Steps (Unit {0})
happen event = λ m. (tt, record m { history = with_event m.history event })

-- how many messages were sent so far, which is the number of the next one
abbrev pub messages : Steps ℕ
messages = λ m. (length (world_of imprint_of m.history).wire, m)

-- whether a core holds something for a second
abbrev pub holds : (core second : ℕ) → Steps Bool
holds core second = λ m. (is_some (held_in (world_of imprint_of m.history) core second), m)

-- ---- some steps, none or many

abbrev pub when : Bool → Steps (Unit {0}) → Steps (Unit {0})
when true steps = steps
when false steps = done tt

-- this many times in a row
abbrev pub times : ℕ → Steps (Unit {0}) → Steps (Unit {0})
times zero steps = done tt
times (suc count) steps = steps >> times count steps

-- with each message from this number on, in order of number, including those that are sent meanwhile, until none is left;
-- but with at most this many, so that there is an end for any steps
abbrev pub each_message : (most first : ℕ) → (ℕ → Steps (Unit {0})) → Steps (Unit {0})
each_message zero first steps = done tt
each_message (suc most) first steps = do
  sent ← messages
  when (nat_lt first sent) (steps first >> each_message most (suc first) steps)
