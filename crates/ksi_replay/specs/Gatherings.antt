-- Mirrors of cores of one history, at any moments, merged in any order.
use Rattle.std.specs.Prelude.{◌≡◌, ◌⊎◌, ℕ, ◌<◌, List, [], ◌++◌}
use Rattle.ksi_schedule.specs.declared.event.Event.{Event}
use Rattle.ksi_schedule.specs.Plans.{PlanState}
use Rattle.ksi_schedule.specs.Events.{History}
use Rattle.ksi_journal.specs.Journal.{Contents}
use Rattle.ksi_mirror.specs.Mirrors.{MirrorState}
use Rattle.ksi_mirror.specs.Merging.{Merges}
use Rattle.ksi_replay.specs.Mirrors.{mirror_of}

-- an order of merging: the mirror of a core after these events, with those that are still to come; or what two orders
-- come to, merged
pub data Gathering : Type 0 where
  Copy : (core : ℕ) → (before later : List Event) → Gathering
  Both : (first second : Gathering) → Gathering

abbrev pub history_to : PlanState → List Event → History
history_to plan events = record { plan = plan; events = events }

module _ (image : List ℕ → List ℕ) (history : History) where
  -- the order is one of mirrors of this history, and comes to this mirror
  abbrev pub ComesTo : Gathering → MirrorState → Type 0
  ComesTo (Copy core before later) mirror =
      (core < history.plan.cores) × (before ++ later ≡ history.events) × (mirror ≡ mirror_of image (history_to history.plan before) core)
  ComesTo (Both one two) mirror =
      (first : MirrorState) × (second : MirrorState) × ComesTo one first × ComesTo two second × Merges first second mirror

-- the mirror of the core at the end is among them
abbrev pub HasEndOf : (core : ℕ) → Gathering → Type 0
HasEndOf core (Copy of before later) = (of ≡ core) × (later ≡ [])
HasEndOf core (Both one two) = HasEndOf core one ⊎ HasEndOf core two

-- those of all cores of the plan are
abbrev pub HasAllEnds : PlanState → Gathering → Type 0
HasAllEnds plan order = (core : ℕ) → core < plan.cores → HasEndOf core order

-- the start and the kept seconds of a journal alone
abbrev pub seconds_alone : Contents → Contents
seconds_alone journal = record journal { voters = []; issued = []; publications = [] }
