-- A second for which a core stores its root and nothing else, and the events that a core that forgets still takes for it.
use Rattle.std.specs.Prelude.{ℕ, ◌==◌, ◌&&◌, ◌||◌, Bool, true, false, not, is_some}
use Rattle.ksi_corenode.specs.declared.event.CoreEvent.{CoreEvent}
use Rattle.ksi_corenode.specs.declared.event.CoreEvent.TheVariants as events
use Rattle.ksi_corenode.specs.Events.{event_second}
use Rattle.ksi_corenode.specs.SecondState.{SecondState}

-- a root is held and nothing else is stored: no items are sealed, and no ballot was tried, promised or voted in
abbrev pub is_bare : SecondState → Bool
is_bare s = not (is_some s.sealed) && (is_some s.vote.held && (not (is_some s.vote.vote) && (s.vote.tried == 0 && s.vote.promised == 0)))

-- the event needs only the held roots
abbrev pub asks_roots : CoreEvent → Bool
asks_roots (events.Submission from second item) = false
asks_roots (events.Seal second) = false
asks_roots (events.Ballot second) = false
asks_roots (events.Receive from second m) = false
asks_roots (events.Tell second) = true
asks_roots (events.Respond second) = false
asks_roots (events.Publish second) = true

-- whether a core that forgets takes the event: it needs only the held roots, or its second is not bare
abbrev pub is_taken : (seconds : ℕ → SecondState) → CoreEvent → Bool
is_taken seconds event = asks_roots event || not (is_bare (seconds (event_second event)))
