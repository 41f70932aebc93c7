-- The record of a run: entries, each a line, and the block that the node wrote for it.
use Rattle.std.specs.Prelude.{◌≡◌, ◌<◌, ◌^◌, ℕ, List, [], ◌∷◌, ◌++◌, codes}
use Rattle.std.specs.Fmt.{decimal}
use Rattle.ksi_schedule.specs.Pieces.{Text}
use Rattle.ksi_records.specs.Blocks.{IsBlock}
use Rattle.ksi_schedule.specs.Printed.{actor_word, line_of}
use Rattle.ksi_schedule.specs.Plans.{PlanState}
use Rattle.ksi_schedule.specs.Events.{IsEvent}
use Rattle.ksi_schedule.specs.declared.actor.Actor.{Actor}
use Rattle.ksi_schedule.specs.declared.actor.Actor.TheVariants as actors
use Rattle.ksi_schedule.specs.declared.event.Event.{Event}
use Rattle.ksi_schedule.specs.declared.event.Event.TheVariants as events
use Rattle.ksi_corenode.specs.declared.event.CoreEvent.TheVariants as core_events
use Rattle.ksi_aggregator.specs.declared.event.RoundEvent.TheVariants as round_events
use Rattle.ksi_wire.specs.Lines.{core_words}
use Rattle.ksi_wire.specs.RoundLines.{round_words}
use Rattle.ksi_records.specs.declared.head.Given.{Given}
use Rattle.ksi_records.specs.declared.head.Given.TheVariants as given
use Rattle.ksi_records.specs.declared.head.Head.{Head}
use Rattle.ksi_records.specs.declared.head.Head.TheVariants as heads
use Rattle.ksi_records.specs.declared.version.Version.{Version}
use Rattle.ksi_records.specs.declared.version.Version.TheVariants as versions

-- ---- lines

-- the node, and the line that it took: that of a request has the number that the request had in the run. One empty
-- word of what is no line
abbrev pub line_words : (number : ℕ) → Event → List Text
line_words number (events.Request k t imprint name) = actor_word (actors.Aggregator k) ∷ round_words (round_events.Request number t imprint name)
line_words number (events.Close k t) = actor_word (actors.Aggregator k) ∷ round_words (round_events.Close t)
line_words number (events.Seal j t) = actor_word (actors.Core j) ∷ core_words (core_events.Seal t)
line_words number (events.Ballot j t) = actor_word (actors.Core j) ∷ core_words (core_events.Ballot t)
line_words number (events.Tell j t) = actor_word (actors.Core j) ∷ core_words (core_events.Tell t)
line_words number (events.Respond j t) = actor_word (actors.Core j) ∷ core_words (core_events.Respond t)
line_words number (events.Publish j p) = actor_word (actors.Core j) ∷ core_words (core_events.Publish p)
line_words number _ = [] ∷ []

abbrev pub given_words : Given → List Text
given_words (given.Line number event) = line_words number event
given_words (given.Message step place) = codes "deliver" ∷ decimal step ∷ decimal place ∷ []

abbrev pub head_words : Head → List Text
head_words (heads.Said it) = given_words it
head_words (heads.Unsaid it) = codes "unsaid" ∷ given_words it
head_words (heads.Restarted actor) = codes "restart" ∷ actor_word actor ∷ []
head_words (heads.Sign step) = codes "sign" ∷ decimal step ∷ []

-- ---- the line that came: in version 2 a delivery has it, after a space

abbrev pub came_text : Version → Given → (came : Text) → Text
came_text version (given.Line number event) came = []
came_text versions.One (given.Message step place) came = []
came_text versions.Two (given.Message step place) came = 32 ∷ came

abbrev pub came_after : Version → Head → (came : Text) → Text
came_after version (heads.Said it) came = came_text version it came
came_after version (heads.Unsaid it) came = came_text version it came
came_after version (heads.Restarted actor) came = []
came_after version (heads.Sign step) came = []

-- the first line of an entry
abbrev pub first_line : Version → Head → (came : Text) → Text
first_line version head came = line_of (head_words head) ++ came_after version head came

-- ---- entries

-- what the first line says, the line that came if it has one, and the block
pub record Entry : Type 0 where
  pub head : Head
  pub came : Text
  pub block : Text

abbrev pub entry_text : Version → Entry → Text
entry_text version entry = first_line version entry.head entry.came ++ 10 ∷ entry.block

-- one entry after the other
abbrev pub record_text : Version → List Entry → Text
record_text version [] = []
record_text version (entry ∷ entries) = entry_text version entry ++ record_text version entries

-- what a step says, and the answer to whoever asks for a signature, is a block; none is of what was not said
abbrev pub HasBlock : Head → Text → Type 0
HasBlock (heads.Said it) block = IsBlock block
HasBlock (heads.Unsaid it) block = block ≡ []
HasBlock (heads.Restarted actor) block = block ≡ []
HasBlock (heads.Sign step) block = IsBlock block

-- a block follows it
abbrev pub WantsBlock : Head → Type 0
WantsBlock (heads.Said it) = Unit {0}
WantsBlock (heads.Unsaid it) = ⊥
WantsBlock (heads.Restarted actor) = ⊥
WantsBlock (heads.Sign step) = Unit {0}

-- ---- what a head may name

abbrev pub restart_of : Actor → Event
restart_of (actors.Core j) = events.RestartCore j
restart_of (actors.Aggregator k) = events.RestartAggregator k

abbrev pub IsGiven : PlanState → Given → Type 0
IsGiven plan (given.Line number event) = IsEvent plan event
IsGiven plan (given.Message step place) = Unit {0}

-- what it names is the plan's
abbrev pub IsHead : PlanState → Head → Type 0
IsHead plan (heads.Said it) = IsGiven plan it
IsHead plan (heads.Unsaid it) = IsGiven plan it
IsHead plan (heads.Restarted actor) = IsEvent plan (restart_of actor)
IsHead plan (heads.Sign step) = Unit {0}

-- ---- in the code

-- its second is before 2^63, as each of a plan's is
abbrev pub IsEarly : Event → Type 0
IsEarly (events.Request k t imprint name) = t < 2 ^ 63
IsEarly (events.Close k t) = t < 2 ^ 63
IsEarly _ = Unit {0}

abbrev pub IsEarlyGiven : Given → Type 0
IsEarlyGiven (given.Line number event) = IsEarly event
IsEarlyGiven (given.Message step place) = Unit {0}

abbrev pub IsEarlyHead : Head → Type 0
IsEarlyHead (heads.Said it) = IsEarlyGiven it
IsEarlyHead (heads.Unsaid it) = IsEarlyGiven it
IsEarlyHead (heads.Restarted actor) = Unit {0}
IsEarlyHead (heads.Sign step) = Unit {0}
