-- The lines of a schedule, in their order.
use Rattle.std.specs.Prelude.{◌≡◌, ℕ, List, [], ◌∷◌, ◌++◌, codes, Some}
use Rattle.ksi_schedule.specs.Pieces.{Text, lines, words}
use Rattle.ksi_schedule.specs.Decimal.{number_of}
use Rattle.ksi_schedule.specs.Events.{History}
use Rattle.ksi_schedule.specs.declared.version.Version.{Version}
use Rattle.ksi_schedule.specs.declared.version.Version.TheVariants.{One, Two}
use Rattle.ksi_schedule.specs.declared.event.Event.{Event}
use Rattle.ksi_schedule.specs.declared.event.Event.TheVariants as events

-- the first line
abbrev pub first_line : Version → Text
first_line One = codes "ksi-schedule 1"
first_line Two = codes "ksi-schedule 2"

-- the line has this name and this number
abbrev pub SaysNumber : Text → ℕ → (line : Text) → Type 0
SaysNumber name n line = (word : Text) × (words line ≡ name ∷ word ∷ []) × (number_of word ≡ Some n)

-- the line's first word is this name
abbrev pub Begins : Text → (line : Text) → Type 0
Begins name line = (others : List Text) × (words line ≡ name ∷ others)

-- as many lines as values, and each line says its value
abbrev pub OneForOne : {A : Type 0} → (Text → A → Type 0) → List Text → List A → Type 0
OneForOne says [] [] = Unit {0}
OneForOne says [] (x ∷ xs) = ⊥
OneForOne says (line ∷ ls) [] = ⊥
OneForOne says (line ∷ ls) (x ∷ xs) = says line x × OneForOne says ls xs

-- the first word of an event's line
abbrev pub event_name : Event → Text
event_name (events.Request k t imprint name) = codes "request"
event_name (events.Close k t) = codes "close"
event_name (events.Seal j t) = codes "seal"
event_name (events.Ballot j t) = codes "ballot"
event_name (events.Deliver number) = codes "deliver"
event_name (events.Tell j t) = codes "tell"
event_name (events.Respond j t) = codes "respond"
event_name (events.Publish j p) = codes "publish"
event_name (events.RestartCore j) = codes "restart"
event_name (events.RestartAggregator k) = codes "restart"

-- the version, the cores and the start on a line each; then a line for each change of voters, one for each aggregator, and one
-- for each event
pub record IsLaidOut (text : Text) (h : History) : Type 0 where
  pub version : Version
  pub cores : Text
  pub start : Text
  pub members : List Text
  pub aggregators : List Text
  pub happened : List Text
  pub split : lines text ≡ first_line version ∷ cores ∷ start ∷ (members ++ (aggregators ++ happened))
  pub cores_are : SaysNumber (codes "cores") h.plan.cores cores
  pub starts : SaysNumber (codes "start") h.plan.start start
  pub voters : OneForOne (λ line pair. Begins (codes "members") line) members h.plan.voters
  pub parents : OneForOne (λ line parent. Begins (codes "aggregator") line) aggregators h.plan.parents
  pub events : OneForOne (λ line event. Begins (event_name event) line) happened h.events
