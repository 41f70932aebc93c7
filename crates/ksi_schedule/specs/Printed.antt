-- The text that is written of a schedule.
use Rattle.std.specs.Prelude.{◌≡◌, ◌<◌, ◌^◌, ℕ, ◌+◌, List, [], ◌∷◌, ◌++◌, drop, map, codes, Bool, false, ◌||◌, not, Option, Some, None, is_some, Ok, if◌then◌else◌}
use Rattle.std.specs.List.{list_any}
use Rattle.std.specs.Fmt.{decimal}
use Rattle.hex.specs.Hex.{encode_lower}
use Rattle.ksi_imprint.specs.Reading.{hex_at}
use Rattle.ksi_schedule.specs.Pieces.{Text}
use Rattle.ksi_schedule.specs.Plans.{PlanState}
use Rattle.ksi_schedule.specs.Events.{History}
use Rattle.ksi_schedule.specs.Members.{members_name}
use Rattle.ksi_schedule.specs.Lines.{is_empty}
use Rattle.ksi_synod.specs.declared.core_plan.VotersFrom.{VotersFrom}
use Rattle.ksi_schedule.specs.declared.actor.Actor.{Actor}
use Rattle.ksi_schedule.specs.declared.actor.Actor.TheVariants as actors
use Rattle.ksi_schedule.specs.declared.parent.Parent.{Parent}
use Rattle.ksi_schedule.specs.declared.version.Version.{Version}
use Rattle.ksi_schedule.specs.declared.version.Version.TheVariants.{One, Two}
use Rattle.ksi_schedule.specs.declared.event.Event.{Event}
use Rattle.ksi_schedule.specs.declared.event.Event.TheVariants as events
use Rattle.ksi_schedule.specs.declared.printing.Piece.{Piece}
use Rattle.ksi_schedule.specs.declared.printing.Piece.TheVariants as pieces

-- the digest of an imprint, in lower case
abbrev pub hex_of : List ℕ → Text
hex_of imprint = encode_lower (drop 1 imprint)

abbrev pub actor_word : Actor → Text
actor_word (actors.Core j) = 99 ∷ decimal j
actor_word (actors.Aggregator k) = 97 ∷ decimal k

abbrev pub core_word : ℕ → Text
core_word core = actor_word (actors.Core core)

-- the words of the line of a second and its voters
abbrev pub members_words : VotersFrom → List Text
members_words pair = members_name ∷ decimal pair.second ∷ map core_word pair.voters

-- the words of a name in an aggregator's line
abbrev pub under_words : Option Text → List Text
under_words None = []
under_words (Some name) = codes "name" ∷ name ∷ []

-- the words of the aggregators' lines, the first of them of number k
abbrev pub parent_words : (k : ℕ) → List Parent → List (List Text)
parent_words k [] = []
parent_words k (parent ∷ parents) = (codes "aggregator" ∷ decimal k ∷ codes "parent" ∷ actor_word parent.actor ∷ under_words parent.name) ∷ parent_words (k + 1) parents

-- the word of a request's name
abbrev pub name_words : Option Text → List Text
name_words None = []
name_words (Some name) = name ∷ []

-- the words of an event's line
abbrev pub event_words : Event → List Text
event_words (events.Request k t imprint name) = codes "request" ∷ decimal k ∷ decimal t ∷ hex_of imprint ∷ name_words name
event_words (events.Close k t) = codes "close" ∷ decimal k ∷ decimal t ∷ []
event_words (events.Seal j t) = codes "seal" ∷ decimal j ∷ decimal t ∷ []
event_words (events.Ballot j t) = codes "ballot" ∷ decimal j ∷ decimal t ∷ []
event_words (events.Deliver number) = codes "deliver" ∷ decimal number ∷ []
event_words (events.Tell j t) = codes "tell" ∷ decimal j ∷ decimal t ∷ []
event_words (events.Respond j t) = codes "respond" ∷ decimal j ∷ decimal t ∷ []
event_words (events.Publish j p) = codes "publish" ∷ decimal j ∷ decimal p ∷ []
event_words (events.RestartCore j) = codes "restart" ∷ actor_word (actors.Core j) ∷ []
event_words (events.RestartAggregator k) = codes "restart" ∷ actor_word (actors.Aggregator k) ∷ []

abbrev pub is_named_parent : Parent → Bool
is_named_parent parent = is_some parent.name

abbrev pub is_named_request : Event → Bool
is_named_request (events.Request k t imprint name) = is_some name
is_named_request _ = false

-- whether there is a name anywhere
abbrev pub has_name : History → Bool
has_name h = list_any is_named_parent h.plan.parents || list_any is_named_request h.events

-- version 2 where a line says who votes, or a name
abbrev pub version_of : History → Version
version_of h = if not (is_empty h.plan.voters) || has_name h then Two else One

abbrev pub version_word : Version → Text
version_word One = codes "1"
version_word Two = codes "2"

-- the words of the first three lines
abbrev pub header_words : Version → PlanState → List (List Text)
header_words version plan = (codes "ksi-schedule" ∷ version_word version ∷ []) ∷ (codes "cores" ∷ decimal plan.cores ∷ []) ∷ (codes "start" ∷ decimal plan.start ∷ []) ∷ []

-- the words of all lines
abbrev pub all_words : History → List (List Text)
all_words h = header_words (version_of h) h.plan ++ (map members_words h.plan.voters ++ (parent_words 0 h.plan.parents ++ map event_words h.events))

-- a space before each word
abbrev pub spaced : List Text → Text
spaced [] = []
spaced (word ∷ words) = 32 ∷ (word ++ spaced words)

-- words parted by single spaces
abbrev pub line_of : List Text → Text
line_of [] = []
line_of (word ∷ words) = word ++ spaced words

-- a line feed after each line
abbrev pub text_of_lines : List (List Text) → Text
text_of_lines [] = []
text_of_lines (line ∷ others) = line_of line ++ 10 ∷ text_of_lines others

abbrev pub schedule_text : History → Text
schedule_text h = text_of_lines (all_words h)

-- ---- in the code

-- what the types of an event's parts say of it: its digest is read again from its hex digits, and its number fits 64 bits
abbrev pub IsTyped : Event → Type 0
IsTyped (events.Request k t imprint name) = hex_at (hex_of imprint) ≡ Ok imprint
IsTyped (events.Deliver number) = number < 2 ^ 64
IsTyped _ = Unit {0}

abbrev pub piece_text : Piece → Text
piece_text (pieces.Text text) = text.now
piece_text (pieces.Number n) = decimal n
piece_text (pieces.Named actor) = actor_word actor
