-- What the first line of an entry says, word by word from the left, or the first fault.
use Rattle.std.specs.Prelude.{ℕ, ◌+◌, ◌^◌, List, [], ◌∷◌, codes, length, Bool, ◌&&◌, ◌||◌, ◌==◌, nat_lt, nat_le, Option, Some, None, Result, Ok, Err, if◌then◌else◌}
use Rattle.std.specs.List.{before_first, after_first}
use Rattle.std.specs.Str.{bytes_eq}
use Rattle.ksi_imprint.specs.Reading.{hex_at}
use Rattle.ksi_imprint.specs.declared.fault.HexFault.{HexFault}
use Rattle.ksi_schedule.specs.Pieces.{Text}
use Rattle.ksi_schedule.specs.Decimal.{number_of}
use Rattle.ksi_schedule.specs.Plans.{PlanState}
use Rattle.ksi_schedule.specs.Words.{is_name}
use Rattle.ksi_schedule.specs.declared.actor.Actor.{Actor}
use Rattle.ksi_schedule.specs.declared.actor.Actor.TheVariants as actors
use Rattle.ksi_schedule.specs.declared.event.Event.{Event}
use Rattle.ksi_schedule.specs.declared.event.Event.TheVariants as events
use Rattle.ksi_wire.specs.declared.fault.WireFault.{WireFault}
use Rattle.ksi_wire.specs.declared.fault.WireFault.TheVariants.{Word, Number, Hash, Second, Name, Spelling}
use Rattle.ksi_wire.specs.declared.fault.WireFault.TheVariants as faults
use Rattle.ksi_records.specs.declared.head.Given.{Given}
use Rattle.ksi_records.specs.declared.head.Given.TheVariants as given
use Rattle.ksi_records.specs.declared.head.Head.{Head}
use Rattle.ksi_records.specs.declared.head.Head.TheVariants as heads
use Rattle.ksi_records.specs.declared.version.Version.{Version}
use Rattle.ksi_records.specs.declared.version.Version.TheVariants as versions
use Rattle.ksi_records.specs.Entries.{first_line}

-- a value, or the first fault
abbrev pub Read : Type 0 → Type 0
Read A = Result A WireFault

infixl 10 ◌>>=◌
abbrev pub ◌>>=◌ : {A B : Type 0} → Read A → (A → Read B) → Read B
(Ok x) >>= next = next x
(Err fault) >>= next = Err fault

-- what is before the first space, and what follows it
abbrev pub word_of : Text → Text
word_of line = before_first (λ b. b == 32) line

abbrev pub rest_of : Text → Text
rest_of line = after_first (λ b. b == 32) line

-- ---- words

abbrev pub or_number : Option ℕ → Read ℕ
or_number None = Err Number
or_number (Some n) = Ok n

abbrev pub number_at : Text → Read ℕ
number_at word = or_number (number_of word)

-- one of 2^24 seconds from the start on
abbrev pub second_at : PlanState → Text → Read ℕ
second_at plan word = number_at word >>= λ t. if nat_le plan.start t && nat_lt t (plan.start + 2 ^ 24) then Ok t else Err Second

abbrev pub or_hash : Result (List ℕ) HexFault → Read (List ℕ)
or_hash (Ok imprint) = Ok imprint
or_hash (Err fault) = Err Hash

abbrev pub imprint_at : Text → Read (List ℕ)
imprint_at word = or_hash (hex_at word)

-- the name that is left, if one is
abbrev pub name_at : Text → Read (Option Text)
name_at [] = Ok None
name_at (b ∷ bs) = if is_name (b ∷ bs) then Ok (Some (b ∷ bs)) else Err Name

abbrev pub core_at : PlanState → Text → Read Actor
core_at plan digits = number_at digits >>= λ j. if nat_lt j plan.cores then Ok (actors.Core j) else Err faults.Actor

abbrev pub aggregator_at : PlanState → Text → Read Actor
aggregator_at plan digits = number_at digits >>= λ k. if nat_lt k (length plan.parents) then Ok (actors.Aggregator k) else Err faults.Actor

-- a node of the plan
abbrev pub node_at : PlanState → Text → Read Actor
node_at plan [] = Err Word
node_at plan (letter ∷ digits) = if letter == 99 then core_at plan digits else if letter == 97 then aggregator_at plan digits else Err Word

-- ---- lines that no node sends

-- the first words of those of cores
abbrev pub is_core_word : Text → Bool
is_core_word word = bytes_eq word (codes "seal") || bytes_eq word (codes "ballot") || bytes_eq word (codes "tell") || bytes_eq word (codes "respond") || bytes_eq word (codes "publish")

abbrev pub core_event : (word : Text) → (core second : ℕ) → Event
core_event word j t =
    if bytes_eq word (codes "seal") then events.Seal j t
    else if bytes_eq word (codes "ballot") then events.Ballot j t
    else if bytes_eq word (codes "tell") then events.Tell j t
    else if bytes_eq word (codes "respond") then events.Respond j t
    else events.Publish j t

abbrev pub core_line_at : PlanState → (core : ℕ) → Text → Read Given
core_line_at plan j line =
    if is_core_word (word_of line)
    then (second_at plan (rest_of line) >>= λ t. Ok (given.Line 0 (core_event (word_of line) j t)))
    else Err Word

-- after the number and the second of a request: its hash, and its name
abbrev pub asked_at : (aggregator number second : ℕ) → Text → Read Given
asked_at k number t line =
    imprint_at (word_of line) >>= λ imprint. name_at (rest_of line) >>= λ name. Ok (given.Line number (events.Request k t imprint name))

abbrev pub request_at : PlanState → (aggregator : ℕ) → Text → Read Given
request_at plan k line =
    number_at (word_of line) >>= λ number. second_at plan (word_of (rest_of line)) >>= λ t. asked_at k number t (rest_of (rest_of line))

abbrev pub aggregator_line_at : PlanState → (aggregator : ℕ) → Text → Read Given
aggregator_line_at plan k line =
    if bytes_eq (word_of line) (codes "request") then request_at plan k (rest_of line)
    else if bytes_eq (word_of line) (codes "close") then (second_at plan (rest_of line) >>= λ t. Ok (given.Line 0 (events.Close k t)))
    else Err Word

abbrev pub line_to : PlanState → Actor → Text → Read Given
line_to plan (actors.Core j) line = core_line_at plan j line
line_to plan (actors.Aggregator k) line = aggregator_line_at plan k line

-- ---- first lines

-- the word of a message's place: the last word, or in version 2 the last one before the line that came
abbrev pub place_word : Version → Text → Text
place_word versions.One rest = rest
place_word versions.Two rest = word_of rest

abbrev pub message_at : Version → Text → Read Given
message_at version line = number_at (word_of line) >>= λ step. number_at (place_word version (rest_of line)) >>= λ place. Ok (given.Message step place)

abbrev pub given_at : PlanState → Version → Text → Read Given
given_at plan version line =
    if bytes_eq (word_of line) (codes "deliver") then message_at version (rest_of line)
    else (node_at plan (word_of line) >>= λ node. line_to plan node (rest_of line))

abbrev pub any_head_at : PlanState → Version → Text → Read Head
any_head_at plan version line =
    if bytes_eq (word_of line) (codes "unsaid") then (given_at plan version (rest_of line) >>= λ it. Ok (heads.Unsaid it))
    else if bytes_eq (word_of line) (codes "restart") then (node_at plan (rest_of line) >>= λ node. Ok (heads.Restarted node))
    else if bytes_eq (word_of line) (codes "sign") then (number_at (rest_of line) >>= λ step. Ok (heads.Sign step))
    else (given_at plan version line >>= λ it. Ok (heads.Said it))

-- the line that came: of a delivery in version 2 what follows its three words
abbrev pub delivered_in : Text → Text
delivered_in line = if bytes_eq (word_of line) (codes "deliver") then rest_of (rest_of (rest_of line)) else []

abbrev pub came_in : Version → (line : Text) → Text
came_in versions.One line = []
came_in versions.Two line = if bytes_eq (word_of line) (codes "unsaid") then delivered_in (rest_of line) else delivered_in line

-- what a line says if it is just as that is printed, or why it says nothing
unfoldable pub head_at : PlanState → Version → (line : Text) → Read Head
head_at plan version line = any_head_at plan version line >>= λ head. if bytes_eq (first_line version head (came_in version line)) line then Ok head else Err Spelling
