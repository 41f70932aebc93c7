-- What the words of a line ask for, word by word from the left, or the first fault.
use Rattle.std.specs.Borrow.{Bor}
use Rattle.std.specs.Prelude.{◌≡◌, ℕ, ◌+◌, ◌^◌, List, [], ◌∷◌, codes, length, Bool, true, false, ◌&&◌, ◌==◌, nat_lt, nat_le, Option, Some, None, Result, Ok, Err, if◌then◌else◌}
use Rattle.std.specs.Str.{bytes_eq}
use Rattle.ksi_imprint.specs.Reading.{hex_at}
use Rattle.ksi_imprint.specs.declared.fault.HexFault.{HexFault}
use Rattle.ksi_imprint.specs.declared.refused.Refused.{Refused}
use Rattle.ksi_imprint.specs.declared.refused.Refused.TheVariants as refused
use Rattle.ksi_aggtree.specs.declared.item.Item.{Item}
use Rattle.ksi_schedule.specs.Pieces.{Text, words}
use Rattle.ksi_schedule.specs.Decimal.{number_of}
use Rattle.ksi_schedule.specs.Plans.{PlanState, parent_of, name_of}
use Rattle.ksi_schedule.specs.Words.{is_name}
use Rattle.ksi_schedule.specs.Printed.{line_of}
use Rattle.ksi_schedule.specs.declared.actor.Actor.{Actor}
use Rattle.ksi_schedule.specs.declared.actor.Actor.TheVariants as actors
use Rattle.ksi_synod.specs.declared.messages.SynodMessage.{SynodMessage}
use Rattle.ksi_synod.specs.declared.messages.SynodMessage.TheVariants as votes
use Rattle.ksi_corenode.specs.Owners.{owner_of}
use Rattle.ksi_corenode.specs.declared.event.CoreEvent.{CoreEvent}
use Rattle.ksi_corenode.specs.declared.event.CoreEvent.TheVariants as events
use Rattle.ksi_wire.specs.declared.fault.WireFault.{WireFault}
use Rattle.ksi_wire.specs.declared.fault.WireFault.TheVariants.{Word, Number, Hash, Second, Ballot, Level, Name, Spelling}
use Rattle.ksi_wire.specs.declared.fault.WireFault.TheVariants as faults
use Rattle.ksi_wire.specs.declared.event.ShortEvent.{ShortEvent}
use Rattle.ksi_wire.specs.declared.event.ShortEvent.TheVariants as shorts
use Rattle.ksi_wire.specs.Lines.{core_words}

-- a value and the words after it, or the first fault
abbrev pub Got : Type 0 → Type 0
Got A = Result (A × List Text) WireFault

infixl 10 ◌>>=◌
abbrev pub ◌>>=◌ : {A B : Type 0} → Got A → (A → List Text → Got B) → Got B
(Ok x) >>= next = next x.0 x.1
(Err fault) >>= next = Err fault

-- ---- words

abbrev pub word_in : List Text → Got Text
word_in [] = Err Word
word_in (word ∷ rest) = Ok (word, rest)

abbrev pub or_number : Option ℕ → List Text → Got ℕ
or_number None rest = Err Number
or_number (Some n) rest = Ok (n, rest)

abbrev pub number_in : List Text → Got ℕ
number_in ws = word_in ws >>= λ word rest. or_number (number_of word) rest

abbrev pub or_hash : Result (List ℕ) HexFault → List Text → Got (List ℕ)
or_hash (Ok imprint) rest = Ok (imprint, rest)
or_hash (Err fault) rest = Err Hash

abbrev pub imprint_in : List Text → Got (List ℕ)
imprint_in ws = word_in ws >>= λ word rest. or_hash (hex_at word) rest

-- one of 2^24 seconds from the start on
abbrev pub second_in : PlanState → List Text → Got ℕ
second_in plan ws = number_in ws >>= λ t rest. if nat_le plan.start t && nat_lt t (plan.start + 2 ^ 24) then Ok (t, rest) else Err Second

abbrev pub core_in : PlanState → List Text → Got ℕ
core_in plan ws = number_in ws >>= λ j rest. if nat_lt j plan.cores then Ok (j, rest) else Err faults.Actor

abbrev pub is_same : Actor → Actor → Bool
is_same (actors.Core j) (actors.Core i) = j == i
is_same (actors.Aggregator k) (actors.Aggregator i) = k == i
is_same _ _ = false

-- an aggregator whose parent is this node
abbrev pub lower_in : PlanState → Actor → List Text → Got ℕ
lower_in plan me ws = number_in ws >>= λ k rest. if nat_lt k (length plan.parents) && is_same (parent_of plan k) me then Ok (k, rest) else Err faults.Actor

-- a ballot has a round from 1 to 2^32 - 1, and is of a core of the plan
abbrev pub ballot_in : PlanState → List Text → Got ℕ
ballot_in plan ws = number_in ws >>= λ b rest. if (nat_le 16 b && nat_lt b (2 ^ 36)) && nat_lt (owner_of b) plan.cores then Ok (b, rest) else Err Ballot

-- the name that is left, if one is
abbrev pub name_in : List Text → Got (Option Text)
name_in [] = Ok (None, [])
name_in (word ∷ rest) = if is_name word then Ok (Some word, rest) else Err Name

abbrev pub is_same_name : Option Text → Option Text → Bool
is_same_name None None = true
is_same_name (Some one) (Some other) = bytes_eq one other
is_same_name _ _ = false

-- the item of an aggregator, under the name that the plan gives it
abbrev pub item_in : PlanState → (from : ℕ) → List Text → Got Item
item_in plan from ws =
    imprint_in ws >>= λ imprint ws. number_in ws >>= λ level ws.
    if nat_lt level 239
    then (name_in ws >>= λ name rest. if is_same_name name (name_of plan from) then Ok (record { imprint = imprint; level = level; name = name }, rest) else Err Name)
    else Err Level

-- ---- messages of the vote

abbrev pub is_empty : List Text → Bool
is_empty [] = true
is_empty (word ∷ rest) = false

-- the vote that was cast so far, if one was, after the ballot of a promise
abbrev pub cast_in : PlanState → ℕ → List Text → Got SynodMessage
cast_in plan promised ws =
    if is_empty ws
    then Ok (votes.LastVote (record { ballot = promised; vote = None }), ws)
    else (ballot_in plan ws >>= λ b ws. imprint_in ws >>= λ imprint rest. Ok (votes.LastVote (record { ballot = promised; vote = Some (record { ballot = b; imprint = imprint }) }), rest))

abbrev pub vote_in : PlanState → List Text → Got SynodMessage
vote_in plan ws =
    word_in ws >>= λ kind ws.
    if bytes_eq kind (codes "next") then (ballot_in plan ws >>= λ b rest. Ok (votes.NextBallot b, rest))
    else if bytes_eq kind (codes "last") then (ballot_in plan ws >>= λ b rest. cast_in plan b rest)
    else if bytes_eq kind (codes "begin") then (ballot_in plan ws >>= λ b ws. imprint_in ws >>= λ decree rest. Ok (votes.BeginBallot b decree, rest))
    else if bytes_eq kind (codes "voted") then (ballot_in plan ws >>= λ b rest. Ok (votes.Voted b, rest))
    else if bytes_eq kind (codes "success") then (imprint_in ws >>= λ decree rest. Ok (votes.Success decree, rest))
    else Err Word

-- ---- what comes to a core

abbrev pub submission_in : PlanState → (me : ℕ) → List Text → Got CoreEvent
submission_in plan me ws =
    lower_in plan (actors.Core me) ws >>= λ from ws. second_in plan ws >>= λ second ws. item_in plan from ws >>= λ item rest. Ok (events.Submission from second item, rest)

abbrev pub receive_in : PlanState → List Text → Got CoreEvent
receive_in plan ws =
    core_in plan ws >>= λ from ws. second_in plan ws >>= λ second ws. vote_in plan ws >>= λ m rest. Ok (events.Receive from second m, rest)

abbrev pub core_event_in : PlanState → (me : ℕ) → List Text → Got CoreEvent
core_event_in plan me ws =
    word_in ws >>= λ kind ws.
    if bytes_eq kind (codes "submission") then submission_in plan me ws
    else if bytes_eq kind (codes "seal") then (second_in plan ws >>= λ t rest. Ok (events.Seal t, rest))
    else if bytes_eq kind (codes "ballot") then (second_in plan ws >>= λ t rest. Ok (events.Ballot t, rest))
    else if bytes_eq kind (codes "synod") then receive_in plan ws
    else if bytes_eq kind (codes "tell") then (second_in plan ws >>= λ t rest. Ok (events.Tell t, rest))
    else if bytes_eq kind (codes "respond") then (second_in plan ws >>= λ t rest. Ok (events.Respond t, rest))
    else if bytes_eq kind (codes "publish") then (second_in plan ws >>= λ t rest. Ok (events.Publish t, rest))
    else Err Word

-- what was read, where the line is just as it is printed
abbrev pub if_spelled : {A : Type 0} → (A → List Text) → Text → Got A → Result A WireFault
if_spelled printed line (Ok x) = if bytes_eq (line_of (printed x.0)) line then Ok x.0 else Err Spelling
if_spelled printed line (Err fault) = Err fault

-- the event that a line asks of a core of the plan, or why it asks none
unfoldable pub core_event_of : PlanState → (me : ℕ) → (line : Text) → Result CoreEvent WireFault
core_event_of plan me line = if_spelled core_words line (core_event_in plan me (words line))

-- ---- what comes to an aggregator and is no response

abbrev pub short_in : PlanState → (me : ℕ) → (kind : Text) → List Text → Got ShortEvent
short_in plan me kind ws =
    if bytes_eq kind (codes "request") then
    (number_in ws >>= λ number ws. second_in plan ws >>= λ second ws. imprint_in ws >>= λ imprint ws. name_in ws >>= λ name rest. Ok (shorts.Request number second imprint name, rest))
    else if bytes_eq kind (codes "submission") then
    (lower_in plan (actors.Aggregator me) ws >>= λ from ws. second_in plan ws >>= λ second ws. item_in plan from ws >>= λ item rest. Ok (shorts.Submission from second item, rest))
    else if bytes_eq kind (codes "close") then (second_in plan ws >>= λ t rest. Ok (shorts.Close t, rest))
    else Err Word

-- ---- in the code

-- what was read, and the words that are left
abbrev pub Reads : {A : Type 0} → Got A → Result A WireFault → List Text → Type 0
Reads expected (Ok x) rest = expected ≡ Ok (x, rest)
Reads expected (Err fault) rest = expected ≡ Err fault

-- the next word, if one is left
abbrev pub ReadsWord : List Text → Option (Bor Text) → List Text → Type 0
ReadsWord ws (Some word) rest = ws ≡ word.now ∷ rest
ReadsWord ws None rest = ws ≡ []

abbrev pub ReadsNext : List Text → Result (Bor Text) WireFault → List Text → Type 0
ReadsNext ws (Ok word) rest = ws ≡ word.now ∷ rest
ReadsNext ws (Err fault) rest = word_in ws ≡ Err fault

-- the result of reading, unless memory ran out
abbrev pub Answers : {A : Type 0} → Result A WireFault → Result A (Refused WireFault) → Type 0
Answers expected (Ok x) = expected ≡ Ok x
Answers expected (Err (refused.Fault fault)) = expected ≡ Err fault
Answers expected (Err refused.NoMemory) = Unit {0}
