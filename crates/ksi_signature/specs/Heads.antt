-- The fields of chains other than their links, and how one walk over the elements finds them: if a kind occurs twice, the
-- last one counts.
use Rattle.std.specs.Prelude.{◌≡◌, ℕ, ◌+◌, ◌-◌, ◌==◌, ◌&&◌, nat_le, Bool, true, List, [], ◌∷◌, length, slice_index, Option, Some, None, if◌then◌else◌}
use Rattle.ksi_tlv.specs.Walking.{PlacedTlv}
use Rattle.ksi_tlv.specs.Numerals.{number_of}
use Rattle.ksi_signature.specs.Values.{Aggregation, Calendar}

-- ---- aggregation chains

-- the last part of an index
abbrev pub last_part : List ℕ → ℕ
last_part index = slice_index index (length index - 1)

-- a time, the number of index parts and the last of them, the input data if present, and the imprint that the links lead
-- from
pub record Head : Type 0 where
  pub time : ℕ
  pub parts : ℕ
  pub last : ℕ
  pub input_body : Option (List ℕ)
  pub input : List ℕ

abbrev pub head_of : Aggregation → Head
head_of chain = record { time = chain.time; parts = length chain.index; last = last_part chain.index; input_body = chain.input_body; input = chain.input }

abbrev pub head_with : Head → PlacedTlv → Head
head_with head at = record {
  time = if at.element.kind == 2 then number_of at.element.body else head.time;
  parts = if at.element.kind == 3 then head.parts + 1 else head.parts;
  last = if at.element.kind == 3 then number_of at.element.body else head.last;
  input_body = if at.element.kind == 4 then Some at.element.body else head.input_body;
  input = if at.element.kind == 5 then at.element.body else head.input;
}

abbrev pub head_behind : Head → List PlacedTlv → Head
head_behind head [] = head
head_behind head (at ∷ es) = head_behind (head_with head at) es

-- ---- calendar chains

-- the publication time, the aggregation time if present, and the imprint that the links lead from
pub record CalendarHead : Type 0 where
  pub publication : ℕ
  pub time : Option ℕ
  pub input : List ℕ

abbrev pub calendar_with : CalendarHead → PlacedTlv → CalendarHead
calendar_with head at = record {
  publication = if at.element.kind == 1 then number_of at.element.body else head.publication;
  time = if at.element.kind == 2 then Some (number_of at.element.body) else head.time;
  input = if at.element.kind == 5 then at.element.body else head.input;
}

abbrev pub calendar_behind : CalendarHead → List PlacedTlv → CalendarHead
calendar_behind head [] = head
calendar_behind head (at ∷ es) = calendar_behind (calendar_with head at) es

-- an aggregation time that is absent is the publication time
abbrev pub time_or : ℕ → Option ℕ → ℕ
time_or publication None = publication
time_or publication (Some time) = time

abbrev pub SaysCalendar : CalendarHead → Calendar → Type 0
SaysCalendar head chain = (head.publication ≡ chain.publication) × (time_or head.publication head.time ≡ chain.time) × (head.input ≡ chain.input)

-- ---- index parts

-- each element with an index part is a number
abbrev pub parts_pass : List PlacedTlv → Bool
parts_pass [] = true
parts_pass (at ∷ es) = (if at.element.kind == 3 then nat_le (length at.element.body) 8 else true) && parts_pass es
