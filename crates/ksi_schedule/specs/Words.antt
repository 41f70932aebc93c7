-- The sorts of words of a line, the meaning of a word of each, and the forms of lines.
use Rattle.std.specs.Prelude.{ℕ, ◌+◌, ◌^◌, List, [], ◌∷◌, length, Bool, true, false, ◌&&◌, ◌==◌, nat_lt, nat_le, Option, Some, None, Result, Ok, Err, if◌then◌else◌}
use Rattle.std.specs.Str.{bytes_eq}
use Rattle.ksi_imprint.specs.Reading.{hex_at}
use Rattle.ksi_imprint.specs.declared.fault.HexFault.{HexFault}
use Rattle.ksi_aggtree.specs.Names.{most_letters, are_name_bytes}
use Rattle.ksi_schedule.specs.Pieces.{Text}
use Rattle.ksi_schedule.specs.Decimal.{number_of}
use Rattle.ksi_schedule.specs.Plans.{PlanState}
use Rattle.ksi_schedule.specs.declared.fault.LineFault.{LineFault}
use Rattle.ksi_schedule.specs.declared.fault.LineFault.TheVariants.{Word, Number, Hash, NoSuchActor, SecondOutOfRange, Name}

infixl 10 ◌>>=◌
abbrev pub ◌>>=◌ : {A B : Type 0} → Result A LineFault → (A → Result B LineFault) → Result B LineFault
(Ok x) >>= next = next x
(Err fault) >>= next = Err fault

abbrev pub or_fault : {A : Type 0} → LineFault → Option A → Result A LineFault
or_fault fault None = Err fault
or_fault fault (Some x) = Ok x

-- ---- numbers and digests

abbrev pub number_at : Text → Result ℕ LineFault
number_at word = or_fault Number (number_of word)

abbrev pub core_at : PlanState → Text → Result ℕ LineFault
core_at plan word = number_at word >>= λ j. if nat_lt j plan.cores then Ok j else Err NoSuchActor

abbrev pub aggregator_at : PlanState → Text → Result ℕ LineFault
aggregator_at plan word = number_at word >>= λ k. if nat_lt k (length plan.parents) then Ok k else Err NoSuchActor

-- one of 2^24 seconds from the start on
abbrev pub time_word : PlanState → Text → Result ℕ LineFault
time_word plan word = number_at word >>= λ t. if nat_le plan.start t && nat_lt t (plan.start + 2 ^ 24) then Ok t else Err SecondOutOfRange

abbrev pub or_hash : Result (List ℕ) HexFault → Result (List ℕ) LineFault
or_hash (Ok imprint) = Ok imprint
or_hash (Err fault) = Err Hash

-- the imprint of a digest of 64 hex digits, of either case
abbrev pub digest_at : Text → Result (List ℕ) LineFault
digest_at word = or_hash (hex_at word)

-- ---- names

-- whether it has 1 to 64 bytes, each of them one of a name
abbrev pub is_name : Text → Bool
is_name word = nat_le 1 (length word) && nat_le (length word) most_letters && are_name_bytes word

abbrev pub name_at : Text → Result (List ℕ) LineFault
name_at word = if is_name word then Ok word else Err Name

-- ---- sorts

pub data Sort : Type 0 where
  the_word : Text → Sort
  number : Sort
  core : Sort
  aggregator : Sort
  second : Sort
  digest : Sort
  a_name : Sort
  -- `c` and a core's number
  core_actor : Sort
  -- `a` and an aggregator's number
  aggregator_actor : Sort

-- what words of a sort stand for
abbrev pub Value : Sort → Type 0
Value (the_word text) = Unit {0}
Value digest = List ℕ
Value a_name = List ℕ
Value _ = ℕ

abbrev pub begins_with : ℕ → Text → Bool
begins_with letter [] = false
begins_with letter (b ∷ word) = b == letter

-- the parts that belong to the form of a line: its fixed words, and the letter before an actor's number
abbrev pub looks_like : Sort → Text → Bool
looks_like (the_word text) word = bytes_eq word text
looks_like core_actor word = begins_with 99 word
looks_like aggregator_actor word = begins_with 97 word
looks_like _ word = true

abbrev pub behind_letter : Text → Text
behind_letter [] = []
behind_letter (b ∷ word) = word

-- what a word of a sort stands for, or its fault
abbrev pub value_at : PlanState → (sort : Sort) → Text → Result (Value sort) LineFault
value_at plan (the_word text) word = Ok tt
value_at plan number word = number_at word
value_at plan core word = core_at plan word
value_at plan aggregator word = aggregator_at plan word
value_at plan second word = time_word plan word
value_at plan digest word = digest_at word
value_at plan a_name word = name_at word
value_at plan core_actor word = core_at plan (behind_letter word)
value_at plan aggregator_actor word = aggregator_at plan (behind_letter word)

-- ---- forms

abbrev pub Values : List Sort → Type 0
Values [] = Unit {0}
Values (sort ∷ sorts) = Value sort × Values sorts

-- as many words as sorts, and each looks like its sort
abbrev pub fits : List Sort → List Text → Bool
fits [] [] = true
fits [] (word ∷ words) = false
fits (sort ∷ sorts) [] = false
fits (sort ∷ sorts) (word ∷ words) = looks_like sort word && fits sorts words

-- what words of these sorts stand for, or the first fault from the left
abbrev pub values_at : PlanState → (sorts : List Sort) → List Text → Result (Values sorts) LineFault
values_at plan [] words = Ok tt
values_at plan (sort ∷ sorts) [] = Err Word
values_at plan (sort ∷ sorts) (word ∷ words) = value_at plan sort word >>= λ v. values_at plan sorts words >>= λ vs. Ok (v, vs)

-- the words after a line's first, and their meaning
pub record Form (A : Type 0) : Type 0 where
  pub sorts : List Sort
  pub makes : Values sorts → A

-- by the first of the forms that fits
unfoldable pub form_at : {A : Type 0} → PlanState → List (Form A) → List Text → Result A LineFault
form_at plan [] words = Err Word
form_at plan (form ∷ forms) words = if fits form.sorts words then (values_at plan form.sorts words >>= λ vs. Ok (form.makes vs)) else form_at plan forms words

-- a line's first word, and the forms of what follows it
pub record Kind (A : Type 0) : Type 0 where
  pub name : Text
  pub forms : List (Form A)

-- what a line of one of these kinds stands for, or its first fault
abbrev pub kind_at : {A : Type 0} → PlanState → List (Kind A) → (name : Text) → (words : List Text) → Result A LineFault
kind_at plan [] name words = Err Word
kind_at plan (kind ∷ kinds) name words = if bytes_eq name kind.name then form_at plan kind.forms words else kind_at plan kinds name words
