-- Lines make a block, or one line is the first that no block takes.
use Rattle.std.proofs.Common.{◌≡◌, ℕ, Err, ◌+◌, Option, Some, None, ◌<◌, List, [], ◌∷◌, ◌++◌, length, refl, sym, ap, subst, ◌∙◌, append_assoc, append-nil, length-append, ◌⊎◌, inl, inr, arith}
use Rattle.std.specs.List.{AllByRecursion}
use Rattle.ksi_imprint.specs.declared.refused.Refused.{Refused}
use Rattle.ksi_imprint.specs.declared.refused.Refused.TheVariants.{Fault, NoMemory}
use Rattle.ksi_imprint.specs.Refused.{IfRefused}
use Rattle.ksi_logblock.specs.Lines.{IsLineRefusal}
use Rattle.ksi_logblock.specs.Blocks.{Masked, longest_line, most_lines}
use Rattle.ksi_logblock.specs.Logs.{AreTaken, IsLineTooLong, IsLineTooMany, IsLogRefusal, IsReached, IsShort, MakeBlock}
use Rattle.ksi_logblock.specs.declared.logs.LogRefusal.{LogRefusal}
use Rattle.ksi_logblock.specs.declared.logs.LogRefusal.TheVariants.{NoLines, TooManyLines, LineTooLong}
use Rattle.ksi_logblock.specs.LogReading.{first_refusal, refusal_from}
use Rattle.ksi_logblock.proofs.Cases.{le_cases, lt_cases}

abbrev Lines : Type 0
Lines = List (List ℕ)

-- ---- a line that is not added

pub not_added : (lines before others : Lines) (line : List ℕ) (refusal : Refused LogRefusal) → before ++ line ∷ others ≡ lines → AllByRecursion IsShort before
    → IfRefused {T = Unit {0}} (Err refusal) (IsLineRefusal before line) (Unit {0}) → IfRefused {T = Masked} (Err refusal) (IsLogRefusal lines) (0 < length lines)
not_added lines before others line NoMemory e short is = let count : length (before ++ line ∷ others) ≡ length lines = ap length e in omega (arith, count, length-append before (line ∷ others))
not_added lines before others line (Fault NoLines) e short is = absurd is
not_added lines before others line (Fault TooManyLines) e short is =
    record { line = line; reached = record { before = before; others = others; split = sym e; number = sym is; taken = record { few = omega arith; short = short } } }
not_added lines before others line (Fault (LineTooLong k size)) e short is =
    record { line = line; reached = record { before = before; others = others; split = sym e; number = is.0; taken = record { few = omega (arith, is.0, is.1); short = short } }; room = is.1; size_is = is.2; long = is.3 }

-- ---- there is one

short_more : (before : Lines) (line : List ℕ) → AllByRecursion IsShort before → IsShort line → AllByRecursion IsShort (before ++ line ∷ [])
short_more [] line short here = (here, tt)
short_more (first ∷ before) line short here = (short.0, short_more before line short.1 here)

taken_more : (before : Lines) (line : List ℕ) → AreTaken before → length before < most_lines → IsShort line → AreTaken (before ++ line ∷ [])
taken_more before line taken room short = record {
  few = omega (arith, length-append before (line ∷ []));
  short = short_more before line taken.short short;
}

abbrev TakenUnless : Lines → Option LogRefusal → Type 0
TakenUnless lines None = AreTaken lines
TakenUnless lines (Some refusal) = IsLogRefusal lines refusal

told_from : (lines before rest : Lines) (k : ℕ) → k ≡ length before → lines ≡ before ++ rest → AreTaken before → TakenUnless lines (refusal_from k rest)
told_from lines before [] k n e taken = subst AreTaken (sym (e ∙ append-nil before)) taken
told_from lines before (line ∷ others) k n e taken = elim (lt_cases k most_lines) [
  | inr full ↦ rw full.0 (let few = taken.few in let above = full.1 in record { line = line; reached = record { before = before; others = others; split = e; number = omega (arith, n, few, above); taken = taken } })
  | inl room ↦ elim (lt_cases longest_line (length line)) [
    | inl long ↦ rw (room.0, long.0) (record { line = line; reached = record { before = before; others = others; split = e; number = n; taken = taken }; room = room.1; size_is = refl; long = long.1 })
    | inr short ↦ rw (room.0, short.0) (told_from lines (before ++ line ∷ []) others (k + 1) (omega (arith, n, length-append before (line ∷ []))) (e ∙ sym (append_assoc before (line ∷ []) others)) (taken_more before line taken (let below = room.1 in omega (arith, n, below)) short.1))
  ]
]

-- what the first refusal tells of lines
abbrev pub MakesUnless : Lines → Option LogRefusal → Type 0
MakesUnless lines None = MakeBlock lines
MakesUnless lines (Some refusal) = IsLogRefusal lines refusal

some_taken : (lines : Lines) (first : Option LogRefusal) → 0 < length lines → TakenUnless lines first → MakesUnless lines first
some_taken lines None some taken = record { some = some; taken = taken }
some_taken lines (Some refusal) some is = is

pub told : (lines : Lines) → MakesUnless lines (first_refusal lines)
told [] = refl
told (line ∷ lines) = some_taken (line ∷ lines) (refusal_from 0 (line ∷ lines)) (omega arith) (told_from (line ∷ lines) [] (line ∷ lines) 0 refl refl (record { few = omega arith; short = tt }))

pub one_of : (lines : Lines) → MakeBlock lines ⊎ ((refusal : LogRefusal) × IsLogRefusal lines refusal)
one_of lines = of (first_refusal lines) (told lines)
  where
    of : (first : Option LogRefusal) → MakesUnless lines first → MakeBlock lines ⊎ ((refusal : LogRefusal) × IsLogRefusal lines refusal)
    of None makes = inl makes
    of (Some refusal) is = inr (refusal, is)

-- ---- and not both

none_reached : (lines : Lines) (k : ℕ) (line : List ℕ) → lines ≡ [] → IsReached lines k line → ⊥
none_reached lines k line none reached =
    let count : length lines ≡ length (reached.before ++ line ∷ reached.others) = ap length reached.split in
    let no : length lines ≡ 0 = ap length none in
    omega (arith, count, no, length-append reached.before (line ∷ reached.others))

short_there : (before : Lines) (line : List ℕ) (others : Lines) → AllByRecursion IsShort (before ++ line ∷ others) → IsShort line
short_there [] line others short = short.0
short_there (first ∷ before) line others short = short_there before line others short.1

pub not_both : (lines : Lines) (refusal : LogRefusal) → MakeBlock lines → IsLogRefusal lines refusal → ⊥
not_both lines NoLines makes none = let no : length lines ≡ 0 = ap length none in let some = makes.some in omega (arith, no, some)
not_both lines TooManyLines makes many =
    let reached = many.reached in
    let count : length lines ≡ length (reached.before ++ many.line ∷ reached.others) = ap length reached.split in
    omega (arith, count, makes.taken.few, reached.number, length-append reached.before (many.line ∷ reached.others))
not_both lines (LineTooLong k size) makes too =
    let reached = too.reached in
    let short : IsShort too.line = short_there reached.before too.line reached.others (subst (AllByRecursion IsShort) reached.split makes.taken.short) in
    omega (arith, short, too.size_is, too.long)

-- ---- and it is one

short_before : (one two : Lines) (line other : List ℕ) (behind further : Lines) → one ++ line ∷ behind ≡ two ++ other ∷ further → length one < length two → AllByRecursion IsShort two → IsShort line
short_before [] [] line other behind further e lt short = absurd (omega arith)
short_before [] (first ∷ two) line other behind further e lt short = let same : line ≡ first = cc in subst IsShort (sym same) short.0
short_before (x ∷ one) [] line other behind further e lt short = absurd (omega arith)
short_before (x ∷ one) (first ∷ two) line other behind further e lt short = short_before one two line other behind further (cc) (omega arith) short.1

same_there : (one two : Lines) (line other : List ℕ) (behind further : Lines) → one ++ line ∷ behind ≡ two ++ other ∷ further → length one ≡ length two → line ≡ other
same_there [] [] line other behind further e count = cc
same_there [] (first ∷ two) line other behind further e count = absurd (omega arith)
same_there (x ∷ one) [] line other behind further e count = absurd (omega arith)
same_there (x ∷ one) (first ∷ two) line other behind further e count = same_there one two line other behind further (cc) (omega arith)

-- a line before one that is reached is short
short_reached : (lines : Lines) (k other : ℕ) (line further : List ℕ) → IsReached lines k line → IsReached lines other further → k < other → IsShort line
short_reached lines k other line further one two lt =
    short_before one.before two.before line further one.others two.others (sym one.split ∙ two.split) (omega (arith, one.number, two.number)) two.taken.short

many_or_long : (lines : Lines) (k size : ℕ) → IsLineTooMany lines → IsLineTooLong lines k size → ⊥
many_or_long lines k size many long =
    let short : IsShort long.line = short_reached lines k most_lines long.line many.line long.reached many.reached long.room in
    omega (arith, short, long.size_is, long.long)

first_long : (lines : Lines) (k size other further : ℕ) → IsLineTooLong lines k size → IsLineTooLong lines other further → k < other → ⊥
first_long lines k size other further one two lt =
    let short : IsShort one.line = short_reached lines k other one.line two.line one.reached two.reached lt in
    omega (arith, short, one.size_is, one.long)

one_long : (lines : Lines) (k size other further : ℕ) → IsLineTooLong lines k size → IsLineTooLong lines other further → LineTooLong k size ≡ LineTooLong other further
one_long lines k size other further one two = elim (le_cases k other) [
  | inr above ↦ absurd (first_long lines other further k size two one above)
  | inl upto ↦ elim (le_cases other k) [
    | inr below ↦ absurd (first_long lines k size other further one two below)
    | inl from ↦ (let same : k ≡ other = omega arith in
        let count : length one.reached.before ≡ length two.reached.before = sym one.reached.number ∙ same ∙ two.reached.number in
        let line : one.line ≡ two.line = same_there one.reached.before two.reached.before one.line two.line one.reached.others two.reached.others (sym one.reached.split ∙ two.reached.split) count in
        let sizes : size ≡ further = one.size_is ∙ ap length line ∙ sym two.size_is in
        cc)
  ]
]

pub one_refusal : (lines : Lines) (refusal other : LogRefusal) → IsLogRefusal lines refusal → IsLogRefusal lines other → refusal ≡ other
one_refusal lines NoLines NoLines one two = refl
one_refusal lines NoLines TooManyLines one two = absurd (none_reached lines most_lines two.line one two.reached)
one_refusal lines NoLines (LineTooLong k size) one two = absurd (none_reached lines k two.line one two.reached)
one_refusal lines TooManyLines NoLines one two = absurd (none_reached lines most_lines one.line two one.reached)
one_refusal lines TooManyLines TooManyLines one two = refl
one_refusal lines TooManyLines (LineTooLong k size) one two = absurd (many_or_long lines k size one two)
one_refusal lines (LineTooLong k size) NoLines one two = absurd (none_reached lines k one.line two one.reached)
one_refusal lines (LineTooLong k size) TooManyLines one two = absurd (many_or_long lines k size two one)
one_refusal lines (LineTooLong k size) (LineTooLong other further) one two = one_long lines k size other further one two
