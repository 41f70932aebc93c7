-- Reading gives what a text spells, and else its first fault.
use Rattle.std.proofs.Common.{◌≡◌, ◌⊎◌, inl, inr, ℕ, ◌+◌, List, [], ◌∷◌, ◌++◌, length, Result, Ok, Err, refl, sym, ap, subst, ◌∙◌, arith, add-zero}
use Rattle.ksi_imprint.specs.declared.refused.Refused.{Refused}
use Rattle.ksi_imprint.specs.declared.refused.Refused.TheVariants as answers
use Rattle.ksi_schedule.specs.Pieces.{Text, lines}
use Rattle.ksi_schedule.specs.Events.{History}
use Rattle.ksi_schedule.specs.Lines.{Said, nothing, title, cores, history, with_line}
use Rattle.ksi_schedule.specs.Spelled.{Says, IsPlanned, IsScheduleText, IsScheduleFault, Tells, Gives, Refuses}
use Rattle.ksi_schedule.specs.Reading.{Fault, ended, behind, read_from, schedule_at, Reads}
use Rattle.ksi_schedule.specs.declared.version.Version.{Version}
use Rattle.ksi_schedule.specs.declared.fault.LineFault.{LineFault}
use Rattle.ksi_schedule.specs.declared.fault.LineFault.TheVariants.{Header}
use Rattle.ksi_schedule.specs.declared.fault.ScheduleFault.{ScheduleFault}
use Rattle.ksi_schedule.specs.declared.fault.ScheduleFault.TheVariants as faults

abbrev Answer : Type 0
Answer = Result History Fault

abbrev ok : History → Answer
ok h = Ok h

abbrev err : Fault → Answer
err x = Err x

same_history : (g h : History) → ok g ≡ ok h → g ≡ h
same_history g h e = cc

same_fault : (x y : Fault) → err x ≡ err y → x ≡ y
same_fault x y e = cc

differ : {P : Type 0} (h : History) (x : Fault) → ok h ≡ err x → P
differ h x e = absurd cc

-- ---- lines that say a history

ended_ok : (n : ℕ) (said : Said) (h : History) → ended n said ≡ Ok h → (version : Version) × (said ≡ history version h)
ended_ok n nothing h is = absurd cc
ended_ok n (title version) h is = absurd cc
ended_ok n (cores version c) h is = absurd cc
ended_ok n (history version g) h is = (version, ap (history version) (same_history g h is))

behind_ok : (others : Said → Answer) (n : ℕ) (r : Result Said LineFault) (h : History) → behind others n r ≡ Ok h → (said : Said) × (r ≡ Ok said) × (others said ≡ Ok h)
behind_ok others n (Ok said) h is = (said, refl, is)
behind_ok others n (Err fault) h is = absurd cc

read_says : (n : ℕ) (ls : List Text) (said : Said) (h : History) → read_from n ls said ≡ Ok h → (version : Version) × Says said ls (history version h)
unfolding read_from
read_says n [] said h is = ended_ok n said h is
read_says n (line ∷ others) said h is =
    let b = behind_ok (read_from (n + 1) others) n (with_line said line) h is in
    let rest = read_says (n + 1) others b.0 h b.2 in
    (rest.0, (b.0, b.1, rest.1))

-- going on behind lines that say something
says_on : (n : ℕ) (before others : List Text) (one two : Said) → Says one before two → read_from n (before ++ others) one ≡ read_from (n + length before) others two
unfolding read_from
says_on n [] others one two says = rw add-zero (ap (read_from n others) says)
says_on n (line ∷ before) others one two says =
    let number : n + 1 + length before ≡ n + length (line ∷ before) = omega arith in
    rw says.1 (says_on (n + 1) before others says.0 two says.2 ∙ ap (λ (k : ℕ). read_from k others two) number)

says_whole : (n : ℕ) (ls : List Text) (one two : Said) → Says one ls two → read_from n ls one ≡ ended (n + length ls) two
unfolding read_from
says_whole n [] one two says = rw add-zero (ap (ended n) says)
says_whole n (line ∷ ls) one two says =
    let number : n + 1 + length ls ≡ n + length (line ∷ ls) = omega arith in
    rw says.1 (says_whole (n + 1) ls says.0 two says.2 ∙ ap (λ (k : ℕ). ended k two) number)

-- ---- the first fault

pub record IsFaultFrom (ls : List Text) (from : ℕ) (one : Said) (fault : LineFault) (n : ℕ) : Type 0 where
  pub before : List Text
  pub line : Text
  pub others : List Text
  pub split : ls ≡ before ++ line ∷ others
  pub number : n ≡ from + length before
  pub said : Said
  pub says : Says one before said
  pub stands : with_line said line ≡ Err fault

pub record IsShortFrom (ls : List Text) (from : ℕ) (one : Said) (fault : LineFault) (n : ℕ) : Type 0 where
  pub said : Said
  pub says : Says one ls said
  pub short : ¬ IsPlanned said
  pub named : fault ≡ Header
  pub number : n ≡ from + length ls

abbrev IsFrom : List Text → ℕ → Said → LineFault → ℕ → Type 0
IsFrom ls from one fault n = IsFaultFrom ls from one fault n ⊎ IsShortFrom ls from one fault n

ended_err : (from n : ℕ) (said : Said) (fault : LineFault) → ended from said ≡ Err (fault, n) → (¬ IsPlanned said) × (fault ≡ Header) × (n ≡ from)
ended_err from n nothing fault is = let e = same_fault (Header, from) (fault, n) is in ((λ x. x), sym (ap (λ (x : Fault). x.0) e), sym (ap (λ (x : Fault). x.1) e))
ended_err from n (title version) fault is = let e = same_fault (Header, from) (fault, n) is in ((λ x. x), sym (ap (λ (x : Fault). x.0) e), sym (ap (λ (x : Fault). x.1) e))
ended_err from n (cores version c) fault is = let e = same_fault (Header, from) (fault, n) is in ((λ x. x), sym (ap (λ (x : Fault). x.0) e), sym (ap (λ (x : Fault). x.1) e))
ended_err from n (history version h) fault is = differ h (fault, n) is

at_end : (from n : ℕ) (said : Said) (fault : LineFault) → ended from said ≡ Err (fault, n) → IsFrom [] from said fault n
at_end from n said fault is =
    let e = ended_err from n said fault is in
    inr (record { said = said; says = refl; short = e.0; named = e.1; number = e.2 ∙ sym (add-zero from) })

at_first : (from : ℕ) (line : Text) (others : List Text) (said : Said) (fault : LineFault) → with_line said line ≡ Err fault → IsFrom (line ∷ others) from said fault from
at_first from line others said fault is = inl (record { before = []; line = line; others = others; split = refl; number = omega arith; said = said; says = refl; stands = is })

later : (from n : ℕ) (line : Text) (others : List Text) (one two : Said) (fault : LineFault) → with_line one line ≡ Ok two → IsFrom others (from + 1) two fault n → IsFrom (line ∷ others) from one fault n
later from n line others one two fault is (inl first) = inl (record {
  before = line ∷ first.before;
  line = first.line;
  others = first.others;
  split = ap (λ (ls : List Text). line ∷ ls) first.split;
  number = omega (arith, first.number);
  said = first.said;
  says = (two, is, first.says);
  stands = first.stands;
})
later from n line others one two fault is (inr end) = inr (record {
  said = end.said;
  says = (two, is, end.says);
  short = end.short;
  named = end.named;
  number = omega (arith, end.number);
})

by_step : (from n : ℕ) (line : Text) (others : List Text) (one : Said) (fault : LineFault) (r : Result Said LineFault) → with_line one line ≡ r → behind (read_from (from + 1) others) from r ≡ Err (fault, n)
    → ((two : Said) → read_from (from + 1) others two ≡ Err (fault, n) → IsFrom others (from + 1) two fault n) → IsFrom (line ∷ others) from one fault n
by_step from n line others one fault (Ok two) step is more = later from n line others one two fault step (more two is)
by_step from n line others one fault (Err g) step is more =
    let same : (g, from) ≡ (fault, n) = same_fault (g, from) (fault, n) is in
    subst (λ (x : Fault). IsFrom (line ∷ others) from one x.0 x.1) same (at_first from line others one g step)

read_fault : (from n : ℕ) (ls : List Text) (one : Said) (fault : LineFault) → read_from from ls one ≡ Err (fault, n) → IsFrom ls from one fault n
unfolding read_from
read_fault from n [] one fault is = at_end from n one fault is
read_fault from n (line ∷ others) one fault is = by_step from n line others one fault (with_line one line) refl is (λ two is. read_fault (from + 1) n others two fault is)

stands_there : (n : ℕ) (line : Text) (others : List Text) (said : Said) (fault : LineFault) → with_line said line ≡ Err fault → read_from n (line ∷ others) said ≡ Err (fault, n)
unfolding read_from
stands_there n line others said fault is = rw is refl

ended_short : (n : ℕ) (said : Said) → ¬ IsPlanned said → ended n said ≡ Err (Header, n)
ended_short n nothing short = refl
ended_short n (title version) short = refl
ended_short n (cores version c) short = refl
ended_short n (history version h) short = absurd (short tt)

-- ---- the whole text

pub spelled_read : (text : Text) (h : History) → IsScheduleText text h → schedule_at text ≡ Ok h
unfolding schedule_at
spelled_read text h says = says_whole 1 (lines text) nothing (history says.0 h) says.1

pub read_spelled : (text : Text) (h : History) → schedule_at text ≡ Ok h → IsScheduleText text h
unfolding schedule_at
read_spelled text h is = read_says 1 (lines text) nothing h is

pub fault_read : (text : Text) (fault : LineFault) (n : ℕ) → IsScheduleFault text fault n → schedule_at text ≡ Err (fault, n)
unfolding schedule_at
fault_read text fault n (inl first) =
    ap (λ (ls : List Text). read_from 1 ls nothing) first.split ∙ says_on 1 first.before (first.line ∷ first.others) nothing first.said first.says
    ∙ stands_there (1 + length first.before) first.line first.others first.said fault first.stands
    ∙ ap (λ (k : ℕ). err (fault, k)) (omega (arith, first.number))
fault_read text fault n (inr end) =
    says_whole 1 (lines text) nothing end.said end.says ∙ ended_short (1 + length (lines text)) end.said end.short
    ∙ ap (λ (f : LineFault). err (f, 1 + length (lines text))) (sym end.named) ∙ ap (λ (k : ℕ). err (fault, k)) (omega (arith, end.number))

from_first : (text : Text) (fault : LineFault) (n : ℕ) → IsFrom (lines text) 1 nothing fault n → IsScheduleFault text fault n
from_first text fault n (inl first) = inl (record {
  before = first.before;
  line = first.line;
  others = first.others;
  split = first.split;
  number = omega (arith, first.number);
  said = first.said;
  says = first.says;
  stands = first.stands;
})
from_first text fault n (inr end) = inr (record { said = end.said; says = end.says; short = end.short; named = end.named; number = omega (arith, end.number) })

pub read_faulty : (text : Text) (fault : LineFault) (n : ℕ) → schedule_at text ≡ Err (fault, n) → IsScheduleFault text fault n
unfolding schedule_at
read_faulty text fault n is = from_first text fault n (read_fault 1 n (lines text) nothing fault is)

-- ---- what was read, in words

pub told : (text : Text) (r : Result History (Refused ScheduleFault)) → Reads (schedule_at text) r → Tells text r
told text (Ok h) reads = read_spelled text h reads
told text (Err (answers.Fault (faults.Line fault n))) reads = read_faulty text fault n reads
told text (Err answers.NoMemory) reads = tt

pub found : (text : Text) (h : History) (r : Result History (Refused ScheduleFault)) → Reads (schedule_at text) r → IsScheduleText text h → Gives h r
found text h (Ok read) reads spelled = same_history read h (sym reads ∙ spelled_read text h spelled)
found text h (Err (answers.Fault (faults.Line fault n))) reads spelled = differ h (fault, n) (sym (spelled_read text h spelled) ∙ reads)
found text h (Err answers.NoMemory) reads spelled = tt

pub refused : (text : Text) (fault : LineFault) (n : ℕ) (r : Result History (Refused ScheduleFault)) → Reads (schedule_at text) r → IsScheduleFault text fault n → Refuses fault n r
refused text fault n (Ok read) reads faulty = differ read (fault, n) (sym reads ∙ fault_read text fault n faulty)
refused text fault n (Err (answers.Fault (faults.Line given line))) reads faulty =
    let e = same_fault (given, line) (fault, n) (sym reads ∙ fault_read text fault n faulty) in
    (ap (λ (x : Fault). x.0) e, ap (λ (x : Fault). x.1) e)
refused text fault n (Err answers.NoMemory) reads faulty = tt

-- ---- exactly one of the two

pub one_of_two : (text : Text) → ((h : History) × IsScheduleText text h) ⊎ ((fault : LineFault) × (n : ℕ) × IsScheduleFault text fault n)
one_of_two text = by_answer (schedule_at text) refl
  where
    by_answer : (r : Answer) → schedule_at text ≡ r → ((h : History) × IsScheduleText text h) ⊎ ((fault : LineFault) × (n : ℕ) × IsScheduleFault text fault n)
    by_answer (Ok h) is = inl (h, read_spelled text h is)
    by_answer (Err x) is = inr (x.0, x.1, read_faulty text x.0 x.1 is)

pub never_both : (text : Text) (h : History) (fault : LineFault) (n : ℕ) → IsScheduleText text h → IsScheduleFault text fault n → ⊥
never_both text h fault n spelled faulty = differ h (fault, n) (sym (spelled_read text h spelled) ∙ fault_read text fault n faulty)

pub one_history : (text : Text) (g h : History) → IsScheduleText text g → IsScheduleText text h → g ≡ h
one_history text g h one two = same_history g h (sym (spelled_read text g one) ∙ spelled_read text h two)

pub one_fault : (text : Text) (one two : LineFault) (m n : ℕ) → IsScheduleFault text one m → IsScheduleFault text two n → (one ≡ two) × (m ≡ n)
one_fault text one two m n first second =
    let e = same_fault (one, m) (two, n) (sym (fault_read text one m first) ∙ fault_read text two n second) in
    (ap (λ (x : Fault). x.0) e, ap (λ (x : Fault). x.1) e)
