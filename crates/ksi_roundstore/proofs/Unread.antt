-- Which texts are no lines of events.
use Rattle.std.proofs.Common.{◌≢◌, ◌≡◌, ◌∙◌, ℕ, zero, suc, ◌<◌, List, [], ◌∷◌, ◌++◌, length, take, drop, get_or, sym, ap, subst, append_assoc, length-append, arith, eqb, Bool, true, false, Option, Some, None, IfNone, refl}
use Rattle.std.specs.List.{All, AllByRecursion}
use Rattle.std.proofs.lemmas.List.Elements.{All-get_or}
use Rattle.std.proofs.lemmas.Bool.{eqb-true, false≢true}
use Rattle.ksi_aggregator.specs.declared.event.RoundEvent.{RoundEvent}
use Rattle.ksi_schedule.specs.Pieces.{Text}
use Rattle.ksi_schedule.specs.Plans.{PlanState}
use Rattle.ksi_schedule.specs.Printed.{line_of}
use Rattle.ksi_wire.specs.RoundLines.{round_words}
use Rattle.ksi_roundstore.specs.Texts.{lines_of}
use Rattle.ksi_roundstore.specs.Written.{AreLinesIn, IsLine, IsWritten}
use Rattle.ksi_roundstore.proofs.Cut.{cut_once, itself, line_lacks}

-- cut at a line feed
pub cut_here : (place : ℕ) (text : Text) → place < length text → get_or text place 0 ≡ 10 → text ≡ take place text ++ 10 ∷ drop 1 (drop place text)
cut_here place [] within is = absurd (omega arith)
cut_here zero (b ∷ text) within is = ap (λ (c : ℕ). c ∷ text) is
cut_here (suc place) (b ∷ text) within is = ap (λ (rest : Text). b ∷ rest) (cut_here place text (omega arith) is)

module _ (plan : PlanState) (me : ℕ) where
  too_long : (line : Text) (rest : Text) → [] ≡ line ++ 10 ∷ rest → ⊥
  too_long line rest is =
      let none : 0 ≡ length (line ++ 10 ∷ rest) = ap (λ (l : Text). length l) is in
      absurd (omega (arith, none, length-append line (10 ∷ rest)))

  -- behind some of the lines stand the others
  pub lines_behind : (some list : List RoundEvent) (rest : Text) → AllByRecursion (IsWritten plan me) some → AllByRecursion (IsWritten plan me) list → lines_of list ≡ lines_of some ++ rest → AreLinesIn plan me rest
  lines_behind [] list rest are others is = record { list = list; text_is = sym is; written = others }
  lines_behind (event ∷ some) [] rest are others is = absurd (too_long (line_of (round_words event)) (lines_of some ++ rest) (is ∙ append_assoc (line_of (round_words event)) (10 ∷ lines_of some) rest))
  lines_behind (event ∷ some) (next ∷ list) rest are others is =
      let cut = cut_once 10 (line_of (round_words next)) (line_of (round_words event)) (lines_of list) (lines_of some ++ rest) (line_lacks _ others.0.line) (line_lacks _ are.0.line)
      (is ∙ append_assoc (line_of (round_words event)) (10 ∷ lines_of some) rest) in
      lines_behind some list rest are.1 others.1 cut.behind

  -- a line of no event is not the first of them
  pub no_event : (rest line behind : Text) → rest ≡ line ++ 10 ∷ behind → IsLine line → ((event : RoundEvent) → IsWritten plan me event → line ≡ line_of (round_words event) → ⊥) → AreLinesIn plan me rest → ⊥
  no_event rest line behind is free none are = by are.list (sym is ∙ are.text_is) are.written
    where
      by : (list : List RoundEvent) → line ++ 10 ∷ behind ≡ lines_of list → AllByRecursion (IsWritten plan me) list → ⊥
      by [] same written = too_long line behind (sym same)
      by (event ∷ list) same written = none event written.0 (cut_once 10 line (line_of (round_words event)) behind (lines_of list) (line_lacks line free) (line_lacks _ written.0.line) same).before

  has_feed : (line rest : Text) → IsLine (line ++ 10 ∷ rest) → ⊥
  has_feed [] rest free = absurd (false≢true (sym free.0 ∙ itself 10))
  has_feed (b ∷ line) rest free = has_feed line rest free.1

  -- a text without a line feed has no line
  pub no_feed : (rest : Text) → IsLine rest → (length rest ≡ 0 → ⊥) → AreLinesIn plan me rest → ⊥
  no_feed rest free some are = by are.list are.text_is
    where
      by : (list : List RoundEvent) → rest ≡ lines_of list → ⊥
      by [] same = some (ap (λ (l : Text). length l) same)
      by (event ∷ list) same = has_feed (line_of (round_words event)) (lines_of list) (subst IsLine same free)

-- no byte is a line feed
pub free_line : (text : Text) → ((k : ℕ) → k < length text → ¬ (eqb (get_or text k 0) 10 ≡ true)) → IsLine text
free_line [] none = tt
free_line (b ∷ text) none = (not_true (eqb b 10) (none 0 (omega arith)), free_line text (λ k within. none (suc k) (omega arith)))
  where
    not_true : (b : Bool) → ¬ (b ≡ true) → b ≡ false
    not_true true not = absurd (not refl)
    not_true false not = refl

pub on_none : {A P : Type 0} (found : Option A) → IfNone found P → ((x : A) → found ≡ Some x → ⊥) → P
on_none None is not = is
on_none (Some x) is not = absurd (not x refl)

-- the same in other words
pub feedless : (text : Text) → All (λ b. b ≢ 10) text → IsLine text
feedless text free = free_line text (λ k within is. All-get_or (λ b. b ≢ 10) text k 0 within free (eqb-true (get_or text k 0) 10 is))
