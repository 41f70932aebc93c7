-- Cutting a log at its first line feed, and the lines so far.
use Rattle.std.proofs.Common.{◌≡◌, ℕ, zero, suc, ◌<◌, ◌≤◌, true, false, Bool, eqb, List, [], ◌∷◌, ◌++◌, length, get_or, take, drop, refl, sym, ap, subst, ◌∙◌, append-nil, arith}
use Rattle.std.specs.List.{AllByRecursion, onto_first}
use Rattle.ksi_logblock.specs.Blocks.{most_lines}
use Rattle.ksi_logblock.specs.Logs.{IsShort, MakeBlock, lines_of}

no_feed : (b : Bool) → ¬ (b ≡ true) → b ≡ false
no_feed true not = absurd (not refl)
no_feed false not = refl

-- no byte before place i is a line feed
abbrev pub Lacks : ℕ → List ℕ → Type 0
Lacks i log = (k : ℕ) → k < i → ¬ (eqb (get_or log k 0) 10 ≡ true)

pub one_line : (log : List ℕ) → 0 < length log → Lacks (length log) log → lines_of log ≡ log ∷ []
one_line [] some lacks = absurd (omega arith)
one_line (b ∷ []) some lacks = rw (no_feed _ (lacks 0 (omega arith))) refl
one_line (b ∷ c ∷ log) some lacks = rw (no_feed _ (lacks 0 (omega arith)), one_line (c ∷ log) (omega arith) (λ k lt. lacks (suc k) (omega arith))) refl

pub line_before : (i : ℕ) (log : List ℕ) → i < length log → eqb (get_or log i 0) 10 ≡ true → Lacks i log → lines_of log ≡ take i log ∷ lines_of (drop (suc i) log)
line_before i [] lt is lacks = absurd (omega arith)
line_before zero (b ∷ log) lt is lacks = rw is refl
line_before (suc i) (b ∷ log) lt is lacks = rw (no_feed _ (lacks 0 (omega arith)), line_before i log (omega arith) is (λ k below. lacks (suc k) (omega arith))) refl

pub drop_one : (i : ℕ) (log : List ℕ) → drop 1 (drop i log) ≡ drop (suc i) log
drop_one zero [] = refl
drop_one zero (b ∷ log) = refl
drop_one (suc i) [] = refl
drop_one (suc i) (b ∷ log) = drop_one i log

some_first : (byte : ℕ) (lines : List (List ℕ)) → 0 < length (onto_first byte lines)
some_first byte [] = omega arith
some_first byte (line ∷ lines) = omega arith

some_lines : (log : List ℕ) → 0 < length log → 0 < length (lines_of log)
some_lines [] some = absurd (omega arith)
some_lines (b ∷ log) some = of (eqb b 10) refl
  where
    of : (t : Bool) → eqb b 10 ≡ t → 0 < length (lines_of (b ∷ log))
    of true e = rw e (omega arith)
    of false e = rw e (some_first b (lines_of log))

empty : (log : List ℕ) → length log ≡ 0 → log ≡ []
empty [] none = refl
empty (b ∷ log) none = absurd (omega arith)

-- where nothing is left of a log, its lines are those of the block
pub makes_block : (log rest : List ℕ) (lines : List (List ℕ)) → lines ++ lines_of rest ≡ lines_of log → length rest ≡ 0 → 0 < length log → length lines ≤ most_lines → AllByRecursion IsShort lines → MakeBlock (lines_of log)
makes_block log rest lines is none some few short =
    let same : lines ≡ lines_of log = sym (append-nil lines) ∙ ap (λ (left : List ℕ). lines ++ lines_of left) (sym (empty rest none)) ∙ is in
    record {
      some = some_lines log some;
      taken = record { few = subst (λ (ls : List (List ℕ)). length ls ≤ most_lines) same few; short = subst (AllByRecursion IsShort) same short };
    }
