-- Cutting at the first mark.
use Rattle.std.proofs.Common.{true, subst, suc, zero, ◌≡◌, ℕ, ◌<◌, eqb, false, Bool, List, [], ◌∷◌, ◌++◌, length, get_or, take, drop, refl, ap, ◌∙◌, arith}
use Rattle.std.specs.List.{slice_split}
use Rattle.std.proofs.lemmas.List.Splits.{length-slice_split}
use Rattle.ksi_schedule.specs.Pieces.{Text, lines, words}

-- no byte is the mark
abbrev pub Lacks : ℕ → Text → Type 0
Lacks mark [] = Unit {0}
Lacks mark (b ∷ bytes) = (eqb b mark ≡ false) × Lacks mark bytes

pub words-whole : (line : Text) → Lacks 32 line → words line ≡ line ∷ []
words-whole [] free = refl
words-whole (b ∷ line) free = rw (free.0, words-whole line free.1) refl

pub words-cut : (before after : Text) → Lacks 32 before → words (before ++ 32 ∷ after) ≡ before ∷ words after
words-cut [] after free = refl
words-cut (b ∷ before) after free = rw (free.0, words-cut before after free.1) refl

pub lines-whole : (b : ℕ) (line : Text) → Lacks 10 (b ∷ line) → lines (b ∷ line) ≡ (b ∷ line) ∷ []
lines-whole b [] free = rw free.0 refl
lines-whole b (c ∷ line) free = rw (free.0, lines-whole c line free.1) refl

pub lines-cut : (before after : Text) → Lacks 10 before → lines (before ++ 10 ∷ after) ≡ before ∷ lines after
lines-cut [] after free = refl
lines-cut (b ∷ before) after free = rw (free.0, lines-cut before after free.1) refl

pub lines-some : (line : Text) → 0 < length line → Lacks 10 line → lines line ≡ line ∷ []
lines-some [] some free = absurd (omega arith)
lines-some (b ∷ line) some free = lines-whole b line free

not_true : (b : Bool) → ¬ (b ≡ true) → b ≡ false
not_true true not = absurd (not refl)
not_true false not = refl

-- no byte before place i is the mark
pub lacks_before : (mark i : ℕ) (bytes : Text) → ((k : ℕ) → k < i → ¬ (eqb (get_or bytes k 0) mark ≡ true)) → Lacks mark (take i bytes)
lacks_before mark zero [] none = tt
lacks_before mark zero (b ∷ bytes) none = tt
lacks_before mark (suc i) [] none = tt
lacks_before mark (suc i) (b ∷ bytes) none = (not_true _ (none 0 (omega arith)), lacks_before mark i bytes (λ k lt. none (suc k) (omega arith)))

parts : (i mark : ℕ) (bytes : Text) → i < length bytes → get_or bytes i 0 ≡ mark → bytes ≡ take i bytes ++ (mark ∷ drop (suc i) bytes)
parts i mark [] lt is = absurd (omega arith)
parts zero mark (b ∷ bytes) lt is = ap (λ (c : ℕ). c ∷ bytes) is
parts (suc i) mark (b ∷ bytes) lt is = ap (λ (rest : Text). b ∷ rest) (parts i mark bytes (omega arith) is)

-- cut at the first mark
pub words_at : (mark : ℕ) (bytes : Text) (i : ℕ) → i < length bytes → get_or bytes i 0 ≡ mark → Lacks mark (take i bytes) → mark ≡ 32 → words bytes ≡ take i bytes ∷ words (drop (suc i) bytes)
words_at mark bytes i lt is free space =
    let p : bytes ≡ take i bytes ++ (32 ∷ drop (suc i) bytes) = parts i 32 bytes lt (is ∙ space) in
    ap words p ∙ words-cut (take i bytes) (drop (suc i) bytes) (subst (λ (m : ℕ). Lacks m (take i bytes)) space free)

pub lines_at : (mark : ℕ) (bytes : Text) (i : ℕ) → i < length bytes → get_or bytes i 0 ≡ mark → Lacks mark (take i bytes) → mark ≡ 10 → lines bytes ≡ take i bytes ∷ lines (drop (suc i) bytes)
lines_at mark bytes i lt is free feed =
    let p : bytes ≡ take i bytes ++ (10 ∷ drop (suc i) bytes) = parts i 10 bytes lt (is ∙ feed) in
    ap lines p ∙ lines-cut (take i bytes) (drop (suc i) bytes) (subst (λ (m : ℕ). Lacks m (take i bytes)) feed free)

split-nonempty : (p : ℕ → Bool) (bytes : Text) → 0 < length (slice_split p bytes)
split-nonempty p bytes = omega (arith, length-slice_split p bytes)

-- behind a cut a word more stands
pub more_words : (rest : Text) → 0 < length (words rest)
more_words rest = split-nonempty (λ b. eqb b 32) rest

pub not_one : (ws : List Text) (first rest : Text) → ws ≡ first ∷ words rest → length ws ≡ 1 → ⊥
not_one ws first rest is one = let some : 0 < length (words rest) = more_words rest in let len : length ws ≡ length (first ∷ words rest) = ap length is in omega (arith, some, len, one)

pub drop_one : (i : ℕ) (bytes : Text) → drop 1 (drop i bytes) ≡ drop (suc i) bytes
drop_one zero [] = refl
drop_one zero (b ∷ bytes) = refl
drop_one (suc i) [] = refl
drop_one (suc i) (b ∷ bytes) = drop_one i bytes
