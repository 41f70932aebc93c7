-- The seconds that a restart has to look at, and what rows and a restart leave of the others.
use Rattle.std.proofs.Common.{◌≡◌, ◌⊎◌, Result, Ok, Err, inl, inr, rules, ℕ, ◌++◌, Bool, true, false, List, [], ◌∷◌, length, Option, refl, ap, sym, subst, ◌∙◌}
use Rattle.std.specs.Prelude.{IfOk, OnErr, is_some, ◌==◌, ◌||◌, if◌then◌else◌}
use Rattle.std.proofs.lemmas.Bool.{false≢true, eqb-true, eq-eqb}
use Rattle.ksi_aggtree.specs.declared.item.Item.{Item}
use Rattle.ksi_signature.specs.declared.answer.Answer.TheVariants as answers
use Rattle.ksi_aggregator.specs.Rows.{RoundState, RoundTurn, fresh_round, round_restarted, round_request, round_submission, round_still, round_close, closed_now}
use Rattle.ksi_aggregator.specs.Rounds.{round_at, items_in, ChangesOnly}
use Rattle.ksi_aggregator.specs.Listed.{is_among, AreListed}

-- one more behind them
pub among_more : (t second : ℕ) (seconds : List ℕ) → is_among t (seconds ++ second ∷ []) ≡ is_among t seconds || (t == second)
among_more t second [] = or_false (t == second)
  where
    or_false : (b : Bool) → b || false ≡ b
    or_false true = refl
    or_false false = refl
among_more t second (s ∷ seconds) = by (t == s) (is_among t seconds) (among_more t second seconds)
  where
    by : (b c : Bool) → is_among t (seconds ++ second ∷ []) ≡ c || (t == second) → b || is_among t (seconds ++ second ∷ []) ≡ (b || c) || (t == second)
    by true c e = refl
    by false c e = e

left_false : (a b : Bool) → a || b ≡ false → a ≡ false
left_false true b e = absurd (false≢true (sym e))
left_false false b e = refl

or_true : (a : Bool) → a || true ≡ true
or_true true = refl
or_true false = refl

pub fewer : (t second : ℕ) (seconds : List ℕ) → is_among t (seconds ++ second ∷ []) ≡ false → is_among t seconds ≡ false
fewer t second seconds none = left_false (is_among t seconds) (t == second) (sym (among_more t second seconds) ∙ none)

pub there : (t second : ℕ) (seconds : List ℕ) → t ≡ second → is_among t (seconds ++ second ∷ []) ≡ true
there t second seconds same =
    among_more t second seconds ∙ ap (λ (b : Bool). is_among t seconds || b) (ap (λ (u : ℕ). u == second) same ∙ eq-eqb second second refl) ∙ or_true (is_among t seconds)

-- one round changes, to one that a restart leaves where its second is not listed
pub turned : (listed more : List ℕ) (kept turned_to : List (ℕ × RoundState)) (second : ℕ) (after : RoundState) → AreListed listed kept
    → ((t : ℕ) → is_among t more ≡ false → is_among t listed ≡ false) → ChangesOnly (round_at kept) (round_at turned_to) second after
    → (is_among second more ≡ false → round_restarted after ≡ after) → AreListed more turned_to
turned listed more kept turned_to second after are fewer changes stays = λ t none. by t none (t == second) refl
  where
    by : (t : ℕ) → is_among t more ≡ false → (b : Bool) → (t == second) ≡ b → round_restarted (round_at turned_to t) ≡ round_at turned_to t
    by t none true same =
        let is : round_at turned_to t ≡ after = changes t ∙ ap (λ (b : Bool). if b then after else round_at kept t) same in
        ap round_restarted is ∙ stays (subst (λ (u : ℕ). is_among u more ≡ false) (eqb-true t second same) none) ∙ sym is
    by t none false other =
        let is : round_at turned_to t ≡ round_at kept t = changes t ∙ ap (λ (b : Bool). if b then after else round_at kept t) other in
        ap round_restarted is ∙ are t (fewer t none) ∙ sym is

-- what a restart leaves is closed, or has no items
left_is : (r : RoundState) → round_restarted r ≡ r → (is_some r.closed ≡ true) ⊎ (r ≡ fresh_round)
left_is r left = by (is_some r.closed) refl
  where
    by : (b : Bool) → is_some r.closed ≡ b → (is_some r.closed ≡ true) ⊎ (r ≡ fresh_round)
    by true closed = inl closed
    by false others = inr (sym left ∙ ap (λ (b : Bool). if b then r else fresh_round) others)

closed_left : (r : RoundState) → is_some r.closed ≡ true → round_restarted r ≡ r
closed_left r closed = ap (λ (b : Bool). if b then r else fresh_round) closed

-- a row that is still where the round is closed leaves what a restart leaves of a round with items
pub row_left : (row : RoundState → RoundTurn) (r : RoundState) → (is_some r.closed ≡ true → (row r).after ≡ r) → round_restarted r ≡ r → (length (items_in r) ≡ 0 → ⊥)
    → round_restarted (row r).after ≡ (row r).after
row_left row r still left some = elim (left_is r left) [
  | inl closed ↦ let same : (row r).after ≡ r = still closed in ap round_restarted same ∙ left ∙ sym same
  | inr fresh ↦ absurd (some (ap (λ (r : RoundState). length (items_in r)) fresh))
]

pub request_still : (number : ℕ) (imprint : List ℕ) (name : Option (List ℕ)) (r : RoundState) → is_some r.closed ≡ true → (round_request number imprint name r).after ≡ r
unfolding round_request
request_still number imprint name r closed = search (rules, closed)

pub submission_still : (from : ℕ) (item : Item) (r : RoundState) → is_some r.closed ≡ true → (round_submission from item r).after ≡ r
unfolding round_submission
submission_still from item r closed = search (rules, closed)

-- a closing leaves what a restart leaves
pub close_left : (image : List ℕ → List ℕ) (r : RoundState) → round_restarted (round_close image r).after ≡ (round_close image r).after
unfolding round_close
close_left image r = by (is_some r.closed) refl
  where
    by : (b : Bool) → is_some r.closed ≡ b → round_restarted (if b then round_still r answers.Closed else closed_now image r).after ≡ (if b then round_still r answers.Closed else closed_now image r).after
    by true closed = closed_left r closed
    by false others = refl

-- so it is with whatever comes of it
pub turn_left : {T E : Type 0} (result : Result T E) (old new after : RoundState) → IfOk result (λ step. new ≡ after) → OnErr result (new ≡ old)
    → round_restarted old ≡ old → round_restarted after ≡ after → round_restarted new ≡ new
turn_left (Ok step) old new after is stays before left = ap round_restarted is ∙ left ∙ sym is
turn_left (Err error) old new after is stays before left = ap round_restarted stays ∙ before ∙ sym stays

-- A RESTART

twice : (r : RoundState) → round_restarted (round_restarted r) ≡ round_restarted r
twice r = cases (is_some r.closed) refl
  where
    cases : (b : Bool) → is_some r.closed ≡ b → round_restarted (if b then r else fresh_round) ≡ (if b then r else fresh_round)
    cases true closed = closed_left r closed
    cases false others = refl

-- the last one that is listed is looked at
pub looked_at : (second : ℕ) (seconds : List ℕ) (listed : List ℕ) (kept turned_to : List (ℕ × RoundState)) → listed ≡ seconds ++ second ∷ [] → AreListed listed kept
    → ((t : ℕ) → round_at turned_to t ≡ (if t == second then round_restarted (round_at kept second) else round_at kept t)) → AreListed seconds turned_to
looked_at second seconds listed kept turned_to is are changes = λ t none. by t none (t == second) refl
  where
    by : (t : ℕ) → is_among t seconds ≡ false → (b : Bool) → (t == second) ≡ b → round_restarted (round_at turned_to t) ≡ round_at turned_to t
    by t none true same =
        let at : round_at turned_to t ≡ round_restarted (round_at kept second) = changes t ∙ ap (λ (b : Bool). if b then round_restarted (round_at kept second) else round_at kept t) same in
        ap round_restarted at ∙ twice (round_at kept second) ∙ sym at
    by t none false other =
        let at : round_at turned_to t ≡ round_at kept t = changes t ∙ ap (λ (b : Bool). if b then round_restarted (round_at kept second) else round_at kept t) other in
        let not_listed : is_among t listed ≡ false = ap (is_among t) is ∙ among_more t second seconds ∙ ap (λ (b : Bool). b || (t == second)) none ∙ other in
        ap round_restarted at ∙ are t not_listed ∙ sym at

pub restarted_same : (second : ℕ) (kept turned_to : List (ℕ × RoundState)) → ((t : ℕ) → round_at turned_to t ≡ (if t == second then round_restarted (round_at kept second) else round_at kept t))
    → (t : ℕ) → round_restarted (round_at turned_to t) ≡ round_restarted (round_at kept t)
restarted_same second kept turned_to changes t = by (t == second) refl
  where
    by : (b : Bool) → (t == second) ≡ b → round_restarted (round_at turned_to t) ≡ round_restarted (round_at kept t)
    by true same =
        ap round_restarted (changes t ∙ ap (λ (b : Bool). if b then round_restarted (round_at kept second) else round_at kept t) same) ∙ twice (round_at kept second)
        ∙ ap (λ (u : ℕ). round_restarted (round_at kept u)) (sym (eqb-true t second same))
    by false other = ap round_restarted (changes t ∙ ap (λ (b : Bool). if b then round_restarted (round_at kept second) else round_at kept t) other)
