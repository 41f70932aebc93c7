-- The loops of the code, one round more.
use Rattle.std.proofs.Common.{◌≡◌, ℕ, zero, suc, ◌+◌, ◌-◌, ◌<◌, ◌≤◌, Bool, true, false, length, refl, sym, ap, subst, ◌∙◌, arith, nat_lt}
use Rattle.ksi_imprint.specs.Imprints.{imprint_of}
use Rattle.ksi_world.specs.Histories.{world_of}
use Rattle.ksi_replay.specs.Making.{Making, Steps, times, when, each_message}
use Rattle.ksi_replay.specs.Generate.{second_made, seconds_made}
use borrow.Author.Tests.{ltb-true, ltb-false}

-- one time more
pub times_more : (steps : Steps (Unit {0})) (n : ℕ) (m : Making) → (times (suc n) steps m).1 ≡ (steps (times n steps m).1).1
times_more steps zero m = refl
times_more steps (suc n) m = times_more steps n (steps m).1

pub times_next : (steps : Steps (Unit {0})) (n : ℕ) (first now next : Making) → now ≡ (times n steps first).1 → next ≡ (steps now).1 → next ≡ (times (n + 1) steps first).1
times_next steps n first now next is step =
    let one : n + 1 ≡ suc n = omega arith in
    subst (λ k. next ≡ (times k steps first).1) (sym one) (step ∙ ap (λ m. (steps m).1) is ∙ sym (times_more steps n first))

-- one second more
pub seconds_more : (most n i : ℕ) (m : Making) → (seconds_made most (suc n) i m).1 ≡ (second_made most (i + n) (seconds_made most n i m).1).1
seconds_more most zero i m = ap (λ k. (second_made most k m).1) (omega arith)
seconds_more most (suc n) i m =
    seconds_more most n (suc i) (second_made most i m).1
    ∙ ap (λ k. (second_made most k (seconds_made most n (suc i) (second_made most i m).1).1).1) (omega arith)

-- none is left
pub messages_end : (most first : ℕ) (steps : ℕ → Steps (Unit {0})) (m : Making) → length (world_of imprint_of m.history).wire ≤ first →
    (each_message most first steps m).1 ≡ m
messages_end zero first steps m end = refl
messages_end (suc most) first steps m end = by (nat_lt first (length (world_of imprint_of m.history).wire)) refl
  where
    by : (b : Bool) → b ≡ nat_lt first (length (world_of imprint_of m.history).wire) →
        (when b (λ m. each_message most (suc first) steps (steps first m).1) m).1 ≡ m
    by true is = absurd (omega (arith, ltb-true first (length (world_of imprint_of m.history).wire) (sym is), end))
    by false is = refl

-- one message more
pub messages_next : (most first : ℕ) (steps : ℕ → Steps (Unit {0})) (m : Making) → 0 < most → first < length (world_of imprint_of m.history).wire →
    (each_message most first steps m).1 ≡ (each_message (most - 1) (first + 1) steps (steps first m).1).1
messages_next zero first steps m some lt = absurd (omega arith)
messages_next (suc most) first steps m some lt = by (nat_lt first (length (world_of imprint_of m.history).wire)) refl
  where
    by : (b : Bool) → b ≡ nat_lt first (length (world_of imprint_of m.history).wire) →
        (when b (λ m. each_message most (suc first) steps (steps first m).1) m).1 ≡ (each_message (suc most - 1) (first + 1) steps (steps first m).1).1
    by true is = subst (λ k. (each_message most (suc first) steps (steps first m).1).1 ≡ (each_message k (first + 1) steps (steps first m).1).1) (omega arith)
        (ap (λ k. (each_message most k steps (steps first m).1).1) (omega arith))
    by false is = absurd (omega (arith, ltb-false first (length (world_of imprint_of m.history).wire) (sym is), lt))

-- no more are looked at
pub messages_none : (most first : ℕ) (steps : ℕ → Steps (Unit {0})) (m : Making) → most ≡ 0 → (each_message most first steps m).1 ≡ m
messages_none most first steps m none = ap (λ n. (each_message n first steps m).1) none
