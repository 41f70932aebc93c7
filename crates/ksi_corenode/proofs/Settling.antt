-- The settled seconds, and the one behind them.
use Rattle.std.proofs.Common.{◌≡◌, ℕ, ◌+◌, ◌^◌, ◌<◌, ◌≤◌, List, length, slice_index_or, refl, subst, arith, inl, inr}
use Rattle.std.specs.Prelude.{IsSome, ◌-◌}
use Rattle.std.proofs.lemmas.Bool.{cond_both, cases_lt, and_parts, ltb-true}
use Rattle.ksi_corenode.specs.declared.stable.StablePart.{StablePart}
use Rattle.ksi_calendar.specs.Covered.{Roots, IsFirstMissing}
use Rattle.ksi_corenode.specs.Settled.{IsSettled}
use Rattle.ksi_corenode.specs.Stored.{fresh_part, in_list, unsettled_at, part_at}

-- the second behind the settled ones stands in the map, or nowhere
pub behind : (start : ℕ) (settled : List StablePart) (unsettled : List (ℕ × StablePart)) → part_at start settled unsettled (start + length settled) ≡ unsettled_at unsettled (start + length settled)
unfolding part_at
behind start settled unsettled = cond_both (in_list start settled (start + length settled)) (slice_index_or settled (start + length settled - start) fresh_part) (unsettled_at unsettled (start + length settled))
    (λ (part : StablePart). part ≡ unsettled_at unsettled (start + length settled))
    (λ both. absurd (omega (arith, ltb-true (start + length settled) (start + length settled) (and_parts _ _ both).1)))
    (λ _. refl)

-- where it is held too, all up to it are
pub one_more : (at : ℕ → StablePart) (start count : ℕ) → ((t : ℕ) → start ≤ t → t < start + count → IsSome (at t).vote.held) → IsSome (at (start + count)).vote.held →
    (t : ℕ) → start ≤ t → t < start + (count + 1) → IsSome (at t).vote.held
one_more at start count held next t from below = elim (cases_lt t (start + count)) [
  | inl before ↦ held t from before
  | inr later ↦ let same : start + count ≡ t = omega (arith, below, later) in subst (λ (u : ℕ). IsSome (at u).vote.held) same next
]

-- THE FIRST SECOND THAT IS NOT HELD

module _ (held : Roots) (start count p : ℕ) (settled : IsSettled held start count) where
  -- it is the one behind the settled ones
  pub first_behind : start + count ≤ p → p < 2 ^ 64 → IsFirstMissing held start p (start + count)
  first_behind within small = record {
    from = omega arith;
    to = within;
    missing = settled.next (omega (arith, within, small));
    before = settled.each;
  }

  -- there is none among these
  pub none_within : p < start + count → (t : ℕ) → start ≤ t → t ≤ p → IsSome (held t)
  none_within covered t from to = settled.each t from (omega (arith, to, covered))
