-- The counts before each step.
use Rattle.std.proofs.Common.{◌≡◌, ℕ, zero, suc, ◌+◌, ◌≤◌, ◌<◌, ◌-◌, List, [], ◌∷◌, ◌++◌, length, take, slice_index_or, refl, ap, ◌∙◌, arith}
use Rattle.ksi_schedule.specs.Plans.{PlanState}
use Rattle.ksi_schedule.specs.declared.event.Event.{Event}
use Rattle.ksi_world.specs.Histories.{WorldState, first_world, happens, run, after}
use Rattle.ksi_records.specs.declared.mark.Mark.{Mark}
use Rattle.ksi_records.specs.Marks.{mark_of, marks_from}

module _ (image : List ℕ → List ℕ) (plan : PlanState) where
  marks_behind : (w : WorldState) (es : List Event) (e : Event) → marks_from image plan w (es ++ e ∷ []) ≡ marks_from image plan w es ++ mark_of (run image plan w (es ++ e ∷ [])) ∷ []
  marks_behind w [] e = refl
  marks_behind w (x ∷ es) e = ap (λ (marks : List Mark). mark_of w ∷ marks) (marks_behind (happens image plan w x).world es e)

  pub marks_more : (es : List Event) (e : Event) → marks_from image plan (first_world plan) (es ++ e ∷ []) ≡ marks_from image plan (first_world plan) es ++ mark_of (after image plan (es ++ e ∷ [])) ∷ []
  unfolding after
  marks_more es e = marks_behind (first_world plan) es e

  count_from : (w : WorldState) (es : List Event) → length (marks_from image plan w es) ≡ length es + 1
  count_from w [] = refl
  count_from w (x ∷ es) = let rest = count_from (happens image plan w x).world es in omega (arith, rest)

  pub mark_count : (es : List Event) → length (marks_from image plan (first_world plan) es) ≡ length es + 1
  mark_count es = count_from (first_world plan) es

  mark_from : (w : WorldState) (es : List Event) (i : ℕ) (other : Mark) → i ≤ length es → slice_index_or (marks_from image plan w es) i other ≡ mark_of (run image plan w (take i es))
  mark_from w [] zero other le = refl
  mark_from w [] (suc i) other le = absurd (omega (arith, le))
  mark_from w (x ∷ es) zero other le = refl
  mark_from w (x ∷ es) (suc i) other le = mark_from (happens image plan w x).world es i other (omega (arith, le))

  pub mark_at : (es : List Event) (marks : List Mark) (i : ℕ) (other : Mark) → marks ≡ marks_from image plan (first_world plan) es → i ≤ length es → slice_index_or marks i other ≡ mark_of (after image plan (take i es))
  unfolding after
  mark_at es marks i other are le = ap (λ (l : List Mark). slice_index_or l i other) are ∙ mark_from (first_world plan) es i other le

  pub mark_there : (es : List Event) (marks : List Mark) (i : ℕ) → marks ≡ marks_from image plan (first_world plan) es → 2 ≤ length marks - i → i < length es
  mark_there es marks i are two = omega (arith, two, ap (λ (l : List Mark). length l) are ∙ mark_count es)

  pub first_mark : mark_of (after image plan []) ∷ [] ≡ marks_from image plan (first_world plan) []
  unfolding after
  first_mark = refl

  run_more : (w : WorldState) (es : List Event) (e : Event) → run image plan w (es ++ e ∷ []) ≡ (happens image plan (run image plan w es) e).world
  run_more w [] e = refl
  run_more w (x ∷ es) e = run_more (happens image plan w x).world es e

  pub after_more : (es : List Event) (e : Event) → after image plan (es ++ e ∷ []) ≡ (happens image plan (after image plan es) e).world
  unfolding after
  after_more es e = run_more (first_world plan) es e
