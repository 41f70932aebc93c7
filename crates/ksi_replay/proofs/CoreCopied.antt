-- What the code copies of a core is its mirror.
use Rattle.std.proofs.Common.{◌≡◌, ℕ, ◌^◌, ◌<◌, ◌≤◌, false, List, Option, Some, None, refl, ap, ◌∙◌}
use Rattle.std.specs.Prelude.{option_map}
use Rattle.ksi_aggtree.specs.declared.entries.Entry.{Entry}
use Rattle.ksi_corenode.specs.SecondState.{SecondState}
use Rattle.ksi_corenode.specs.CoreState.{CoreState, state_of, held_by}
use Rattle.ksi_corenode.specs.Next.{held_or_sealed}
use Rattle.ksi_schedule.specs.Plans.{PlanState}
use Rattle.ksi_world.specs.Histories.{WorldState, held_in}
use Rattle.ksi_mirror.specs.declared.sealed_list.SealedList.{SealedList}
use Rattle.ksi_mirror.specs.Mirrors.{MirrorState}
use Rattle.ksi_replay.specs.Mirrors.{each_second, root_with, list_with, list_at, some_sealed, sealed_in, sealed_by, mirror_in}
use Rattle.ksi_replay.proofs.Listing.{those_same}

-- ---- where a core holds and has sealed nothing, nothing is copied

none_held : (s : SecondState) → held_or_sealed s ≡ false → s.vote.held ≡ None
none_held s idle = by s.vote.held s.sealed idle
  where
    by : (held : Option (List ℕ)) (sealed : Option (List Entry)) → held_or_sealed (record s { vote = record s.vote { held = held }; sealed = sealed }) ≡ false → held ≡ None
    by None sealed idle = refl
    by (Some root) sealed idle = absurd (cc idle)

none_sealed : (s : SecondState) → held_or_sealed s ≡ false → s.sealed ≡ None
none_sealed s idle = by s.vote.held s.sealed idle
  where
    by : (held : Option (List ℕ)) (sealed : Option (List Entry)) → held_or_sealed (record s { vote = record s.vote { held = held }; sealed = sealed }) ≡ false → sealed ≡ None
    by held None idle = refl
    by None (Some entries) idle = absurd (cc idle)
    by (Some root) (Some entries) idle = absurd (cc idle)

module _ (node : CoreState) (core from to : ℕ) (idle : (t : ℕ) → from ≤ t → t < to → held_or_sealed (state_of node t) ≡ false) where
  pub idle_roots : (t : ℕ) → from ≤ t → t < to → root_with (held_by node) t ≡ None
  idle_roots t le lt = ap (option_map (λ root. (t, root))) (none_held (state_of node t) (idle t le lt))

  pub idle_lists : (t : ℕ) → from ≤ t → t < to → list_at (sealed_by node) core t ≡ None
  idle_lists t le lt = ap (λ o. option_map (list_with core t) (some_sealed o)) (none_sealed (state_of node t) (idle t le lt))

-- ---- all of it

abbrev with_all : ℕ → List (ℕ × List ℕ) → List SealedList → MirrorState
with_all n roots lists = record { start = n; roots = roots; lists = lists }

module _ (plan : PlanState) (w : WorldState) (core : ℕ) (node : CoreState) (same : (t : ℕ) → state_of node t ≡ w.seconds core t) where
  roots_same : (start : ℕ) → each_second (root_with (held_by node)) start ≡ each_second (root_with (held_in w core)) start
  unfolding each_second
  roots_same start = those_same (root_with (held_by node)) (root_with (held_in w core)) start (2 ^ 24) (λ t. ap (λ (s : SecondState). option_map (λ root. (t, root)) s.vote.held) (same t))

  lists_same : (start : ℕ) → each_second (list_at (sealed_by node) core) start ≡ each_second (list_at (sealed_in w core) core) start
  unfolding each_second
  lists_same start = those_same (list_at (sealed_by node) core) (list_at (sealed_in w core) core) start (2 ^ 24) (λ t. ap (λ (s : SecondState). option_map (list_with core t) (some_sealed s.sealed)) (same t))

  pub copied_is : (start n : ℕ) (roots : List (ℕ × List ℕ)) (lists : List SealedList) → start ≡ plan.start → n ≡ start → roots ≡ each_second (root_with (held_by node)) start → lists ≡ each_second (list_at (sealed_by node) core) start
      → with_all n roots lists ≡ mirror_in plan w core
  copied_is start n roots lists begins starts roots_are lists_are =
      ap (λ n. with_all n roots lists) (starts ∙ begins)
      ∙ ap (λ xs. with_all plan.start xs lists) (roots_are ∙ roots_same start ∙ ap (each_second (root_with (held_in w core))) begins)
      ∙ ap (λ xs. with_all plan.start (each_second (root_with (held_in w core)) plan.start) xs) (lists_are ∙ lists_same start ∙ ap (each_second (list_at (sealed_in w core) core)) begins)
