-- Facts only grow.
use Rattle.std.proofs.Common.{◌≡◌, ℕ, Bool, true, false, cond, List, [], ◌∷◌, ◌++◌, refl, sym, ap, ◌∙◌, append_assoc}
use Rattle.std.proofs.lemmas.List.Elements.{filter-append}
use Rattle.ksi_schedule.specs.declared.actor.Actor.{Actor}
use Rattle.ksi_schedule.specs.declared.actor.Actor.TheVariants as actors
use Rattle.ksi_schedule.specs.declared.event.Event.{Event}
use Rattle.ksi_schedule.specs.declared.event.Event.TheVariants as events
use Rattle.ksi_schedule.specs.Plans.{PlanState}
use Rattle.ksi_world.specs.Histories.{WorldState, happens, first_world, run}
use Rattle.ksi_laws_facts.specs.Seen.{Seen, seen_of, seen_from, seen}
use Rattle.ksi_laws_facts.specs.Deeds.{Deed, Restarted, is_fact, facts_of, facts, is_actor, does, deeds}

module _ (image : List ℕ → List ℕ) (plan : PlanState) (actor : Actor) where
  -- the facts of one event more
  pub now : (x : Seen) (past : List Seen) → facts actor (x ∷ past) ≡ facts_of (does actor x.event x.taken x.answer x.sent (deeds actor past)) ++ facts actor past
  unfolding deeds
  now x past = filter-append is_fact (does actor x.event x.taken x.answer x.sent (deeds actor past)) (deeds actor past)

  grow : (es : List Event) (w : WorldState) (past : List Seen) → (more : List Deed) × (facts actor (seen_from image plan w past es) ≡ more ++ facts actor past)
  grow [] w past = ([], refl)
  grow (e ∷ es) w past =
      let x = seen_of image plan w e in
      let new : List Deed = facts_of (does actor x.event x.taken x.answer x.sent (deeds actor past)) in
      let rest = grow es (happens image plan w e).world (x ∷ past) in
      (rest.0 ++ new, rest.1 ∙ ap (λ (fs : List Deed). rest.0 ++ fs) (now x past) ∙ sym (append_assoc rest.0 new (facts actor past)))

  pub parts : (es later : List Event) (w : WorldState) (past : List Seen) → seen_from image plan w past (es ++ later) ≡ seen_from image plan (run image plan w es) (seen_from image plan w past es) later
  parts [] later w past = refl
  parts (e ∷ es) later w past = parts es later (happens image plan w e).world (seen_of image plan w e ∷ past)

  pub facts_grow : (es later : List Event) → (more : List Deed) × (facts actor (seen image plan (es ++ later)) ≡ more ++ facts actor (seen image plan es))
  unfolding seen
  facts_grow es later =
      let rest = grow later (run image plan (first_world plan) es) (seen_from image plan (first_world plan) [] es) in
      (rest.0, ap (facts actor) (parts es later (first_world plan) []) ∙ rest.1)

  restart_is_none : (mine : Bool) → facts_of (cond mine (Restarted ∷ []) []) ≡ []
  restart_is_none true = refl
  restart_is_none false = refl

  -- a restart adds nothing
  none_more : (e : Event) → ((x : Seen) → x.event ≡ e → (before : List Deed) → facts_of (does actor x.event x.taken x.answer x.sent before) ≡ []) → (es : List Event) → facts actor (seen image plan (es ++ e ∷ [])) ≡ facts actor (seen image plan es)
  unfolding seen
  none_more e none es =
      let w = run image plan (first_world plan) es in
      let past = seen_from image plan (first_world plan) [] es in
      let x = seen_of image plan w e in
      ap (facts actor) (parts es (e ∷ []) (first_world plan) []) ∙ now x past ∙ ap (λ (fs : List Deed). fs ++ facts actor past) (none x refl (deeds actor past))

  pub core_adds_none : (es : List Event) (j : ℕ) → facts actor (seen image plan (es ++ events.RestartCore j ∷ [])) ≡ facts actor (seen image plan es)
  core_adds_none es j = none_more (events.RestartCore j) (λ x is before. ap (λ (e : Event). facts_of (does actor e x.taken x.answer x.sent before)) is ∙ restart_is_none (is_actor actor (actors.Core j))) es

  pub aggregator_adds_none : (es : List Event) (k : ℕ) → facts actor (seen image plan (es ++ events.RestartAggregator k ∷ [])) ≡ facts actor (seen image plan es)
  aggregator_adds_none es k = none_more (events.RestartAggregator k) (λ x is before. ap (λ (e : Event). facts_of (does actor e x.taken x.answer x.sent before)) is ∙ restart_is_none (is_actor actor (actors.Aggregator k))) es
