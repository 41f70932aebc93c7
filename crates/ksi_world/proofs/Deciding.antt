-- What is held was sealed, and so is what is kept.
use Rattle.ksi_schedule.specs.Plans.{core_plan_of}
use Rattle.std.proofs.Common.{◌≡◌, ◌≢◌, ℕ, ◌-◌, ◌^◌, ◌<◌, ◌≤◌, Bool, true, false, cond, List, [], ◌∷◌, length, refl, sym, ap, subst, ◌∙◌, arith, inl, inr, Option, Some, None}
use Rattle.std.specs.Prelude.{option_map, unwrap_or}
use Rattle.std.specs.Str.{bytes_eq}
use Rattle.std.proofs.lemmas.Bool.{cond-true}
use Rattle.std.proofs.lemmas.List.{length-map}
use Rattle.std.proofs.lemmas.Slice.Eq.{bytes_eq-Decides}
use Rattle.ksi_imprint.specs.Imprints.{zero_imprint}
use Rattle.ksi_aggtree.specs.declared.item.Item.{Item}
use Rattle.ksi_aggtree.specs.declared.entries.Entry.{Entry}
use Rattle.ksi_aggtree.specs.Rounds.{IsRound, tree_of}
use Rattle.ksi_aggtree.specs.Entries.{items_of, candidate_of}
use Rattle.ksi_synod.specs.VoteState.{VoteState}
use Rattle.ksi_synod.specs.Reached.{Said, Reached}
use Rattle.ksi_synod.specs.CorePlans.{voters_of}
use Rattle.ksi_schedule.specs.declared.actor.Actor.TheVariants as actors
use Rattle.ksi_schedule.specs.declared.event.Event.{Event}
use Rattle.ksi_schedule.specs.Plans.{PlanState, IsPlan}
use Rattle.ksi_schedule.specs.Events.{AreEvents}
use Rattle.ksi_aggtree.specs.declared.second.Second.{Second}
use Rattle.ksi_world.specs.Histories.{WorldState, happens, held_in, first_world, run, after}
use Rattle.ksi_world.specs.Sound.{IsSound}
use Rattle.ksi_world.specs.Records.{lowest, kept_root, kept_with, sealed_as, kept_items, kept_at, kept_seconds}
use Rattle.ksi_world.specs.Validity.{IsProposed, IsKept, EachKept, AreRising}
use Rattle.ksi_world.proofs.Sending.{TreeRises, are_low}
use Rattle.ksi_world.proofs.Sounding.{happens_sound, first_sound}
use Rattle.ksi_world.proofs.Voting.{votes_at, IsVoted}
use Rattle.ksi_world.proofs.Voted.{after_voted}
use Rattle.ksi_world.proofs.Lowest.{lowest_some, lowest_there}
use Rattle.ksi_world.proofs.Skipping.{among_rising, among_each}

-- the laws of the vote
abbrev pub StepsAgree : Type 0
StepsAgree = (voters : List ℕ) (states : ℕ → VoteState) (said : List Said) → Reached voters states said →
    (one other : ℕ) (d e : List ℕ) → (states one).held ≡ Some d → (states other).held ≡ Some e → d ≡ e

abbrev pub StepsValid : Type 0
StepsValid = (voters : List ℕ) (states : ℕ → VoteState) (said : List Said) → Reached voters states said →
    (core : ℕ) (d : List ℕ) → (states core).held ≡ Some d → (owner : ℕ) × ((states owner).candidate ≡ Some d)

mapped : {A B : Type 0} (f : A → B) (o : Option A) (y : B) → option_map f o ≡ Some y → (x : A) × (o ≡ Some x) × (f x ≡ y)
mapped f None y is = absurd (cc is)
mapped f (Some x) y is = (x, refl, cc is)

module _ (image : List ℕ → List ℕ) (plan : PlanState) (is : IsPlan plan) where
  run_sound : TreeRises image → (es : List Event) (w : WorldState) → AreEvents plan es → IsSound plan w → IsSound plan (run image plan w es)
  run_sound rises [] w are sound = sound
  run_sound rises (e ∷ es) w are sound = run_sound rises es (happens image plan w e).world are.1 (happens_sound image plan is rises w e are.0 sound)

  pub after_sound : TreeRises image → (es : List Event) → AreEvents plan es → IsSound plan (after image plan es)
  unfolding after
  after_sound rises es are = run_sound rises es (first_world plan) are (first_sound plan is)

  pub after_agrees : StepsAgree → (es : List Event) → AreEvents plan es → (one other t : ℕ) (d e : List ℕ) →
      held_in (after image plan es) one t ≡ Some d → held_in (after image plan es) other t ≡ Some e → d ≡ e
  after_agrees law es are one other t d e =
      let vote = (after_voted image plan is es are).vote t in
      law (voters_of (core_plan_of plan) t) (votes_at (after image plan es).seconds t) vote.said vote.reached one other d e

  module _ (law : StepsValid) (w : WorldState) (sound : IsSound plan w) (voted : IsVoted image plan w.seconds w.wire) where
    pub round_is : (j t : ℕ) (entries : List Entry) → (w.seconds j t).sealed ≡ Some entries → IsRound (items_of entries)
    round_is j t entries at = let f : Entry → Item = λ e. e.item in record {
      few = omega (arith, length-map entries f, (voted.sealed j t).few entries at);
      low = λ k. omega (arith, are_low plan is (actors.Core j) (length w.requests) entries (sound.sealed j t entries at) k);
    }

    some_items : (entries : List Entry) (root : List ℕ) → candidate_of image entries ≡ root → root ≢ zero_imprint → 1 ≤ length entries
    some_items [] root same real = absurd (real (sym same))
    some_items (e ∷ es) root same real = omega arith

    pub proposed : (j t : ℕ) (root : List ℕ) → held_in w j t ≡ Some root → root ≢ zero_imprint → IsProposed image plan w t root
    proposed j t root held real =
        let vote = voted.vote t in
        let owner = law (voters_of (core_plan_of plan) t) (votes_at w.seconds t) vote.said vote.reached j root held in
        let sealed = voted.sealed owner.0 t in
        let by = mapped (candidate_of image) (w.seconds owner.0 t).sealed root (sym sealed.candidate ∙ owner.1) in
        record {
          owner = owner.0;
          entries = by.0;
          there = sealed.mine by.0 by.1;
          sealed = by.1;
          candidate = by.2;
          some = some_items by.0 root by.2 real;
          round = round_is owner.0 t by.0 by.1;
        }

    -- THE ITEMS OF A KEPT SECOND

    sealed_is : (root : List ℕ) (entries : List Entry) → candidate_of image entries ≡ root → sealed_as image root (Some entries) ≡ Some (items_of entries)
    sealed_is root entries same = cond-true (bytes_eq (candidate_of image entries) root) (Some (items_of entries)) None ((bytes_eq-Decides (candidate_of image entries) root).1 same)

    sealed_by : (root : List ℕ) (sealed : Option (List Entry)) (items : List Item) → sealed_as image root sealed ≡ Some items → (entries : List Entry) × (sealed ≡ Some entries) × (candidate_of image entries ≡ root) × (items ≡ items_of entries)
    sealed_by root None items at = absurd (cc at)
    sealed_by root (Some entries) items at = by (bytes_eq (candidate_of image entries) root) refl at
      where
        by : (same : Bool) → bytes_eq (candidate_of image entries) root ≡ same → cond same (Some (items_of entries)) None ≡ Some items →
            (es : List Entry) × (Some entries ≡ Some es) × (candidate_of image es ≡ root) × (items ≡ items_of es)
        by true matches found = (entries, refl, (bytes_eq-Decides (candidate_of image entries) root).0 matches, sym (cc found))
        by false differs found = absurd (cc found)

    tree_is : (entries : List Entry) (root : List ℕ) → candidate_of image entries ≡ root → root ≢ zero_imprint → (tree_of image (items_of entries)).imprint ≡ root
    tree_is [] root same real = absurd (real (sym same))
    tree_is (e ∷ es) root same real = same

    items_some : (entries : List Entry) → 1 ≤ length entries → 1 ≤ length (items_of entries)
    items_some entries some = let f : Entry → Item = λ e. e.item in omega (arith, length-map entries f, some)

    with_root : (t : ℕ) (root : List ℕ) → kept_root plan w t ≡ Some root → IsKept image (kept_with t root (kept_items image plan w t root))
    with_root t root at = by (bytes_eq root zero_imprint) refl
      where
        of_core : ℕ → Option (List Item)
        of_core core = sealed_as image root (w.seconds core t).sealed

        found : root ≢ zero_imprint → (items : List Item) × (lowest of_core 0 plan.cores ≡ Some items)
        found real =
            let holder = lowest_some (λ core. held_in w core t) 0 plan.cores root at in
            let p = proposed holder.0 t root holder.3 real in
            lowest_there of_core 0 plan.cores p.owner (items_of p.entries) (omega arith) (omega (arith, p.there)) (ap (sealed_as image root) p.sealed ∙ sealed_is root p.entries p.candidate)

        by : (missed : Bool) → bytes_eq root zero_imprint ≡ missed → IsKept image (kept_with t root (cond missed [] (unwrap_or (lowest of_core 0 plan.cores) [])))
        by true matches = inl (record { zero = (bytes_eq-Decides root zero_imprint).0 matches; none = refl })
        by false differs =
            let real : root ≢ zero_imprint = λ same. absurd (cc (sym differs ∙ (bytes_eq-Decides root zero_imprint).1 same)) in
            let f = found real in
            let core = lowest_some of_core 0 plan.cores f.0 f.1 in
            let s = sealed_by root (w.seconds core.0 t).sealed f.0 core.3 in
            subst (λ items. IsKept image (kept_with t root items)) (sym (ap (λ o. unwrap_or o []) f.1 ∙ s.3))
            (inr (record {
              real = real;
              some = items_some s.0 (some_items s.0 root s.2 real);
              round = round_is core.0 t s.0 s.1;
              tree = tree_is s.0 root s.2 real;
            }))

    kept_is : (t : ℕ) (one : Second) → kept_at image plan w t ≡ Some one → IsKept image one
    kept_is t one at =
        let r = mapped (λ root. kept_with t root (kept_items image plan w t root)) (kept_root plan w t) one at in
        subst (λ one. IsKept image one) r.2 (with_root t r.0 r.1)

    second_is : (t : ℕ) (one : Second) → kept_at image plan w t ≡ Some one → one.second ≡ t
    second_is t one at =
        let r = mapped (λ root. kept_with t root (kept_items image plan w t root)) (kept_root plan w t) one at in
        sym (ap (λ (one : Second). one.second) r.2)

    pub kept_rising : AreRising plan.start (kept_seconds image plan w)
    unfolding kept_seconds
    kept_rising = among_rising (kept_at image plan w) second_is plan.start (2 ^ 24)

    pub kept_trees : EachKept (IsKept image) (kept_seconds image plan w)
    unfolding kept_seconds
    kept_trees = among_each (kept_at image plan w) (IsKept image) plan.start (2 ^ 24) (λ t one le lt at. kept_is t one at)

    pub kept_early : EachKept (λ one. one.second < 2 ^ 63) (kept_seconds image plan w)
    unfolding kept_seconds
    kept_early = among_each (kept_at image plan w) (λ one. one.second < 2 ^ 63) plan.start (2 ^ 24) (λ t one le lt at.
        let early : plan.start ≤ 2 ^ 63 - 2 ^ 24 = is.core_plan.early in
        omega (arith, second_is t one at, lt, early))
