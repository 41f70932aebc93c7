-- A history in which two of three cores decide a second, computed.
use Rattle.std.proofs.Common.{◌≡◌, ℕ, zero, suc, List, [], ◌∷◌, ◌++◌, refl, sym, ap, subst, ◌∙◌, arith, Some, None}
use Rattle.std.specs.Prelude.{IfSome, slice_get}
use Rattle.ksi_aggtree.specs.Names.{IsName}
use Rattle.ksi_imprint.specs.Imprints.{zero_imprint}
use Rattle.ksi_synod.specs.Rows.{on_begin, on_last, on_next, on_voted, receive, seal, try_ballot}
use Rattle.ksi_synod.specs.VoteState.{fresh_vote}
use Rattle.ksi_corenode.specs.declared.event.CoreEvent.{CoreEvent}
use Rattle.ksi_corenode.specs.Rows.{ballot_row, receive_row, seal_row}
use Rattle.ksi_corenode.specs.SecondState.{fresh_second}
use Rattle.ksi_schedule.specs.declared.event.Event.{Event}
use Rattle.ksi_schedule.specs.declared.parent.Parent.{Parent}
use Rattle.ksi_schedule.specs.Events.{AreEvents}
use Rattle.ksi_schedule.specs.Plans.{IsParent, IsPlan, PlanState, name_of}
use Rattle.ksi_world.specs.CoreEvents.{asked_of}
use Rattle.ksi_world.specs.Histories.{WorldState, after, first_world, happens, held_in, run}
use Rattle.ksi_laws_succession.specs.Minority.{three_cores, two_decide}
use Rattle.ksi_laws_succession.specs.Retired.{IsUnasked}

names_are : (k : ℕ) → IfSome (name_of three_cores k) IsName
names_are zero = tt
names_are (suc k) = tt

parents_are : (k : ℕ) (parent : Parent) → slice_get three_cores.parents k ≡ Some parent → IsParent 3 k parent.actor
parents_are zero parent at = absurd (cc at)
parents_are (suc k) parent at = absurd (cc at)

pub plan_is : IsPlan three_cores
plan_is = record {
  core_plan = record { some = omega arith; few = omega arith; early = omega arith; many = omega arith; rising = tt; pairs = tt };
  many = omega arith;
  parents = parents_are;
  names = names_are;
  low = λ k lt. absurd (omega (arith, lt));
}

pub events_are : AreEvents three_cores two_decide
events_are = ((omega arith, (omega arith, omega arith)), ((omega arith, (omega arith, omega arith)), (tt, (tt, (tt, (tt, (tt, (tt, (tt, (tt, tt))))))))))

pub zero_is_held : (image : List ℕ → List ℕ) → held_in (after image three_cores two_decide) 0 10 ≡ Some zero_imprint
unfolding after first_world happens fresh_second fresh_vote seal_row ballot_row receive_row seal try_ballot receive on_next on_last on_begin on_voted
zero_is_held image = refl

-- THE THIRD IS ASKED NOTHING

module _ (image : List ℕ → List ℕ) (plan : PlanState) (j : ℕ) where
  -- each of the events asks nothing of the core, from this world on
  abbrev Quiet : WorldState → List Event → Type 0
  Quiet w [] = Unit {0}
  Quiet w (e ∷ es) = (asked_of j w.wire e ≡ None) × Quiet (happens image plan w e).world es

  quiet_unasked : (es : List Event) (w : WorldState) → Quiet w es → (first rest : List Event) (event : Event) (asked : CoreEvent) → es ≡ first ++ event ∷ rest → asked_of j (run image plan w first).wire event ≡ Some asked → ⊥
  quiet_unasked [] w quiet [] rest event asked is at = cc is
  quiet_unasked [] w quiet (f ∷ first) rest event asked is at = cc is
  quiet_unasked (e ∷ es) w quiet [] rest event asked is at =
      let same : event ≡ e = sym (cc is) in
      cc (sym quiet.0 ∙ ap (λ (x : Event). asked_of j w.wire x) (sym same) ∙ at)
  quiet_unasked (e ∷ es) w quiet (f ∷ first) rest event asked is at =
      let same : f ≡ e = sym (cc is) in
      let others : es ≡ first ++ event ∷ rest = cc is in
      quiet_unasked es (happens image plan w e).world quiet.1 first rest event asked others
      (subst (λ (x : Event). asked_of j (run image plan (happens image plan w x).world first).wire event ≡ Some asked) same at)

third_is_quiet : (image : List ℕ → List ℕ) → Quiet image three_cores 2 (first_world three_cores) two_decide
unfolding first_world happens fresh_second fresh_vote seal_row ballot_row receive_row seal try_ballot receive on_next on_last on_begin on_voted
third_is_quiet image = (refl, (refl, (refl, (refl, (refl, (refl, (refl, (refl, (refl, (refl, tt))))))))))

pub third_unasked : (image : List ℕ → List ℕ) (second : ℕ) → IsUnasked image three_cores [] two_decide 2 second
unfolding after
third_unasked image second = λ first rest event asked is at. absurd (quiet_unasked image three_cores 2 two_decide (first_world three_cores) (third_is_quiet image) first rest event asked is at)
