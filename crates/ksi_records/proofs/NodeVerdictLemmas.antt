-- A log has one verdict.
use Rattle.std.proofs.Common.{◌≡◌, List, [], ◌∷◌, ℕ, Option, Some, None, IfSome, Result, Ok, Err, IfOk, inl, inr, sym, ap, subst, ◌∙◌}
use Rattle.ksi_records.specs.declared.blocks.place.Place.{Place}
use Rattle.ksi_schedule.specs.Pieces.{Text}
use Rattle.ksi_schedule.specs.Plans.{PlanState}
use Rattle.ksi_schedule.specs.declared.actor.Actor.{Actor}
use Rattle.ksi_records.specs.declared.node.fault.LogFault.{LogFault}
use Rattle.ksi_records.specs.declared.node.verdict.Verdict.{Verdict}
use Rattle.ksi_records.specs.declared.node.verdict.Verdict.TheVariants as verdicts
use Rattle.ksi_records.specs.Node.Entries.{Entry}
use Rattle.ksi_records.specs.Node.Runs.{NodeState, first_state, state_behind, IsTold, MayCome}
use Rattle.ksi_records.specs.Node.Verdicts.{Nothing, Whole, Refused, StandsIn, EndsIn, HasVerdict, IsVerdict, first_place, place_behind}
use Rattle.ksi_records.proofs.NodeStandingLemmas.{one_standing}

nothing_is_not_whole : {P : Type 0} (entry : Entry) (more : Text) → Nothing ≡ Whole entry more → P
nothing_is_not_whole entry more is = absurd cc

nothing_is_not_refused : {P : Type 0} (fault : LogFault) → Nothing ≡ Refused fault → P
nothing_is_not_refused fault is = absurd cc

whole_is_not_refused : {P : Type 0} (entry : Entry) (more : Text) (fault : LogFault) → Whole entry more ≡ Refused fault → P
whole_is_not_refused entry more fault is = absurd cc

module _ (image : List ℕ → List ℕ) (plan : PlanState) (me : Actor) where
  -- the same entry stands there, and the same behind it
  same_whole : (text : Text) (one other : Entry) (more behind : Text) → StandsIn plan me text (Whole one more) → StandsIn plan me text (Whole other behind) → (one ≡ other) × (more ≡ behind)
  same_whole text one other more behind is are = let whole = one_standing plan me text (Whole one more) (Whole other behind) is are in (cc whole, cc whole)

  same_end : (it : NodeState) (place : Place) (rest : Text) (one other : Verdict) → EndsIn image plan me it place rest one → EndsIn image plan me it place rest other → one ≡ other
  same_end it place rest (verdicts.Agrees entries) (verdicts.Agrees others) is are = ap (λ (entries : ℕ). verdicts.Agrees entries) (is.1 ∙ sym are.1)
  same_end it place rest (verdicts.Agrees entries) (verdicts.Differs at) is are = nothing_is_not_whole are.0 are.1 (one_standing plan me rest Nothing (Whole are.0 are.1) is.0 are.2)
  same_end it place rest (verdicts.Agrees entries) (verdicts.Refused fault at) is (inl stands, there) =
      nothing_is_not_refused fault (one_standing plan me rest Nothing (Refused fault) is.0 stands)
  same_end it place rest (verdicts.Agrees entries) (verdicts.Refused fault at) is (inr taken, there) =
      nothing_is_not_whole taken.0 taken.1 (one_standing plan me rest Nothing (Whole taken.0 taken.1) is.0 taken.2)
  same_end it place rest (verdicts.Differs at) (verdicts.Agrees entries) is are = nothing_is_not_whole is.0 is.1 (one_standing plan me rest Nothing (Whole is.0 is.1) are.0 is.2)
  same_end it place rest (verdicts.Differs at) (verdicts.Differs other) is are = ap (λ (place : Place). verdicts.Differs place) (is.5 ∙ sym are.5)
  same_end it place rest (verdicts.Differs at) (verdicts.Refused fault other) is (inl stands, there) =
      whole_is_not_refused is.0 is.1 fault (one_standing plan me rest (Whole is.0 is.1) (Refused fault) is.2 stands)
  same_end it place rest (verdicts.Differs at) (verdicts.Refused fault other) is (inr taken, there) =
      let same = same_whole rest is.0 taken.0 is.1 taken.1 is.2 taken.2 in
      absurd (taken.3 (subst (λ (entry : Entry). MayCome image plan it entry.head) same.0 is.3))
  same_end it place rest (verdicts.Refused fault at) (verdicts.Agrees entries) (inl stands, there) are =
      nothing_is_not_refused fault (one_standing plan me rest Nothing (Refused fault) are.0 stands)
  same_end it place rest (verdicts.Refused fault at) (verdicts.Agrees entries) (inr taken, there) are =
      nothing_is_not_whole taken.0 taken.1 (one_standing plan me rest Nothing (Whole taken.0 taken.1) are.0 taken.2)
  same_end it place rest (verdicts.Refused fault at) (verdicts.Differs other) (inl stands, there) are =
      whole_is_not_refused are.0 are.1 fault (one_standing plan me rest (Whole are.0 are.1) (Refused fault) are.2 stands)
  same_end it place rest (verdicts.Refused fault at) (verdicts.Differs other) (inr taken, there) are =
      let same = same_whole rest are.0 taken.0 are.1 taken.1 are.2 taken.2 in
      absurd (taken.3 (subst (λ (entry : Entry). MayCome image plan it entry.head) same.0 are.3))
  same_end it place rest (verdicts.Refused fault at) (verdicts.Refused faulty other) (inl stands, there) (inl stood, here) =
      let refused : Refused fault ≡ Refused faulty = one_standing plan me rest (Refused fault) (Refused faulty) stands stood in
      let same : fault ≡ faulty = cc refused in
      λ i. verdicts.Refused (same i) ((there ∙ sym here) i)
  same_end it place rest (verdicts.Refused fault at) (verdicts.Refused faulty other) (inl stands, there) (inr taken, here) =
      whole_is_not_refused taken.0 taken.1 fault (one_standing plan me rest (Whole taken.0 taken.1) (Refused fault) taken.2 stands)
  same_end it place rest (verdicts.Refused fault at) (verdicts.Refused faulty other) (inr taken, there) (inl stands, here) =
      whole_is_not_refused taken.0 taken.1 faulty (one_standing plan me rest (Whole taken.0 taken.1) (Refused faulty) taken.2 stands)
  same_end it place rest (verdicts.Refused fault at) (verdicts.Refused faulty other) (inr taken, there) (inr again, here) =
      λ i. verdicts.Refused ((taken.4 ∙ sym again.4) i) ((there ∙ sym here) i)

  -- where an entry agrees, the verdict is not of it
  told_goes_on : (it : NodeState) (place : Place) (rest : Text) (verdict : Verdict) (entry : Entry) (more : Text) → StandsIn plan me rest (Whole entry more)
      → MayCome image plan it entry.head → IsTold image plan it entry.head entry.block → EndsIn image plan me it place rest verdict → ⊥
  told_goes_on it place rest (verdicts.Agrees entries) entry more stands may told ends =
      nothing_is_not_whole entry more (one_standing plan me rest Nothing (Whole entry more) ends.0 stands)
  told_goes_on it place rest (verdicts.Differs at) entry more stands may told ends =
      let same = same_whole rest entry ends.0 more ends.1 stands ends.2 in
      ends.4 (subst (λ (entry : Entry). IsTold image plan it entry.head entry.block) same.0 told)
  told_goes_on it place rest (verdicts.Refused fault at) entry more stands may told (inl refused, there) =
      whole_is_not_refused entry more fault (one_standing plan me rest (Whole entry more) (Refused fault) stands refused)
  told_goes_on it place rest (verdicts.Refused fault at) entry more stands may told (inr taken, there) =
      let same = same_whole rest entry taken.0 more taken.1 stands taken.2 in
      taken.3 (subst (λ (entry : Entry). MayCome image plan it entry.head) same.0 may)

  one_verdict : (it : NodeState) (place : Place) (ones others : List Entry) (text : Text) (verdict other : Verdict)
      → IsVerdict image plan me it place ones text verdict → IsVerdict image plan me it place others text other → verdict ≡ other
  one_verdict it place [] [] text verdict other is are = same_end it place text verdict other is are
  one_verdict it place [] (o ∷ others) text verdict other is are = absurd (told_goes_on it place text verdict o are.0 are.1 are.2 are.3 is)
  one_verdict it place (x ∷ ones) [] text verdict other is are = absurd (told_goes_on it place text other x is.0 is.1 is.2 is.3 are)
  one_verdict it place (x ∷ ones) (o ∷ others) text verdict other is are =
      let same = same_whole text x o is.0 are.0 is.1 are.1 in
      let of_entry = subst (λ (entry : Entry). IsVerdict image plan me (state_behind image plan it entry.head) (place_behind place entry.block) others are.0 other) (sym same.0) are.4 in
      let of_text = subst (λ (more : Text). IsVerdict image plan me (state_behind image plan it x.head) (place_behind place x.block) others more other) (sym same.1) of_entry in
      one_verdict (state_behind image plan it x.head) (place_behind place x.block) ones others is.0 verdict other is.4 of_text

  -- where a verdict is found, it is the only one
  pub only_verdict : {E : Type 0} (found : Result Verdict E) (known : Option Text)
      → IfOk found (λ verdict. IfSome known (λ text. (entries : List Entry) × HasVerdict image plan me entries text verdict))
      → IfOk found (λ verdict. IfSome known (λ text. (entries : List Entry) (other : Verdict) → HasVerdict image plan me entries text other → other ≡ verdict))
  only_verdict (Ok verdict) (Some text) is = λ entries other are. one_verdict (first_state plan me) first_place entries is.0 text other verdict are is.1
  only_verdict (Ok verdict) None is = tt
  only_verdict (Err error) known is = tt
