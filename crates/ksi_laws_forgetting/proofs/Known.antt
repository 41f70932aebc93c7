-- A core that forgot, compared with one that forgot nothing, if it is known which seconds are forgotten.
use Rattle.std.proofs.Common.{◌≡◌, ◌∙◌, ℕ, Bool, true, false, not, List, [], ◌∷◌, ◌++◌, Option, Some, None, refl, sym, ap, subst, inl, inr, append_assoc}
use Rattle.std.specs.Prelude.{◌==◌, ◌||◌, if◌then◌else◌, option_map}
use Rattle.std.proofs.lemmas.Bool.{eqb-true, true≢false}
use Rattle.std.proofs.lemmas.List.{append-nil}
use Rattle.ksi_calendar.specs.Covered.{Roots}
use Rattle.ksi_synod.specs.CorePlans.{CorePlanState}
use Rattle.ksi_corenode.specs.declared.event.CoreEvent.{CoreEvent}
use Rattle.ksi_corenode.specs.declared.event.CoreEvent.TheVariants as events
use Rattle.ksi_corenode.specs.declared.fact.What.{What}
use Rattle.ksi_corenode.specs.declared.fact.What.TheVariants.{Sealed, Tried, Promised, Cast, Holds}
use Rattle.ksi_corenode.specs.declared.fact.Fact.{Fact}
use Rattle.ksi_corenode.specs.SecondState.{SecondState}
use Rattle.ksi_corenode.specs.Turns.{Turn, still}
use Rattle.ksi_corenode.specs.Facts.{fact_of}
use Rattle.ksi_corenode.specs.Lawful.{with_new}
use Rattle.ksi_corenode.specs.Events.{event_second}
use Rattle.ksi_corenode.specs.Rows.{submission_row, seal_row, ballot_row, receive_row, tell_row, respond_row, publish_answer, restart_row}
use Rattle.ksi_corenode.specs.Bare.{is_bare, asks_roots}
use Rattle.ksi_laws_forgetting.specs.Forgotten.{IsGone, IsSecondOf, AreForgotten, AreForgottenAt, MayReach, SayTheSame, turn_of, seconds_after}
use Rattle.ksi_laws_forgetting.specs.Left.{root_left, left_of, left_of_one}
use Rattle.ksi_laws_forgetting.proofs.Unnoticed.{gone_again, gone_bare, held_there, one_alike}
use Rattle.ksi_laws_forgetting.proofs.Leaving.{left_then, one_known}

-- ONE SECOND

restart_known : (b : Bool) (whole forgot : SecondState) → IsSecondOf b whole forgot → IsSecondOf b (restart_row whole) (restart_row forgot)
restart_known false whole forgot same = ap restart_row same
restart_known true whole forgot gone = record { root = gone.root; held = gone.held; left = ap restart_row gone.left }

again_known : (a b : Bool) (whole forgot more : SecondState) → IsSecondOf a whole forgot → IsSecondOf b forgot more → IsSecondOf (a || b) whole more
again_known false false whole forgot more one other = other ∙ one
again_known false true whole forgot more one gone = subst (λ (s : SecondState). IsGone s more) one gone
again_known true false whole forgot more gone other = subst (λ (s : SecondState). IsGone whole s) (sym other) gone
again_known true true whole forgot more one other = gone_again whole forgot more one other

-- ALL SECONDS

pub are_forgotten : (forgotten : ℕ → Bool) (seconds forgot : ℕ → SecondState) → AreForgottenAt forgotten seconds forgot → AreForgotten seconds forgot
are_forgotten forgotten seconds forgot known t = one_known (forgotten t) (seconds t) (forgot t) (known t)

pub restarted : (forgotten : ℕ → Bool) (seconds forgot : ℕ → SecondState) → AreForgottenAt forgotten seconds forgot → AreForgottenAt forgotten (λ t. restart_row (seconds t)) (λ t. restart_row (forgot t))
restarted forgotten seconds forgot known t = restart_known (forgotten t) (seconds t) (forgot t) (known t)

pub forgets_again : (forgotten later : ℕ → Bool) (seconds forgot more : ℕ → SecondState) → AreForgottenAt forgotten seconds forgot → AreForgottenAt later forgot more → AreForgottenAt (λ t. forgotten t || later t) seconds more
forgets_again forgotten later seconds forgot more one other t = again_known (forgotten t) (later t) (seconds t) (forgot t) (more t) (one t) (other t)

-- EVENTS THAT NEED ONLY THE ROOTS

or_false : (b : Bool) → (b || false) ≡ true → b ≡ true
or_false true is = refl
or_false false is = is

-- an event of a forgotten second that is taken needs only the roots
asks_there : (event : CoreEvent) (forgotten : ℕ → Bool) (whole : SecondState) (forgot : ℕ → SecondState) → forgotten (event_second event) ≡ true → IsGone whole (forgot (event_second event)) → MayReach forgotten forgot event → asks_roots event ≡ true
asks_there event forgotten whole forgot is gone (inl taken) =
    or_false (asks_roots event) (sym (ap (λ (b : Bool). asks_roots event || not b) (gone_bare whole (forgot (event_second event)) gone)) ∙ taken)
asks_there event forgotten whole forgot is gone (inr other) = absurd (true≢false (sym is ∙ other))

-- what is held for each second
abbrev roots_of : (ℕ → SecondState) → Roots
roots_of seconds u = (seconds u).vote.held

module _ (image : List ℕ → List ℕ) (plan : CorePlanState) (start me : ℕ) where
  tell_changes_nothing : (t : ℕ) (s : SecondState) → ((tell_row plan t me s).after ≡ s) × ((tell_row plan t me s).fact ≡ None)
  unfolding tell_row
  tell_changes_nothing t s = (refl, refl)

  roots_change_nothing : (event : CoreEvent) (seconds : ℕ → SecondState) → asks_roots event ≡ true
      → ((turn_of image plan start me seconds event).after ≡ seconds (event_second event)) × ((turn_of image plan start me seconds event).fact ≡ None)
  roots_change_nothing (events.Submission from t item) seconds is = absurd (true≢false (sym is))
  roots_change_nothing (events.Seal t) seconds is = absurd (true≢false (sym is))
  roots_change_nothing (events.Ballot t) seconds is = absurd (true≢false (sym is))
  roots_change_nothing (events.Receive from t m) seconds is = absurd (true≢false (sym is))
  roots_change_nothing (events.Tell t) seconds is = tell_changes_nothing t (seconds t)
  roots_change_nothing (events.Respond t) seconds is = absurd (true≢false (sym is))
  roots_change_nothing (events.Publish t) seconds is = (refl, refl)

  module _ (forgotten : ℕ → Bool) (seconds forgot : ℕ → SecondState) (known : AreForgottenAt forgotten seconds forgot) where
    roots_are : roots_of forgot ≡ roots_of seconds
    roots_are = λ i u. held_there (seconds u) (forgot u) (are_forgotten forgotten seconds forgot known u) i

    -- the turn at a second that is the same
    turn_same : (event : CoreEvent) → forgot (event_second event) ≡ seconds (event_second event) → turn_of image plan start me forgot event ≡ turn_of image plan start me seconds event
    turn_same (events.Submission from t item) same = ap (λ (s : SecondState). submission_row from item s) same
    turn_same (events.Seal t) same = ap (λ (s : SecondState). seal_row image s) same
    turn_same (events.Ballot t) same = ap (λ (s : SecondState). ballot_row plan t me s) same
    turn_same (events.Receive from t m) same = ap (λ (s : SecondState). receive_row plan t from m s) same
    turn_same (events.Tell t) same = ap (λ (s : SecondState). tell_row plan t me s) same
    turn_same (events.Respond t) same =
        ap (λ (roots : Roots). respond_row image roots start t (forgot t)) roots_are
        ∙ ap (λ (s : SecondState). respond_row image (λ u. (seconds u).vote.held) start t s) same
    turn_same (events.Publish t) same =
        ap (λ (roots : Roots). still (forgot t) (publish_answer image roots start t)) roots_are
        ∙ ap (λ (s : SecondState). still s (publish_answer image (λ u. (seconds u).vote.held) start t)) same

    module _ (event : CoreEvent) (may : MayReach forgotten forgot event) where
      abbrev Second : ℕ
      Second = event_second event

      abbrev Live : Turn
      Live = turn_of image plan start me forgot event

      abbrev Whole : Turn
      Whole = turn_of image plan start me seconds event

      abbrev Known : Bool → Type 0
      Known b = IsSecondOf b (seconds Second) (forgot Second)

      says_same : (b : Bool) → forgotten Second ≡ b → Known b → SayTheSame Live Whole
      says_same false is same =
          let turns = turn_same event same in
          record { answer = ap (λ (turn : Turn). turn.answer) turns; fact = ap (λ (turn : Turn). turn.fact) turns; sends = ap (λ (turn : Turn). turn.sends) turns }
      says_same true is gone =
          one_alike image plan start me seconds forgot (are_forgotten forgotten seconds forgot known) event
          (ap (λ (b : Bool). b || not (is_bare (forgot Second))) (asks_there event forgotten (seconds Second) forgot is gone may))

      pub turns_alike : SayTheSame Live Whole
      turns_alike = says_same (forgotten Second) refl (known Second)

      after_there : (b : Bool) → forgotten Second ≡ b → Known b → IsSecondOf b Whole.after Live.after
      after_there false is same = ap (λ (turn : Turn). turn.after) (turn_same event same)
      after_there true is gone =
          let asks = asks_there event forgotten (seconds Second) forgot is gone may in
          subst (λ (s : SecondState). IsGone s Live.after) (sym (roots_change_nothing event seconds asks).0)
          (subst (λ (s : SecondState). IsGone (seconds Second) s) (sym (roots_change_nothing event forgot asks).0) gone)

      pub turns_after : AreForgottenAt forgotten (seconds_after image plan start me seconds event) (seconds_after image plan start me forgot event)
      turns_after t = by (t == Second) refl
        where
          by : (here : Bool) → (t == Second) ≡ here → IsSecondOf (forgotten t) (if here then Whole.after else seconds t) (if here then Live.after else forgot t)
          by true here = subst (λ (u : ℕ). IsSecondOf (forgotten u) Whole.after Live.after) (sym (eqb-true t Second here)) (after_there (forgotten Second) refl (known Second))
          by false here = known t

      -- the facts left of all facts and a new one
      left_new : (facts : List Fact) (what : Option What) → forgotten Second ≡ false → left_of forgotten (with_new facts (option_map (fact_of Second) what)) ≡ with_new (left_of forgotten facts) (option_map (fact_of Second) what)
      left_new facts None is = refl
      left_new facts (Some what) is =
          left_then forgotten facts (fact_of Second what)
          ∙ ap (λ (b : Bool). left_of forgotten facts ++ (if b then root_left Second what else fact_of Second what ∷ [])) is

      facts_there : (facts : List Fact) (b : Bool) → forgotten Second ≡ b → Known b
          → left_of forgotten (with_new facts (option_map (fact_of Second) Whole.fact)) ≡ with_new (left_of forgotten facts) (option_map (fact_of Second) Live.fact)
      facts_there facts false is same =
          left_new facts Whole.fact is
          ∙ ap (λ (turn : Turn). with_new (left_of forgotten facts) (option_map (fact_of Second) turn.fact)) (sym (turn_same event same))
      facts_there facts true is gone =
          let asks = asks_there event forgotten (seconds Second) forgot is gone may in
          ap (λ (what : Option What). left_of forgotten (with_new facts (option_map (fact_of Second) what))) (roots_change_nothing event seconds asks).1
          ∙ ap (λ (what : Option What). with_new (left_of forgotten facts) (option_map (fact_of Second) what)) (sym (roots_change_nothing event forgot asks).1)

      pub facts_alike : (facts : List Fact) → left_of forgotten (with_new facts (option_map (fact_of Second) Whole.fact)) ≡ with_new (left_of forgotten facts) (option_map (fact_of Second) Live.fact)
      facts_alike facts = facts_there facts (forgotten Second) refl (known Second)

-- FACTS LEFT TWICE

left_both : (forgotten : ℕ → Bool) (xs ys : List Fact) → left_of forgotten (xs ++ ys) ≡ left_of forgotten xs ++ left_of forgotten ys
left_both forgotten [] ys = refl
left_both forgotten (x ∷ xs) ys =
    ap (λ (l : List Fact). left_of_one forgotten x ++ l) (left_both forgotten xs ys)
    ∙ sym (append_assoc (left_of_one forgotten x) (left_of forgotten xs) (left_of forgotten ys))

module _ (forgotten later : ℕ → Bool) where
  abbrev both : ℕ → Bool
  both t = forgotten t || later t

  root_twice : (second : ℕ) (what : What) (b : Bool) → later second ≡ b → left_of later (root_left second what) ≡ root_left second what
  root_twice second (Sealed items) b is = refl
  root_twice second (Tried ballot) b is = refl
  root_twice second (Promised ballot) b is = refl
  root_twice second (Cast vote) b is = refl
  root_twice second (Holds root) true is = ap (λ (c : Bool). (if c then root_left second (Holds root) else fact_of second (Holds root) ∷ []) ++ []) is
  root_twice second (Holds root) false is = ap (λ (c : Bool). (if c then root_left second (Holds root) else fact_of second (Holds root) ∷ []) ++ []) is

  one_twice : (fact : Fact) (a : Bool) → left_of later (if a then root_left fact.second fact.what else fact ∷ []) ≡ (if a || later fact.second then root_left fact.second fact.what else fact ∷ [])
  one_twice fact true = root_twice fact.second fact.what (later fact.second) refl
  one_twice fact false = append-nil (left_of_one later fact)

  pub left_twice : (facts : List Fact) → left_of later (left_of forgotten facts) ≡ left_of both facts
  left_twice [] = refl
  left_twice (fact ∷ facts) =
      left_both later (left_of_one forgotten fact) (left_of forgotten facts)
      ∙ ap (λ (l : List Fact). l ++ left_of later (left_of forgotten facts)) (one_twice fact (forgotten fact.second))
      ∙ ap (λ (l : List Fact). left_of_one both fact ++ l) (left_twice facts)

pub left_none : (facts : List Fact) → left_of (λ t. false) facts ≡ facts
left_none [] = refl
left_none (fact ∷ facts) = ap (λ (l : List Fact). fact ∷ l) (left_none facts)
