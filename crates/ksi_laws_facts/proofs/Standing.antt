-- What every second and every round is, beside what was seen of it.
use Rattle.std.proofs.Common.{◌≡◌, ℕ, Bool, true, false, cond, ◌&&◌, eqb, List, [], ◌∷◌, ◌++◌, map, refl, sym, ap, subst, ◌∙◌, Option, Some, None}
use Rattle.std.specs.Prelude.{option_map}
use Rattle.std.specs.List.{filter}
use Rattle.std.proofs.lemmas.List.Elements.{filter-append}
use Rattle.ksi_synod.specs.VoteState.{Hand}
use Rattle.ksi_corenode.specs.SecondState.{SecondState}
use Rattle.ksi_aggregator.specs.Rows.{RoundState}
use Rattle.ksi_aggtree.specs.declared.entries.Entry.{Entry}
use Rattle.ksi_schedule.specs.declared.actor.Actor.{Actor}
use Rattle.ksi_schedule.specs.declared.actor.Actor.TheVariants as actors
use Rattle.ksi_laws_facts.specs.Seen.{Seen}
use Rattle.ksi_laws_facts.specs.Deeds.{Act, Deed, Did, Restarted, Accepted, Sealed, Closed, Tried, Promised, Cast, Holds, Answered, Heard, tried_ballot, is_of, of_second, is_fact, facts_of, open_items, is_actor, own, does, deeds}
use Rattle.ksi_laws_facts.specs.Since.{Since, with_reply, since}
use Rattle.ksi_laws_facts.specs.Recalled.{IsStableState, IsStableRound, IsHand}

-- the hand of a core that has sealed
pub record IsHandSo (voters : List ℕ) (candidate : Option (List ℕ)) (s : Since) (h : Hand) : Type 0 where
  pub is : IsHand voters candidate s h
  pub own : List ℕ
  pub sealed : candidate ≡ Some own

abbrev pub IsInHandSo : (voters : List ℕ) → (candidate : Option (List ℕ)) → Option Since → Option Hand → Type 0
IsInHandSo voters candidate None None = Unit {0}
IsInHandSo voters candidate (Some s) (Some h) = IsHandSo voters candidate s h
IsInHandSo voters candidate None (Some h) = ⊥
IsInHandSo voters candidate (Some s) None = ⊥

-- the deeds are those for the second
pub record IsSo (image : List ℕ → List ℕ) (voters : List ℕ) (me : ℕ) (ds : List Deed) (s : SecondState) : Type 0 where
  pub kept : IsStableState image (facts_of ds) s
  pub open_is : s.open_items ≡ open_items ds
  pub shut : (items : List Entry) → s.sealed ≡ Some items → s.open_items ≡ []
  pub voters_are : s.vote.voters ≡ voters
  pub me_is : s.vote.me ≡ me
  pub hand : IsInHandSo s.vote.voters s.vote.candidate (since ds) s.vote.hand

pub record IsRoundSo (ds : List Deed) (r : RoundState) : Type 0 where
  pub kept : IsStableRound (facts_of ds) r
  pub open_is : r.open_items ≡ open_items ds
  pub blank : r.closed ≡ None → r.answered ≡ None
  pub shut : (items : List Entry) → r.closed ≡ Some items → r.open_items ≡ []

-- THE FACTS FOR A SECOND

pub facts_for : (t : ℕ) (ds : List Deed) → of_second t (facts_of ds) ≡ facts_of (of_second t ds)
facts_for t [] = refl
facts_for t (d ∷ ds) = by (is_fact d) refl (is_of t d) refl (facts_for t ds)
  where
    by : (f : Bool) → is_fact d ≡ f → (i : Bool) → is_of t d ≡ i → of_second t (facts_of ds) ≡ facts_of (of_second t ds) → filter (is_of t) (cond f (d ∷ filter is_fact ds) (filter is_fact ds)) ≡ filter is_fact (cond i (d ∷ filter (is_of t) ds) (filter (is_of t) ds))
    by true ef true ei rest = ap (λ (b : Bool). cond b (d ∷ of_second t (facts_of ds)) (of_second t (facts_of ds))) ei ∙ ap (λ (xs : List Deed). d ∷ xs) rest ∙ sym (ap (λ (b : Bool). cond b (d ∷ facts_of (of_second t ds)) (facts_of (of_second t ds))) ef)
    by true ef false ei rest = ap (λ (b : Bool). cond b (d ∷ of_second t (facts_of ds)) (of_second t (facts_of ds))) ei ∙ rest
    by false ef true ei rest = rest ∙ sym (ap (λ (b : Bool). cond b (d ∷ facts_of (of_second t ds)) (facts_of (of_second t ds))) ef)
    by false ef false ei rest = rest

-- the ballot that was tried before all these is the last that was tried
pub since_tried : (ds : List Deed) (s : Since) → since ds ≡ Some s → s.ballot ≡ tried_ballot (facts_of ds)
since_tried [] s is = absurd (cc is)
since_tried (Restarted ∷ ds) s is = absurd (cc is)
since_tried (Did t (Accepted item) ∷ ds) s is = since_tried ds s is
since_tried (Did t (Sealed items) ∷ ds) s is = since_tried ds s is
since_tried (Did t (Closed items) ∷ ds) s is = since_tried ds s is
since_tried (Did t (Tried ballot) ∷ ds) s is = let same : record { ballot = ballot; heard = [] } ≡ s = cc is in sym (ap (λ (s : Since). s.ballot) same)
since_tried (Did t (Promised ballot) ∷ ds) s is = since_tried ds s is
since_tried (Did t (Cast vote) ∷ ds) s is = since_tried ds s is
since_tried (Did t (Holds root) ∷ ds) s is = since_tried ds s is
since_tried (Did t (Answered above) ∷ ds) s is = since_tried ds s is
since_tried (Did t (Heard from m) ∷ ds) s is = by (since ds) is (since_tried ds)
  where
    by : (o : Option Since) → option_map (with_reply (record { from = from; what = m })) o ≡ Some s → ((s : Since) → o ≡ Some s → s.ballot ≡ tried_ballot (facts_of ds)) → s.ballot ≡ tried_ballot (facts_of ds)
    by None e rest = absurd (cc e)
    by (Some old) e rest = let same : with_reply (record { from = from; what = m }) old ≡ s = cc e in ap (λ (s : Since). s.ballot) (sym same) ∙ rest old refl

-- ONE EVENT MORE

abbrev pub did : (second : ℕ) → List Act → List Deed
did t whats = map (Did t) whats

for_second : (t u : ℕ) (whats : List Act) (b : Bool) → eqb t u ≡ b → filter (is_of t) (did u whats) ≡ cond b (did u whats) []
for_second t u [] true e = refl
for_second t u [] false e = refl
for_second t u (w ∷ ws) true e = ap (λ (b : Bool). cond b (Did u w ∷ filter (is_of t) (did u ws)) (filter (is_of t) (did u ws))) e ∙ ap (λ (xs : List Deed). Did u w ∷ xs) (for_second t u ws true e)
for_second t u (w ∷ ws) false e = ap (λ (b : Bool). cond b (Did u w ∷ filter (is_of t) (did u ws)) (filter (is_of t) (did u ws))) e ∙ for_second t u ws false e

module _ (past : List Seen) (x : Seen) (a : Actor) (u : ℕ) (whats : Actor → List Act) (does_it : (b : Actor) → does b x.event x.taken x.answer x.sent (deeds b past) ≡ own b a u (whats b)) where
  -- what this adds to the deeds of an actor's second
  deeds_now : (b : Actor) (t : ℕ) (here : Bool) → (is_actor b a && eqb t u) ≡ here → of_second t (deeds b (x ∷ past)) ≡ cond here (did u (whats b)) [] ++ of_second t (deeds b past)
  unfolding deeds
  deeds_now b t here is =
      ap (λ (ds : List Deed). of_second t (ds ++ deeds b past)) (does_it b) ∙ filter-append (is_of t) (own b a u (whats b)) (deeds b past)
      ∙ ap (λ (ds : List Deed). ds ++ of_second t (deeds b past)) (by (is_actor b a) ∙ ap (λ (h : Bool). cond h (did u (whats b)) []) is)
    where
      by : (mine : Bool) → filter (is_of t) (cond mine (did u (whats b)) []) ≡ cond (mine && eqb t u) (did u (whats b)) []
      by true = for_second t u (whats b) (eqb t u) refl
      by false = refl

  module _ (image : List ℕ → List ℕ) (voters : List ℕ) (j t : ℕ) where
    abbrev Was : List Deed → SecondState → Type 0
    Was ds s = IsSo image voters j (ds ++ of_second t (deeds (actors.Core j) past)) s

    stands : (s s' : SecondState) (here : Bool) → (here ≡ true → Was (did u (whats (actors.Core j))) s') → Was [] s → Was (cond here (did u (whats (actors.Core j))) []) (cond here s' s)
    stands s s' true row was = row refl
    stands s s' false row was = was

    -- a second, after it took this turn or not
    pub observed : (s s' : SecondState) (here : Bool) → (is_actor (actors.Core j) a && eqb t u) ≡ here → (here ≡ true → Was (did u (whats (actors.Core j))) s') → Was [] s
        → IsSo image voters j (of_second t (deeds (actors.Core j) (x ∷ past))) (cond here s' s)
    observed s s' here is row was = subst (λ (ds : List Deed). IsSo image voters j ds (cond here s' s)) (sym (deeds_now (actors.Core j) t here is)) (stands s s' here row was)

  module _ (k t : ℕ) where
    abbrev WasRound : List Deed → RoundState → Type 0
    WasRound ds r = IsRoundSo (ds ++ of_second t (deeds (actors.Aggregator k) past)) r

    round_stands : (r r' : RoundState) (here : Bool) → (here ≡ true → WasRound (did u (whats (actors.Aggregator k))) r') → WasRound [] r → WasRound (cond here (did u (whats (actors.Aggregator k))) []) (cond here r' r)
    round_stands r r' true row was = row refl
    round_stands r r' false row was = was

    pub round_observed : (r r' : RoundState) (here : Bool) → (is_actor (actors.Aggregator k) a && eqb t u) ≡ here → (here ≡ true → WasRound (did u (whats (actors.Aggregator k))) r') → WasRound [] r
        → IsRoundSo (of_second t (deeds (actors.Aggregator k) (x ∷ past))) (cond here r' r)
    round_observed r r' here is row was = subst (λ (ds : List Deed). IsRoundSo ds (cond here r' r)) (sym (deeds_now (actors.Aggregator k) t here is)) (round_stands r r' here row was)
