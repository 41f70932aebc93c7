-- An aggregator that was opened over what is left of its facts is the one of the history after a restart, but for what it forgot.
use Rattle.std.proofs.Common.{◌≡◌, ℕ, Bool, true, false, if◌then◌else◌, List, [], ◌∷◌, ◌++◌, Option, Some, None, refl, sym, ap, subst, ◌∙◌, append-nil, append_assoc}
use Rattle.std.specs.Prelude.{◌&&◌, is_some, nat_lt, unwrap_or}
use Rattle.std.proofs.lemmas.Bool.{and_parts}
use Rattle.ksi_aggtree.specs.declared.entries.Entry.{Entry}
use Rattle.ksi_signature.specs.declared.above.Above.{Above}
use Rattle.ksi_aggregator.specs.Facts.{StableRound}
use Rattle.ksi_aggregator.specs.Lawful.{AreLawful, closed_items, stored_by}
use Rattle.ksi_aggregator.specs.Restored.{HasFacts, IsOfFacts}
use Rattle.ksi_aggregator.specs.Rounds.{AggregatorState, fact_of, rounds_of}
use Rattle.ksi_aggregator.specs.Rows.{RoundState, round_restarted}
use Rattle.ksi_aggregator.specs.Settled.{IsSettled}
use Rattle.ksi_aggregator.specs.declared.fact.Fact.{Fact}
use Rattle.ksi_aggregator.specs.declared.fact.RoundFact.{RoundFact}
use Rattle.ksi_aggregator.specs.declared.fact.RoundFact.TheVariants.{Closed, Answered}
use Rattle.ksi_roundstore.specs.Forgotten.{closed_empty}
use Rattle.ksi_roundstore.specs.Left.{is_forgotten, left_before, left_of, left_of_one, what_is_left}
use Rattle.ksi_roundstore.specs.Stores.{IsFileOf}
use Rattle.ksi_schedule.specs.Plans.{PlanState}
use Rattle.ksi_schedule.specs.declared.event.Event.{Event}
use Rattle.ksi_schedule.specs.declared.event.Event.TheVariants.{RestartAggregator}
use Rattle.ksi_laws_crashed.specs.RoundFacts.{facts_named, round_facts}
use Rattle.ksi_laws_crashed.specs.Aggregators.{forgotten_with, HasForgotten, IsAggregatorAfter, IsRoundOf, Running, is_gone, rounds_named}
use Rattle.ksi_laws_crashed.proofs.Below.{Laws, itself}
use Rattle.ksi_laws_crashed.proofs.Forgetful.{restart_kept}
use Rattle.ksi_laws_crashed.proofs.Stepping.{named_of, named_still, whole_has_again, whole_restarted}

-- the laws on what is left of facts
pub record FactsLeft : Type 0 where
  pub lawful : (forgotten : ℕ → Bool) (facts : List Fact) → AreLawful facts → AreLawful (left_of forgotten facts)
  pub stay : (me : ℕ) (forgotten : ℕ → Bool) (facts : List Fact) (rounds : ℕ → RoundState) (other : AggregatorState) (t : ℕ) → HasFacts facts rounds → IsOfFacts me (left_of forgotten facts) other
      → forgotten t ≡ false → rounds_of other t ≡ round_restarted (rounds t)
  pub gone : (me : ℕ) (forgotten : ℕ → Bool) (facts : List Fact) (rounds : ℕ → RoundState) (other : AggregatorState) (t : ℕ) → HasFacts facts rounds → IsOfFacts me (left_of forgotten facts) other
      → forgotten t ≡ true → IsSettled (rounds t) → rounds_of other t ≡ closed_empty

-- WHAT IS LEFT OF WHAT IS LEFT

module _ (first next both : ℕ → Bool) (apart : (t : ℕ) → first t ≡ true → next t ≡ false) (is : (t : ℕ) → both t ≡ (if next t then true else first t)) where
  left_both : (some more : List Fact) → left_of next (some ++ more) ≡ left_of next some ++ left_of next more
  left_both [] more = refl
  left_both (x ∷ some) more =
      ap (λ (l : List Fact). left_of_one next x ++ l) (left_both some more)
      ∙ sym (append_assoc (left_of_one next x) (left_of next some) (left_of next more))

  abbrev One : Bool → Fact → List Fact
  One b x = if b then what_is_left x.second x.what else x ∷ []

  one_twice : (x : Fact) → left_of next (left_of_one first x) ≡ left_of_one both x
  one_twice x = by (first x.second) (next x.second) refl refl
    where
      kept_so : (what : RoundFact) → next x.second ≡ false → left_of next (what_is_left x.second what) ≡ what_is_left x.second what
      kept_so (Closed items) stays = ap (λ (b : Bool). One b (fact_of x.second (Closed [])) ++ []) stays
      kept_so (Answered above) stays = refl

      both_is : (b c : Bool) → first x.second ≡ b → next x.second ≡ c → both x.second ≡ (if c then true else b)
      both_is b c f t = is x.second ∙ ap (λ (c : Bool). if c then true else first x.second) t ∙ ap (λ (b : Bool). if c then true else b) f

      by : (b c : Bool) → first x.second ≡ b → next x.second ≡ c → left_of next (left_of_one first x) ≡ left_of_one both x
      by true true f t = absurd (cc (sym (apart x.second f) ∙ t))
      by true false f t = ap (λ (b : Bool). left_of next (One b x)) f ∙ kept_so x.what t ∙ sym (ap (λ (b : Bool). One b x) (both_is true false f t))
      by false true f t = ap (λ (b : Bool). left_of next (One b x)) f ∙ ap (λ (b : Bool). One b x ++ []) t ∙ append-nil (what_is_left x.second x.what) ∙ sym (ap (λ (b : Bool). One b x) (both_is false true f t))
      by false false f t = ap (λ (b : Bool). left_of next (One b x)) f ∙ ap (λ (b : Bool). One b x ++ []) t ∙ sym (ap (λ (b : Bool). One b x) (both_is false false f t))

  left_twice : (facts : List Fact) → left_of next (left_of first facts) ≡ left_of both facts
  left_twice [] = refl
  left_twice (x ∷ facts) = left_both (left_of_one first x) (left_of first facts) ∙ ap (λ (l : List Fact). l ++ left_of next (left_of first facts)) (one_twice x) ∙ ap (λ (l : List Fact). left_of_one both x ++ l) (left_twice facts)

not_answered : (b : Bool) (answered : Option Above) → answered ≡ None → (b && is_some answered) ≡ false
not_answered true answered none = ap (λ (o : Option Above). is_some o) none
not_answered false answered none = refl

module _ (image : List ℕ → List ℕ) (plan : PlanState) (laws : Laws image plan) (left : FactsLeft) (before : List Event) (k second : ℕ) (old new : Running) (is : IsAggregatorAfter image plan before k old)
    (forgot : HasForgotten k plan second old new) where
  abbrev Later : List Event
  Later = before ++ RestartAggregator k ∷ []

  abbrev Live : ℕ → RoundState
  Live t = rounds_of old.aggregator t

  abbrev Whole : List Event → ℕ → RoundState
  Whole events t = rounds_named image plan events k is.name t

  abbrev Named : List Event → List Fact
  Named events = facts_named is.name (round_facts image plan events k)

  abbrev InFile : List Fact
  InFile = left_of (is_gone old.forgotten) (Named before)

  abbrev Now : ℕ → Bool
  Now t = is_forgotten second (stored_by InFile) t

  abbrev Forgotten : ℕ → Option (List Entry)
  Forgotten = forgotten_with second InFile old.forgotten

  same_file : forgot.facts ≡ InFile
  same_file = laws.one_file k forgot.facts InFile old.file forgot.old_file is.named.file

  made : IsOfFacts k (left_of Now InFile) new.aggregator
  made = subst (λ (fs : List Fact). IsOfFacts k (left_before second fs) new.aggregator) same_file forgot.made

  file : IsFileOf k plan (left_of Now InFile) new.file
  file = subst (λ (fs : List Fact). IsFileOf k plan (left_before second fs) new.file) same_file forgot.new_file

  abbrev by_facts : List Fact → ℕ → Option (List Entry)
  by_facts fs = forgotten_with second fs old.forgotten

  forgets : new.forgotten ≡ Forgotten
  forgets = (λ i t. forgot.forgets t i) ∙ ap by_facts same_file

  -- a round that was forgotten before is not forgotten now
  not_again : (t : ℕ) → is_gone old.forgotten t ≡ true → Now t ≡ false
  not_again t gone = by (old.forgotten t) refl (is.named.rounds t)
    where
      by : (o : Option (List Entry)) → old.forgotten t ≡ o → IsRoundOf o (Whole before t) (Live t) → Now t ≡ false
      by None none same = absurd (cc (ap (λ (o : Option (List Entry)). is_some o) (sym none) ∙ gone))
      by (Some entries) some so = not_answered (nat_lt t second) (stored_by InFile t).answered
          (ap (λ (s : StableRound). s.answered) (sym (is.named.has.stored t)) ∙ ap (λ (r : RoundState). r.answered) so.2)

  gone_is : (t : ℕ) → is_gone Forgotten t ≡ (if Now t then true else is_gone old.forgotten t)
  gone_is t = by (Now t)
    where
      by : (b : Bool) → is_some (if b then Some (closed_items (stored_by InFile t)) else old.forgotten t) ≡ (if b then true else is_some (old.forgotten t))
      by true = refl
      by false = refl

  facts_are : left_of Now InFile ≡ left_of (is_gone Forgotten) (Named before)
  facts_are = left_twice (is_gone old.forgotten) Now (is_gone Forgotten) not_again gone_is (Named before)

  -- a round with a response is settled
  settled_here : (t : ℕ) → is_some (Live t).answered ≡ true → IsSettled (Live t)
  settled_here t some = by (Live t).closed (Live t).answered refl refl some
    where
      by : (closed : Option (List Entry)) (answered : Option Above) → (Live t).closed ≡ closed → (Live t).answered ≡ answered → is_some answered ≡ true → IsSettled (Live t)
      by closed None at first has = absurd (cc has)
      by None (Some above) at first has = absurd (cc (sym ((is.named.has.well t).last at) ∙ first))
      by (Some entries) (Some above) at first has = record { entries = entries; closed = at; done = λ none. absurd (cc (sym none ∙ first)) }

  -- a round that is forgotten now
  forgotten_now : (t : ℕ) → Now t ≡ true → (old.forgotten t ≡ None) × IsSettled (Live t)
  forgotten_now t now = (by (old.forgotten t) refl, settled_here t (ap (λ (s : StableRound). is_some s.answered) (is.named.has.stored t) ∙ (and_parts (nat_lt t second) (is_some (stored_by InFile t).answered) now).1))
    where
      by : (o : Option (List Entry)) → old.forgotten t ≡ o → old.forgotten t ≡ None
      by None none = none
      by (Some entries) some = absurd (cc (sym (not_again t (ap (λ (o : Option (List Entry)). is_some o) some)) ∙ now))

  its_items : (t : ℕ) (settled : IsSettled (Live t)) → closed_items (stored_by InFile t) ≡ settled.entries
  its_items t settled = ap (λ (o : Option (List Entry)). unwrap_or o []) (ap (λ (s : StableRound). s.closed) (sym (is.named.has.stored t)) ∙ settled.closed)

  round_before : (t : ℕ) (b : Bool) → Now t ≡ b → IsRoundOf (if b then Some (closed_items (stored_by InFile t)) else old.forgotten t) (round_restarted (Whole before t)) (rounds_of new.aggregator t)
  round_before t true now =
      let so = forgotten_now t now in
      let same : Live t ≡ Whole before t = subst (λ (o : Option (List Entry)). IsRoundOf o (Whole before t) (Live t)) so.0 (is.named.rounds t) in
      let settled : IsSettled (Whole before t) = subst IsSettled same so.1 in
      let restart : round_restarted (Whole before t) ≡ Whole before t = laws.settled.restart (Whole before t) settled in (
        subst IsSettled (sym restart) settled,
        ap (λ (r : RoundState). r.closed) (restart ∙ sym same) ∙ so.1.closed ∙ ap Some (sym (its_items t so.1)),
        left.gone k Now InFile Live new.aggregator t is.named.has made now so.1,
      )
  round_before t false now =
      subst (λ (r : RoundState). IsRoundOf (old.forgotten t) (round_restarted (Whole before t)) r) (sym (left.stay k Now InFile Live new.aggregator t is.named.has made now))
      (restart_kept image laws.settled (old.forgotten t) (Whole before t) (Live t) (is.named.rounds t))

  same_facts : left_of (is_gone Forgotten) (Named before) ≡ left_of (is_gone Forgotten) (Named Later)
  same_facts = ap (left_of (is_gone Forgotten)) (named_still image plan laws before (RestartAggregator k) k old is refl)

  pub forgot_after : IsAggregatorAfter image plan Later k new
  forgot_after =
      let file_is : IsFileOf k plan (left_of (is_gone Forgotten) (Named Later)) new.file = subst (λ (fs : List Fact). IsFileOf k plan fs new.file) (facts_are ∙ same_facts) file in
      let made_is : IsOfFacts k (left_of (is_gone Forgotten) (Named Later)) new.aggregator = subst (λ (fs : List Fact). IsOfFacts k fs new.aggregator) (facts_are ∙ same_facts) made in
      record {
        mine = made.mine;
        name = is.name;
        named = named_of image plan laws Later k is.name Forgotten new forgets is.named.one
            (λ t. subst (λ (r : RoundState). IsRoundOf (Forgotten t) r (rounds_of new.aggregator t)) (whole_restarted image plan laws before (RestartAggregator k) k old is refl (itself k) t) (round_before t (Now t) refl))
            (whole_has_again image plan laws before (RestartAggregator k) k old is refl (itself k))
            (laws.made k (left_of (is_gone Forgotten) (Named Later)) new.aggregator file_is.lawful made_is)
            file_is;
      }
