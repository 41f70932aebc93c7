-- An aggregator of a history under a name of its numbers is so under another one, by which what it takes is what it was asked.
use Rattle.std.proofs.Common.{◌≡◌, ℕ, List, sym, ap, subst, ◌∙◌, Option, Some}
use Rattle.std.specs.Prelude.{slice_get, unwrap_or}
use Rattle.ksi_aggtree.specs.declared.item.Item.{Item}
use Rattle.ksi_aggtree.specs.declared.entries.Entry.{Entry}
use Rattle.ksi_aggregator.specs.Facts.{StableRound}
use Rattle.ksi_aggregator.specs.Issuing.{from_request}
use Rattle.ksi_aggregator.specs.Rounds.{IsNew, items_in, rounds_of}
use Rattle.ksi_aggregator.specs.Rows.{RoundState}
use Rattle.ksi_aggregator.specs.declared.fact.Fact.{Fact}
use Rattle.ksi_aggregator.specs.declared.fact.RoundFact.{RoundFact}
use Rattle.ksi_aggregator.specs.declared.fact.RoundFact.TheVariants as stored
use Rattle.ksi_aggregator.specs.Renamed.{round_renamed}
use Rattle.ksi_aggregator.specs.Restored.{HasFacts}
use Rattle.ksi_roundstore.specs.Left.{left_of}
use Rattle.ksi_roundstore.specs.Stores.{IsFileOf}
use Rattle.ksi_schedule.specs.Plans.{PlanState}
use Rattle.ksi_schedule.specs.declared.event.Event.{Event}
use Rattle.ksi_world.specs.Histories.{after}
use Rattle.ksi_laws_crashed.specs.RoundFacts.{fact_named, facts_named, round_facts}
use Rattle.ksi_laws_crashed.specs.Aggregators.{IsNamed, IsRoundOf, IsUnused, Running, is_gone, rounds_named}
use Rattle.ksi_laws_crashed.proofs.Closing.{OneByOne, stays_closed}
use Rattle.ksi_laws_crashed.proofs.Forgetful.{new_to_whole}
use Rattle.ksi_laws_crashed.proofs.Naming.{changed, changed_other, each_stays, fact_stays, facts_both, found_named, items_named, round_both, round_stays, still_one}

module _ (image : List ℕ → List ℕ) (plan : PlanState) (one_by_one : OneByOne) (events : List Event) (k : ℕ) (running : Running) (name : ℕ → ℕ) (is : IsNamed image plan events k running name)
    (number other : ℕ) (new_there : IsNew number ((after image plan events).rounds k)) (new_here : IsNew other (rounds_of running.aggregator)) (unused : IsUnused other running.forgotten) where
  abbrev Whole : ℕ → RoundState
  Whole t = rounds_named image plan events k name t

  abbrev History : ℕ → RoundState
  History t = (after image plan events).rounds k t

  abbrev WholeFacts : List Fact
  WholeFacts = facts_named name (round_facts image plan events k)

  new_whole : IsNew other Whole
  new_whole = new_to_whole running.forgotten Whole (rounds_of running.aggregator) is.rounds other new_here unused

  -- the name of the number, which is in no round of the history, is in none of the aggregator's
  abbrev Old : ℕ
  Old = name number

  abbrev Change : ℕ → ℕ
  Change = changed Old other

  old_new : IsNew Old Whole
  old_new t i item at =
      let found = found_named name (items_in (History t)) i Old item (ap (λ (es : List Entry). slice_get es i) (sym (items_named name (History t))) ∙ at) in
      new_there t i item (subst (λ (x : ℕ). slice_get (items_in (History t)) i ≡ Some (from_request x item)) (is.one found.0 number found.1) found.2)

  -- so the change leaves all that is in its rounds
  number_stays : (t i y : ℕ) (item : Item) → slice_get (items_in (Whole t)) i ≡ Some (from_request y item) → Change y ≡ y
  number_stays t i y item at = changed_other Old other y
      (λ same. old_new t i item (subst (λ (x : ℕ). slice_get (items_in (Whole t)) i ≡ Some (from_request x item)) same at))
      (λ same. new_whole t i item (subst (λ (x : ℕ). slice_get (items_in (Whole t)) i ≡ Some (from_request x item)) same at))

  whole_stays : (t : ℕ) → round_renamed Change (Whole t) ≡ Whole t
  whole_stays t = round_stays Change (Whole t) (is.whole.well t).emptied (number_stays t)

  -- and all that is in facts
  fact_stays_so : (i : ℕ) (fact : Fact) → slice_get WholeFacts i ≡ Some fact → fact_named Change fact ≡ fact
  fact_stays_so i fact at = ap (λ (what : RoundFact). record { second = fact.second; what = what }) (fact_stays Change fact.second fact.what (λ entries closes j y item there.
      let here : slice_get WholeFacts i ≡ Some (record { second = fact.second; what = stored.Closed entries }) = at ∙ ap (λ (what : RoundFact). Some (record { second = fact.second; what = what })) closes in
      let closed : (Whole fact.second).closed ≡ Some entries =
      ap (λ (s : StableRound). s.closed) (is.whole.stored fact.second) ∙ stays_closed one_by_one WholeFacts is.whole.lawful i fact.second entries here in
      number_stays fact.second j y item (ap (λ (o : Option (List Entry)). slice_get (unwrap_or o (Whole fact.second).open_items) j) closed ∙ there)))

  facts_stay : WholeFacts ≡ facts_named (λ x. Change (name x)) (round_facts image plan events k)
  facts_stay = sym (each_stays (fact_named Change) WholeFacts fact_stays_so) ∙ facts_both Change name (round_facts image plan events k)

  rounds_stay : (t : ℕ) → Whole t ≡ rounds_named image plan events k (λ x. Change (name x)) t
  rounds_stay t = sym (whole_stays t) ∙ round_both Change name (History t)

  pub renumbered : IsNamed image plan events k running (λ x. changed (name number) other (name x))
  renumbered = record {
    one = still_one Old other name is.one;
    rounds = λ t. subst (λ (r : RoundState). IsRoundOf (running.forgotten t) r (rounds_of running.aggregator t)) (rounds_stay t) (is.rounds t);
    whole = subst (λ (fs : List Fact). HasFacts fs (rounds_named image plan events k (λ x. Change (name x)))) facts_stay
        (subst (λ (rounds : ℕ → RoundState). HasFacts WholeFacts rounds) (λ i t. rounds_stay t i) is.whole);
    has = subst (λ (fs : List Fact). HasFacts (left_of (is_gone running.forgotten) fs) (rounds_of running.aggregator)) facts_stay is.has;
    file = subst (λ (fs : List Fact). IsFileOf k plan (left_of (is_gone running.forgotten) fs) running.file) facts_stay is.file;
  }
