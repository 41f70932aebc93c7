-- A crash is a restart, for any node that keeps its facts in a file, as an aggregator does.
use Rattle.std.specs.Prelude.{◌≡◌, ◌⊎◌, List, [], ◌∷◌, ◌++◌, Option, refl}
use Rattle.std.proofs.Common.{sym, subst, inl, inr}
use Rattle.ksi_disk.specs.Restarts.{WithOrWithout, Deed, Took, CutOff, Opened, Said, Happened, Restarted, SaysOf, IsNode, IsDeed, Runs, state_after, HasHistory}

module _ {State Node Event Fact : Type 0}
    (row : State → Event → State) (restart : State → State)
    (Keeps : Node → State → Type 0) (Has : List Fact → State → Type 0)
    (May : Node → Event → Type 0) (Takes : (old : Node) → Event → (new : Node) → Type 0) (stores : Node → Event → Option Fact)
    (Made : List Fact → Node → Type 0)
    (is : IsNode row restart Keeps Has May Takes stores Made) where
  abbrev After : State → List (Said Event) → State
  After = state_after row restart Keeps Has May Takes stores Made

  abbrev History : List (Deed Event) → State → Node → List Fact → Type 0
  History = HasHistory row restart Keeps Has May Takes stores Made

  after_both : (s : State) (one others : List (Said Event)) → After s (one ++ others) ≡ After (After s one) others
  after_both s [] others = refl
  after_both s (Happened event ∷ one) others = after_both (row s event) one others
  after_both s (Restarted ∷ one) others = after_both (restart s) one others

  -- a crash during an event: the node that is opened is as after a restart, with or without the event
  pub crash_is_a_restart : (facts left : List Fact) (old new : Node) (s : State) (event : Event) → Keeps old s → Has facts s → May old event
      → WithOrWithout facts (stores old event) left → Made left new → Keeps new (restart s) ⊎ Keeps new (restart (row s event))
  crash_is_a_restart facts left old new s event keeps has may (inl without) made = inl (is.comes_back left new s (subst (λ (l : List Fact). Has l s) (sym without) has) made)
  crash_is_a_restart facts left old new s event keeps has may (inr with) made =
      inr (is.comes_back left new (row s event) (subst (λ (l : List Fact). Has l (row s event)) (sym with) (is.goes_on facts old s event keeps has may)) made)

  -- the effect of one operation, as a history states it
  one_deed : (deed : Deed Event) (facts after : List Fact) (old new : Node) (s : State) → Keeps old s → Has facts s
      → IsDeed row restart Keeps Has May Takes stores Made deed old facts new after
      → (said : List (Said Event)) × SaysOf deed said × Keeps new (After s said) × Has after (After s said)
  one_deed (Took event) facts after old new s keeps has it =
      (Happened event ∷ [], refl, is.takes old new s event keeps it.0 it.1, subst (λ (l : List Fact). Has l (row s event)) (sym it.2) (is.goes_on facts old s event keeps has it.0))
  one_deed (CutOff event) facts after old new s keeps has it = by it.1
    where
      by : WithOrWithout facts (stores old event) after → (said : List (Said Event)) × SaysOf (CutOff event) said × Keeps new (After s said) × Has after (After s said)
      by (inl without) =
          let here : Has after s = subst (λ (l : List Fact). Has l s) (sym without) has in
          (Restarted ∷ [], inr refl, is.comes_back after new s here it.2, is.stays after s here)
      by (inr with) =
          let here : Has after (row s event) = subst (λ (l : List Fact). Has l (row s event)) (sym with) (is.goes_on facts old s event keeps has it.0) in
          (Happened event ∷ Restarted ∷ [], inl refl, is.comes_back after new (row s event) here it.2, is.stays after (row s event) here)
  one_deed Opened facts after old new s keeps has it =
      let here : Has after s = subst (λ (l : List Fact). Has l s) (sym it.0) has in
      (Restarted ∷ [], refl, is.comes_back after new s here it.1, is.stays after s here)

  -- a list of operations
  pub crashes_are_restarts : (deeds : List (Deed Event)) (facts after : List Fact) (old new : Node) (s : State) → Keeps old s → Has facts s
      → Runs row restart Keeps Has May Takes stores Made deeds old facts new after → History deeds s new after
  crashes_are_restarts [] facts after old new s keeps has runs = record {
    said = [];
    of = refl;
    keeps = subst (λ (n : Node). Keeps n s) (sym runs.0) keeps;
    has = subst (λ (l : List Fact). Has l s) (sym runs.1) has;
  }
  crashes_are_restarts (deed ∷ deeds) facts after old new s keeps has runs =
      let one = one_deed deed facts runs.1 old runs.0 s keeps has runs.2 in
      let on = crashes_are_restarts deeds runs.1 after runs.0 new (After s one.0) one.2 one.3 runs.3 in
      let same : After (After s one.0) on.said ≡ After s (one.0 ++ on.said) = sym (after_both s one.0 on.said) in
      record {
        said = one.0 ++ on.said;
        of = (one.0, on.said, one.1, on.of, refl);
        keeps = subst (λ (t : State). Keeps new t) same on.keeps;
        has = subst (λ (t : State). Has after t) same on.has;
      }
