-- What a lawful fact closed stays closed.
use Rattle.std.proofs.Common.{◌≡◌, ℕ, zero, suc, eqb, Bool, true, false, if◌then◌else◌, List, [], ◌∷◌, ◌++◌, refl, sym, ap, subst, ◌∙◌, append-nil, append_assoc, ◌⊎◌, inl, inr, Some}
use Rattle.std.specs.Prelude.{slice_get}
use Rattle.std.proofs.lemmas.Bool.{cond-true, eqb-true, eq-eqb}
use Rattle.ksi_aggtree.specs.declared.entries.Entry.{Entry}
use Rattle.ksi_aggregator.specs.declared.fact.Fact.{Fact}
use Rattle.ksi_aggregator.specs.declared.fact.RoundFact.{RoundFact}
use Rattle.ksi_aggregator.specs.declared.fact.RoundFact.TheVariants as stored
use Rattle.ksi_aggregator.specs.Facts.{StableRound, with_fact, with_what}
use Rattle.ksi_aggregator.specs.Rounds.{fact_of}
use Rattle.ksi_aggregator.specs.Lawful.{AreLawful, IsLawful, MayStore, stored_by}

-- a list is made by adding behind
by_adding : {A : Type 0} (P : List A → Type 0) → P [] → ((xs : List A) (x : A) → P xs → P (xs ++ x ∷ [])) → (xs : List A) → P xs
by_adding {A} P none more xs = by [] xs none
  where
    by : (done rest : List A) → P done → P (done ++ rest)
    by done [] p = subst P (sym (append-nil done)) p
    by done (x ∷ rest) p = subst P (append_assoc done (x ∷ []) rest) (by (done ++ x ∷ []) rest (more done x p))

get_added : {A : Type 0} (xs : List A) (y : A) (k : ℕ) (x : A) → slice_get (xs ++ y ∷ []) k ≡ Some x → (slice_get xs k ≡ Some x) ⊎ (y ≡ x)
get_added [] y zero x at = inr (cc at)
get_added [] y (suc k) x at = absurd (cc at)
get_added (z ∷ xs) y zero x at = inl at
get_added (z ∷ xs) y (suc k) x at = get_added xs y k x at

-- the laws on facts one by one
pub record OneByOne : Type 0 where
  pub before : (facts : List Fact) (fact : Fact) → AreLawful (facts ++ fact ∷ []) → AreLawful facts
  pub last : (facts : List Fact) (fact : Fact) → AreLawful (facts ++ fact ∷ []) → IsLawful (stored_by facts) fact
  pub stored : (facts : List Fact) (fact : Fact) (t : ℕ) → stored_by (facts ++ fact ∷ []) t ≡ with_fact (Some fact) t (stored_by facts t)

module _ (laws : OneByOne) where
  abbrev Closes : List Fact → Type 0
  Closes facts = AreLawful facts → (i t : ℕ) (entries : List Entry) → slice_get facts i ≡ Some (fact_of t (stored.Closed entries)) → (stored_by facts t).closed ≡ Some entries

  still_closed : (by_facts : ℕ → StableRound) (fact : Fact) (t : ℕ) (entries : List Entry) → IsLawful by_facts fact → (by_facts t).closed ≡ Some entries → (with_fact (Some fact) t (by_facts t)).closed ≡ Some entries
  still_closed by_facts fact t entries lawful closed = by (eqb t fact.second) refl fact.what lawful.what
    where
      by : (b : Bool) → eqb t fact.second ≡ b → (what : RoundFact) → MayStore by_facts fact.second what → (if b then with_what what (by_facts t) else by_facts t).closed ≡ Some entries
      by false other what may = closed
      by true here (stored.Answered above) may = closed
      by true here (stored.Closed items) may = absurd (cc (sym (ap (λ (u : ℕ). (by_facts u).closed) (eqb-true t fact.second here) ∙ may.open_yet) ∙ closed))

  now_closed : (s : StableRound) (fact : Fact) (t : ℕ) (entries : List Entry) → fact ≡ fact_of t (stored.Closed entries) → (with_fact (Some fact) t s).closed ≡ Some entries
  now_closed s fact t entries is =
      ap (λ (f : Fact). (with_fact (Some f) t s).closed) is
      ∙ ap (λ (r : StableRound). r.closed) (cond-true (eqb t t) (with_what (stored.Closed entries) s) s (eq-eqb t t refl))

  pub stays_closed : (facts : List Fact) → Closes facts
  stays_closed facts = by_adding Closes (λ lawful i t entries at. absurd (cc at)) (λ done fact so lawful i t entries at. ap (λ (s : StableRound). s.closed) (laws.stored done fact t) ∙ elim (get_added done fact i (fact_of t (stored.Closed entries)) at) [
    | inl old ↦ still_closed (stored_by done) fact t entries (laws.last done fact lawful) (so (laws.before done fact lawful) i t entries old)
    | inr new ↦ now_closed (stored_by done t) fact t entries new
  ]) facts
