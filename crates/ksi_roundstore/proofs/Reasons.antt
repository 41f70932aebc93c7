-- A file of facts is opened, and a file is refused for one reason.
use Rattle.std.proofs.Common.{◌≡◌, ◌∙◌, ℕ, ◌+◌, List, [], ◌∷◌, ◌++◌, length, take, get_or, Option, Some, None, inl, inr, refl, sym, ap, subst, append_assoc}
use Rattle.std.specs.Prelude.{slice_get}
use Rattle.std.proofs.lemmas.List.{append-nil, take_at}
use Rattle.std.proofs.lemmas.Option.{none-some}
use Rattle.ksi_schedule.specs.Plans.{PlanState}
use Rattle.ksi_aggregator.specs.declared.fact.Fact.{Fact}
use Rattle.ksi_aggregator.specs.Lawful.{AreLawful, IsLawful, stored_by}
use Rattle.ksi_disk.specs.declared.ending.Ending.TheVariants.{Broken, Closed}
use Rattle.ksi_disk.specs.Gates.{records_text}
use Rattle.ksi_roundstore.specs.declared.heads.Header.{Header}
use Rattle.ksi_roundstore.specs.declared.refusal.OpenRefusal.{OpenRefusal}
use Rattle.ksi_roundstore.specs.declared.refusal.OpenRefusal.TheVariants as opens
use Rattle.ksi_roundstore.specs.Folds.{AreFactsOf, HasNoFact, IsFault}
use Rattle.ksi_roundstore.specs.Headers.{header_at}
use Rattle.ksi_roundstore.specs.Opens.{IsMalformedAt, IsOutside, IsRefused}
use Rattle.ksi_roundstore.specs.StoreState.{records_in}
use Rattle.ksi_roundstore.specs.Stores.{IsFileOf}
use Rattle.ksi_roundstore.specs.Written.{AreTexts, IsTextOf}
use Rattle.ksi_roundstore.proofs.Spelled.{one_fact, plain_what}

get_here : (done : List Fact) (fact : Fact) (others : List Fact) → slice_get (done ++ fact ∷ others) (length done) ≡ Some fact
get_here [] fact others = refl
get_here (d ∷ ds) fact others = get_here ds fact others

-- a fact is lawful after those before it
pub lawful_here : (done : List Fact) (fact : Fact) (others : List Fact) → AreLawful (done ++ fact ∷ others) → IsLawful (stored_by done) fact
lawful_here done fact others are =
    subst (λ (l : List Fact). IsLawful (stored_by l) fact) (take_at done (fact ∷ others) (length done) refl) (are (length done) fact (get_here done fact others))

abbrev first_of : List (List ℕ) → List ℕ
first_of [] = []
first_of (content ∷ contents) = content

abbrev behind_of : List (List ℕ) → List (List ℕ)
behind_of [] = []
behind_of (content ∷ contents) = contents

-- the numbers of a header
abbrev told : Option Header → List ℕ
told None = []
told (Some header) = header.aggregator ∷ header.start ∷ []

abbrev foreign : List ℕ → OpenRefusal
foreign numbers = opens.Foreign (get_or numbers 0 0) (get_or numbers 1 0)

module _ (plan : PlanState) (me : ℕ) where
  next_lawful : (done : List Fact) (fact : Fact) (others : List Fact) → AreLawful (done ++ fact ∷ others) → AreLawful ((done ++ fact ∷ []) ++ others)
  next_lawful done fact others are = subst AreLawful (sym (append_assoc done (fact ∷ []) others)) are

  -- the facts of one record after others are the same
  same_next : (done : List Fact) (one other : Fact) (ones others : List Fact) (content : List ℕ) → AreLawful (done ++ one ∷ ones) → AreLawful (done ++ other ∷ others)
      → IsTextOf plan me one content → IsTextOf plan me other content → one ≡ other
  same_next done one other ones others content first second text another =
      one_fact plan me one other content
      (plain_what (stored_by done) one.second one.what (lawful_here done one ones first).what) (plain_what (stored_by done) other.second other.what (lawful_here done other others second).what) text another

  -- where records are of facts, none of them is no fact's
  no_fault : (done some facts : List Fact) (before : List (List ℕ)) (content : List ℕ) (others : List (List ℕ)) → AreTexts plan me some before → AreTexts plan me facts (before ++ content ∷ others) → AreLawful (done ++ some) → AreLawful (done ++ facts)
      → HasNoFact plan me (done ++ some) content → ⊥
  no_fault done [] [] [] content others texts all lawful whole none = absurd all
  no_fault done [] (f ∷ fs) [] content others texts all lawful whole none =
      none f all.0 (subst (λ (l : List Fact). IsLawful (stored_by l) f) (sym (append-nil done)) (lawful_here done f fs whole))
  no_fault done (s ∷ ss) facts [] content others texts all lawful whole none = absurd texts
  no_fault done [] facts (b ∷ bs) content others texts all lawful whole none = absurd texts
  no_fault done (s ∷ ss) [] (b ∷ bs) content others texts all lawful whole none = absurd all
  no_fault done (s ∷ ss) (f ∷ fs) (b ∷ bs) content others texts all lawful whole none =
      let same = same_next done f s fs ss b whole lawful all.0 texts.0 in
      no_fault (done ++ s ∷ []) ss fs bs content others texts.1 all.1 (next_lawful done s ss lawful) (next_lawful done s fs (subst (λ (x : Fact). AreLawful (done ++ x ∷ fs)) same whole))
      (subst (λ (l : List Fact). HasNoFact plan me l content) (sym (append_assoc done (s ∷ []) ss)) none)

  -- the first record that is no fact's stands at one place
  same_front : (done some facts : List Fact) (before front : List (List ℕ)) (content next : List ℕ) (others rest : List (List ℕ)) → before ++ content ∷ others ≡ front ++ next ∷ rest → AreTexts plan me some before → AreTexts plan me facts front
      → AreLawful (done ++ some) → AreLawful (done ++ facts) → HasNoFact plan me (done ++ some) content → HasNoFact plan me (done ++ facts) next → before ≡ front
  same_front done [] [] [] [] content next others rest is texts more lawful whole none nor = refl
  same_front done (s ∷ ss) facts [] front content next others rest is texts more lawful whole none nor = absurd texts
  same_front done [] facts (b ∷ bs) front content next others rest is texts more lawful whole none nor = absurd texts
  same_front done some (f ∷ fs) before [] content next others rest is texts more lawful whole none nor = absurd more
  same_front done some [] before (x ∷ xs) content next others rest is texts more lawful whole none nor = absurd more
  same_front done [] (f ∷ fs) [] (x ∷ xs) content next others rest is texts more lawful whole none nor =
      absurd (none f (subst (λ (c : List ℕ). IsTextOf plan me f c) (sym (ap first_of is)) more.0) (subst (λ (l : List Fact). IsLawful (stored_by l) f) (sym (append-nil done)) (lawful_here done f fs whole)))
  same_front done (s ∷ ss) [] (b ∷ bs) [] content next others rest is texts more lawful whole none nor =
      absurd (nor s (subst (λ (c : List ℕ). IsTextOf plan me s c) (ap first_of is) texts.0) (subst (λ (l : List Fact). IsLawful (stored_by l) s) (sym (append-nil done)) (lawful_here done s ss lawful)))
  same_front done (s ∷ ss) (f ∷ fs) (b ∷ bs) (x ∷ xs) content next others rest is texts more lawful whole none nor =
      let here : b ≡ x = ap first_of is in
      let same = same_next done f s fs ss b whole lawful (subst (λ (c : List ℕ). IsTextOf plan me f c) (sym here) more.0) texts.0 in
      let behind = same_front (done ++ s ∷ []) ss fs bs xs content next others rest (ap behind_of is) texts.1 more.1 (next_lawful done s ss lawful) (next_lawful done s fs (subst (λ (y : Fact). AreLawful (done ++ y ∷ fs)) same whole))
      (subst (λ (l : List Fact). HasNoFact plan me l content) (sym (append_assoc done (s ∷ []) ss)) none)
      (subst (λ (l : List Fact). HasNoFact plan me l next) (sym (append_assoc done (s ∷ []) fs)) (subst (λ (y : Fact). HasNoFact plan me (done ++ y ∷ fs) next) same nor)) in
      λ i. here i ∷ behind i

  fault_of : (facts : List Fact) (records : List (List ℕ)) (place : ℕ) → AreFactsOf plan me facts records → IsFault plan me records place → ⊥
  fault_of facts records place are fault =
      no_fault [] fault.facts facts fault.before fault.content fault.others fault.are.texts (subst (λ (rs : List (List ℕ)). AreTexts plan me facts rs) fault.split are.texts) fault.are.lawful are.lawful fault.none

  one_place : (file : List ℕ) (one other : ℕ) → IsMalformedAt plan me file one → IsMalformedAt plan me file other → one ≡ other
  one_place file one other (inl fault) (inl another) =
      let front = same_front [] fault.facts another.facts fault.before another.before fault.content another.content fault.others another.others (sym fault.split ∙ another.split) fault.are.texts another.are.texts fault.are.lawful another.are.lawful
      fault.none another.none in
      fault.here ∙ ap (λ (rs : List (List ℕ)). 20 + length (records_text rs)) front ∙ sym another.here
  one_place file one other (inl fault) (inr ends) = absurd (fault_of ends.0 (records_in file) one ends.1 fault)
  one_place file one other (inr ends) (inl fault) = absurd (fault_of ends.0 (records_in file) other ends.1 fault)
  one_place file one other (inr ends) (inr another) = let same : Broken one ≡ Broken other = sym ends.2 ∙ another.2 in cc same

  -- A FILE OF FACTS IS OPENED

  open_or_broken : (facts : List Fact) (file : List ℕ) (place : ℕ) → IsFileOf me plan facts file → IsMalformedAt plan me file place → ⊥
  open_or_broken facts file place is (inl fault) = fault_of facts (records_in file) place (record { texts = is.texts; lawful = is.lawful }) fault
  open_or_broken facts file place is (inr ends) = let no : Closed is.gate ≡ Broken place = sym is.closed ∙ ends.2 in absurd (cc no)

  headed : (file : List ℕ) → header_at (take 20 file) ≡ Some (record { aggregator = me; start = plan.start }) → header_at (take 20 file) ≡ None → ⊥
  headed file some none = absurd (none-some (record { aggregator = me; start = plan.start }) (sym none ∙ some))

  own : (file : List ℕ) (aggregator first : ℕ) → header_at (take 20 file) ≡ Some (record { aggregator = me; start = plan.start }) → IsRefused me plan file (opens.Foreign aggregator first) → ⊥
  own file aggregator first head foreign =
      let same : told (Some (record { aggregator = aggregator; start = first })) ≡ told (Some (record { aggregator = me; start = plan.start })) = ap told (sym foreign.0 ∙ head) in
      foreign.1 (ap (λ (l : List ℕ). get_or l 0 0) same) (ap (λ (l : List ℕ). get_or l 1 0) same)

  pub always_opened : (facts : List Fact) (file : List ℕ) (refusal : OpenRefusal) → IsFileOf me plan facts file → IsRefused me plan file refusal → IsOutside refusal
  always_opened facts file opens.Failed is refused = tt
  always_opened facts file opens.NoMemory is refused = tt
  always_opened facts file opens.NotFormatted is refused = headed file is.head refused
  always_opened facts file (opens.Foreign aggregator first) is refused = own file aggregator first is.head refused
  always_opened facts file (opens.Malformed place) is refused = open_or_broken facts file place is refused.1

  -- ONE REASON

  pub one_reason : (file : List ℕ) (one other : OpenRefusal) → IsRefused me plan file one → IsRefused me plan file other → (IsOutside one → ⊥) → (IsOutside other → ⊥) → one ≡ other
  one_reason file opens.Failed other is another inside within = absurd (inside tt)
  one_reason file opens.NoMemory other is another inside within = absurd (inside tt)
  one_reason file opens.NotFormatted opens.Failed is another inside within = absurd (within tt)
  one_reason file opens.NotFormatted opens.NoMemory is another inside within = absurd (within tt)
  one_reason file opens.NotFormatted opens.NotFormatted is another inside within = refl
  one_reason file opens.NotFormatted (opens.Foreign aggregator first) is another inside within = absurd (none-some (record { aggregator = aggregator; start = first }) (sym is ∙ another.0))
  one_reason file opens.NotFormatted (opens.Malformed place) is another inside within = absurd (headed file another.0 is)
  one_reason file (opens.Foreign aggregator first) opens.Failed is another inside within = absurd (within tt)
  one_reason file (opens.Foreign aggregator first) opens.NoMemory is another inside within = absurd (within tt)
  one_reason file (opens.Foreign aggregator first) opens.NotFormatted is another inside within = absurd (none-some (record { aggregator = aggregator; start = first }) (sym another ∙ is.0))
  one_reason file (opens.Foreign aggregator first) (opens.Foreign another_one another_first) is another inside within = ap (λ (head : Option Header). foreign (told head)) (sym is.0 ∙ another.0)
  one_reason file (opens.Foreign aggregator first) (opens.Malformed place) is another inside within = absurd (own file aggregator first another.0 is)
  one_reason file (opens.Malformed place) opens.Failed is another inside within = absurd (within tt)
  one_reason file (opens.Malformed place) opens.NoMemory is another inside within = absurd (within tt)
  one_reason file (opens.Malformed place) opens.NotFormatted is another inside within = absurd (headed file is.0 another)
  one_reason file (opens.Malformed place) (opens.Foreign aggregator first) is another inside within = absurd (own file aggregator first is.0 another)
  one_reason file (opens.Malformed place) (opens.Malformed other) is another inside within = ap opens.Malformed (one_place file place other is.1 another.1)
