-- A core goes on with the facts of records.
use Rattle.std.proofs.Common.{◌≡◌, ◌⊎◌, inl, inr, ℕ, suc, ◌+◌, ◌≤◌, ◌<◌, List, [], ◌∷◌, ◌++◌, length, take, drop, get_or, true, Result, Ok, Err, OnOk, refl, sym, subst, ◌∙◌, ap, arith, length-append}
use Rattle.std.proofs.lemmas.List.{take_more, take-append-drop, drop_more}
use Rattle.ksi_synod.specs.CorePlans.{CorePlanState}
use Rattle.ksi_corenode.specs.declared.fact.Fact.{Fact}
use Rattle.ksi_corenode.specs.Facts.{StableState, stable_state}
use Rattle.ksi_corenode.specs.CoreState.{CoreState, state_of}
use Rattle.ksi_corenode.specs.Lawful.{AreLawful, IsLawful, stored_by}
use Rattle.ksi_disk.specs.Gates.{record_text, records_text, reading_of}
use Rattle.ksi_disk.specs.Logs.{OpensTo, IsBeforeOrAfter}
use Rattle.ksi_nodestore.specs.Headers.{header_at}
use Rattle.ksi_nodestore.specs.Texts.{IsTextOf}
use Rattle.ksi_nodestore.proofs.Spelled.{one_fact}
use Rattle.ksi_nodestore.specs.Stores.{AreTexts, AreFactsOf, HasNoFact, IsCoreOf, IsFault, IsFileOf, GoesOn}

pub texts_more : (facts : List Fact) (records : List (List ℕ)) (fact : Fact) (content : List ℕ) → AreTexts facts records → IsTextOf fact content → AreTexts (facts ++ fact ∷ []) (records ++ content ∷ [])
texts_more [] [] fact content are is = (is, tt)
texts_more [] (c ∷ cs) fact content are is = absurd are
texts_more (f ∷ fs) [] fact content are is = absurd are
texts_more (f ∷ fs) (c ∷ cs) fact content are is = (are.0, texts_more fs cs fact content are.1 is)

pub texts_size : (facts : List Fact) (records : List (List ℕ)) → AreTexts facts records → length facts ≡ length records
texts_size [] [] are = refl
texts_size [] (c ∷ cs) are = absurd are
texts_size (f ∷ fs) [] are = absurd are
texts_size (f ∷ fs) (c ∷ cs) are = ap suc (texts_size fs cs are.1)

-- what is lawful for a core of facts is lawful after them
module _ (cores start : ℕ) (facts : List Fact) (core : CoreState) (fact : Fact) (planned : core.plan.cores ≡ cores) (begins : core.start ≡ start) (stored : (t : ℕ) → stable_state (state_of core t) ≡ stored_by facts t) where
  pub lawful_after : IsLawful core.plan.cores core.start (stable_state (state_of core fact.second)) fact → IsLawful cores start (stored_by facts fact.second) fact
  lawful_after is =
      subst (λ (n : ℕ). IsLawful n start (stored_by facts fact.second) fact) planned
      (subst (λ (n : ℕ). IsLawful core.plan.cores n (stored_by facts fact.second) fact) begins (subst (λ (s : StableState). IsLawful core.plan.cores core.start s fact) (stored fact.second) is))

  pub lawful_before : IsLawful cores start (stored_by facts fact.second) fact → IsLawful core.plan.cores core.start (stable_state (state_of core fact.second)) fact
  lawful_before is =
      subst (λ (n : ℕ). IsLawful n core.start (stable_state (state_of core fact.second)) fact) (sym planned)
      (subst (λ (n : ℕ). IsLawful cores n (stable_state (state_of core fact.second)) fact) (sym begins) (subst (λ (s : StableState). IsLawful cores start s fact) (sym (stored fact.second)) is))

-- ALONG THE RECORDS

-- one record more of a list
pub taken : (records : List (List ℕ)) (k : ℕ) (content : List ℕ) → k < length records → content ≡ get_or records k content → take (k + 1) records ≡ take k records ++ content ∷ []
taken records k content within is = take_more records k content within ∙ ap (λ (c : List ℕ). take k records ++ c ∷ []) (sym is)

text_more : (records : List (List ℕ)) (content : List ℕ) → length (records_text (records ++ content ∷ [])) ≡ length (records_text records) + (5 + length content)
text_more [] content = omega (arith, length-append (record_text content) [])
text_more (c ∷ cs) content = omega (arith, length-append (record_text c) (records_text (cs ++ content ∷ [])), length-append (record_text c) (records_text cs), text_more cs content)

text_apart : (records others : List (List ℕ)) → length (records_text (records ++ others)) ≡ length (records_text records) + length (records_text others)
text_apart [] others = omega arith
text_apart (c ∷ cs) others = omega (arith, length-append (record_text c) (records_text (cs ++ others)), length-append (record_text c) (records_text cs), text_apart cs others)

pub place_more : (records : List (List ℕ)) (k place : ℕ) (content : List ℕ) → k < length records → content ≡ get_or records k content → place ≡ 18 + length (records_text (take k records))
    → place + (5 + length content) ≡ 18 + length (records_text (take (k + 1) records))
place_more records k place content within is here = omega (arith, text_more (take k records) content, ap (λ (l : List (List ℕ)). length (records_text l)) (taken records k content within is))

-- no place is behind the end
pub place_within : (records : List (List ℕ)) (k : ℕ) → length (records_text (take k records)) ≤ length (records_text records)
place_within records k = omega (arith, text_apart (take k records) (drop k records), ap (λ (l : List (List ℕ)). length (records_text l)) (take-append-drop k records))

pub core_more : (image : List ℕ → List ℕ) (me : ℕ) (plan : CorePlanState) (records : List (List ℕ)) (k : ℕ) (content : List ℕ) (core : CoreState) → k < length records → content ≡ get_or records k content
    → (of : IsCoreOf image me plan (take k records) core) → (new : CoreState) → GoesOn image me plan of.0 content new true → IsCoreOf image me plan (take (k + 1) records) new
core_more image me plan records k content core within is of new on = (
  of.0 ++ on.0 ∷ [],
  record {
    texts = subst (λ (l : List (List ℕ)). AreTexts (of.0 ++ on.0 ∷ []) l) (sym (taken records k content within is)) (texts_more of.0 (take k records) on.0 content of.1.texts on.1);
    lawful = on.2;
  },
  on.3,
)

pub fault_here : (cores start : ℕ) (facts : List Fact) (records : List (List ℕ)) (k place : ℕ) (content : List ℕ) → k < length records → content ≡ get_or records k content → place ≡ 18 + length (records_text (take k records))
    → AreFactsOf cores start facts (take k records) → HasNoFact cores start facts content → IsFault cores start records place
fault_here cores start facts records k place content within is here are none = record {
  facts = facts;
  before = take k records;
  content = content;
  others = drop (k + 1) records;
  are = are;
  split = sym (take-append-drop k records) ∙ ap (λ (l : List (List ℕ)). take k records ++ l) (drop_more records k content within ∙ ap (λ (c : List ℕ). c ∷ drop (k + 1) records) (sym is));
  here = here;
  none = none;
}

-- IMAGES OF A FILE

pub file_before : (me : ℕ) (plan : CorePlanState) (facts : List Fact) (file image : List ℕ) → IsFileOf me plan facts file → OpensTo 18 (take 18 file) (reading_of 18 file).records image → IsFileOf me plan facts image
file_before me plan facts file image is opens = record {
  gate = opens.gate;
  head = ap header_at opens.head ∙ is.head;
  are = subst (λ (rs : List (List ℕ)). AreFactsOf plan.cores plan.start facts rs) (sym opens.kept) is.are;
  closed = opens.closed;
}

pub file_after : (me : ℕ) (plan : CorePlanState) (facts : List Fact) (fact : Fact) (content file image : List ℕ) → IsTextOf fact content → AreLawful plan.cores plan.start (facts ++ fact ∷ []) → IsFileOf me plan facts file
    → OpensTo 18 (take 18 file) ((reading_of 18 file).records ++ content ∷ []) image → IsFileOf me plan (facts ++ fact ∷ []) image
file_after me plan facts fact content file image text lawful is opens = record {
  gate = opens.gate;
  head = ap header_at opens.head ∙ is.head;
  are = record {
    texts = subst (λ (rs : List (List ℕ)). AreTexts (facts ++ fact ∷ []) rs) (sym opens.kept) (texts_more facts (reading_of 18 file).records fact content is.are.texts text);
    lawful = lawful;
  };
  closed = opens.closed;
}

pub file_either : (me : ℕ) (plan : CorePlanState) (facts : List Fact) (fact : Fact) (content file : List ℕ) → IsTextOf fact content → AreLawful plan.cores plan.start (facts ++ fact ∷ []) → IsFileOf me plan facts file
    → (image : List ℕ) → IsBeforeOrAfter 18 file content image → IsFileOf me plan facts image ⊎ IsFileOf me plan (facts ++ fact ∷ []) image
file_either me plan facts fact content file text lawful is image (inl before) = inl (file_before me plan facts file image is before)
file_either me plan facts fact content file text lawful is image (inr after) = inr (file_after me plan facts fact content file image text lawful is after)

pub on_ok : {T E P Q : Type 0} → (r : Result T E) → OnOk r P → (P → Q) → OnOk r Q
on_ok (Ok value) is more = more is
on_ok (Err refusal) is more = tt

-- two facts of an Ok, the second of which has a condition
pub on_both : {T E P Q R S : Type 0} → (r : Result T E) → OnOk r P → (Q → OnOk r R) → (P → (Q → R) → S) → OnOk r S
on_both (Ok value) is also both = both is also
on_both (Err refusal) is also both = tt

-- ONE LIST OF FACTS

same_facts : (facts others : List Fact) (records : List (List ℕ)) → AreTexts facts records → AreTexts others records → facts ≡ others
same_facts [] [] [] one other = refl
same_facts [] (o ∷ os) [] one other = absurd other
same_facts (f ∷ fs) [] [] one other = absurd one
same_facts (f ∷ fs) (o ∷ os) [] one other = absurd one
same_facts [] [] (c ∷ cs) one other = absurd one
same_facts [] (o ∷ os) (c ∷ cs) one other = absurd one
same_facts (f ∷ fs) [] (c ∷ cs) one other = absurd other
same_facts (f ∷ fs) (o ∷ os) (c ∷ cs) one other = let first = one_fact f o c one.0 other.0 in let rest = same_facts fs os cs one.1 other.1 in λ i. first i ∷ rest i

pub one_file : (me : ℕ) (plan : CorePlanState) (facts others : List Fact) (file : List ℕ) → IsFileOf me plan facts file → IsFileOf me plan others file → facts ≡ others
one_file me plan facts others file one other = same_facts facts others (reading_of 18 file).records one.are.texts other.are.texts
