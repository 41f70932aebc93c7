-- A file that is nothing but its spelling is so with a fact more.
use Rattle.std.proofs.Common.{◌≡◌, ℕ, ◌+◌, ◌≤◌, List, [], ◌∷◌, ◌++◌, length, take, drop, map, refl, sym, ap, subst, ◌∙◌, arith, append_assoc, length-append}
use Rattle.std.proofs.lemmas.List.{append-nil, take_at, drop_all}
use Rattle.ksi_synod.specs.CorePlans.{CorePlanState}
use Rattle.ksi_corenode.specs.declared.fact.Fact.{Fact}
use Rattle.ksi_disk.specs.Images.{laid_over}
use Rattle.ksi_disk.specs.declared.ending.Ending.TheVariants.{Closed}
use Rattle.ksi_disk.specs.Gates.{place_of, reading_of, record_text, records_text}
use Rattle.ksi_nodestore.specs.Headers.{header_text}
use Rattle.ksi_nodestore.specs.Texts.{fact_text, IsTextOf}
use Rattle.ksi_nodestore.specs.Stores.{AreTexts}
use Rattle.ksi_nodestore.specs.Spelling.{node_text}

texts_are : (facts : List Fact) (records : List (List ℕ)) → AreTexts facts records → records ≡ map fact_text facts
texts_are [] [] are = refl
texts_are [] (c ∷ cs) are = absurd are
texts_are (f ∷ fs) [] are = absurd are
texts_are (f ∷ fs) (c ∷ cs) are = λ i. are.0.text i ∷ texts_are fs cs are.1 i

-- the standing gate is behind the records of the facts
pub gate_is : (facts : List Fact) (file : List ℕ) (from gate : ℕ) → from ≡ 18 → AreTexts facts (reading_of 18 file).records → (reading_of from file).ending ≡ Closed gate
    → 18 + length (records_text (reading_of 18 file).records) ≡ place_of (reading_of 18 file).ending → gate ≡ 18 + length (records_text (map fact_text facts))
gate_is facts file from gate from_is texts standing stand =
    let here : (reading_of 18 file).ending ≡ Closed gate = subst (λ (n : ℕ). (reading_of n file).ending ≡ Closed gate) from_is standing in
    omega (arith, stand, ap place_of here, ap (λ (rs : List (List ℕ)). length (records_text rs)) (texts_are facts (reading_of 18 file).records texts))

text_last : (facts : List Fact) (fact : Fact) → records_text (map fact_text (facts ++ fact ∷ [])) ≡ records_text (map fact_text facts) ++ record_text (fact_text fact)
text_last [] fact = append-nil (record_text (fact_text fact))
text_last (f ∷ fs) fact =
    ap (λ (l : List ℕ). record_text (fact_text f) ++ l) (text_last fs fact)
    ∙ sym (append_assoc (record_text (fact_text f)) (records_text (map fact_text fs)) (record_text (fact_text fact)))

laid_last : (front piece : List ℕ) (gate : ℕ) → length front ≡ gate → 1 ≤ length piece → laid_over (front ++ 0 ∷ []) gate piece ≡ front ++ piece
laid_last front piece gate size some =
    let before : take gate (front ++ 0 ∷ []) ≡ front = take_at front (0 ∷ []) gate size in
    let behind : drop (gate + length piece) (front ++ 0 ∷ []) ≡ [] = drop_all (gate + length piece) (front ++ 0 ∷ []) (omega (arith, length-append front (0 ∷ []))) in
    (λ i. (before i ++ piece) ++ behind i) ∙ append-nil (front ++ piece)

pub appended_text : (me : ℕ) (plan : CorePlanState) (facts : List Fact) (fact : Fact) (file content new : List ℕ) (gate : ℕ) → file ≡ node_text me plan facts → IsTextOf fact content
    → gate ≡ 18 + length (records_text (map fact_text facts)) → new ≡ laid_over file gate (record_text content ++ 0 ∷ []) → new ≡ node_text me plan (facts ++ fact ∷ [])
unfolding node_text
appended_text me plan facts fact file content new gate file_is text gate_is written =
    let header = header_text me plan.cores plan.start in
    let records = records_text (map fact_text facts) in
    let last = record_text (fact_text fact) in
    let size : length (header ++ records) ≡ gate = omega (arith, length-append header records, gate_is) in
    let some : 1 ≤ length (last ++ 0 ∷ []) = omega (arith, length-append last (0 ∷ [])) in
    written
    ∙ (λ i. laid_over (file_is i) gate (record_text (text.text i) ++ 0 ∷ []))
    ∙ ap (λ (l : List ℕ). laid_over l gate (last ++ 0 ∷ [])) (sym (append_assoc header records (0 ∷ [])))
    ∙ laid_last (header ++ records) (last ++ 0 ∷ []) gate size some
    ∙ append_assoc header records (last ++ 0 ∷ [])
    ∙ ap (λ (l : List ℕ). header ++ l) (sym (append_assoc records last (0 ∷ [])))
    ∙ ap (λ (l : List ℕ). header ++ (l ++ 0 ∷ [])) (sym (text_last facts fact))
