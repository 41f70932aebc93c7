-- Records that spell facts are read as these, one after the other.
use Rattle.std.proofs.Common.{◌≡◌, ℕ, ◌+◌, List, [], ◌∷◌, ◌++◌, length, Option, Some, Ok, Err, refl, sym, ap, subst, ◌∙◌, arith, append_assoc, length-append}
use Rattle.std.specs.Prelude.{slice_get}
use Rattle.std.proofs.lemmas.List.{append-nil, take_at}
use Rattle.ksi_corenode.specs.declared.fact.Fact.{Fact}
use Rattle.ksi_corenode.specs.Lawful.{stored_by, AreLawful, IsLawful}
use Rattle.ksi_disk.specs.Gates.{record_text, records_text}
use Rattle.ksi_nodestore.specs.Stores.{AreTexts, AreFactsOf, IsFault}
use Rattle.ksi_nodestore.specs.FactReading.{facts_read, gone_on}
use Rattle.ksi_nodestore.proofs.Tested.{next_is}

get_here : (done : List Fact) (fact : Fact) (others : List Fact) → slice_get (done ++ fact ∷ others) (length done) ≡ Some fact
get_here [] fact others = refl
get_here (d ∷ ds) fact others = get_here ds fact others

-- a fact is lawful after those before it
lawful_here : (cores start : ℕ) (done : List Fact) (fact : Fact) (others : List Fact) → AreLawful cores start (done ++ fact ∷ others) → IsLawful cores start (stored_by done fact.second) fact
lawful_here cores start done fact others are =
    subst (λ (l : List Fact). IsLawful cores start (stored_by l fact.second) fact) (take_at done (fact ∷ others) (length done) refl) (are (length done) fact (get_here done fact others))

place_on : (place : ℕ) (content : List ℕ) (records : List (List ℕ)) → (place + (5 + length content)) + length (records_text records) ≡ place + length (records_text (content ∷ records))
place_on place content records = omega (arith, length-append (record_text content) (records_text records))

pub read_through : (cores start : ℕ) (facts : List Fact) (records more : List (List ℕ)) (done : List Fact) (place : ℕ) → AreTexts facts records → AreLawful cores start (done ++ facts)
    → facts_read cores start (records ++ more) done place ≡ facts_read cores start more (done ++ facts) (place + length (records_text records))
read_through cores start [] [] more done place are lawful = λ i. facts_read cores start more (sym (append-nil done) i) (place_same i)
  where
    place_same : place ≡ place + 0
    place_same = omega arith
read_through cores start [] (c ∷ cs) more done place are lawful = absurd are
read_through cores start (f ∷ fs) [] more done place are lawful = absurd are
read_through cores start (f ∷ fs) (c ∷ cs) more done place are lawful =
    let apart : (done ++ f ∷ []) ++ fs ≡ done ++ f ∷ fs = append_assoc done (f ∷ []) fs in
    let on : AreLawful cores start ((done ++ f ∷ []) ++ fs) = subst (λ (l : List Fact). AreLawful cores start l) (sym apart) lawful in
    ap (λ (found : Option Fact). gone_on (facts_read cores start (cs ++ more)) done place c found) (next_is cores start done f c are.0 (lawful_here cores start done f fs lawful))
    ∙ read_through cores start fs cs more (done ++ f ∷ []) (place + (5 + length c)) are.1 on
    ∙ (λ i. facts_read cores start more (apart i) (place_on place c cs i))

-- all of them
pub read_whole : (cores start : ℕ) (facts : List Fact) (records : List (List ℕ)) → AreFactsOf cores start facts records → facts_read cores start records [] 18 ≡ Ok facts
read_whole cores start facts records are =
    ap (λ (rs : List (List ℕ)). facts_read cores start rs [] 18) (sym (append-nil records)) ∙ read_through cores start facts records [] [] 18 are.texts are.lawful

-- up to the first that is none
pub read_fault : (cores start : ℕ) (records : List (List ℕ)) (place : ℕ) → IsFault cores start records place → facts_read cores start records [] 18 ≡ Err place
read_fault cores start records place is =
    ap (λ (rs : List (List ℕ)). facts_read cores start rs [] 18) is.split
    ∙ read_through cores start is.facts is.before (is.content ∷ is.others) [] 18 is.are.texts is.are.lawful
    ∙ ap (λ (found : Option Fact). gone_on (facts_read cores start is.others) is.facts (18 + length (records_text is.before)) is.content found) is.none.read
    ∙ ap (λ (n : ℕ). Err n) (sym is.here)
