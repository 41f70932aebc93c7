-- The records kept, appended to a text.
use Rattle.std.proofs.Common.{◌≡◌, ◌∙◌, ℕ, zero, suc, ◌+◌, ◌<◌, ◌^◌, Bool, true, false, not, List, [], ◌∷◌, ◌++◌, length, take, get_or, Result, Ok, Err, IfOk, refl, sym, ap, subst, arith, append_assoc, length-append}
use Rattle.std.specs.Prelude.{if◌then◌else◌, ◌||◌}
use Rattle.std.proofs.lemmas.List.{append-nil}
use Rattle.std.proofs.lemmas.List.Elements.{All-nil, All-cons, All-append}
use Rattle.ksi_corenode.specs.declared.fact.What.{What}
use Rattle.ksi_corenode.specs.declared.fact.What.TheVariants.{Sealed, Tried, Promised, Cast, Holds}
use Rattle.ksi_corenode.specs.declared.fact.Fact.{Fact}
use Rattle.ksi_corenode.specs.Facts.{fact_of}
use Rattle.ksi_disk.specs.Gates.{record_text, records_text}
use Rattle.ksi_nodestore.specs.Stores.{AreTexts}
use Rattle.ksi_nodestore.specs.Texts.{IsTextOf}
use Rattle.ksi_laws_forgetting.specs.Left.{left_of, left_of_one, root_left}
use Rattle.ksi_forgetting.specs.Puts.{is_root, stays, IsPut, IsPutAll, IsPutOf}

-- FACTS AND THEIR TEXTS

pub texts_join : (facts more : List Fact) (records others : List (List ℕ)) → AreTexts facts records → AreTexts more others → AreTexts (facts ++ more) (records ++ others)
texts_join [] more [] others are tail = tail
texts_join [] more (c ∷ cs) others are tail = absurd are
texts_join (f ∷ fs) more [] others are tail = absurd are
texts_join (f ∷ fs) more (c ∷ cs) others are tail = (are.0, texts_join fs more cs others are.1 tail)

pub texts_size : (facts : List Fact) (records : List (List ℕ)) → AreTexts facts records → length facts ≡ length records
texts_size [] [] are = refl
texts_size [] (c ∷ cs) are = absurd are
texts_size (f ∷ fs) [] are = absurd are
texts_size (f ∷ fs) (c ∷ cs) are = ap suc (texts_size fs cs are.1)

pub record FactAt (facts : List Fact) (k : ℕ) (content : List ℕ) : Type 0 where
  pub fact : Fact
  pub is_text : IsTextOf fact content
  pub taken : take (suc k) facts ≡ take k facts ++ fact ∷ []

pub fact_at : (facts : List Fact) (records : List (List ℕ)) (k : ℕ) (content : List ℕ) → AreTexts facts records → k < length records → content ≡ get_or records k content → FactAt facts k content
fact_at [] [] k content are within is = absurd (omega arith)
fact_at [] (c ∷ cs) k content are within is = absurd are
fact_at (f ∷ fs) [] k content are within is = absurd are
fact_at (f ∷ fs) (c ∷ cs) zero content are within is = record { fact = f; is_text = subst (λ (x : List ℕ). IsTextOf f x) (sym is) are.0; taken = refl }
fact_at (f ∷ fs) (c ∷ cs) (suc k) content are within is =
    let rest = fact_at fs cs k content are.1 (omega arith) is in
    record { fact = rest.fact; is_text = rest.is_text; taken = ap (λ (l : List Fact). f ∷ l) rest.taken }

module _ (forgotten : ℕ → Bool) where
  left_then : (front : List Fact) (fact : Fact) → left_of forgotten (front ++ fact ∷ []) ≡ left_of forgotten front ++ left_of_one forgotten fact
  left_then [] fact = append-nil (left_of_one forgotten fact)
  left_then (x ∷ front) fact =
      ap (λ (l : List Fact). left_of_one forgotten x ++ l) (left_then front fact)
      ∙ sym (append_assoc (left_of_one forgotten x) (left_of forgotten front) (left_of_one forgotten fact))

  -- ONE RECORD

  -- what remains of a fact is that fact or nothing
  left_is : (second : ℕ) (what : What) (b : Bool) → (if b then root_left second what else fact_of second what ∷ []) ≡ (if not b || is_root what then fact_of second what ∷ [] else [])
  left_is second what false = refl
  left_is second (Sealed items) true = refl
  left_is second (Tried ballot) true = refl
  left_is second (Promised ballot) true = refl
  left_is second (Cast vote) true = refl
  left_is second (Holds root) true = refl

  where_texts : (fact : Fact) (content : List ℕ) → IsTextOf fact content → (b : Bool) → AreTexts (if b then fact ∷ [] else []) (if b then content ∷ [] else [])
  where_texts fact content is true = (is, tt)
  where_texts fact content is false = tt

  stay_texts : (stay : Bool) (content : List ℕ) → ((fact : Fact) → IsTextOf fact content → stay ≡ stays forgotten fact) → (fact : Fact) → IsTextOf fact content
      → AreTexts (left_of_one forgotten fact) (if stay then content ∷ [] else [])
  stay_texts stay content told fact is =
      subst (λ (l : List Fact). AreTexts l (if stay then content ∷ [] else []))
      (ap (λ (b : Bool). if b then fact ∷ [] else []) (told fact is) ∙ sym (left_is fact.second fact.what (forgotten fact.second)))
      (where_texts fact content is stay)

  -- the records appended for one
  pub put_from : {E : Type 0} (stay : Bool) (content old new : List ℕ) (result : Result ℕ E) → ((fact : Fact) → IsTextOf fact content → stay ≡ stays forgotten fact)
      → IfOk result (IsPut (if stay then content ∷ [] else []) old new) → IfOk result (IsPutOf forgotten content old new)
  put_from stay content old new (Ok n) told put = record {
    left = if stay then content ∷ [] else [];
    text_is = put.text_is;
    texts = stay_texts stay content told;
    small = put.small;
    counted = put.counted;
    few = put.few;
  }
  put_from stay content old new (Err failure) told put = tt

  -- ALL OF THEM

  text_join : (records others : List (List ℕ)) → records_text (records ++ others) ≡ records_text records ++ records_text others
  text_join [] others = refl
  text_join (c ∷ cs) others = ap (λ (l : List ℕ). record_text c ++ l) (text_join cs others) ∙ sym (append_assoc (record_text c) (records_text cs) (records_text others))

  pub put_more : (records : List (List ℕ)) (k : ℕ) (content old mid new : List ℕ) (count more : ℕ) → k < length records → content ≡ get_or records k content
      → IsPutAll forgotten records k old mid count → IsPutOf forgotten content mid new more → IsPutAll forgotten records (k + 1) old new (count + more)
  put_more records k content old mid new count more within is before one = record {
    left = before.left ++ one.left;
    text_is = one.text_is ∙ ap (λ (l : List ℕ). l ++ records_text one.left) before.text_is ∙ append_assoc old (records_text before.left) (records_text one.left) ∙ ap (λ (l : List ℕ). old ++ l) (sym (text_join before.left one.left));
    texts = λ facts are. all facts are;
    small = All-append (λ (one : List ℕ). length one < 2 ^ 32) before.left one.left before.small one.small;
    counted = omega (arith, before.counted, one.counted, length-append before.left one.left);
    few = omega (arith, before.few, one.few);
  }
    where
      all : (facts : List Fact) → AreTexts facts records → AreTexts (left_of forgotten (take (k + 1) facts)) (before.left ++ one.left)
      all facts are =
          let at = fact_at facts records k content are within is in
          let plus : suc k ≡ k + 1 = omega arith in
          let facts_are : left_of forgotten (take k facts) ++ left_of_one forgotten at.fact ≡ left_of forgotten (take (k + 1) facts) =
          sym (left_then (take k facts) at.fact) ∙ ap (left_of forgotten) (sym at.taken) ∙ ap (λ (n : ℕ). left_of forgotten (take n facts)) plus in
          subst (λ (l : List Fact). AreTexts l (before.left ++ one.left)) facts_are
          (texts_join (left_of forgotten (take k facts)) (left_of_one forgotten at.fact) before.left one.left (before.texts facts are) (one.texts at.fact at.is_text))

  pub none_put : (records : List (List ℕ)) (old : List ℕ) → IsPutAll forgotten records 0 old old 0
  none_put records old = record {
    left = [];
    text_is = sym (append-nil old);
    texts = λ facts are. tt;
    small = All-nil (λ (one : List ℕ). length one < 2 ^ 32);
    counted = refl;
    few = omega arith;
  }

pub one_put : {E : Type 0} (put old new : List ℕ) (result : Result ℕ E) → IfOk result (λ n. n ≡ 1) → IfOk result (λ n. new ≡ old ++ (record_text put ++ [])) → IfOk result (λ n. length put < 2 ^ 32) → IfOk result (IsPut (put ∷ []) old new)
one_put put old new (Ok n) one text small = record {
  text_is = text;
  small = All-cons (λ (x : List ℕ). length x < 2 ^ 32) put [] small (All-nil (λ (x : List ℕ). length x < 2 ^ 32));
  counted = one;
  few = omega (arith, one);
}
one_put put old new (Err failure) one text small = tt
