-- What is left of records, put behind a text.
use Rattle.std.proofs.Common.{◌≡◌, ◌∙◌, ℕ, suc, ◌+◌, ◌<◌, ◌^◌, Bool, true, false, List, [], ◌∷◌, ◌++◌, length, take, get_or, Result, Ok, Err, IfOk, refl, sym, ap, subst, arith, append_assoc, length-append}
use Rattle.std.specs.Prelude.{if◌then◌else◌}
use Rattle.std.proofs.lemmas.List.{append-nil}
use Rattle.std.proofs.lemmas.List.Elements.{All-nil, All-cons, All-append}
use Rattle.ksi_aggtree.specs.declared.entries.Entry.{Entry}
use Rattle.ksi_signature.specs.declared.above.Above.{Above}
use Rattle.ksi_schedule.specs.Plans.{PlanState}
use Rattle.ksi_schedule.specs.Printed.{line_of}
use Rattle.ksi_aggregator.specs.declared.fact.RoundFact.{RoundFact}
use Rattle.ksi_aggregator.specs.declared.fact.RoundFact.TheVariants.{Closed, Answered}
use Rattle.ksi_aggregator.specs.declared.fact.Fact.{Fact}
use Rattle.ksi_aggregator.specs.Rounds.{fact_of}
use Rattle.ksi_disk.specs.Gates.{record_text, records_text}
use Rattle.ksi_wire.specs.RoundLines.{round_words}
use Rattle.ksi_roundstore.specs.Written.{AreTexts, IsLine, IsTextOf, IsWritten}
use Rattle.ksi_roundstore.specs.declared.kind.Kind.{Kind}
use Rattle.ksi_roundstore.specs.declared.stays.Stays.{Stays}
use Rattle.ksi_roundstore.specs.declared.stays.Stays.TheVariants as stay
use Rattle.ksi_roundstore.specs.Left.{left_of, left_of_one, what_is_left}
use Rattle.ksi_roundstore.specs.Kinds.{IsEnded, IsPut, IsPutAll, IsPutOf, kind_of, records_stay, stays}
use Rattle.ksi_roundstore.proofs.Leaving.{left_then}
use Rattle.ksi_roundstore.proofs.Onward.{texts_join}
use Rattle.ksi_roundstore.proofs.Telling.{fact_at, fact_ends, last_event}

module _ (plan : PlanState) (me : ℕ) where
  -- CUT BY CUT: a closing, or a response, of a round that is forgotten or not

  closing_stays : (second : ℕ) (items : List Entry) (content last : List ℕ) → IsTextOf plan me (fact_of second (Closed items)) content → IsTextOf plan me (fact_of second (Closed [])) last
      → (b : Bool) → AreTexts plan me (if b then what_is_left second (Closed items) else fact_of second (Closed items) ∷ []) (records_stay (if b then stay.LastLine else stay.Whole) content last)
  closing_stays second items content last is last_is true = (last_is, tt)
  closing_stays second items content last is last_is false = (is, tt)

  response_stays : (second : ℕ) (above : Above) (content last : List ℕ) → IsTextOf plan me (fact_of second (Answered above)) content
      → (b : Bool) → AreTexts plan me (if b then what_is_left second (Answered above) else fact_of second (Answered above) ∷ []) (records_stay (if b then stay.Nothing else stay.Whole) content last)
  response_stays second above content last is true = tt
  response_stays second above content last is false = (is, tt)

  pub what_stays : (forgotten : ℕ → Bool) (second : ℕ) (what : RoundFact) (content last : List ℕ) → IsTextOf plan me (fact_of second what) content
      → last ≡ line_of (round_words (last_event (fact_of second what))) ++ 10 ∷ [] → IsWritten plan me (last_event (fact_of second what))
      → AreTexts plan me (left_of_one forgotten (fact_of second what)) (records_stay (stays forgotten (kind_of (fact_of second what))) content last)
  what_stays forgotten second (Closed items) content last is last_is written =
      closing_stays second items content last is (record { written = (written, tt); text = last_is }) (forgotten second)
  what_stays forgotten second (Answered above) content last is last_is written = response_stays second above content last is (forgotten second)

  -- what is put for a record, by what stays of it
  pub put_of : (forgotten : ℕ → Bool) (content last : List ℕ) (kind : Kind) (s : Stays) → ((fact : Fact) → IsTextOf plan me fact content → kind ≡ kind_of fact) → s ≡ stays forgotten kind
      → ((front text : List ℕ) → content ≡ front ++ (text ++ 10 ∷ []) → IsEnded front → IsLine text → last ≡ text ++ 10 ∷ [])
      → (fact : Fact) → IsTextOf plan me fact content → AreTexts plan me (left_of_one forgotten fact) (records_stay s content last)
  put_of forgotten content last kind s told stayed cut fact is =
      let ends = fact_ends plan me fact content is in
      let last_is = cut ends.front (line_of (round_words (last_event fact))) ends.text_is ends.ended ends.written.line in
      subst (λ (x : Stays). AreTexts plan me (left_of_one forgotten fact) (records_stay x content last)) (sym (stayed ∙ ap (stays forgotten) (told fact is)))
      (what_stays forgotten fact.second fact.what content last is last_is ends.written)

  -- ALL OF THEM

  text_join : (records others : List (List ℕ)) → records_text (records ++ others) ≡ records_text records ++ records_text others
  text_join [] others = refl
  text_join (c ∷ cs) others = ap (λ (l : List ℕ). record_text c ++ l) (text_join cs others) ∙ sym (append_assoc (record_text c) (records_text cs) (records_text others))

  pub put_more : (forgotten : ℕ → Bool) (records : List (List ℕ)) (k : ℕ) (content old mid new : List ℕ) (count more : ℕ) → k < length records → content ≡ get_or records k content
      → IsPutAll plan me forgotten records k old mid count → IsPutOf plan me forgotten content mid new more → IsPutAll plan me forgotten records (k + 1) old new (count + more)
  put_more forgotten records k content old mid new count more within is before one = record {
    left = before.left ++ one.left;
    text_is = one.text_is ∙ ap (λ (l : List ℕ). l ++ records_text one.left) before.text_is ∙ append_assoc old (records_text before.left) (records_text one.left) ∙ ap (λ (l : List ℕ). old ++ l) (sym (text_join before.left one.left));
    texts = λ facts are. all facts are;
    small = All-append (λ (one : List ℕ). length one < 2 ^ 32) before.left one.left before.small one.small;
    counted = omega (arith, before.counted, one.counted, length-append before.left one.left);
    few = omega (arith, before.few, one.few);
  }
    where
      all : (facts : List Fact) → AreTexts plan me facts records → AreTexts plan me (left_of forgotten (take (k + 1) facts)) (before.left ++ one.left)
      all facts are =
          let at = fact_at plan me facts records k content are within is in
          let plus : suc k ≡ k + 1 = omega arith in
          let facts_are : left_of forgotten (take k facts) ++ left_of_one forgotten at.fact ≡ left_of forgotten (take (k + 1) facts) =
          sym (left_then forgotten (take k facts) at.fact) ∙ ap (left_of forgotten) (sym at.taken) ∙ ap (λ (n : ℕ). left_of forgotten (take n facts)) plus in
          subst (λ (l : List Fact). AreTexts plan me l (before.left ++ one.left)) facts_are
          (texts_join plan me (left_of forgotten (take k facts)) (left_of_one forgotten at.fact) before.left one.left (before.texts facts are) (one.texts at.fact at.is_text))

  pub none_put : (forgotten : ℕ → Bool) (records : List (List ℕ)) (old : List ℕ) → IsPutAll plan me forgotten records 0 old old 0
  none_put forgotten records old = record {
    left = [];
    text_is = sym (append-nil old);
    texts = λ facts are. tt;
    small = All-nil (λ (one : List ℕ). length one < 2 ^ 32);
    counted = refl;
    few = omega arith;
  }

  -- what was put for one
  pub put_from : {E : Type 0} (forgotten : ℕ → Bool) (content last old new : List ℕ) (kind : Kind) (s : Stays) (result : Result ℕ E) → ((fact : Fact) → IsTextOf plan me fact content → kind ≡ kind_of fact) → s ≡ stays forgotten kind
      → ((front text : List ℕ) → content ≡ front ++ (text ++ 10 ∷ []) → IsEnded front → IsLine text → last ≡ text ++ 10 ∷ [])
      → IfOk result (IsPut (records_stay s content last) old new) → IfOk result (IsPutOf plan me forgotten content old new)
  put_from forgotten content last old new kind s (Ok n) told stayed cut put = record {
    left = records_stay s content last;
    text_is = put.text_is;
    texts = put_of forgotten content last kind s told stayed cut;
    small = put.small;
    counted = put.counted;
    few = put.few;
  }
  put_from forgotten content last old new kind s (Err failure) told stayed cut put = tt

pub one_put : {E : Type 0} (put old new : List ℕ) (result : Result ℕ E) → IfOk result (λ n. n ≡ 1) → IfOk result (λ n. new ≡ old ++ (record_text put ++ [])) → IfOk result (λ n. length put < 2 ^ 32) → IfOk result (IsPut (put ∷ []) old new)
one_put put old new (Ok n) one text small = record {
  text_is = text;
  small = All-cons (λ (x : List ℕ). length x < 2 ^ 32) put [] small (All-nil (λ (x : List ℕ). length x < 2 ^ 32));
  counted = one;
  few = omega (arith, one);
}
one_put put old new (Err failure) one text small = tt
