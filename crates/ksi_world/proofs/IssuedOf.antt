-- What is issued of a request, as a function and as relations.
use Rattle.std.proofs.Common.{◌≡◌, ℕ, zero, suc, ◌+◌, zero-add, true, false, List, [], ◌∷◌, refl, sym, ap, subst, ◌∙◌, arith, ◌⊎◌, inl, inr, Option, Some, None}
use Rattle.std.specs.Prelude.{slice_get, option_map, IfSome, IfNone, IfOk, Result, Ok, Err}
use Rattle.std.proofs.lemmas.Bool.{cases_Bool, cond-true, cond-false, eqb-true, eq-eqb}
use Rattle.ksi_aggtree.specs.declared.item.Item.{Item}
use Rattle.ksi_aggtree.specs.declared.entries.Entry.{Entry}
use Rattle.ksi_aggtree.specs.declared.entries.Origin.{Origin}
use Rattle.ksi_aggtree.specs.declared.entries.Origin.TheVariants as origins
use Rattle.ksi_signature.specs.declared.above.Above.{Above}
use Rattle.ksi_aggregator.specs.Rows.{RoundState}
use Rattle.ksi_aggregator.specs.Issuing.{from_request, issued_text, IsIssuedAt, IsIssued, NotIssued}
use Rattle.ksi_world.specs.declared.outcome.Asked.{Asked}
use Rattle.ksi_world.specs.Histories.{WorldState}
use Rattle.ksi_world.specs.Records.{is_request, placed_from, issued_where, issued_for, issued_of, IsIssuedOf, NotIssuedOf}
use Rattle.ksi_world.proofs.Fitting.{same_function}
use Rattle.ksi_world.proofs.Numbered.{AreRequested, IsNumbered, asked_at}

-- THE PLACE OF A REQUEST'S ITEM

request_is : (number : ℕ) (e : Entry) → is_request number e.origin ≡ true → e ≡ from_request number e.item
request_is number e is = ap (λ (o : Origin). record { origin = o; item = e.item }) (by e.origin is)
  where
    by : (o : Origin) → is_request number o ≡ true → o ≡ origins.Request number
    by (origins.Request n) is = ap (λ n. origins.Request n) (eqb-true n number is)
    by (origins.Aggregator from) is = absurd (cc is)

is_of : (number : ℕ) (e : Entry) (item : Item) → e ≡ from_request number item → is_request number e.origin ≡ true
is_of number e item same = ap (λ (e : Entry). is_request number e.origin) same ∙ eq-eqb number number refl

-- what is placed stands there
placed_there : (number place : ℕ) (entries : List Entry) (x : ℕ × Item) → placed_from number place entries ≡ Some x → (k : ℕ) × (x.0 ≡ place + k) × (slice_get entries k ≡ Some (from_request number x.1))
placed_there number place [] x is = absurd (cc is)
placed_there number place (e ∷ es) x is = by (cases_Bool (is_request number e.origin)) (placed_there number (suc place) es x)
  where
    by : ((is_request number e.origin ≡ true) ⊎ (is_request number e.origin ≡ false)) →
        (placed_from number (suc place) es ≡ Some x → (k : ℕ) × (x.0 ≡ suc place + k) × (slice_get es k ≡ Some (from_request number x.1))) →
        (k : ℕ) × (x.0 ≡ place + k) × (slice_get (e ∷ es) k ≡ Some (from_request number x.1))
    by (inl here) later =
        let same : (place, e.item) ≡ x = cc (sym (cond-true (is_request number e.origin) (Some (place, e.item)) (placed_from number (suc place) es) here) ∙ is) in
        let at : place ≡ x.0 = ap (λ (x : ℕ × Item). x.0) same in
        (0, omega (arith, at), ap Some (request_is number e here) ∙ ap (λ (x : ℕ × Item). Some (from_request number x.1)) same)
    by (inr other) later =
        let r = later (sym (cond-false (is_request number e.origin) (Some (place, e.item)) (placed_from number (suc place) es) other) ∙ is) in
        (suc r.0, omega (arith, r.1), r.2)

-- the item that stands once is the one that is placed
placed_is : (number place : ℕ) (entries : List Entry) (k : ℕ) (item : Item) → ((i j : ℕ) (x y : Item) → slice_get entries i ≡ Some (from_request number x) → slice_get entries j ≡ Some (from_request number y) → i ≡ j) →
    slice_get entries k ≡ Some (from_request number item) → placed_from number place entries ≡ Some (place + k, item)
placed_is number place [] k item once at = absurd (cc at)
placed_is number place (e ∷ es) zero item once at =
    let same : e ≡ from_request number item = cc at in
    let zero_more : place ≡ place + 0 = omega arith in
    cond-true (is_request number e.origin) (Some (place, e.item)) (placed_from number (suc place) es) (is_of number e item same)
    ∙ ap (λ (e : Entry). Some (place, e.item)) same
    ∙ ap (λ k. Some (k, item)) zero_more
placed_is number place (e ∷ es) (suc k) item once at = elim (cases_Bool (is_request number e.origin)) [
  | inl here ↦ absurd (cc (once 0 (suc k) e.item item (ap Some (request_is number e here)) at))
  | inr other ↦
      let more : suc place + k ≡ place + suc k = omega arith in
      cond-false (is_request number e.origin) (Some (place, e.item)) (placed_from number (suc place) es) other
      ∙ placed_is number (suc place) es k item (λ i j x y first second. let same = once (suc i) (suc j) x y first second in omega (arith, same)) at
      ∙ ap (λ k. Some (k, item)) more
]

module _ (image : List ℕ → List ℕ) (w : WorldState) (number : ℕ) where
  -- what the function has is issued
  module _ (asked : Asked) (accepted : slice_get w.requests number ≡ Some asked) where
    round : RoundState
    round = w.rounds asked.aggregator asked.second

    where_there : (bytes : List ℕ) (closed : Option (List Entry)) (answered : Option Above) → (w.rounds asked.aggregator asked.second).closed ≡ closed → (w.rounds asked.aggregator asked.second).answered ≡ answered →
        issued_where image asked.second number closed answered ≡ Some bytes → IsIssuedOf image w number bytes
    where_there bytes None answered c a is = absurd (cc is)
    where_there bytes (Some entries) None c a is = absurd (cc is)
    where_there bytes (Some entries) (Some above) c a is = by (placed_from number 0 entries) refl is
      where
        by : (o : Option (ℕ × Item)) → placed_from number 0 entries ≡ o → option_map (λ (placed : ℕ × Item). issued_text image asked.second entries placed.0 placed.1 above) o ≡ Some bytes → IsIssuedOf image w number bytes
        by None none is = absurd (cc is)
        by (Some x) some is =
            let r = placed_there number 0 entries x some in
            let at : x.0 ≡ r.0 = omega (arith, r.1) in
            let text : issued_text image asked.second entries x.0 x.1 above ≡ bytes = cc is in
            record {
              asked = asked;
              accepted = accepted;
              issued = (
                asked.second,
                x.0,
                record {
                  entries = entries;
                  above = above;
                  item = x.1;
                  answered = record { closed = c; answered = a };
                  request = subst (λ k. slice_get entries k ≡ Some (from_request number x.1)) (sym at) r.2;
                  text = sym text;
                },
              );
            }

  pub issued_there : (bytes : List ℕ) → issued_of image w number ≡ Some bytes → IsIssuedOf image w number bytes
  unfolding issued_of
  issued_there bytes is = by (slice_get w.requests number) refl is
    where
      by : (o : Option Asked) → slice_get w.requests number ≡ o → issued_for image w number o ≡ Some bytes → IsIssuedOf image w number bytes
      by None none is = absurd (cc is)
      by (Some asked) some is = where_there asked some bytes (w.rounds asked.aggregator asked.second).closed (w.rounds asked.aggregator asked.second).answered refl refl is

  -- what is issued, the function has
  pub issued_is : IsNumbered w → (bytes : List ℕ) → IsIssuedOf image w number bytes → issued_of image w number ≡ Some bytes
  unfolding issued_of
  issued_is numbered bytes p =
      ap (issued_for image w number) p.accepted
      ∙ subst (λ t. issued_where image t number (w.rounds k t).closed (w.rounds k t).answered ≡ Some bytes) second_is (
      ap (λ closed. issued_where image t number closed (w.rounds k t).answered) at.answered.closed
      ∙ ap (λ answered. issued_where image t number (Some at.entries) answered) at.answered.answered
      ∙ ap (option_map (λ (placed : ℕ × Item). issued_text image t at.entries placed.0 placed.1 at.above)) placed
      ∙ sym (ap Some at.text))
    where
      k : ℕ
      k = p.asked.aggregator

      t : ℕ
      t = p.issued.0

      at : IsIssuedAt image (w.rounds p.asked.aggregator p.issued.0) number p.issued.0 p.issued.1 bytes
      at = p.issued.2

      are : AreRequested w.requests p.asked.aggregator p.issued.0 at.entries
      are = (numbered p.asked.aggregator p.issued.0).closed at.entries at.answered.closed

      placed : placed_from number 0 at.entries ≡ Some (p.issued.1, at.item)
      placed = placed_is number 0 at.entries p.issued.1 at.item (λ i j x y. are.once i j number x y) at.request ∙ ap (λ k. Some (k, at.item)) (zero-add p.issued.1)

      second_is : p.issued.0 ≡ p.asked.second
      second_is = let same : Some (asked_at p.asked.aggregator p.issued.0 at.item) ≡ Some p.asked = sym ((are.asked p.issued.1 number at.item at.request).asked) ∙ p.accepted in
          let asked_is : asked_at p.asked.aggregator p.issued.0 at.item ≡ p.asked = cc same in ap (λ (a : Asked). a.second) asked_is

  pub issued_exact : IsNumbered w → (found : Option (List ℕ)) → IfSome found (IsIssuedOf image w number) → IfNone found (NotIssuedOf w number) → found ≡ issued_of image w number
  issued_exact numbered (Some bytes) some none = sym (issued_is numbered bytes some)
  issued_exact numbered None some none = by (issued_of image w number) refl
    where
      by : (o : Option (List ℕ)) → issued_of image w number ≡ o → None ≡ o
      by None is = refl
      by (Some bytes) is = let p = issued_there bytes is in let at = p.issued.2 in
          absurd (none p.asked p.accepted p.issued.0 p.issued.1 at.entries at.above at.item at.answered at.request)

  pub none_asked : slice_get w.requests number ≡ None → None ≡ issued_of image w number
  unfolding issued_of
  none_asked none = sym (ap (issued_for image w number) none)

  -- by the aggregator that took the request
  module _ (numbered : IsNumbered w) (asked : Asked) (accepted : slice_get w.requests number ≡ Some asked) (rounds : ℕ → RoundState) (same : (t : ℕ) → rounds t ≡ w.rounds asked.aggregator t) where
    all_same : rounds ≡ w.rounds asked.aggregator
    all_same = same_function rounds (w.rounds asked.aggregator) same

    found_some : (bytes : List ℕ) → IsIssued image rounds number bytes → IsIssuedOf image w number bytes
    found_some bytes some = record { asked = asked; accepted = accepted; issued = subst (λ rounds. IsIssued image rounds number bytes) all_same some }

    found_none : NotIssued rounds number → NotIssuedOf w number
    found_none none other at =
        let is : asked ≡ other = cc (sym accepted ∙ at) in
        subst (λ (a : Asked). NotIssued (w.rounds a.aggregator) number) is (subst (λ rounds. NotIssued rounds number) all_same none)

    pub issued_result : {E : Type 0} → (r : Result (Option (List ℕ)) E) → IfOk r (λ found. IfSome found (IsIssued image rounds number)) → IfOk r (λ found. IfNone found (NotIssued rounds number)) →
        IfOk r (λ found. found ≡ issued_of image w number)
    issued_result (Ok (Some bytes)) some none = sym (issued_is numbered bytes (found_some bytes some))
    issued_result (Ok None) some none = issued_exact numbered None tt (found_none none)
    issued_result (Err e) some none = tt
