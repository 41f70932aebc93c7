-- Each step of a round is what is seen of it.
use Rattle.std.proofs.Common.{◌≡◌, ℕ, true, false, is_some, List, [], ◌∷◌, ◌++◌, refl, sym, ap, ◌∙◌, Option, Some, None}
use Rattle.std.proofs.lemmas.Bool.{cond_both}
use Rattle.ksi_aggtree.specs.declared.item.Item.{Item}
use Rattle.ksi_aggtree.specs.declared.entries.Entry.{Entry}
use Rattle.ksi_aggtree.specs.Entries.{has_from, is_full}
use Rattle.ksi_signature.specs.declared.above.Above.{Above}
use Rattle.ksi_signature.specs.declared.answer.Answer.TheVariants as answers
use Rattle.ksi_aggregator.specs.Rows.{RoundState, RoundTurn, fresh_round, round_still, round_request, round_submission, submitted_entry, round_close, closed_now, round_response, response_where, round_restarted}
use Rattle.ksi_laws_facts.specs.Deeds.{Act, Deed, Accepted, Closed, Answered, Restarted, numbered, where_done}
use Rattle.ksi_laws_facts.proofs.Standing.{IsRoundSo, did}

pub none_is : {A : Type 0} (o : Option A) → is_some o ≡ false → o ≡ None
none_is None e = refl
none_is (Some x) e = absurd (cc e)

some_is : {A : Type 0} (o : Option A) → is_some o ≡ true → (x : A) × (o ≡ Some x)
some_is None e = absurd (cc e)
some_is (Some x) e = (x, refl)

module _ (t : ℕ) (ds : List Deed) (r : RoundState) (so : IsRoundSo ds r) where
  abbrev After : List Act → RoundState → Type 0
  After whats r' = IsRoundSo (did t whats ++ ds) r'

  -- an open round with one item more
  more : (new : Entry) → r.closed ≡ None → After (Accepted new ∷ []) (record { open_items = r.open_items ++ new ∷ []; closed = r.closed; answered = r.answered })
  more new none = record {
    kept = record { closed = so.kept.closed; answered = so.kept.answered };
    open_is = ap (λ (es : List Entry). es ++ new ∷ []) so.open_is;
    blank = so.blank;
    shut = λ items is. absurd (cc (none, is));
  }

  pub request_so : (number : ℕ) (imprint : List ℕ) (name : Option (List ℕ)) → After (numbered imprint name (round_request number imprint name r).answer) (round_request number imprint name r).after
  unfolding round_request
  request_so number imprint name =
      cond_both (is_some r.closed) _ _ P (λ _. so)
      (λ none. cond_both (is_full r.open_items) _ _ P (λ _. so)
      (λ _. more _ (none_is r.closed none)))
    where
      P : RoundTurn → Type 0
      P turn = After (numbered imprint name turn.answer) turn.after

  pub submission_so : (from : ℕ) (item : Item) → After (where_done (round_submission from item r).answer (Accepted (submitted_entry from item))) (round_submission from item r).after
  unfolding round_submission
  submission_so from item =
      cond_both (is_some r.closed) _ _ P (λ _. so)
      (λ none. cond_both (has_from from r.open_items) _ _ P (λ _. so)
      (λ _. cond_both (is_full r.open_items) _ _ P (λ _. so)
      (λ _. more _ (none_is r.closed none))))
    where
      P : RoundTurn → Type 0
      P turn = After (where_done turn.answer (Accepted (submitted_entry from item))) turn.after

  pub close_so : (image : List ℕ → List ℕ) (items : List Entry) → r.open_items ≡ items → After (where_done (round_close image r).answer (Closed items)) (round_close image r).after
  unfolding round_close
  close_so image items is = cond_both (is_some r.closed) (round_still r answers.Closed) (closed_now image r) P (λ _. so) (λ _. record {
    kept = record { closed = ap (λ (es : List Entry). Some es) is; answered = so.kept.answered };
    open_is = refl;
    blank = λ none. absurd (cc none);
    shut = λ items is. refl;
  })
    where
      P : RoundTurn → Type 0
      P turn = After (where_done turn.answer (Closed items)) turn.after

  pub response_so : (image : List ℕ → List ℕ) (above : Above) → After (where_done (round_response image above r).answer (Answered above)) (round_response image above r).after
  unfolding round_response
  response_so image above = by r.closed refl r.answered
    where
      P : RoundTurn → Type 0
      P turn = After (where_done turn.answer (Answered above)) turn.after

      by : (closed : Option (List Entry)) → r.closed ≡ closed → (answered : Option Above) → P (response_where image above closed answered r)
      by None is answered = so
      by (Some []) is answered = so
      by (Some (e ∷ es)) is (Some first) = so
      by (Some (e ∷ es)) is None = record {
        kept = record { closed = so.kept.closed; answered = refl };
        open_is = so.open_is;
        blank = λ none. absurd (cc (is, none));
        shut = so.shut;
      }

  pub restart_so : IsRoundSo (Restarted ∷ ds) (round_restarted r)
  restart_so = cond_both (is_some r.closed) r fresh_round (λ (r : RoundState). IsRoundSo (Restarted ∷ ds) r)
      (λ some. let items = some_is r.closed some in record { kept = record { closed = so.kept.closed; answered = so.kept.answered }; open_is = so.shut items.0 items.1; blank = so.blank; shut = so.shut })
      (λ none. let is = none_is r.closed none in record {
        kept = record { closed = sym is ∙ so.kept.closed; answered = sym (so.blank is) ∙ so.kept.answered };
        open_is = refl;
        blank = λ _. refl;
        shut = λ items some. absurd (cc some);
      })
