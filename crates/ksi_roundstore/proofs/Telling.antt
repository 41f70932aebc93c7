-- What the last line of a record tells of its fact.
use Rattle.std.proofs.Common.{◌≡◌, ◌∙◌, ℕ, zero, suc, ◌+◌, ◌<◌, ◌≤◌, ◌==◌, Bool, true, false, List, [], ◌∷◌, ◌++◌, map, length, take, get_or, Some, Result, Ok, Err, IfOk, refl, sym, ap, subst, arith, inl, inr, append_assoc}
use Rattle.std.specs.Prelude.{◌||◌, is_some, if◌then◌else◌}
use Rattle.std.specs.List.{AllByRecursion}
use Rattle.ksi_schedule.specs.Plans.{PlanState}
use Rattle.ksi_schedule.specs.Printed.{line_of}
use Rattle.ksi_aggregator.specs.declared.event.RoundEvent.{RoundEvent}
use Rattle.ksi_aggregator.specs.declared.event.RoundEvent.TheVariants as events
use Rattle.ksi_aggregator.specs.declared.fact.RoundFact.{RoundFact}
use Rattle.ksi_aggregator.specs.declared.fact.RoundFact.TheVariants.{Closed, Answered}
use Rattle.ksi_aggregator.specs.declared.fact.Fact.{Fact}
use Rattle.ksi_aggregator.specs.Facts.{StableRound, with_fact, with_what}
use Rattle.ksi_aggregator.specs.Rounds.{fact_of}
use Rattle.ksi_aggregator.specs.Lawful.{stored_by}
use Rattle.ksi_wire.specs.declared.event.AggregatorLine.{AggregatorLine}
use Rattle.ksi_wire.specs.declared.event.AggregatorLine.TheVariants as lines
use Rattle.ksi_wire.specs.AskedRounds.{aggregator_line_of}
use Rattle.ksi_wire.specs.RoundLines.{round_words}
use Rattle.ksi_roundstore.specs.Texts.{event_of, lines_of}
use Rattle.ksi_roundstore.specs.Written.{AreTexts, IsLine, IsTextOf, IsWritten}
use Rattle.ksi_roundstore.specs.declared.kind.Kind.{Kind}
use Rattle.ksi_roundstore.specs.Kinds.{IsEnded, answers, kind_of, kind_of_line}

-- THE LAST EVENT OF A FACT

abbrev pub last_of : (second : ℕ) → RoundFact → RoundEvent
last_of second (Closed items) = events.Close second
last_of second (Answered above) = events.Response second above

abbrev pub last_event : Fact → RoundEvent
last_event fact = last_of fact.second fact.what

-- a content ends in the line of the last event of a fact
pub record EndsIn (plan : PlanState) (me : ℕ) (fact : Fact) (content : List ℕ) : Type 0 where
  pub front : List ℕ
  pub text_is : content ≡ front ++ (line_of (round_words (last_event fact)) ++ 10 ∷ [])
  pub ended : IsEnded front
  pub written : IsWritten plan me (last_event fact)

lines_ended : (list : List RoundEvent) → IsEnded (lines_of list)
lines_ended [] = inl refl
lines_ended (event ∷ list) = by (lines_of list) (lines_ended list)
  where
    by : (behind : List ℕ) → IsEnded behind → IsEnded (line_of (round_words event) ++ 10 ∷ behind)
    by behind (inl nothing) = inr (line_of (round_words event), ap (λ (l : List ℕ). line_of (round_words event) ++ 10 ∷ l) nothing)
    by behind (inr (rest, is)) = inr (
      line_of (round_words event) ++ 10 ∷ rest,
      ap (λ (l : List ℕ). line_of (round_words event) ++ 10 ∷ l) is ∙ sym (append_assoc (line_of (round_words event)) (10 ∷ rest) (10 ∷ [])),
    )

module _ (plan : PlanState) (me : ℕ) where
  last_written : (list : List RoundEvent) (last : RoundEvent) → AllByRecursion (IsWritten plan me) (list ++ last ∷ []) → IsWritten plan me last
  last_written [] last are = are.0
  last_written (event ∷ list) last are = last_written list last are.1

  what_ends : (second : ℕ) (what : RoundFact) (content : List ℕ) → IsTextOf plan me (fact_of second what) content → EndsIn plan me (fact_of second what) content
  what_ends second (Closed items) content is = record {
    front = lines_of (map (event_of second) items);
    text_is = is.text;
    ended = lines_ended (map (event_of second) items);
    written = last_written (map (event_of second) items) (events.Close second) is.written;
  }
  what_ends second (Answered above) content is = record { front = []; text_is = is.text; ended = inl refl; written = is.written.0 }

  pub fact_ends : (fact : Fact) (content : List ℕ) → IsTextOf plan me fact content → EndsIn plan me fact content
  fact_ends fact content is = what_ends fact.second fact.what content is

  kind_again : (second : ℕ) (what : RoundFact) → kind_of_line (lines.Event (last_of second what)) ≡ kind_of (fact_of second what)
  kind_again second (Closed items) = refl
  kind_again second (Answered above) = refl

  -- what is told of the record of a fact
  pub kind_told : {E : Type 0} (content tail line : List ℕ) (kind : Result Kind E)
      → ((front text : List ℕ) → content ≡ front ++ (text ++ 10 ∷ []) → IsEnded front → IsLine text → tail ≡ text ++ 10 ∷ [])
      → ((text : List ℕ) → tail ≡ text ++ 10 ∷ [] → line ≡ text)
      → IfOk kind (λ k. (told : AggregatorLine) → aggregator_line_of plan me line ≡ Ok told → k ≡ kind_of_line told)
      → IfOk kind (λ k. (fact : Fact) → IsTextOf plan me fact content → k ≡ kind_of fact)
  kind_told content tail line (Ok k) cut bare told = λ fact is.
      let ends = fact_ends fact content is in
      let text = line_of (round_words (last_event fact)) in
      let line_is : line ≡ text = bare text (cut ends.front text ends.text_is ends.ended ends.written.line) in
      told (lines.Event (last_event fact)) (ap (λ (l : List ℕ). aggregator_line_of plan me l) line_is ∙ ends.written.asked) ∙ kind_again fact.second fact.what
  kind_told content tail line (Err failure) cut bare told = tt

  -- FACTS AND RECORDS AT THEIR PLACES

  pub record FactAt (facts : List Fact) (k : ℕ) (content : List ℕ) : Type 0 where
    pub fact : Fact
    pub is_text : IsTextOf plan me fact content
    pub taken : take (suc k) facts ≡ take k facts ++ fact ∷ []

  pub fact_at : (facts : List Fact) (records : List (List ℕ)) (k : ℕ) (content : List ℕ) → AreTexts plan me facts records → k < length records → content ≡ get_or records k content → FactAt facts k content
  fact_at [] [] k content are within is = absurd (omega arith)
  fact_at [] (c ∷ cs) k content are within is = absurd are
  fact_at (f ∷ fs) [] k content are within is = absurd are
  fact_at (f ∷ fs) (c ∷ cs) zero content are within is = record { fact = f; is_text = subst (λ (x : List ℕ). IsTextOf plan me f x) (sym is) are.0; taken = refl }
  fact_at (f ∷ fs) (c ∷ cs) (suc k) content are within is =
      let rest = fact_at fs cs k content are.1 (omega arith) is in
      record { fact = rest.fact; is_text = rest.is_text; taken = ap (λ (l : List Fact). f ∷ l) rest.taken }

pub take_whole : (facts : List Fact) (k : ℕ) → length facts ≤ k → take k facts ≡ facts
take_whole [] zero all = refl
take_whole [] (suc k) all = refl
take_whole (f ∷ fs) zero all = absurd (omega arith)
take_whole (f ∷ fs) (suc k) all = ap (λ (l : List Fact). f ∷ l) (take_whole fs k (omega arith))

-- WHICH ROUNDS HAVE A RESPONSE

answered_with : (second : ℕ) (what : RoundFact) (t : ℕ) (s : StableRound) → is_some (with_fact (Some (fact_of second what)) t s).answered ≡ (answers (kind_of (fact_of second what)) t || is_some s.answered)
answered_with second (Closed items) t s = by (t == second)
  where
    by : (b : Bool) → is_some (if b then with_what (Closed items) s else s).answered ≡ is_some s.answered
    by true = refl
    by false = refl
answered_with second (Answered above) t s = by (t == second)
  where
    by : (b : Bool) → is_some (if b then with_what (Answered above) s else s).answered ≡ (b || is_some s.answered)
    by true = refl
    by false = refl

-- one record more was noted
pub noted_more : (plan : PlanState) (me : ℕ) (stored_more : (facts : List Fact) (fact : Fact) (t : ℕ) → stored_by (facts ++ fact ∷ []) t ≡ with_fact (Some fact) t (stored_by facts t))
    → (facts : List Fact) (records : List (List ℕ)) (k : ℕ) (content : List ℕ) → AreTexts plan me facts records → k < length records → content ≡ get_or records k content
    → (old new : ℕ → Bool) → ((t : ℕ) → old t ≡ is_some (stored_by (take k facts) t).answered)
    → ((fact : Fact) → IsTextOf plan me fact content → (t : ℕ) → new t ≡ (answers (kind_of fact) t || old t))
    → (t : ℕ) → new t ≡ is_some (stored_by (take (k + 1) facts) t).answered
noted_more plan me stored_more facts records k content are within is old new before now t =
    let at = fact_at plan me facts records k content are within is in
    let plus : suc k ≡ k + 1 = omega arith in
    now at.fact at.is_text t
    ∙ ap (λ (b : Bool). answers (kind_of at.fact) t || b) (before t)
    ∙ sym (answered_with at.fact.second at.fact.what t (stored_by (take k facts) t))
    ∙ ap (λ (s : StableRound). is_some s.answered) (sym (stored_more (take k facts) at.fact t))
    ∙ ap (λ (l : List Fact). is_some (stored_by l t).answered) (sym at.taken)
    ∙ ap (λ (n : ℕ). is_some (stored_by (take n facts) t).answered) plus
