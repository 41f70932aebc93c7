-- One line more is served; a failure is passed on.
use Rattle.std.proofs.Common.{◌≡◌, ℕ, List, [], ◌∷◌, ◌++◌, Option, Result, Ok, Err, IsErrAnd, refl, ap, sym, subst, append_assoc, append-nil, ◌∙◌}
use Rattle.std.specs.Io.KnownBytes.{Appends}
use Rattle.ksi_schedule.specs.Pieces.{Text}
use Rattle.std.proofs.KnownBytes.{Appends-trans}
use Rattle.ksi_node.specs.declared.failure.Failure.{Failure}
use Rattle.ksi_node.specs.Failures.{FaultsCounted}
use Rattle.ksi_node.specs.Inlet.{HaveCome}
use Rattle.ksi_node.specs.Serving.{ready_text, Answered, AreOutcomes, HasServed}

module _ {S : Type 0} (Outcome : Option Text → (before after : S) → Text → Type 0) where
  one_more : (lines : List (Option Text)) (line : Option Text) (before mid after : S) (said more : Text) → AreOutcomes Outcome lines before mid said → Outcome line mid after more → AreOutcomes Outcome (lines ++ line ∷ []) before after (said ++ more)
  one_more [] line before mid after said more are is =
      (after, more, [], subst (λ (it : S). Outcome line it after more) are.0 is, (refl, refl), ap (λ t. t ++ more) are.1 ∙ sym (append-nil more))
  one_more (first ∷ lines) line before mid after said more are is =
      (are.0, are.1, are.2 ++ more, are.3, one_more lines line are.0 mid after are.2 more are.4 is, ap (λ t. t ++ more) are.5 ∙ append_assoc are.1 are.2 more)

  pub served_first : (records : ℕ) (before : S) (told now : Option Text) → Appends told now (ready_text records) → HasServed Outcome records [] before before told now
  served_first records before told now said = record { said = []; outcomes = (refl, refl); appended = subst (λ t. Appends told now t) (sym (append-nil (ready_text records))) said }

  pub served_more : (records : ℕ) (lines : List (Option Text)) (line : Option Text) (before mid after : S) (told now later : Option Text)
      → HasServed Outcome records lines before mid told now → Answered Outcome line mid after now later → HasServed Outcome records (lines ++ line ∷ []) before after told later
  served_more records lines line before mid after told now later was is = record {
    said = was.said ++ is.0;
    outcomes = one_more lines line before mid after was.said is.0 was.outcomes is.1;
    appended = subst (λ t. Appends told later t) (append_assoc (ready_text records) was.said is.0) (Appends-trans told now later (ready_text records ++ was.said) is.0 was.appended is.2);
  }

-- what came so far was served
pub record Serving {S : Type 0} (Outcome : Option Text → (before after : S) → Text → Type 0) (records : ℕ) (input left : Option Text) (before after : S) (told now : Option Text) : Type 0 where
  pub lines : List (Option Text)
  pub came : HaveCome lines input left
  pub served : HasServed Outcome records lines before after told now

-- a failure that touched no disk is passed on
pub passed_on : {T : Type 0} (result : Result T Failure) (failure : Failure) (n : ℕ) → IsErrAnd result (λ e. e ≡ failure) → FaultsCounted {T = T} n n (Err failure) → FaultsCounted n n result
passed_on {T = T} (Ok value) failure n is was = absurd is
passed_on {T = T} (Err e) failure n is was = subst (λ f. FaultsCounted {T = T} n n (Err f)) (sym is) was
