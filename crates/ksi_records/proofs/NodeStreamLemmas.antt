-- What a log comes to so far, and with one entry more.
use Rattle.std.proofs.Common.{◌≡◌, ℕ, List, [], ◌∷◌, Option, Some, None, IfSome, inl, inr, refl, subst}
use Rattle.ksi_records.specs.declared.blocks.place.Place.{Place}
use Rattle.ksi_schedule.specs.Pieces.{Text}
use Rattle.ksi_schedule.specs.Plans.{PlanState}
use Rattle.ksi_schedule.specs.declared.actor.Actor.{Actor}
use Rattle.ksi_wire.specs.declared.fault.WireFault.TheVariants.{Taken}
use Rattle.ksi_records.specs.declared.node.fault.LogFault.{LogFault}
use Rattle.ksi_records.specs.declared.node.fault.LogFault.TheVariants as faults
use Rattle.ksi_records.specs.declared.node.head.Head.{Head}
use Rattle.ksi_records.specs.declared.node.verdict.Verdict.{Verdict}
use Rattle.ksi_records.specs.declared.node.verdict.Verdict.TheVariants as verdicts
use Rattle.ksi_records.specs.Node.Entries.{Entry}
use Rattle.ksi_records.specs.Node.Runs.{NodeState, first_state, state_behind, IsTold, MayCome}
use Rattle.ksi_records.specs.Node.Steps.{IsWhole}
use Rattle.ksi_records.specs.Node.Verdicts.{Refused, StandsIn, HasVerdict, IsVerdict, first_place, place_behind}

module _ (image : List ℕ → List ℕ) (plan : PlanState) (me : Actor) where
  -- what is left is known, and its verdict from here on is that of the whole
  pub record IsSoFar (text : Text) (now : Option Text) (it : NodeState) (place : Place) : Type 0 where
    pub rest : Text
    pub left : now ≡ Some rest
    pub leads : (entries : List Entry) (verdict : Verdict) → IsVerdict image plan me it place entries rest verdict → (all : List Entry) × HasVerdict image plan me all text verdict

  pub starts : (known : Option Text) (place : Place) → place ≡ first_place → IfSome known (λ text. IsSoFar text known (first_state plan me) place)
  starts None place is = tt
  starts (Some text) place is = record {
    rest = text;
    left = refl;
    leads = λ entries verdict of_rest. (entries, subst (λ (place : Place). IsVerdict image plan me (first_state plan me) place entries text verdict) is of_rest);
  }

  -- one entry more
  pub goes_on : (first now later : Option Text) (it : NodeState) (place : Place) (line : Text) (head : Head) (block : Text) → IfSome first (λ text. IsSoFar text now it place)
      → IfSome now (λ bytes. IsWhole plan me bytes later line head block) → MayCome image plan it head → IsTold image plan it head block
      → IfSome first (λ text. IsSoFar text later (state_behind image plan it head) (place_behind place block))
  goes_on None now later it place line head block was is may told = tt
  goes_on (Some text) now later it place line head block was is may told =
      by later (subst (λ (now : Option Text). IfSome now (λ bytes. IsWhole plan me bytes later line head block)) was.left is)
    where
      by : (later : Option Text) → IsWhole plan me was.rest later line head block → IsSoFar text later (state_behind image plan it head) (place_behind place block)
      by None is = absurd is
      by (Some more) is = record {
        rest = more;
        left = refl;
        leads = λ entries verdict of_rest. was.leads (record { line = line; head = head; block = block } ∷ entries) verdict (more, is, may, told, of_rest);
      }

  -- a verdict, if there is a first text, is the verdict of some entries of that text
  abbrev pub Found : (first : Option Text) → Verdict → Type 0
  Found first verdict = IfSome first (λ text. (entries : List Entry) × HasVerdict image plan me entries text verdict)

  pub agrees : (first now : Option Text) (it : NodeState) (place : Place) → IfSome first (λ text. IsSoFar text now it place) → IfSome now (λ bytes. bytes ≡ []) → Found first (verdicts.Agrees place.entry)
  agrees None now it place was is = tt
  agrees (Some text) now it place was is =
      let none = subst (λ (now : Option Text). IfSome now (λ bytes. bytes ≡ [])) was.left is in
      was.leads [] (verdicts.Agrees place.entry) (none, refl)

  pub refuses : (first now : Option Text) (it : NodeState) (place : Place) (fault : LogFault) → IfSome first (λ text. IsSoFar text now it place)
      → IfSome now (λ bytes. StandsIn plan me bytes (Refused fault)) → Found first (verdicts.Refused fault place)
  refuses None now it place fault was is = tt
  refuses (Some text) now it place fault was is =
      let stands = subst (λ (now : Option Text). IfSome now (λ bytes. StandsIn plan me bytes (Refused fault))) was.left is in
      was.leads [] (verdicts.Refused fault place) (inl stands, refl)

  pub differs : (first now later : Option Text) (it : NodeState) (place : Place) (line : Text) (head : Head) (block : Text) → IfSome first (λ text. IsSoFar text now it place)
      → IfSome now (λ bytes. IsWhole plan me bytes later line head block) → MayCome image plan it head → (¬ IsTold image plan it head block) → Found first (verdicts.Differs place)
  differs None now later it place line head block was is may other = tt
  differs (Some text) now later it place line head block was is may other =
      by later (subst (λ (now : Option Text). IfSome now (λ bytes. IsWhole plan me bytes later line head block)) was.left is)
    where
      by : (later : Option Text) → IsWhole plan me was.rest later line head block → Found (Some text) (verdicts.Differs place)
      by None is = absurd is
      by (Some more) is = was.leads [] (verdicts.Differs place) (record { line = line; head = head; block = block }, more, is, may, other, refl)

  pub is_taken : (first now later : Option Text) (it : NodeState) (place : Place) (line : Text) (head : Head) (block : Text) → IfSome first (λ text. IsSoFar text now it place)
      → IfSome now (λ bytes. IsWhole plan me bytes later line head block) → (¬ MayCome image plan it head) → Found first (verdicts.Refused (faults.Line Taken) place)
  is_taken None now later it place line head block was is not = tt
  is_taken (Some text) now later it place line head block was is not =
      by later (subst (λ (now : Option Text). IfSome now (λ bytes. IsWhole plan me bytes later line head block)) was.left is)
    where
      by : (later : Option Text) → IsWhole plan me was.rest later line head block → Found (Some text) (verdicts.Refused (faults.Line Taken) place)
      by None is = absurd is
      by (Some more) is = was.leads [] (verdicts.Refused (faults.Line Taken) place) (inr (record { line = line; head = head; block = block }, more, is, not, refl), refl)
