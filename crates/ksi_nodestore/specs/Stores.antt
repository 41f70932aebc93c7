-- The meaning of a node file: the facts of a core, or where it is broken; and the result of opening one.
use Rattle.std.specs.Prelude.{◌≡◌, ◌⊎◌, ℕ, ◌+◌, List, [], ◌∷◌, ◌++◌, length, take, true, false, Bool, None, Ok, Err}
use Rattle.ksi_synod.specs.CorePlans.{CorePlanState}
use Rattle.ksi_corenode.specs.declared.fact.Fact.{Fact}
use Rattle.ksi_corenode.specs.CoreState.{CoreState}
use Rattle.ksi_corenode.specs.Lawful.{AreLawful, IsLawful, stored_by}
use Rattle.ksi_corenode.specs.Restored.{IsOfFacts}
use Rattle.ksi_disk.specs.declared.ending.Ending.TheVariants as ending
use Rattle.ksi_disk.specs.Gates.{reading_of, records_text}
use Rattle.ksi_nodestore.specs.declared.heads.HeaderFault.TheVariants as fault
use Rattle.ksi_nodestore.specs.Headers.{header_at}
use Rattle.ksi_nodestore.specs.Texts.{IsTextOf}
use Rattle.ksi_nodestore.specs.FactReading.{next_fact}

-- each record encodes the fact with the same index
abbrev pub AreTexts : List Fact → List (List ℕ) → Type 0
AreTexts [] [] = Unit {0}
AreTexts [] (content ∷ contents) = ⊥
AreTexts (fact ∷ facts) [] = ⊥
AreTexts (fact ∷ facts) (content ∷ contents) = IsTextOf fact content × AreTexts facts contents

-- the records encode these facts, each of which is valid after those before it
pub record AreFactsOf (cores start : ℕ) (facts : List Fact) (records : List (List ℕ)) : Type 0 where
  pub texts : AreTexts facts records
  pub lawful : AreLawful cores start facts

-- the first 18 bytes are a header of these numbers, which are in bounds or not
abbrev pub HasNumbers : List ℕ → (core cores start : ℕ) → Type 0
HasNumbers file core cores start =
    (header_at (take 18 file) ≡ Ok (record { core = core; cores = cores; start = start })) ⊎ (header_at (take 18 file) ≡ Err (fault.Bad core cores start))

-- a file of core me of a plan with these facts in its records, up to a closed commit byte; later bytes do not count
pub record IsFileOf (me : ℕ) (plan : CorePlanState) (facts : List Fact) (file : List ℕ) : Type 0 where
  pub gate : ℕ
  pub head : header_at (take 18 file) ≡ Ok (record { core = me; cores = plan.cores; start = plan.start })
  pub are : AreFactsOf plan.cores plan.start facts (reading_of 18 file).records
  pub closed : (reading_of 18 file).ending ≡ ending.Closed gate

-- the content does not encode a fact that is valid after these, and is refused
pub record HasNoFact (cores start : ℕ) (facts : List Fact) (content : List ℕ) : Type 0 where
  pub lawful : (fact : Fact) → IsTextOf fact content → IsLawful cores start (stored_by facts fact.second) fact → ⊥
  pub read : next_fact cores start facts content ≡ None

-- the record at this place does not encode a fact that is valid after those of the records before it
pub record IsFault (cores start : ℕ) (records : List (List ℕ)) (place : ℕ) : Type 0 where
  pub facts : List Fact
  pub before : List (List ℕ)
  pub content : List ℕ
  pub others : List (List ℕ)
  pub are : AreFactsOf cores start facts before
  pub split : records ≡ before ++ content ∷ others
  pub here : place ≡ 18 + length (records_text before)
  pub none : HasNoFact cores start facts content

-- a file is broken at this place: the record there encodes no valid fact, or the records do not end at a closed commit byte
abbrev pub IsMalformedAt : (cores start : ℕ) → List ℕ → (place : ℕ) → Type 0
IsMalformedAt cores start file place =
    IsFault cores start (reading_of 18 file).records place
    ⊎ ((facts : List Fact) × AreFactsOf cores start facts (reading_of 18 file).records × ((reading_of 18 file).ending ≡ ending.Broken place))

-- a core of facts takes a record: it is the core with that fact too, or the record encodes no valid fact
abbrev pub GoesOn : (List ℕ → List ℕ) → (me : ℕ) → CorePlanState → List Fact → List ℕ → CoreState → Bool → Type 0
GoesOn image me plan facts content core true =
    (fact : Fact) × IsTextOf fact content × AreLawful plan.cores plan.start (facts ++ fact ∷ []) × IsOfFacts image me plan (facts ++ fact ∷ []) core
GoesOn image me plan facts content core false = HasNoFact plan.cores plan.start facts content

-- the core restored from the facts that the records encode
abbrev pub IsCoreOf : (List ℕ → List ℕ) → (me : ℕ) → CorePlanState → List (List ℕ) → CoreState → Type 0
IsCoreOf image me plan records core = (facts : List Fact) × AreFactsOf plan.cores plan.start facts records × IsOfFacts image me plan facts core
