-- A file is refused for one reason.
use Rattle.std.proofs.Common.{◌≡◌, ℕ, List, [], ◌∷◌, take, get_or, Result, Ok, Err, inl, inr, refl, sym, ap, ◌∙◌}
use Rattle.ksi_synod.specs.CorePlans.{CorePlanState}
use Rattle.ksi_corenode.specs.declared.fact.Fact.{Fact}
use Rattle.ksi_disk.specs.declared.ending.Ending.TheVariants.{Broken}
use Rattle.ksi_disk.specs.Gates.{reading_of}
use Rattle.ksi_nodestore.specs.declared.heads.Header.{Header}
use Rattle.ksi_nodestore.specs.declared.heads.HeaderFault.{HeaderFault}
use Rattle.ksi_nodestore.specs.declared.heads.HeaderFault.TheVariants as heads
use Rattle.ksi_nodestore.specs.declared.refusal.OpenRefusal.{OpenRefusal}
use Rattle.ksi_nodestore.specs.declared.refusal.OpenRefusal.TheVariants as opens
use Rattle.ksi_nodestore.specs.Headers.{header_at}
use Rattle.ksi_nodestore.specs.Stores.{HasNumbers, IsMalformedAt}
use Rattle.ksi_nodestore.specs.Opens.{IsOutside, IsRefused}
use Rattle.ksi_nodestore.proofs.Folded.{read_fault, read_whole}

-- the numbers of a header, in their bounds or not
abbrev told : Result Header HeaderFault → List ℕ
told (Ok header) = header.core ∷ header.cores ∷ header.start ∷ []
told (Err heads.NotFormatted) = []
told (Err (heads.Bad core cores start)) = core ∷ cores ∷ start ∷ []

abbrev foreign : List ℕ → OpenRefusal
foreign numbers = opens.Foreign (get_or numbers 0 0) (get_or numbers 1 0) (get_or numbers 2 0)

has_numbers : (file : List ℕ) (core cores start : ℕ) → HasNumbers file core cores start → told (header_at (take 18 file)) ≡ core ∷ cores ∷ start ∷ []
has_numbers file core cores start (inl head) = ap told head
has_numbers file core cores start (inr bad) = ap told bad

one_place : (cores start : ℕ) (file : List ℕ) (one other : ℕ) → IsMalformedAt cores start file one → IsMalformedAt cores start file other → one ≡ other
one_place cores start file one other (inl fault) (inl another) =
    let same : ◌≡◌ {A = Result (List Fact) ℕ} (Err one) (Err other) = sym (read_fault cores start (reading_of 18 file).records one fault) ∙ read_fault cores start (reading_of 18 file).records other another in
    cc same
one_place cores start file one other (inl fault) (inr ends) =
    absurd (let no : ◌≡◌ {A = Result (List Fact) ℕ} (Err one) (Ok ends.0) = sym (read_fault cores start (reading_of 18 file).records one fault) ∙ read_whole cores start ends.0 (reading_of 18 file).records ends.1 in cc no)
one_place cores start file one other (inr ends) (inl fault) =
    absurd (let no : ◌≡◌ {A = Result (List Fact) ℕ} (Err other) (Ok ends.0) = sym (read_fault cores start (reading_of 18 file).records other fault) ∙ read_whole cores start ends.0 (reading_of 18 file).records ends.1 in cc no)
one_place cores start file one other (inr ends) (inr another) = let same : Broken one ≡ Broken other = sym ends.2 ∙ another.2 in cc same

module _ (me : ℕ) (plan : CorePlanState) (file : List ℕ) where
  formatted : (core cores start : ℕ) → header_at (take 18 file) ≡ Err heads.NotFormatted → HasNumbers file core cores start → ⊥
  formatted core cores start none has = absurd (let no : [] ≡ core ∷ cores ∷ start ∷ [] = sym (ap told none) ∙ has_numbers file core cores start has in cc no)

  own : (core cores start place : ℕ) → IsRefused me plan file (opens.Foreign core cores start) → IsRefused me plan file (opens.Malformed place) → ⊥
  own core cores start place foreign malformed =
      let same : core ∷ cores ∷ start ∷ [] ≡ me ∷ plan.cores ∷ plan.start ∷ [] = sym (has_numbers file core cores start foreign.0) ∙ ap told malformed.0 in
      foreign.1 (ap (λ (l : List ℕ). get_or l 0 0) same) (ap (λ (l : List ℕ). get_or l 1 0) same) (ap (λ (l : List ℕ). get_or l 2 0) same)

  pub one_reason : (one other : OpenRefusal) → IsRefused me plan file one → IsRefused me plan file other → (IsOutside one → ⊥) → (IsOutside other → ⊥) → one ≡ other
  one_reason opens.Failed other is another inside within = absurd (inside tt)
  one_reason opens.NoMemory other is another inside within = absurd (inside tt)
  one_reason opens.NotFormatted opens.Failed is another inside within = absurd (within tt)
  one_reason opens.NotFormatted opens.NoMemory is another inside within = absurd (within tt)
  one_reason opens.NotFormatted opens.NotFormatted is another inside within = refl
  one_reason opens.NotFormatted (opens.Foreign core cores start) is another inside within = absurd (formatted core cores start is another.0)
  one_reason opens.NotFormatted (opens.Malformed place) is another inside within = absurd (formatted me plan.cores plan.start is (inl another.0))
  one_reason (opens.Foreign core cores start) opens.Failed is another inside within = absurd (within tt)
  one_reason (opens.Foreign core cores start) opens.NoMemory is another inside within = absurd (within tt)
  one_reason (opens.Foreign core cores start) opens.NotFormatted is another inside within = absurd (formatted core cores start another is.0)
  one_reason (opens.Foreign core cores start) (opens.Foreign core2 cores2 start2) is another inside within =
      ap foreign (sym (has_numbers file core cores start is.0) ∙ has_numbers file core2 cores2 start2 another.0)
  one_reason (opens.Foreign core cores start) (opens.Malformed place) is another inside within = absurd (own core cores start place is another)
  one_reason (opens.Malformed place) opens.Failed is another inside within = absurd (within tt)
  one_reason (opens.Malformed place) opens.NoMemory is another inside within = absurd (within tt)
  one_reason (opens.Malformed place) opens.NotFormatted is another inside within = absurd (formatted me plan.cores plan.start another (inl is.0))
  one_reason (opens.Malformed place) (opens.Foreign core cores start) is another inside within = absurd (own core cores start place another is)
  one_reason (opens.Malformed place) (opens.Malformed other) is another inside within = ap opens.Malformed (one_place plan.cores plan.start file place other is.1 another.1)
