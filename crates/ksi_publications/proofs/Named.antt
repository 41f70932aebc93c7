-- The faults of a publications file have names.
use Rattle.std.proofs.Common.{◌≡◌, ◌⊎◌, ℕ, ◌^◌, Bool, true, false, cond, eqb, ltb, List, length, Result, Ok, Err, refl, sym, ap, subst, ◌∙◌, inl, inr}
use Rattle.ksi_imprint.specs.declared.fault.ImprintFault.{ImprintFault}
use Rattle.ksi_imprint.specs.Reading.{imprint_at}
use Rattle.ksi_tlv.specs.Walking.{PlacedTlv}
use Rattle.ksi_tlv.specs.Numerals.{number_of}
use Rattle.ksi_tlv.specs.declared.grammar.fault.ElementFault.{ElementFault}
use Rattle.ksi_tlv.specs.declared.grammar.fault.ElementFault.TheVariants as faults
use Rattle.ksi_tlv.specs.Table.{Verdict, Table}
use Rattle.ksi_tlv.specs.Containing.{◌>>=◌, container_verdict, inner_verdict}
use Rattle.ksi_tlv.specs.Faults.{PassesFaults}
use Rattle.ksi_tlv.specs.Contents.{passes, number_in, time_in, imprint_or, imprint_in}
use Rattle.ksi_tlv.specs.Published.{published_table, record_table}
use Rattle.ksi_publications.specs.declared.fault.PublicationsFault.{PublicationsFault}
use Rattle.ksi_publications.specs.declared.fault.PublicationsFault.TheVariants as answers
use Rattle.ksi_publications.specs.Tables.{header_table, file_table}
use Rattle.ksi_publications.specs.File.{IsNamed}

-- the law of the faults of a container
abbrev pub AreByTable : Type 0
AreByTable = (t : Table) (test : ElementFault → Bool) (place inside : ℕ) (body : List ℕ) (fault : ElementFault) → PassesFaults t test → container_verdict t place inside body ≡ Err fault → test fault ≡ true

-- a fault of a publications file, not of a signature alone
abbrev pub is_named : ElementFault → Bool
is_named (faults.Tlv place) = true
is_named (faults.RefusedElement kind place) = true
is_named (faults.UnknownCritical kind place) = true
is_named (faults.Missing kind place) = true
is_named (faults.Repeated kind place) = true
is_named (faults.Imprint place) = true
is_named (faults.Number place) = true
is_named (faults.Time place) = true
is_named (faults.Algorithm value) = false
is_named (faults.Links place) = false
is_named (faults.Chains place) = false
is_named (faults.Sibling place) = false

pub name_of : (fault : ElementFault) → is_named fault ≡ true → (other : PublicationsFault) × IsNamed fault other
name_of (faults.Tlv place) e = (answers.Tlv place, refl)
name_of (faults.RefusedElement kind place) e = (answers.RefusedElement kind place, refl)
name_of (faults.UnknownCritical kind place) e = (answers.UnknownCritical kind place, refl)
name_of (faults.Missing kind place) e = (answers.Missing kind place, refl)
name_of (faults.Repeated kind place) e = (answers.Repeated kind place, refl)
name_of (faults.Imprint place) e = (answers.Imprint place, refl)
name_of (faults.Number place) e = (answers.Number place, refl)
name_of (faults.Time place) e = (answers.Time place, refl)
name_of (faults.Algorithm value) e = absurd cc
name_of (faults.Links place) e = absurd cc
name_of (faults.Chains place) e = absurd cc
name_of (faults.Sibling place) e = absurd cc

pub one_name : (fault : ElementFault) (a b : PublicationsFault) → IsNamed fault a → IsNamed fault b → a ≡ b
one_name (faults.Tlv place) a b x y = x ∙ sym y
one_name (faults.RefusedElement kind place) a b x y = x ∙ sym y
one_name (faults.UnknownCritical kind place) a b x y = x ∙ sym y
one_name (faults.Missing kind place) a b x y = x ∙ sym y
one_name (faults.Repeated kind place) a b x y = x ∙ sym y
one_name (faults.Imprint place) a b x y = x ∙ sym y
one_name (faults.Number place) a b x y = x ∙ sym y
one_name (faults.Time place) a b x y = x ∙ sym y
one_name (faults.Algorithm value) a b x y = absurd x
one_name (faults.Links place) a b x y = absurd x
one_name (faults.Chains place) a b x y = absurd x
one_name (faults.Sibling place) a b x y = absurd x

-- ---- what an element says

passes_err : {A : Type 0} (r : Result A ElementFault) (f : ElementFault) → passes r ≡ Err f → r ≡ Err f
passes_err (Ok x) f e = absurd cc
passes_err (Err d) f e = let same : d ≡ f = cc in ap (λ (f : ElementFault). Err f) same

first_err : {A : Type 0} (b : Bool) (d f : ElementFault) (x : A) → cond b (Err d) (Ok x) ≡ Err f → d ≡ f
first_err true d f x e = cc
first_err false d f x e = absurd cc

number_named : (at : PlacedTlv) (f : ElementFault) → number_in at ≡ Err f → is_named f ≡ true
number_named at f e = subst (λ (f : ElementFault). is_named f ≡ true) (first_err (ltb 8 (length at.element.body)) (faults.Number at.place) f (number_of at.element.body) e) refl

abbrev late : ElementFault → Result ℕ ElementFault
late fault = Err fault

time_if : (b c : Bool) (at : PlacedTlv) (n : ℕ) (f : ElementFault) → (cond b (Err (faults.Number at.place)) (Ok n) >>= λ n. cond (ltb n (2 ^ 63)) (Ok n) (Err (faults.Time at.place))) ≡ Err f → ltb n (2 ^ 63) ≡ c → is_named f ≡ true
time_if true c at n f e test = let same : faults.Number at.place ≡ f = cc in subst (λ (f : ElementFault). is_named f ≡ true) same refl
time_if false true at n f e test = let no : Ok n ≡ Err f = rw test at e in absurd cc
time_if false false at n f e test =
    let is : late (faults.Time at.place) ≡ late f = rw test at e in
    let same : faults.Time at.place ≡ f = cc in subst (λ (f : ElementFault). is_named f ≡ true) same refl

time_named : (at : PlacedTlv) (f : ElementFault) → time_in at ≡ Err f → is_named f ≡ true
unfolding time_in
time_named at f e = time_if (ltb 8 (length at.element.body)) (ltb (number_of at.element.body) (2 ^ 63)) at (number_of at.element.body) f e refl

imprint_if : (place : ℕ) (r : Result (List ℕ) ImprintFault) (f : ElementFault) → imprint_or place r ≡ Err f → is_named f ≡ true
imprint_if place (Ok imprint) f e = absurd cc
imprint_if place (Err fault) f e = let same : faults.Imprint place ≡ f = cc in subst (λ (f : ElementFault). is_named f ≡ true) same refl

imprint_named : (at : PlacedTlv) (f : ElementFault) → imprint_in at ≡ Err f → is_named f ≡ true
unfolding imprint_in
imprint_named at f e = imprint_if at.place (imprint_at at.element.body) f e

-- ---- containers

one_of : (b : Bool) (v w : Verdict) (f : ElementFault) → cond b v w ≡ Err f → (v ≡ Err f) ⊎ (w ≡ Err f)
one_of true v w f e = inl e
one_of false v w f e = inr e

abbrev passed : Verdict
passed = Ok tt

none : (f : ElementFault) → passed ≡ Err f → is_named f ≡ true
none f e = absurd cc

published_passes : PassesFaults published_table is_named
published_passes = record {
  tlv = λ place. refl;
  refused = λ kind place. refl;
  unknown = λ kind place. refl;
  over = (λ kind place. refl, (λ kind place. refl, tt));
  lack = (λ place. refl, (λ place. refl, tt));
  content = λ at fault e. elim (one_of (eqb at.element.kind 2) (passes (time_in at)) (passes (imprint_in at)) fault e) [
    | inl time ↦ time_named at fault (passes_err (time_in at) fault time)
    | inr hash ↦ imprint_named at fault (passes_err (imprint_in at) fault hash)
  ];
}

record_passes : AreByTable → PassesFaults record_table is_named
record_passes law = record {
  tlv = λ place. refl;
  refused = λ kind place. refl;
  unknown = λ kind place. refl;
  over = (λ kind place. refl, (λ kind place. refl, (λ kind place. refl, tt)));
  lack = (λ place. refl, (tt, (tt, tt)));
  content = λ at fault e. elim (one_of (eqb at.element.kind 16) (inner_verdict published_table at) passed fault e) [
    | inl inside ↦ law published_table is_named at.place at.inside at.element.body fault published_passes inside
    | inr other ↦ none fault other
  ];
}

header_passes : PassesFaults header_table is_named
header_passes = record {
  tlv = λ place. refl;
  refused = λ kind place. refl;
  unknown = λ kind place. refl;
  over = (λ kind place. refl, (λ kind place. refl, (λ kind place. refl, tt)));
  lack = (λ place. refl, (λ place. refl, (tt, tt)));
  content = λ at fault e. elim (one_of (eqb at.element.kind 1) (passes (number_in at)) (cond (eqb at.element.kind 2) (passes (time_in at)) passed) fault e) [
    | inl version ↦ number_named at fault (passes_err (number_in at) fault version)
    | inr other ↦ elim (one_of (eqb at.element.kind 2) (passes (time_in at)) passed fault other) [
      | inl time ↦ time_named at fault (passes_err (time_in at) fault time)
      | inr address ↦ none fault address
    ]
  ];
}

file_passes : AreByTable → PassesFaults file_table is_named
file_passes law = record {
  tlv = λ place. refl;
  refused = λ kind place. refl;
  unknown = λ kind place. refl;
  over = (λ kind place. refl, (λ kind place. refl, tt));
  lack = (λ place. refl, (tt, tt));
  content = λ at fault e. elim (one_of (eqb at.element.kind 1793) (inner_verdict header_table at) (inner_verdict record_table at) fault e) [
    | inl header ↦ law header_table is_named at.place at.inside at.element.body fault header_passes header
    | inr rec ↦ law record_table is_named at.place at.inside at.element.body fault (record_passes law) rec
  ];
}

pub file_named : AreByTable → (place inside : ℕ) (body : List ℕ) (fault : ElementFault) → container_verdict file_table place inside body ≡ Err fault → (other : PublicationsFault) × IsNamed fault other
file_named law place inside body fault e = name_of fault (law file_table is_named place inside body fault (file_passes law) e)
