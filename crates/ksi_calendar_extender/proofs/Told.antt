-- What the steps together answer.
use Rattle.std.proofs.Common.{◌≡◌, ℕ, ◌≤◌, Bool, true, false, not, List, Result, Ok, Err, refl, sym, ap, subst, ◌∙◌, nat_le}
use Rattle.std.specs.Str.{bytes_eq}
use Rattle.std.proofs.lemmas.Bool.{leb-true}
use Rattle.std.proofs.lemmas.Slice.Eq.{bytes_eq-Decides}
use Rattle.ksi_imprint.specs.Imprints.{zero_imprint}
use Rattle.ksi_imprint.specs.Refused.{OrNoMemory}
use Rattle.ksi_imprint.specs.declared.refused.Refused.{Refused}
use Rattle.ksi_signature.specs.declared.fault.SignatureFault.{SignatureFault}
use Rattle.ksi_signature.specs.Values.{Calendar, Publishing}
use Rattle.ksi_signature.specs.Reading.{signature_at}
use Rattle.ksi_verifier.specs.declared.aggregated.Aggregated.{Aggregated}
use Rattle.ksi_calendar.specs.Covered.{first_missing, second_leaf}
use Rattle.ksi_verifier.specs.declared.refusal.Refusal.TheVariants.{MissedSecond}
use Rattle.ksi_journal.specs.Journal.{Contents, root_at}
use Rattle.ksi_extender.specs.declared.refusal.ExtendRefusal.{ExtendRefusal}
use Rattle.ksi_extender.specs.declared.refusal.ExtendRefusal.TheVariants as refusals
use Rattle.ksi_extender.specs.Checks.{◌>>=◌, ◌>>◌, need}
use Rattle.ksi_extender.specs.Extended.{all_kept, chains_in, kept_to, chain_to, record_to, fitting, extended}
use Rattle.ksi_calendar_extender.proofs.Steps.{read_fault}

module _ (image : List ℕ → List ℕ) (journal : Contents) (bytes : List ℕ) (p : ℕ) where
  abbrev next : Aggregated → Result (List ℕ) ExtendRefusal
  next chains = kept_to journal chains p >> fitting bytes (chain_to image journal chains.time p) (record_to image journal p)

  -- ---- a refusal is handed on

  pub no_chains : (refusal : ExtendRefusal) → (let r : Result Aggregated ExtendRefusal = Err refusal in r ≡ chains_in image bytes) → (let r : Result (List ℕ) ExtendRefusal = Err refusal in r ≡ extended image journal bytes p)
  unfolding extended
  no_chains refusal is = ap (λ (r : Result Aggregated ExtendRefusal). r >>= next) is

  pub no_signature : (fault : SignatureFault) → signature_at bytes ≡ Err fault → (let r : Result (List ℕ) ExtendRefusal = Err (refusals.Malformed fault) in r ≡ extended image journal bytes p)
  no_signature fault is = no_chains (refusals.Malformed fault) (read_fault image bytes fault is)

  pub then_next : (chains : Aggregated) → chains_in image bytes ≡ Ok chains → next chains ≡ extended image journal bytes p
  unfolding extended
  then_next chains is = sym (ap (λ (r : Result Aggregated ExtendRefusal). r >>= next) is)

  pub not_kept : (chains : Aggregated) (refusal : ExtendRefusal) → chains_in image bytes ≡ Ok chains → (let r : Result (Unit {0}) ExtendRefusal = Err refusal in r ≡ kept_to journal chains p) → (let r : Result (List ℕ) ExtendRefusal = Err refusal in r ≡ extended image journal bytes p)
  not_kept chains refusal is e = ap (λ (r : Result (Unit {0}) ExtendRefusal). r >> fitting bytes (chain_to image journal chains.time p) (record_to image journal p)) e ∙ then_next chains is

  -- ---- the new bytes

  pub all_passed : (chains : Aggregated) (chain : Calendar) (published : Publishing) (result : Result (List ℕ) (Refused ExtendRefusal)) → chains_in image bytes ≡ Ok chains → (let r : Result (Unit {0}) ExtendRefusal = Ok tt in r ≡ kept_to journal chains p)
      → chain ≡ chain_to image journal chains.time p → published ≡ record_to image journal p → OrNoMemory (fitting bytes chain published) result → OrNoMemory (extended image journal bytes p) result
  all_passed chains chain published result is kept chain_is published_is answer =
      let same : fitting bytes chain published ≡ extended image journal bytes p =
      ap (λ (c : Calendar). fitting bytes c published) chain_is ∙ ap (λ (r : Publishing). fitting bytes (chain_to image journal chains.time p) r) published_is
      ∙ ap (λ (r : Result (Unit {0}) ExtendRefusal). r >> fitting bytes (chain_to image journal chains.time p) (record_to image journal p)) kept ∙ then_next chains is in
      subst (λ (expected : Result (List ℕ) ExtendRefusal). OrNoMemory expected result) same answer

-- ---- what the checks leave

pub record IsKept (journal : Contents) (chains : Aggregated) (p : ℕ) : Type 0 where
  pub to : chains.time ≤ p
  pub root : second_leaf (root_at journal) journal.start chains.time ≡ chains.node.imprint

then_ok : {B : Type 0} (r : Result (Unit {0}) ExtendRefusal) (next : Result B ExtendRefusal) (y : B) → (r >> next) ≡ Ok y → (r ≡ Ok tt) × (next ≡ Ok y)
then_ok (Ok tt) next y e = (refl, e)
then_ok (Err refusal) next y e = absurd cc

need_ok : (test : Bool) (refusal : ExtendRefusal) → need test refusal ≡ Ok tt → test ≡ true
need_ok true refusal e = refl
need_ok false refusal e = absurd cc

pub is_kept : (journal : Contents) (chains : Aggregated) (p : ℕ) → kept_to journal chains p ≡ Ok tt → IsKept journal chains p
is_kept journal chains p e =
    let t = chains.time in
    let root_check = need (bytes_eq (second_leaf (root_at journal) journal.start t) chains.node.imprint) (refusals.RootDiffers t (second_leaf (root_at journal) journal.start t) chains.node.imprint) in
    let missing_check = all_kept (first_missing (root_at journal) journal.start p) in
    let late_check = need (nat_le t p) (refusals.TooEarly t p) in
    let early_check = need (nat_le journal.start t) (refusals.BeforeStart t) in
    let zero_check = need (not (bytes_eq chains.node.imprint zero_imprint)) (refusals.Refused MissedSecond) in
    let one = then_ok zero_check (early_check >> (late_check >> (missing_check >> root_check))) tt e in
    let two = then_ok early_check (late_check >> (missing_check >> root_check)) tt one.1 in
    let three = then_ok late_check (missing_check >> root_check) tt two.1 in
    let four = then_ok missing_check root_check tt three.1 in
    record {
      to = leb-true t p (need_ok (nat_le t p) (refusals.TooEarly t p) three.0);
      root = (bytes_eq-Decides (second_leaf (root_at journal) journal.start t) chains.node.imprint).0 (need_ok (bytes_eq (second_leaf (root_at journal) journal.start t) chains.node.imprint) (refusals.RootDiffers t (second_leaf (root_at journal) journal.start t) chains.node.imprint) four.1);
    }
