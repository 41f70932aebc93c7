-- Bytes pass the check between two roots exactly where they are the file of a front that is accepted between them.
use Rattle.std.proofs.Common.{◌≡◌, ℕ, ◌≤◌, ◌&&◌, Bool, true, false, cond, eqb, List, take, Result, Ok, Err, inl, inr, refl, sym, subst}
use Rattle.std.specs.Prelude.{◌↔◌}
use Rattle.std.proofs.lemmas.Bool.{eqb-true}
use Rattle.ksi_consistency.specs.declared.fault.FrontFault.{FrontFault}
use Rattle.ksi_consistency.specs.declared.refusal.FrontRefusal.{FrontRefusal}
use Rattle.ksi_consistency.specs.declared.file_refusal.FileRefusal.TheVariants.{OtherSeconds}
use Rattle.ksi_consistency.specs.Front.{front_count}
use Rattle.ksi_consistency.specs.Checked.{front_checked}
use Rattle.ksi_consistency.specs.Elements.{Contents, IsFront}
use Rattle.ksi_consistency.specs.File.{IsFrontFile}
use Rattle.ksi_consistency.specs.Few.{few, few_checked, file_checked, or_refused, IsFileBetween}
use Rattle.ksi_consistency.proofs.Cases.{Splits, eq_cases}
use Rattle.ksi_consistency.proofs.Counting.{few_count, few_accepted, all_accepted}

passed : (r : Result (Unit {0}) FrontRefusal) → (or_refused r ≡ Ok tt) ↔ (r ≡ Ok tt)
passed (Ok u) = (λ e. refl, λ e. refl)
passed (Err refusal) = (λ e. absurd cc, λ e. absurd cc)

same_seconds : (a b : Bool) (r : Result (Unit {0}) FrontRefusal) (p1 p2 : ℕ) → cond (a && b) (or_refused r) (Err (OtherSeconds p1 p2)) ≡ Ok tt → (a ≡ true) × (b ≡ true) × (r ≡ Ok tt)
same_seconds true true r p1 p2 e = (refl, refl, (passed r).0 e)
same_seconds true false r p1 p2 e = absurd cc
same_seconds false b r p1 p2 e = absurd cc

eqb_same : (n : ℕ) → eqb n n ≡ true
eqb_same n = elim (eq_cases n n) [ inl same ↦ same.0 | inr other ↦ absurd (other.1 refl) ]

module _ (splits : Splits) (image : List ℕ → List ℕ) (p1 p2 : ℕ) (old new bytes : List ℕ) where
  limit : (front : Contents) → IsFront front → front_count front.p1 front.p2 ≤ 64
  limit front is = few_count splits front.p1 front.p2 is.bounded.within is.bounded.early

  forward : (front : Contents) → IsFrontFile bytes front → IsFront front → few_checked image p1 p2 old new (few front) ≡ Ok tt → IsFileBetween image p1 p2 old new bytes
  forward front file is e =
      let all = same_seconds (eqb front.p1 p1) (eqb front.p2 p2) (front_checked image p1 p2 old new (take 65 front.list)) front.p1 front.p2 e in
      let one : front.p1 ≡ p1 = eqb-true front.p1 p1 all.0 in
      let two : front.p2 ≡ p2 = eqb-true front.p2 p2 all.1 in
      let here : front ≡ record { p1 = p1; p2 = p2; list = front.list } = λ i. record { p1 = one i; p2 = two i; list = front.list } in
      let few : front_count p1 p2 ≤ 64 = subst (λ (f : Contents). front_count f.p1 f.p2 ≤ 64) here (limit front is) in
      record {
        list = front.list;
        file = subst (IsFrontFile bytes) here file;
        accepted = few_accepted image p1 p2 old new front.list few all.2;
      }

  backward : (between : IsFileBetween image p1 p2 old new bytes) → IsFront (record { p1 = p1; p2 = p2; list = between.list })
      → few_checked image p1 p2 old new (few (record { p1 = p1; p2 = p2; list = between.list })) ≡ Ok tt
  backward between is =
      let front : Contents = record { p1 = p1; p2 = p2; list = between.list } in
      rw (eqb_same p1, eqb_same p2) ((passed (front_checked image p1 p2 old new (take 65 between.list))).1 (all_accepted image p1 p2 old new between.list (limit front is) between.accepted))

  pub checked_between : (r : Result Contents FrontFault) → ((front : Contents) → (r ≡ Ok front) ↔ IsFrontFile bytes front) → ((front : Contents) → IsFrontFile bytes front → IsFront front)
      → (file_checked image p1 p2 old new r ≡ Ok tt) ↔ IsFileBetween image p1 p2 old new bytes
  checked_between (Ok front) reads fronts = (
    λ e. (let file = (reads front).0 refl in forward front file (fronts front file) e),
    λ between.
        let there : Contents = record { p1 = p1; p2 = p2; list = between.list } in
        let same : front ≡ there = (let is = (reads there).1 between.file in cc) in
        subst (λ (f : Contents). few_checked image p1 p2 old new (few f) ≡ Ok tt) (sym same) (backward between (fronts there between.file)),
  )
  checked_between (Err fault) reads fronts =
      (λ e. absurd cc, λ between. (let is = (reads (record { p1 = p1; p2 = p2; list = between.list })).1 between.file in absurd cc))
