-- What the checks against the journal leave.
use Rattle.std.proofs.Common.{◌≡◌, ◌≢◌, ℕ, ◌≤◌, not, Option, Some, None, Ok, refl, nat_le}
use Rattle.std.specs.Str.{bytes_eq}
use Rattle.ksi_imprint.specs.Imprints.{zero_imprint}
use Rattle.ksi_verifier.specs.declared.aggregated.Aggregated.{Aggregated}
use Rattle.ksi_verifier.specs.declared.refusal.Refusal.TheVariants.{MissedSecond}
use Rattle.ksi_calendar.specs.Covered.{first_missing, second_leaf}
use Rattle.ksi_journal.specs.Journal.{Contents, root_at}
use Rattle.ksi_extender.specs.declared.refusal.ExtendRefusal.TheVariants as refusals
use Rattle.ksi_extender.specs.Checks.{◌>>◌, need}
use Rattle.ksi_extender.specs.Extended.{all_kept, kept_to}
use Rattle.ksi_extender.proofs.Passing.{then_ok, need_same, need_other, need_le}

pub record IsKept (journal : Contents) (chains : Aggregated) (p : ℕ) : Type 0 where
  pub some : chains.node.imprint ≢ zero_imprint
  pub from : journal.start ≤ chains.time
  pub to : chains.time ≤ p
  pub missing : first_missing (root_at journal) journal.start p ≡ None
  pub root : second_leaf (root_at journal) journal.start chains.time ≡ chains.node.imprint

none_missing : (missing : Option ℕ) → all_kept missing ≡ Ok tt → missing ≡ None
none_missing None e = refl
none_missing (Some second) e = absurd cc

pub is_kept : (journal : Contents) (chains : Aggregated) (p : ℕ) → kept_to journal chains p ≡ Ok tt → IsKept journal chains p
is_kept journal chains p e =
    let t = chains.time in
    let root_check = need (bytes_eq (second_leaf (root_at journal) journal.start t) chains.node.imprint) (refusals.RootDiffers t (second_leaf (root_at journal) journal.start t) chains.node.imprint) in
    let missing_check = all_kept (first_missing (root_at journal) journal.start p) in
    let late_check = need (nat_le t p) (refusals.TooEarly t p) in
    let early_check = need (nat_le journal.start t) (refusals.BeforeStart t) in
    let zero_check = need (not (bytes_eq chains.node.imprint zero_imprint)) (refusals.Refused MissedSecond) in
    let one = then_ok zero_check (early_check >> (late_check >> (missing_check >> root_check))) tt e in
    let two = then_ok early_check (late_check >> (missing_check >> root_check)) tt one.1 in
    let three = then_ok late_check (missing_check >> root_check) tt two.1 in
    let four = then_ok missing_check root_check tt three.1 in
    record {
      some = need_other chains.node.imprint zero_imprint (refusals.Refused MissedSecond) one.0;
      from = need_le journal.start t (refusals.BeforeStart t) two.0;
      to = need_le t p (refusals.TooEarly t p) three.0;
      missing = none_missing (first_missing (root_at journal) journal.start p) four.0;
      root = need_same (second_leaf (root_at journal) journal.start t) chains.node.imprint (refusals.RootDiffers t (second_leaf (root_at journal) journal.start t) chains.node.imprint) four.1;
    }
