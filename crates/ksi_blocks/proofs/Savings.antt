-- What is left of a save.
use Rattle.std.proofs.Common.{◌≡◌, List, ℕ, Option, Some, None, Result, Ok, Err, sym, ap, subst}
use Rattle.ksi_ports.specs.Outside.{OthersStay}
use Rattle.ksi_ports.specs.Stored.{Held}
use Rattle.ksi_ports.specs.declared.files.SaveRefusal.TheVariants as saves
use Rattle.ksi_blocks.specs.declared.report.Report.{Report}
use Rattle.ksi_blocks.specs.declared.report.Halt.{Halt}
use Rattle.ksi_blocks.specs.declared.report.Halt.TheVariants as halts
use Rattle.ksi_blocks.specs.Loading.{Gives, Leaves, Outcome, SavesFile, saved_into}

module _ (out : List ℕ) (old new : Held) where
  pub is_saved : (file : Option (List ℕ)) → SavesFile out old new (Ok tt) file → new ≡ saved_into file out old
  is_saved None is = is.1
  is_saved (Some file) is = is

  pub is_failed : (file : Option (List ℕ)) → SavesFile out old new (Err saves.Failed) file → OthersStay out old new
  is_failed None is = absurd (let none = is.0 in cc)
  is_failed (Some file) is = is

  pub is_unsaved : (file : Option (List ℕ)) → SavesFile out old new (Err saves.NoMemory) file → new ≡ old
  is_unsaved None is = is.1
  is_unsaved (Some file) is = is

unchanged_so : (out : List ℕ) (old new : Held) (halt : Halt) → new ≡ old → Leaves out old new (Err halt)
unchanged_so out old new (halts.Reported report) is = is
unchanged_so out old new halts.Fault is = λ other ne. ap (λ (held : Held). held other) is
unchanged_so out old new halts.NoMemory is = is

-- a step before the save ended the run
pub unchanged : {T : Type 0} (outcome : Outcome T) (out : List ℕ) (old new : Held) (halt : Halt) (result : Result Report Halt) → Gives outcome (Err halt) → result ≡ Err halt → new ≡ old → Leaves out old new result
unchanged outcome out old new halt result gives same is = subst (λ (it : Result Report Halt). Leaves out old new it) (sym same) (unchanged_so out old new halt is)

-- nothing was changed before
pub leaves_on : (out : List ℕ) (old mid new : Held) (result : Result Report Halt) → mid ≡ old → Leaves out mid new result → Leaves out old new result
leaves_on out old mid new result same leaves = subst (λ (held : Held). Leaves out held new result) same leaves
