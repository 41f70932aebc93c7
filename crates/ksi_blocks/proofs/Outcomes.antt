-- One step of a command after the other.
use Rattle.std.proofs.Common.{◌≡◌, ℕ, ◌≤◌, ◌<◌, List, length, Option, Some, Result, Ok, Err, refl, sym, ap, subst, arith}
use Rattle.ksi_blocks.specs.declared.report.Report.{Report}
use Rattle.ksi_blocks.specs.declared.report.Halt.{Halt}
use Rattle.ksi_blocks.specs.declared.report.Halt.TheVariants as halts
use Rattle.ksi_blocks.specs.Loading.{Gives, Outcome, loaded, ◌>>=◌}
use Rattle.ksi_blocks.specs.Reports.{too_long}

-- ---- one file

pub is_loaded : (n most : ℕ) (held : Option (List ℕ)) (bytes : List ℕ) → held ≡ Some bytes → length bytes ≤ most → loaded n most held ≡ Ok bytes
is_loaded n most held bytes is within = rw is (short bytes within)
  where
    short : (bytes : List ℕ) → length bytes ≤ most → loaded n most (Some bytes) ≡ Ok bytes
    short bytes within = grind (arith, within)

pub is_too_long : (n most : ℕ) (held : Option (List ℕ)) (bytes : List ℕ) (report : Report) → held ≡ Some bytes → most < length bytes → report ≡ too_long n → loaded n most held ≡ Err (Some report)
is_too_long n most held bytes report is long told = rw (is, told) (beyond bytes long)
  where
    beyond : (bytes : List ℕ) → most < length bytes → loaded n most (Some bytes) ≡ Err (Some (too_long n))
    beyond bytes long = grind (arith, long)

-- ---- steps

ends_so : {T U : Type 0} (outcome : Outcome T) (next : T → Outcome U) (halt : Halt) → Gives outcome (Err halt) → Gives (outcome >>= next) (Err halt)
ends_so outcome next (halts.Reported report) is = rw is refl
ends_so outcome next halts.Fault is = tt
ends_so outcome next halts.NoMemory is = tt

-- a step that ends the run ends the command
pub ends : {T U : Type 0} (outcome : Outcome T) (next : T → Outcome U) (halt : Halt) (result : Result U Halt) → Gives outcome (Err halt) → result ≡ Err halt → Gives (outcome >>= next) result
ends {U = U} outcome next halt result is same = subst (λ (it : Result U Halt). Gives (outcome >>= next) it) (sym same) (ends_so outcome next halt is)

-- the command goes on with a step's value
pub goes_on : {T U : Type 0} (outcome : Outcome T) (next : T → Outcome U) (value : T) (result : Result U Halt) → outcome ≡ Ok value → Gives (next value) result → Gives (outcome >>= next) result
goes_on {U = U} outcome next value result is more = subst (λ (it : Outcome U). Gives it result) (sym (ap (λ it. it >>= next) is)) more
