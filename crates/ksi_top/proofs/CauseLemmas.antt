-- Causes over one call after another.
use Rattle.std.proofs.Common.{inl, inr, ℕ, ◌+◌, ◌≤◌, List, ◌∷◌, Option, Some, None, Result, Ok, Err, arith, refl, sym, subst, add-one}
use Rattle.ksi_top.specs.declared.report.Report.{Report}
use Rattle.ksi_top.specs.declared.report.Halt.{Halt}
use Rattle.ksi_top.specs.declared.report.Halt.TheVariants as halts
use Rattle.ksi_top.specs.declared.status.Status.{Status}
use Rattle.ksi_top.specs.declared.status.Status.TheVariants.{Done, Refused, Words, Malformed, Fault, NoMemory, Clash, TooLong}
use Rattle.ksi_top.specs.Reports.{saves_of}
use Rattle.ksi_top.specs.Causes.{IsJudged, JudgedAs, CausedAs, Counts, Quiet, LoadCaused, Loaded, Caused, ReportCaused, PassesLimit, IsMalformed, SomePasses}

judged_caused : (files : List (ℕ × ℕ)) (before now : Counts) (line : List ℕ) (status : Status) (saved : Option (List ℕ × List ℕ)) → JudgedAs status saved → CausedAs files before now line status saved
judged_caused files before now line Done saved judged = tt
judged_caused files before now line Refused saved judged = judged
judged_caused files before now line Words saved judged = absurd judged
judged_caused files before now line Malformed saved judged = judged
judged_caused files before now line Fault saved judged = absurd judged
judged_caused files before now line NoMemory saved judged = absurd judged
judged_caused files before now line Clash saved judged = judged
judged_caused files before now line TooLong saved judged = absurd judged

-- a report that what was read is the cause of needs no other
pub caused_by_judgement : (files : List (ℕ × ℕ)) (before now : Counts) (report : Report) → Quiet before now → IsJudged report → Caused files before now report
caused_by_judgement files before now report quiet judged = record {
  quiet = quiet;
  status = judged_caused files before now report.line report.status report.saved judged;
}

pub quiet_alone : (before : Counts) → Quiet before before
quiet_alone before = record { faults = refl; load_faults = refl; saves = refl; taken = omega arith }

quiet_twice : (before mid now : Counts) → Quiet before mid → Quiet mid now → Quiet before now
quiet_twice before mid now one two = record {
  faults = omega (arith, one.faults, two.faults);
  load_faults = omega (arith, one.load_faults, two.load_faults);
  saves = omega (arith, one.saves, two.saves);
  taken = omega (arith, one.taken, two.taken);
}

-- the first file passes its limit
caused_by_limit : (files : List (ℕ × ℕ)) (n limit : ℕ) (before now : Counts) (report : Report) → PassesLimit n limit before now report → Caused ((n, limit) ∷ files) before now report
caused_by_limit files n limit before now report passes =
    let some : SomePasses ((n, limit) ∷ files) before now report.line = record { k = 0; n = n; limit = limit; file = refl; line_is = passes.line; called = passes.loaded.called; taken = passes.taken; last = passes.last } in
    record {
      quiet = passes.loaded.quiet;
      status = subst (λ (status : Status). CausedAs ((n, limit) ∷ files) before now report.line status report.saved) (sym passes.status) (passes.unsaved, some);
    }

-- the first file is not in its grammar
caused_by_malformed : (files : List (ℕ × ℕ)) (before now : Counts) (report : Report) → IsMalformed before now report → Caused files before now report
caused_by_malformed files before now report malformed = record {
  quiet = malformed.loaded.quiet;
  status = subst (λ (status : Status). CausedAs files before now report.line status report.saved) (sym malformed.status) malformed.unsaved;
}

-- the first load gives no value
pub load_halts : (T : Type 0) (files : List (ℕ × ℕ)) (n limit : ℕ) (before now : Counts) (halt : Halt) → LoadCaused {T = T} n limit before now (Err halt) → ReportCaused ((n, limit) ∷ files) before now (Err halt)
load_halts T files n limit before now (halts.Reported report) (inl passes) = caused_by_limit files n limit before now report passes
load_halts T files n limit before now (halts.Reported report) (inr malformed) = caused_by_malformed ((n, limit) ∷ files) before now report malformed
load_halts T files n limit before now halts.Fault one = one
load_halts T files n limit before now halts.NoMemory one = one

-- a run saves one file at most
pub one_save : (saved : Option (List ℕ × List ℕ)) → saves_of saved ≤ 1
one_save None = omega arith
one_save (Some file) = omega arith

-- what passes its limit behind a load that did not
passes_behind : (file : ℕ × ℕ) (files : List (ℕ × ℕ)) (before mid now : Counts) (line : List ℕ) → Loaded before mid → SomePasses files mid now line → SomePasses (file ∷ files) before now line
passes_behind file files before mid now line one two = record {
  k = two.k + 1;
  n = two.n;
  limit = two.limit;
  file = rw (add-one two.k) two.file;
  line_is = two.line_is;
  called = omega (arith, one.called, two.called);
  taken = omega (arith, one.quiet.taken, two.taken);
  last = two.last;
}

caused_as_behind : (file : ℕ × ℕ) (files : List (ℕ × ℕ)) (before mid now : Counts) (line : List ℕ) (status : Status) (saved : Option (List ℕ × List ℕ)) → Loaded before mid → CausedAs files mid now line status saved → CausedAs (file ∷ files) before now line status saved
caused_as_behind file files before mid now line Done saved one two = two
caused_as_behind file files before mid now line Refused saved one two = two
caused_as_behind file files before mid now line Words saved one two = two
caused_as_behind file files before mid now line Malformed saved one two = two
caused_as_behind file files before mid now line Fault saved one two = two
caused_as_behind file files before mid now line NoMemory saved one two = two
caused_as_behind file files before mid now line Clash saved one two = two
caused_as_behind file files before mid now line TooLong saved one two = (two.0, passes_behind file files before mid now line one two.1)

caused_behind : (file : ℕ × ℕ) (files : List (ℕ × ℕ)) (before mid now : Counts) (report : Report) → Loaded before mid → Caused files mid now report → Caused (file ∷ files) before now report
caused_behind file files before mid now report one two = record {
  quiet = quiet_twice before mid now one.quiet two.quiet;
  status = caused_as_behind file files before mid now report.line report.status report.saved one two.status;
}

-- what a call has for its cause behind a load that did not fail
pub report_caused_behind : (file : ℕ × ℕ) (files : List (ℕ × ℕ)) (before mid now : Counts) (result : Result Report Halt) → Loaded before mid → ReportCaused files mid now result → ReportCaused (file ∷ files) before now result
report_caused_behind file files before mid now (Ok report) one two = caused_behind file files before mid now report one two
report_caused_behind file files before mid now (Err (halts.Reported report)) one two = caused_behind file files before mid now report one two
report_caused_behind file files before mid now (Err halts.Fault) one two = record {
  faults = record { later = omega (arith, one.quiet.faults, two.faults.later); rose = omega (arith, one.quiet.faults, two.faults.rose) };
  load_faults = record { later = omega (arith, one.quiet.load_faults, two.load_faults.later); rose = omega (arith, one.quiet.load_faults, two.load_faults.rose) };
  saves = omega (arith, one.quiet.saves, two.saves);
  taken = omega (arith, one.quiet.taken, two.taken);
}
report_caused_behind file files before mid now (Err halts.NoMemory) one two = quiet_twice before mid now one.quiet two
