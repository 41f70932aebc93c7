-- What is promised of a command, over one file after another.
use Rattle.std.proofs.Common.{◌≡◌, ◌⊎◌, ℕ, ◌+◌, ◌<◌, ◌≤◌, List, [], ◌∷◌, IsTrue, Result, Ok, Err, inl, inr, refl, sym, ap, subst, ◌∙◌, arith}
use Rattle.std.specs.Prelude.{IfOk}
use Rattle.std.specs.declared.alloc.AllocError.{AllocError}
use Rattle.ksi_ports.specs.Stored.{Held}
use Rattle.ksi_ports.specs.declared.files.Files as files
use Rattle.ksi_top.specs.declared.report.Report.{Report}
use Rattle.ksi_top.specs.declared.report.Halt.{Halt}
use Rattle.ksi_top.specs.declared.report.Halt.TheVariants as halts
use Rattle.ksi_top.specs.declared.status.Status.TheVariants.{TooLong}
use Rattle.ksi_top.specs.Reports.{CommandRow, Ran, Reports, Means, WhereRead, IsTooLong, behind, ended, ends, saves_of}
use Rattle.ksi_top.specs.Causes.{Counts, PassesLimit, IsMalformed, counts_of}
use Rattle.ksi_top.specs.Promised.{IsLoaded, Performed}
use Rattle.ksi_top.proofs.CauseLemmas.{caused_by_judgement, load_halts, report_caused_behind, quiet_alone}
use Rattle.ksi_top.proofs.Ends.{IsEnd, IsSound, end_is_sound, not_long}

-- what each report means, of a call that may end with one
means_all : (P Q : Report → Type 0) (result : Result Report Halt) → ((report : Report) → P report → Q report) → Means P result → Means Q result
means_all P Q (Ok report) step means = step report means
means_all P Q (Err (halts.Reported report)) step means = step report means
means_all P Q (Err halts.Fault) step means = tt
means_all P Q (Err halts.NoMemory) step means = tt

-- NOTHING IS LOADED

pub performed_alone : {F : Type 0} (kind : files.Ghosts F) (report : Report) (saves : ℕ) (P : Report → Type 0) (it : F) (computed : Result Report AllocError) (result : Result Report Halt)
    → IsEnd saves report → result ≡ ended computed → IfOk computed (λ made. made ≡ report) → IfOk computed P
    → Performed kind (record { files = []; saves = saves; ran = λ held. ends report; means = λ held. P }) it it result
performed_alone kind report saves P it (Ok made) result end is same means =
    let is_end : IsEnd saves made = subst (λ (made : Report). IsEnd saves made) (sym same) end in
    subst (λ (result : Result Report Halt). Performed kind (record { files = []; saves = saves; ran = λ held. ends report; means = λ held. P }) it it result) (sym is) (record {
      told = λ tells. same;
      means = λ tells. means;
      stays = λ tells. refl;
      calls = λ tells. omega arith;
      later = omega arith;
      few_calls = omega arith;
      wanting = λ tells no long. absurd (cc no);
      few_saves = is_end.few;
      causes = caused_by_judgement [] (counts_of kind it) (counts_of kind it) made (quiet_alone (counts_of kind it)) is_end.judged;
    })
performed_alone kind report saves P it (Err none) result end is same means =
    subst (λ (result : Result Report Halt). Performed kind (record { files = []; saves = saves; ran = λ held. ends report; means = λ held. P }) it it result) (sym is) (record {
      told = λ tells. tt;
      means = λ tells. tt;
      stays = λ tells. refl;
      calls = λ tells. omega arith;
      later = omega arith;
      few_calls = omega arith;
      wanting = λ tells no long. absurd (not_long saves report end long);
      few_saves = tt;
      causes = quiet_alone (counts_of kind it);
    })

-- A FILE IS LOADED

-- a run behind a load, by what the load gives
same_report : {T : Type 0} (expected : Result T Report) (next : T → Ran) (value : T) → expected ≡ Ok value → (next value).reported ≡ (behind expected next).reported
same_report {T = T} expected next value is = ap (λ (it : Result T Report). (behind it next).reported) (sym is)

same_loads : {T : Type 0} (expected : Result T Report) (next : T → Ran) (value : T) → expected ≡ Ok value → 1 + (next value).loads ≡ (behind expected next).loads
same_loads {T = T} expected next value is = ap (λ (it : Result T Report). (behind it next).loads) (sym is)

halt_reported : {T : Type 0} (expected : Result T Report) (next : T → Ran) (report : Report) → expected ≡ Err report → report ≡ (behind expected next).reported
halt_reported {T = T} expected next report is = ap (λ (it : Result T Report). (behind it next).reported) (sym is)

loads_once : {T : Type 0} (expected : Result T Report) (next : T → Ran) → 1 ≤ (behind expected next).loads
loads_once expected next = omega arith

-- the row of a command that loads this file first, and goes on by what was read
abbrev pub row_behind : {T : Type 0} (n limit : ℕ) (files : List (ℕ × ℕ)) (saves : ℕ) (load : Held → Result T Report) (ran : T → Held → Ran) (P : Held → Report → Type 0) → CommandRow
row_behind n limit files saves load ran P = record {
  files = (n, limit) ∷ files;
  saves = saves;
  ran = λ held. behind (load held) (λ value. ran value held);
  means = λ held. WhereRead (P held);
}

-- where memory was wanting, a file that is too long was not loaded
unloaded_yet : {T : Type 0} (expected : Result T Report) (next : T → Ran) (before now : ℕ) → ((value : T) → IsSound (next value)) → (IsTooLong expected → now ≡ before) → now ≤ before + 1
    → (behind expected next).reported.status ≡ TooLong → now < before + (behind expected next).loads
unloaded_yet (Ok value) next before now sound still few long = omega (arith, sound value long)
unloaded_yet (Err report) next before now sound still few long = omega (arith, still long)

-- a report in a value's place is of no file that is read, and saves nothing
unread : (n limit : ℕ) (P : Report → Type 0) (before now : Counts) (report : Report) → PassesLimit n limit before now report ⊎ IsMalformed before now report → WhereRead P report
unread n limit P before now report (inl passes) = λ long malformed. absurd (long passes.status)
unread n limit P before now report (inr is) = λ long malformed. absurd (malformed is.status)

saves_none : (n limit saves : ℕ) (before now : Counts) (report : Report) → PassesLimit n limit before now report ⊎ IsMalformed before now report → saves_of report.saved ≤ saves
saves_none n limit saves before now report (inl passes) = rw passes.unsaved (omega arith)
saves_none n limit saves before now report (inr is) = rw is.unsaved (omega arith)

-- the load gives no value
halted_so : {F T : Type 0} (kind : files.Ghosts F) (n limit : ℕ) (files : List (ℕ × ℕ)) (saves : ℕ) (load : Held → Result T Report) (ran : T → Held → Ran) (P : Held → Report → Type 0) (old new : F) (halt : Halt)
    → ((value : T) → IsSound (ran value (kind.held old))) → IsLoaded kind n limit (load (kind.held old)) old new (Err halt)
    → Performed kind (row_behind n limit files saves load ran P) old new (Err halt)
halted_so {T = T} kind n limit files saves load ran P old new (halts.Reported report) sound one = record {
  told = λ tells. halt_reported (load (kind.held old)) (λ value. ran value (kind.held old)) report (one.told tells);
  means = λ tells. unread n limit (P (kind.held old)) (counts_of kind old) (counts_of kind new) report one.causes;
  stays = one.stays;
  calls = λ tells. omega (arith, one.few_calls, loads_once (load (kind.held old)) (λ value. ran value (kind.held old)));
  later = one.later;
  few_calls = omega (arith, one.few_calls);
  wanting = λ tells no long. absurd (cc no);
  few_saves = saves_none n limit saves (counts_of kind old) (counts_of kind new) report one.causes;
  causes = load_halts T files n limit (counts_of kind old) (counts_of kind new) (halts.Reported report) one.causes;
}
halted_so {T = T} kind n limit files saves load ran P old new halts.Fault sound one = record {
  told = λ tells. tt;
  means = λ tells. tt;
  stays = one.stays;
  calls = λ tells. omega (arith, one.few_calls, loads_once (load (kind.held old)) (λ value. ran value (kind.held old)));
  later = one.later;
  few_calls = omega (arith, one.few_calls);
  wanting = λ tells no long. absurd (cc no);
  few_saves = tt;
  causes = load_halts T files n limit (counts_of kind old) (counts_of kind new) halts.Fault one.causes;
}
halted_so {T = T} kind n limit files saves load ran P old new halts.NoMemory sound one = record {
  told = λ tells. tt;
  means = λ tells. tt;
  stays = one.stays;
  calls = λ tells. omega (arith, one.few_calls, loads_once (load (kind.held old)) (λ value. ran value (kind.held old)));
  later = one.later;
  few_calls = omega (arith, one.few_calls);
  wanting = λ tells no long. unloaded_yet (load (kind.held old)) (λ value. ran value (kind.held old)) (kind.calls old) (kind.calls new) sound (one.wanting tells refl) one.few_calls long;
  few_saves = tt;
  causes = load_halts T files n limit (counts_of kind old) (counts_of kind new) halts.NoMemory one.causes;
}

pub halted : {F T : Type 0} (kind : files.Ghosts F) (n limit : ℕ) (files : List (ℕ × ℕ)) (saves : ℕ) (load : Held → Result T Report) (ran : T → Held → Ran) (P : Held → Report → Type 0) (old new : F) (halt : Halt) (result : Result Report Halt)
    → ((value : T) → IsSound (ran value (kind.held old))) → IsLoaded kind n limit (load (kind.held old)) old new (Err halt) → result ≡ Err halt
    → Performed kind (row_behind n limit files saves load ran P) old new result
halted kind n limit files saves load ran P old new halt result sound one is =
    subst (λ (result : Result Report Halt). Performed kind (row_behind n limit files saves load ran P) old new result) (sym is) (halted_so kind n limit files saves load ran P old new halt sound one)

pub halted_last : {F T : Type 0} (kind : files.Ghosts F) (n limit saves : ℕ) (load : Held → Result T Report) (final : T → Held → Report) (P : Held → Report → Type 0) (old new : F) (halt : Halt) (result : Result Report Halt)
    → ((value : T) → IsEnd saves (final value (kind.held old))) → IsLoaded kind n limit (load (kind.held old)) old new (Err halt) → result ≡ Err halt
    → Performed kind (row_behind n limit [] saves load (λ value held. ends (final value held)) P) old new result
halted_last kind n limit saves load final P old new halt result end one is =
    halted kind n limit [] saves load (λ value held. ends (final value held)) P old new halt result (λ value. end_is_sound saves (final value (kind.held old)) (end value)) one is

-- the load gives a value, and the rest of the command goes on by it
pub performed_behind : {F T : Type 0} (kind : files.Ghosts F) (n limit : ℕ) (files : List (ℕ × ℕ)) (saves : ℕ) (load : Held → Result T Report) (ran : T → Held → Ran) (P Q : Held → Report → Type 0) (value : T) (old mid new : F) (result : Result Report Halt)
    → (IsTrue kind.tells → (report : Report) → Q (kind.held old) report → P (kind.held old) report)
    → IsLoaded kind n limit (load (kind.held old)) old mid (Ok value)
    → Performed kind (record { files = files; saves = saves; ran = ran value; means = λ held. WhereRead (Q held) }) mid new result
    → Performed kind (row_behind n limit files saves load ran P) old new result
performed_behind {T = T} kind n limit files saves load ran P Q value old mid new result step one two =
    let next : T → Ran = λ value. ran value (kind.held old) in
    let reported : IsTrue kind.tells → (ran value (kind.held mid)).reported ≡ (behind (load (kind.held old)) next).reported = λ tells. ap (λ (held : Held). (ran value held).reported) (one.stays tells) ∙ same_report (load (kind.held old)) next value (one.told tells) in
    let loads : IsTrue kind.tells → 1 + (ran value (kind.held mid)).loads ≡ (behind (load (kind.held old)) next).loads = λ tells. ap (λ (held : Held). 1 + (ran value held).loads) (one.stays tells) ∙ same_loads (load (kind.held old)) next value (one.told tells) in
    record {
      told = λ tells. subst (λ (report : Report). Reports report result) (reported tells) (two.told tells);
      means = λ tells. means_all (WhereRead (Q (kind.held mid))) (WhereRead (P (kind.held old))) result
          (λ report means long malformed. step tells report (subst (λ (held : Held). Q held report) (one.stays tells) (means long malformed))) (two.means tells);
      stays = λ tells. two.stays tells ∙ one.stays tells;
      calls = λ tells. omega (arith, one.few_calls, two.calls tells, loads tells);
      later = omega (arith, one.later, two.later);
      few_calls = omega (arith, one.few_calls, two.few_calls);
      wanting = λ tells no long. let fewer = two.wanting tells no (ap (λ (report : Report). report.status) (reported tells) ∙ long) in omega (arith, one.few_calls, fewer, loads tells);
      few_saves = two.few_saves;
      causes = report_caused_behind (n, limit) files (counts_of kind old) (counts_of kind mid) (counts_of kind new) result one.causes two.causes;
    }

-- the load of the last file gives a value, and the report is computed of it
pub performed_last : {F T : Type 0} (kind : files.Ghosts F) (n limit saves : ℕ) (load : Held → Result T Report) (final : T → Held → Report) (P : Held → Report → Type 0) (value : T) (old new : F) (computed : Result Report AllocError) (result : Result Report Halt)
    → IsEnd saves (final value (kind.held old)) → IsLoaded kind n limit (load (kind.held old)) old new (Ok value) → result ≡ ended computed → IfOk computed (IsEnd saves)
    → (IsTrue kind.tells → IfOk computed (λ report. report ≡ final value (kind.held old))) → (IsTrue kind.tells → IfOk computed (P (kind.held old)))
    → Performed kind (row_behind n limit [] saves load (λ value held. ends (final value held)) P) old new result
performed_last {T = T} kind n limit saves load final P value old new (Ok report) result end one is is_end same means =
    let next : T → Ran = λ value. ends (final value (kind.held old)) in
    subst (λ (result : Result Report Halt). Performed kind (row_behind n limit [] saves load (λ value held. ends (final value held)) P) old new result) (sym is) (record {
      told = λ tells. same tells ∙ same_report (load (kind.held old)) next value (one.told tells);
      means = λ tells long malformed. means tells;
      stays = one.stays;
      calls = λ tells. omega (arith, one.few_calls, loads_once (load (kind.held old)) next);
      later = one.later;
      few_calls = one.few_calls;
      wanting = λ tells no long. absurd (cc no);
      few_saves = is_end.few;
      causes = caused_by_judgement ((n, limit) ∷ []) (counts_of kind old) (counts_of kind new) report one.causes.quiet is_end.judged;
    })
performed_last {T = T} kind n limit saves load final P value old new (Err none) result end one is is_end same means =
    let next : T → Ran = λ value. ends (final value (kind.held old)) in
    subst (λ (result : Result Report Halt). Performed kind (row_behind n limit [] saves load (λ value held. ends (final value held)) P) old new result) (sym is) (record {
      told = λ tells. tt;
      means = λ tells. tt;
      stays = one.stays;
      calls = λ tells. omega (arith, one.few_calls, loads_once (load (kind.held old)) next);
      later = one.later;
      few_calls = one.few_calls;
      wanting = λ tells no long. absurd (not_long saves (final value (kind.held old)) end (ap (λ (report : Report). report.status) (same_report (load (kind.held old)) next value (one.told tells)) ∙ long));
      few_saves = tt;
      causes = one.causes.quiet;
    })
