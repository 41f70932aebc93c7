-- A run, by what was reported: the report ends it, or a fault or want of memory did before.
use Rattle.std.proofs.Common.{Bool, ◌≡◌, ◌≢◌, ◌⊎◌, ℕ, ◌+◌, ◌<◌, ◌≤◌, List, [], ◌++◌, length, None, IsTrue, Result, Ok, Err, inl, inr, refl, sym, ap, subst, ◌∙◌, arith}
use Rattle.std.specs.Prelude.{IfOk, IfErr}
use Rattle.std.proofs.lemmas.List.{append-nil}
use Rattle.std.proofs.lemmas.Result.{IfOk-weaker}
use Rattle.ksi_ports.specs.Outside.{ExtendsByFront, Rose}
use Rattle.ksi_ports.specs.Stored.{Held}
use Rattle.ksi_ports.specs.declared.files.Files as files
use Rattle.ksi_ports.specs.declared.sink.Sink as sinks
use Rattle.ksi_words.specs.declared.asked.WordsRefusal.{WordsRefusal}
use Rattle.ksi_words.specs.declared.asked.WordsRefusal.TheVariants as refusals
use Rattle.ksi_words.specs.Words.{Asked, command_of}
use Rattle.ksi_top.specs.declared.report.Report.{Report}
use Rattle.ksi_top.specs.declared.report.Halt.TheVariants as halts
use Rattle.ksi_top.specs.declared.status.Status.{Status}
use Rattle.ksi_top.specs.declared.status.Status.TheVariants.{Done, Refused, Words, Malformed, Fault, NoMemory, Clash, TooLong}
use Rattle.ksi_top.specs.Reports.{saves_of}
use Rattle.ksi_top.specs.Causes.{Faulty, Quiet, counts_of}
use Rattle.ksi_top.specs.Endings.{FaultLeaves, NamesStay, Outside, TookTooMuch, UnlessCut, WordsLine, WordsStatus, at_load, at_put, at_save, outside}
use Rattle.ksi_top.specs.Promised.{Finished, HasCause, IsReported, IsRun, WordsCaused}
use Rattle.ksi_top.specs.Run.{Headline, files_of, most_calls, refused, row_of, run, saved_into}
use Rattle.ksi_top.proofs.Finishing.{uncut}

-- ---- by the status

uncut_weaker : (status : Status) (P Q : Type 0) → (P → Q) → UnlessCut status P → UnlessCut status Q
uncut_weaker Done P Q step is = step is
uncut_weaker Refused P Q step is = step is
uncut_weaker Words P Q step is = step is
uncut_weaker Malformed P Q step is = step is
uncut_weaker Fault P Q step is = tt
uncut_weaker NoMemory P Q step is = tt
uncut_weaker Clash P Q step is = step is
uncut_weaker TooLong P Q step is = step is

-- no save is counted where no result was saved
none_saved : (status : Status) (report : Report) (P : Type 0) → UnlessCut status (status ≡ report.status) → (report.status ≢ Done → P) → (status ≡ NoMemory → P) → status ≢ Done → status ≢ Fault → P
none_saved Done report P is other want undone quiet = absurd (undone refl)
none_saved Refused report P is other want undone quiet = other (λ done. undone (is ∙ done))
none_saved Words report P is other want undone quiet = other (λ done. undone (is ∙ done))
none_saved Malformed report P is other want undone quiet = other (λ done. undone (is ∙ done))
none_saved Fault report P is other want undone quiet = absurd (quiet refl)
none_saved NoMemory report P is other want undone quiet = want refl
none_saved Clash report P is other want undone quiet = other (λ done. undone (is ∙ done))
none_saved TooLong report P is other want undone quiet = other (λ done. undone (is ∙ done))

-- ---- by the words

no_headline : (asked : Result Asked WordsRefusal) → IfOk asked (λ asked. Unit {0})
no_headline (Ok asked) = tt
no_headline (Err refusal) = tt

refusal_saves : (refusal : WordsRefusal) → (refused refusal).saved ≡ None
refusal_saves refusals.Words = refl
refusal_saves (refusals.BadWord n) = refl

refusal_status : (refusal : WordsRefusal) → (refused refusal).status ≡ Words
refusal_status refusals.Words = refl
refusal_status (refusals.BadWord n) = refl

words_status : (asked : Result Asked WordsRefusal) (report : Report) (status : Status) → WordsCaused asked report → status ≡ report.status → WordsStatus asked status
words_status (Ok asked) report status caused same = λ is. caused (sym same ∙ is)
words_status (Err refusal) report status caused same = same ∙ ap (λ (report : Report). report.status) caused ∙ refusal_status refusal

words_line : (asked : Result Asked WordsRefusal) (report : Report) (before now : List ℕ) → WordsCaused asked report → now ≡ before ++ report.line → WordsLine asked before now
words_line (Ok asked) report before now caused same = tt
words_line (Err refusal) report before now caused same = same ∙ ap (λ (report : Report). before ++ report.line) caused

-- the calls of the loads and of the save
calls_within : (asked : Result Asked WordsRefusal) (report : Report) (old mid new : ℕ) → WordsCaused asked report → IfOk asked (λ asked. mid ≤ old + length (files_of asked)) → IfErr asked (λ _. mid ≡ old)
    → IfOk asked (λ asked. saves_of report.saved ≤ (row_of asked).saves) → new ≤ mid + saves_of report.saved → new ≤ old + most_calls asked
calls_within (Ok asked) report old mid new caused few same saves calls = omega (arith, few, saves, calls)
calls_within (Err refusal) report old mid new caused few same saves calls =
    let none : saves_of report.saved ≡ 0 = ap (λ (report : Report). saves_of report.saved) caused ∙ ap saves_of (refusal_saves refusal) in
    omega (arith, same, none, calls)

calls_before : (asked : Result Asked WordsRefusal) (old new : ℕ) → IfOk asked (λ asked. new ≤ old + length (files_of asked)) → IfErr asked (λ _. new ≡ old) → new ≤ old + most_calls asked
calls_before (Ok asked) old new few same = omega (arith, few)
calls_before (Err refusal) old new few same = omega (arith, same)

no_calls_of_none : (asked : Result Asked WordsRefusal) (report : Report) (old mid new : ℕ) → WordsCaused asked report → IfErr asked (λ _. mid ≡ old) → (report.saved ≡ None → new ≡ mid) → IfErr asked (λ _. new ≡ old)
no_calls_of_none (Ok asked) report old mid new caused same untouched = tt
no_calls_of_none (Err refusal) report old mid new caused same untouched = untouched (ap (λ (report : Report). report.saved) caused ∙ refusal_saves refusal) ∙ same

-- ---- what a fault leaves

-- behind loads of which none failed
leaves_behind : (files_tell sink_tells : Bool) (ran report : Report) (old mid new : Outside) → (IsTrue files_tell → report ≡ ran) → (IsTrue files_tell → mid.held ≡ old.held)
    → mid.saves ≡ old.saves → mid.faults ≡ old.faults → mid.load_faults ≡ old.load_faults → mid.written ≡ old.written → mid.puts ≡ old.puts → mid.failed_puts ≡ old.failed_puts
    → FaultLeaves files_tell sink_tells report mid new → FaultLeaves files_tell sink_tells ran old new
leaves_behind files_tell sink_tells ran report old mid new same stays saves faults load_faults written puts failed_puts (at_load rose load_rose unsaved held unwritten unput) =
    at_load (subst (λ (n : ℕ). Rose n new.faults) faults rose) (subst (λ (n : ℕ). Rose n new.load_faults) load_faults load_rose)
    (unsaved ∙ saves) (λ tells. held tells ∙ stays tells) (λ tells. unwritten tells ∙ written) (unput ∙ puts)
leaves_behind files_tell sink_tells ran report old mid new same stays saves faults load_faults written puts failed_puts (at_save rose unloaded names unwritten unput) =
    at_save (subst (λ (n : ℕ). Rose n new.faults) faults rose) (unloaded ∙ load_faults)
    (λ tells. subst (λ (held : Held). NamesStay ran.saved held new.held) (stays tells) (subst (λ (it : Report). NamesStay it.saved mid.held new.held) (same tells) (names tells)))
    (λ tells. unwritten tells ∙ written) (unput ∙ puts)
leaves_behind files_tell sink_tells ran report old mid new same stays saves faults load_faults written puts failed_puts (at_put rose quiet held front) =
    at_put (subst (λ (n : ℕ). Rose n new.failed_puts) failed_puts rose) (quiet ∙ faults)
    (λ tells. subst (λ (held : Held). new.held ≡ saved_into ran.saved held) (stays tells) (subst (λ (it : Report). new.held ≡ saved_into it.saved mid.held) (same tells) (held tells)))
    (λ tells told. subst (λ (before : List ℕ). ExtendsByFront before ran.line new.written) written (subst (λ (it : Report). ExtendsByFront mid.written it.line new.written) (same tells) (front tells told)))

rose_of : (files_tell sink_tells : Bool) (ran : Report) (old new : Outside) → FaultLeaves files_tell sink_tells ran old new → Rose old.faults new.faults ⊎ Rose old.failed_puts new.failed_puts
rose_of files_tell sink_tells ran old new (at_load rose load_rose unsaved held unwritten unput) = inl rose
rose_of files_tell sink_tells ran old new (at_save rose unloaded names unwritten unput) = inl rose
rose_of files_tell sink_tells ran old new (at_put rose quiet held front) = inr rose

-- ---- the run

not_done : (status : Status) → status ≡ TooLong → status ≢ Done
not_done status long done = let is : TooLong ≡ Done = sym long ∙ done in cc is

pub run_finished : {F K : Type 0} (files_kind : files.Ghosts F) (sink_kind : sinks.Ghosts K) (words : List (List ℕ)) (old mid new : F) (before now : K) (report : Report) (result : Status)
    → IsReported files_kind words old mid (Ok report) → Finished files_kind sink_kind report mid new before now result → IsRun files_kind sink_kind words old new before now result
run_finished {F = F} {K = K} files_kind sink_kind words old mid new before now report result one two =
    let ran : Report = run words (files_kind.held old) in
    let cause : HasCause (command_of words) (counts_of files_kind old) (counts_of files_kind mid) report = one.causes in
    let unsaved : report.status ≢ Done → new ≡ mid = λ undone. two.untouched (cause.unsaved undone) in
    let saves : IsTrue files_kind.tells → saves_of report.saved ≡ saves_of ran.saved = λ tells. ap (λ (it : Report). saves_of it.saved) (one.told tells) in
    let at : F → K → Outside = λ it out. outside (files_kind.held it) (files_kind.saves it) (files_kind.faults it) (files_kind.load_faults it) (sink_kind.written out) (sink_kind.puts out) (sink_kind.faults out) in
    let leaves : result ≡ Fault → FaultLeaves files_kind.tells sink_kind.tells ran (at old before) (at new now) =
    λ is. leaves_behind files_kind.tells sink_kind.tells ran report (at old before) (at mid before) (at new now) one.told one.stays cause.quiet.saves cause.quiet.faults cause.quiet.load_faults refl refl refl (two.fault is) in
    record {
      status = λ tells. subst (λ (it : Report). UnlessCut result (result ≡ it.status)) (one.told tells) two.status;
      saved = λ tells. subst (λ (held : Held). UnlessCut result (files_kind.held new ≡ saved_into ran.saved held)) (one.stays tells)
          (subst (λ (it : Report). UnlessCut result (files_kind.held new ≡ saved_into it.saved (files_kind.held mid))) (one.told tells) (two.saved tells));
      put = λ tells told. subst (λ (it : Report). UnlessCut result (sink_kind.written now ≡ sink_kind.written before ++ it.line)) (one.told tells) (two.put told);
      headline = λ tells. IfOk-weaker (command_of words) _ _ (λ asked means. uncut result (Headline asked (files_kind.held old) ran) (subst (λ (it : Report). Headline asked (files_kind.held old) it) (one.told tells) means)) (one.headline tells);
      calls = λ tells. omega (arith, one.calls tells, two.calls, saves tells);
      few_calls = calls_within (command_of words) report (files_kind.calls old) (files_kind.calls mid) (files_kind.calls new) cause.words one.few_calls one.untouched one.few_saves two.calls;
      untouched = no_calls_of_none (command_of words) report (files_kind.calls old) (files_kind.calls mid) (files_kind.calls new) cause.words one.untouched (λ none. ap (λ (it : F). files_kind.calls it) (two.untouched none));
      fault_rose = λ is. rose_of files_kind.tells sink_kind.tells ran (at old before) (at new now) (leaves is);
      fault = leaves;
      files_fault = λ rose. two.files_fault (subst (λ (n : ℕ). n < files_kind.faults new) (sym cause.quiet.faults) rose);
      sink_fault = two.sink_fault;
      unsaved = λ undone quiet tells. two.unsaved undone quiet tells ∙ one.stays tells;
      unput = two.unput;
      wanting = λ tells no long. absurd ((two.no_save no).0 (cause.unsaved (not_done report.status (ap (λ (it : Report). it.status) (one.told tells) ∙ long))));
      words = uncut_weaker result (result ≡ report.status) (WordsStatus (command_of words) result) (λ same. words_status (command_of words) report result cause.words same) two.status;
      words_line = λ tells. uncut_weaker result (sink_kind.written now ≡ sink_kind.written before ++ report.line) (WordsLine (command_of words) (sink_kind.written before) (sink_kind.written now))
          (λ same. words_line (command_of words) report (sink_kind.written before) (sink_kind.written now) cause.words same) (two.put tells);
      too_long = λ is.
          let long : report.status ≡ TooLong = sym (subst (λ (it : Status). UnlessCut it (it ≡ report.status)) is two.status) in (
            report.line,
            (λ tells. subst (λ (it : Status). UnlessCut it (sink_kind.written now ≡ sink_kind.written before ++ report.line)) is (two.put tells)),
            subst (λ (it : F). TookTooMuch (command_of words) (counts_of files_kind old) (counts_of files_kind it) report.line) (sym (unsaved (not_done report.status long))) (cause.too_long long),
          );
      one_line = two.one_line;
      one_put = two.one_put;
      short_put = two.short_put;
      free = two.free;
      no_save = none_saved result report (files_kind.saves new ≡ files_kind.saves old) two.status (λ undone. ap (λ (it : F). files_kind.saves it) (unsaved undone) ∙ cause.quiet.saves) (λ no. (two.no_save no).1 ∙ cause.quiet.saves);
      quiet = λ quiet. ((two.quiet quiet).0 ∙ cause.quiet.faults, (two.quiet quiet).1);
      later = (omega (arith, cause.quiet.faults, two.later.0), omega (arith, cause.quiet.taken, two.taken), two.later.1);
    }

-- a report in a value's place ends the run as a result does
pub as_result : {F : Type 0} (kind : files.Ghosts F) (words : List (List ℕ)) (old new : F) (report : Report) → IsReported kind words old new (Err (halts.Reported report)) → IsReported kind words old new (Ok report)
as_result kind words old new report one = record {
  told = one.told;
  headline = one.headline;
  stays = one.stays;
  calls = one.calls;
  few_calls = one.few_calls;
  untouched = one.untouched;
  few_saves = one.few_saves;
  wanting = λ tells no long. absurd (cc no);
  causes = one.causes;
}

pub run_faulted : {F K : Type 0} (files_kind : files.Ghosts F) (sink_kind : sinks.Ghosts K) (words : List (List ℕ)) (old new : F) (before : K)
    → IsReported files_kind words old new (Err halts.Fault) → IsRun files_kind sink_kind words old new before before Fault
run_faulted files_kind sink_kind words old new before one =
    let cause : Faulty (counts_of files_kind old) (counts_of files_kind new) = one.causes in
    record {
      status = λ tells. tt;
      saved = λ tells. tt;
      put = λ tells told. tt;
      headline = λ tells. no_headline (command_of words);
      calls = λ tells. omega (arith, one.calls tells);
      few_calls = calls_before (command_of words) (files_kind.calls old) (files_kind.calls new) one.few_calls one.untouched;
      untouched = one.untouched;
      fault_rose = λ is. inl cause.faults.rose;
      fault = λ is. at_load cause.faults.rose cause.load_faults.rose cause.saves one.stays (λ tells. refl) refl;
      files_fault = λ rose. refl;
      sink_fault = λ rose. refl;
      unsaved = λ undone quiet tells. absurd (quiet refl);
      unput = λ is. cc is;
      wanting = λ tells no long. absurd (cc no);
      words = tt;
      words_line = λ tells. tt;
      too_long = λ is. cc is;
      one_line = λ tells. ([], sym (append-nil (sink_kind.written before)), omega arith);
      one_put = omega arith;
      short_put = omega arith;
      free = omega arith;
      no_save = λ undone quiet. absurd (quiet refl);
      quiet = λ quiet. absurd (quiet refl);
      later = (cause.faults.later, cause.taken, omega arith);
    }

pub run_wanting : {F K : Type 0} (files_kind : files.Ghosts F) (sink_kind : sinks.Ghosts K) (words : List (List ℕ)) (old new : F) (before : K)
    → IsReported files_kind words old new (Err halts.NoMemory) → IsRun files_kind sink_kind words old new before before NoMemory
run_wanting files_kind sink_kind words old new before one =
    let cause : Quiet (counts_of files_kind old) (counts_of files_kind new) = one.causes in
    record {
      status = λ tells. tt;
      saved = λ tells. tt;
      put = λ tells told. tt;
      headline = λ tells. no_headline (command_of words);
      calls = λ tells. omega (arith, one.calls tells);
      few_calls = calls_before (command_of words) (files_kind.calls old) (files_kind.calls new) one.few_calls one.untouched;
      untouched = one.untouched;
      fault_rose = λ is. cc is;
      fault = λ is. cc is;
      files_fault = λ rose. absurd (omega (arith, cause.faults, rose));
      sink_fault = λ rose. absurd (omega (arith, rose));
      unsaved = λ undone quiet tells. one.stays tells;
      unput = λ is. (refl, λ tells. refl);
      wanting = λ tells no long. one.wanting tells refl long;
      words = tt;
      words_line = λ tells. tt;
      too_long = λ is. cc is;
      one_line = λ tells. ([], sym (append-nil (sink_kind.written before)), omega arith);
      one_put = omega arith;
      short_put = omega arith;
      free = omega arith;
      no_save = λ undone quiet. cause.saves;
      quiet = λ quiet. (cause.faults, refl);
      later = (omega (arith, cause.faults), cause.taken, omega arith);
    }
