-- What words report: a command, or that they are none.
use Rattle.std.proofs.Common.{◌≡◌, ◌≢◌, ℕ, ◌+◌, ◌≤◌, List, length, Option, None, Result, Ok, Err, refl, subst, arith}
use Rattle.std.specs.Prelude.{IfOk, IfErr}
use Rattle.ksi_ports.specs.Stored.{Held}
use Rattle.ksi_ports.specs.declared.files.Files as files
use Rattle.ksi_words.specs.declared.asked.WordsRefusal.{WordsRefusal}
use Rattle.ksi_words.specs.declared.asked.WordsRefusal.TheVariants as refusals
use Rattle.ksi_words.specs.Words.{Asked, make, drill, command_of}
use Rattle.ksi_top.specs.declared.report.Report.{Report}
use Rattle.ksi_top.specs.declared.report.Halt.{Halt}
use Rattle.ksi_top.specs.declared.report.Halt.TheVariants as halts
use Rattle.ksi_top.specs.declared.status.Status.{Status}
use Rattle.ksi_top.specs.declared.status.Status.TheVariants.{Done, Refused, Words, Malformed, Fault, NoMemory, Clash, TooLong}
use Rattle.ksi_top.specs.Causes.{Counts, Caused, CausedAs, ReportCaused, counts_of}
use Rattle.ksi_top.specs.Promised.{HasCause, IsReported, Performed, RunCaused}
use Rattle.ksi_top.specs.Run.{files_of, ran_of, refused, row_of, run}
use Rattle.ksi_top.specs.Complete.{Complete}
use Rattle.ksi_top.proofs.CauseLemmas.{quiet_alone}
use Rattle.ksi_top.proofs.Ends.{IsSound}

-- A COMMAND

unsaved_as : (files : List (ℕ × ℕ)) (before now : Counts) (line : List ℕ) (status : Status) (saved : Option (List ℕ × List ℕ)) → CausedAs files before now line status saved → status ≢ Done → saved ≡ None
unsaved_as files before now line Done saved caused other = absurd (other refl)
unsaved_as files before now line Refused saved caused other = caused
unsaved_as files before now line Words saved caused other = absurd caused
unsaved_as files before now line Malformed saved caused other = caused
unsaved_as files before now line Fault saved caused other = absurd caused
unsaved_as files before now line NoMemory saved caused other = absurd caused
unsaved_as files before now line Clash saved caused other = caused
unsaved_as files before now line TooLong saved caused other = caused.0

has_cause : (asked : Asked) (before now : Counts) (report : Report) → Caused (files_of asked) before now report → HasCause (Ok asked) before now report
has_cause asked before now report one =
    let at : (status : Status) → report.status ≡ status → CausedAs (files_of asked) before now report.line status report.saved =
    λ status is. subst (λ (status : Status). CausedAs (files_of asked) before now report.line status report.saved) is one.status in
    record {
      quiet = one.quiet;
      no_fault = λ is. at Fault is;
      no_want = λ is. at NoMemory is;
      words = λ is. at Words is;
      too_long = λ is. (at TooLong is).1;
      unsaved = unsaved_as (files_of asked) before now report.line report.status report.saved one.status;
    }

run_caused : (asked : Asked) (before now : Counts) (result : Result Report Halt) → ReportCaused (files_of asked) before now result → RunCaused (Ok asked) before now result
run_caused asked before now (Ok report) one = has_cause asked before now report one
run_caused asked before now (Err (halts.Reported report)) one = has_cause asked before now report one
run_caused asked before now (Err halts.Fault) one = one
run_caused asked before now (Err halts.NoMemory) one = one

pub reported_by_command : {F : Type 0} (kind : files.Ghosts F) (words : List (List ℕ)) (asked : Asked) (old new : F) (result : Result Report Halt)
    → command_of words ≡ Ok asked → Performed kind (row_of asked) old new result → IsReported kind words old new result
unfolding run
reported_by_command kind words asked old new result is one = record {
  told = λ tells. rw (is, run) (one.told tells);
  headline = λ tells. rw is (one.means tells);
  stays = one.stays;
  calls = λ tells. rw is (one.calls tells);
  few_calls = rw is one.few_calls;
  untouched = rw is tt;
  few_saves = rw is one.few_saves;
  wanting = rw (is, run) one.wanting;
  causes = rw is (run_caused asked (counts_of kind old) (counts_of kind new) result one.causes);
}

-- NO COMMAND

refusal_has_cause : (refusal : WordsRefusal) (before : Counts) → HasCause (Err refusal) before before (refused refusal)
refusal_has_cause refusals.Words before = record { quiet = quiet_alone before; no_fault = λ is. cc is; no_want = λ is. cc is; words = refl; too_long = λ is. cc is; unsaved = λ other. refl }
refusal_has_cause (refusals.BadWord n) before = record { quiet = quiet_alone before; no_fault = λ is. cc is; no_want = λ is. cc is; words = refl; too_long = λ is. cc is; unsaved = λ other. refl }

pub reported_of_refusal : {F : Type 0} (kind : files.Ghosts F) (words : List (List ℕ)) (refusal : WordsRefusal) (it : F) (report : Report)
    → command_of words ≡ Err refusal → report ≡ refused refusal → IsReported kind words it it (Ok report)
unfolding run
reported_of_refusal kind words refusal it report is same = rw same (record {
  told = λ tells. rw (is, run) refl;
  headline = λ tells. rw is tt;
  stays = λ tells. refl;
  calls = λ tells. omega arith;
  few_calls = rw is tt;
  untouched = rw is refl;
  few_saves = rw is tt;
  wanting = λ tells no long. absurd (cc no);
  causes = rw is (refusal_has_cause refusal (counts_of kind it));
})

-- WANT OF MEMORY

run_is_sound : (asked : Result Asked WordsRefusal) (held : Held) → IsSound (ran_of asked held)
run_is_sound (Ok (make number out)) held long = absurd (cc long)
run_is_sound (Ok (drill number)) held long = absurd (cc long)
run_is_sound (Ok _) held long = omega arith
run_is_sound (Err refusals.Words) held long = absurd (cc long)
run_is_sound (Err (refusals.BadWord n)) held long = absurd (cc long)

-- before any load there are fewer calls than such a run makes
few_at_first : (asked : Result Asked WordsRefusal) (calls : ℕ) → IfOk asked (λ asked. calls ≤ calls + length (files_of asked))
few_at_first (Ok asked) calls = omega arith
few_at_first (Err refusal) calls = tt

nothing_ok : (asked : Result Asked WordsRefusal) → IfOk asked (λ asked. Unit {0})
nothing_ok (Ok asked) = tt
nothing_ok (Err refusal) = tt

same_err : (asked : Result Asked WordsRefusal) (calls : ℕ) → IfErr asked (λ _. calls ≡ calls)
same_err (Ok asked) calls = tt
same_err (Err refusal) calls = refl

pub words_wanting : {F : Type 0} (kind : files.Ghosts F) (words : List (List ℕ)) (it : F) → IsReported kind words it it (Err halts.NoMemory)
unfolding run
words_wanting kind words it = record {
  told = λ tells. tt;
  headline = λ tells. nothing_ok (command_of words);
  stays = λ tells. refl;
  calls = λ tells. omega arith;
  few_calls = few_at_first (command_of words) (kind.calls it);
  untouched = same_err (command_of words) (kind.calls it);
  few_saves = nothing_ok (command_of words);
  wanting = λ tells no long. omega (arith, run_is_sound (command_of words) (kind.held it) long);
  causes = quiet_alone (counts_of kind it);
}

-- COMPLETENESS

complete_as : ((asked : Asked) (held : Held) → Complete asked held ((row_of asked).ran held).reported) → (asked : Result Asked WordsRefusal) (held : Held)
    → IfOk asked (λ command. Complete command held (ran_of asked held).reported)
complete_as law (Ok asked) held = law asked held
complete_as law (Err refusal) held = tt

-- what a command reports is what the words report
pub complete_of : ((asked : Asked) (held : Held) → Complete asked held ((row_of asked).ran held).reported) → (words : List (List ℕ)) (held : Held)
    → IfOk (command_of words) (λ asked. Complete asked held (run words held))
unfolding run
complete_of law words held = complete_as law (command_of words) held
