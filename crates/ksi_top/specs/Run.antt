-- What a run reports, as a function of the words and of the files held.
use Rattle.std.specs.Prelude.{ℕ, ◌+◌, List, [], ◌∷◌, codes, length, Option, Some, None, Result, Ok, Err}
use Rattle.std.specs.Fmt.{decimal}
use Rattle.ksi_ports.specs.Stored.{Held, with_file}
use Rattle.ksi_words.specs.declared.asked.WordsRefusal.{WordsRefusal}
use Rattle.ksi_words.specs.declared.asked.WordsRefusal.TheVariants.{Words, BadWord}
use Rattle.ksi_words.specs.Words.{Asked, replay, sign, publish, extend, verify, audit, make, drill, migrate, front, compare, block, line, checkline, locate, merge, whole, inspect, mirror, node, command_of}
use Rattle.ksi_lines.specs.Lines.{line_text}
use Rattle.ksi_top.specs.declared.report.Report.{Report}
use Rattle.ksi_top.specs.declared.status.Status.TheVariants as statuses
use Rattle.ksi_top.specs.Reports.{CommandRow, Ran, report, ends, saves_of}
use Rattle.ksi_top.specs.Replay.{replay_command}
use Rattle.ksi_top.specs.Sign.{sign_command}
use Rattle.ksi_top.specs.Publish.{publish_command}
use Rattle.ksi_top.specs.Extend.{extend_command}
use Rattle.ksi_top.specs.Verify.{verify_command}
use Rattle.ksi_top.specs.Audit.{audit_command}
use Rattle.ksi_top.specs.Make.{make_command}
use Rattle.ksi_top.specs.Drill.{drill_command}
use Rattle.ksi_top.specs.Migrate.{migrate_command}
use Rattle.ksi_top.specs.Front.{front_command}
use Rattle.ksi_top.specs.Compare.{compare_command}
use Rattle.ksi_top.specs.Block.{block_command}
use Rattle.ksi_top.specs.LineOf.{line_command}
use Rattle.ksi_top.specs.CheckLine.{checkline_command}
use Rattle.ksi_top.specs.Locate.{locate_command}
use Rattle.ksi_top.specs.Merge.{merge_command}
use Rattle.ksi_top.specs.Whole.{whole_command}
use Rattle.ksi_top.specs.Inspect.{inspect_command}
use Rattle.ksi_top.specs.Mirror.{mirror_command}
use Rattle.ksi_top.specs.Node.{node_command}

-- each command: its files, its saves, what it reports, and what that means
abbrev pub row_of : Asked → CommandRow
row_of (replay schedule journal) = replay_command schedule journal
row_of (sign journal number out) = sign_command journal number out
row_of (publish journal out) = publish_command journal out
row_of (extend journal signature second out) = extend_command journal signature second out
row_of (verify signature hash publications) = verify_command signature hash publications
row_of (audit journal signature hash publications) = audit_command journal signature hash publications
row_of (make number out) = make_command number out
row_of (drill number) = drill_command number
row_of (migrate old new) = migrate_command old new
row_of (front journal p1 p2 out) = front_command journal p1 p2 out
row_of (compare old new proof) = compare_command old new proof
row_of (block log seed) = block_command log seed
row_of (line log seed k out) = line_command log seed k out
row_of (checkline signature publications entry proof) = checkline_command signature publications entry proof
row_of (locate log seed entry proof) = locate_command log seed entry proof
row_of (merge one two out) = merge_command one two out
row_of (inspect of) = inspect_command of
row_of (whole of journal) = whole_command of journal
row_of (mirror schedule core out) = mirror_command schedule core out
row_of (node schedule core out) = node_command schedule core out

-- the headline: what the result of a command means, over the files that were held
abbrev pub Headline : Asked → Held → Report → Type 0
Headline asked held report = (row_of asked).means held report

abbrev pub words_refused_line : List ℕ
words_refused_line = line_text (codes "words" ∷ codes "refused" ∷ [])

abbrev pub bad_word_line : ℕ → List ℕ
bad_word_line n = line_text (codes "bad" ∷ codes "word" ∷ decimal n ∷ [])

-- what words that are no command report
abbrev pub refused : WordsRefusal → Report
refused Words = report statuses.Words words_refused_line
refused (BadWord n) = report statuses.Words (bad_word_line n)

-- words that are no command load nothing
abbrev pub ran_of : Result Asked WordsRefusal → Held → Ran
ran_of (Ok asked) held = (row_of asked).ran held
ran_of (Err refusal) held = ends (refused refusal)

unfoldable pub run : List (List ℕ) → Held → Report
run words held = (ran_of (command_of words) held).reported

-- how many files the run loads
abbrev pub run_loads : Result Asked WordsRefusal → Held → ℕ
run_loads asked held = (ran_of asked held).loads

-- what is held once the run's file is saved
abbrev pub saved_into : Option (List ℕ × List ℕ) → Held → Held
saved_into None held = held
saved_into (Some file) held = with_file held file.0 file.1

-- the files that a command loads, each given by its word and its limit in bytes
abbrev pub files_of : Asked → List (ℕ × ℕ)
files_of asked = (row_of asked).files

-- the most calls on the files, whatever is held
abbrev pub most_calls : Result Asked WordsRefusal → ℕ
most_calls (Ok asked) = length (files_of asked) + (row_of asked).saves
most_calls (Err refusal) = 0

-- how often the run calls on the files
abbrev pub run_calls : List (List ℕ) → Held → ℕ
run_calls words held = run_loads (command_of words) held + saves_of (run words held).saved
