-- What a fault says of a sequence of steps.
use Rattle.std.proofs.Common.{◌≡◌, ◌∙◌, ℕ, ◌≤◌, ◌<◌, Bool, if◌then◌else◌, List, length, Some, Result, Ok, Err, ap}
use Rattle.std.proofs.lemmas.Bool.{le-leb, lt-leb}
use Rattle.ksi_imprint.specs.Refused.{OrNoMemory}
use Rattle.ksi_imprint.specs.declared.refused.Refused.{Refused}
use Rattle.ksi_imprint.specs.declared.refused.Refused.TheVariants as refused
use Rattle.ksi_calendar.specs.Calendar.{Seconds}
use Rattle.ksi_calendar_files.specs.File.{Contents}
use Rattle.ksi_calendar_folder.specs.declared.fault.FolderFault.{FolderFault}
use Rattle.ksi_calendar_folder.specs.declared.fault.FolderFault.TheVariants.{Missing, TooLong, Malformed, OtherNumber, OtherPlan, NotFull, BeforeStart, Undecided}
use Rattle.ksi_calendar_folder.specs.Folder.{Folder, ◌>>=◌, file_in, file_held, file_of, Adds, Gives, IsFault}

-- a fault that is expected
pub expected_fault : {T : Type 0} (expected : Result T FolderFault) (fault : FolderFault) → expected ≡ Err fault → IsFault expected fault
expected_fault expected (Missing n) is = tt
expected_fault expected (TooLong n) is = is
expected_fault expected (Malformed n f) is = is
expected_fault expected (OtherNumber n s) is = is
expected_fault expected (OtherPlan n) is = is
expected_fault expected (NotFull n s) is = is
expected_fault expected (BeforeStart p) is = is
expected_fault expected (Undecided s) is = is

-- the fault of a step is that of all that follows
pub fault_first : {T U : Type 0} (expected : Result T FolderFault) (next : T → Result U FolderFault) (fault : FolderFault) → IsFault expected fault → IsFault (expected >>= next) fault
fault_first expected next (Missing n) is = tt
fault_first expected next (TooLong n) is = ap (λ r. r >>= next) is
fault_first expected next (Malformed n f) is = ap (λ r. r >>= next) is
fault_first expected next (OtherNumber n s) is = ap (λ r. r >>= next) is
fault_first expected next (OtherPlan n) is = ap (λ r. r >>= next) is
fault_first expected next (NotFull n s) is = ap (λ r. r >>= next) is
fault_first expected next (BeforeStart p) is = ap (λ r. r >>= next) is
fault_first expected next (Undecided s) is = ap (λ r. r >>= next) is

-- a fault of equal results
pub fault_same : {T : Type 0} (one other : Result T FolderFault) (fault : FolderFault) → one ≡ other → IsFault other fault → IsFault one fault
fault_same one other (Missing n) same is = tt
fault_same one other (TooLong n) same is = same ∙ is
fault_same one other (Malformed n f) same is = same ∙ is
fault_same one other (OtherNumber n s) same is = same ∙ is
fault_same one other (OtherPlan n) same is = same ∙ is
fault_same one other (NotFull n s) same is = same ∙ is
fault_same one other (BeforeStart p) same is = same ∙ is
fault_same one other (Undecided s) same is = same ∙ is

-- ---- one file

module _ (folder : Folder) (number : ℕ) (bytes : List ℕ) (held : folder number ≡ Some bytes) where
  opened : length bytes ≤ 135229 → file_in folder number ≡ file_of number bytes
  unfolding file_in
  opened few =
      ap (file_held number) held
      ∙ ap (λ (b : Bool). if b then file_of number bytes else Err (TooLong number)) (le-leb (length bytes) 135229 few)

  pub loaded : length bytes ≤ 135229 → (result : Result Contents (Refused FolderFault)) → OrNoMemory (file_of number bytes) result → Gives (file_in folder number) result
  loaded few (Ok file) is = opened few ∙ is
  loaded few (Err (refused.Fault fault)) is = expected_fault (file_in folder number) fault (opened few ∙ is)
  loaded few (Err refused.NoMemory) is = tt

  pub too_long : 135229 < length bytes → file_in folder number ≡ Err (TooLong number)
  unfolding file_in
  too_long many =
      ap (file_held number) held
      ∙ ap (λ (b : Bool). if b then file_of number bytes else Err (TooLong number)) (lt-leb (length bytes) 135229 many)

-- ---- refusals

pub gives_first : {T U : Type 0} (expected : Result T FolderFault) (next : T → Result U FolderFault) (refusal : Refused FolderFault)
    → Gives expected (Err refusal) → Gives (expected >>= next) (Err refusal)
gives_first expected next (refused.Fault fault) is = fault_first expected next fault is
gives_first expected next refused.NoMemory is = tt

pub gives_same : {T : Type 0} (one other : Result T FolderFault) (refusal : Refused FolderFault) → one ≡ other → Gives other (Err refusal) → Gives one (Err refusal)
gives_same one other (refused.Fault fault) same is = fault_same one other fault same is
gives_same one other refused.NoMemory same is = tt

-- the same of a call that leaves a calendar
pub adds_of : (expected : Result (List (List ℕ)) FolderFault) (seconds : Seconds) (refusal : Refused FolderFault) → Gives expected (Err refusal) → Adds expected seconds (Err refusal)
adds_of expected seconds (refused.Fault fault) is = is
adds_of expected seconds refused.NoMemory is = tt

pub of_adds : (expected : Result (List (List ℕ)) FolderFault) (seconds : Seconds) (refusal : Refused FolderFault) → Adds expected seconds (Err refusal) → Gives expected (Err refusal)
of_adds expected seconds (refused.Fault fault) is = is
of_adds expected seconds refused.NoMemory is = tt

pub adds_same : (one other : Result (List (List ℕ)) FolderFault) (seconds : Seconds) (result : Result (Unit {0}) (Refused FolderFault)) → one ≡ other → Adds other seconds result → Adds one seconds result
adds_same one other seconds (Ok u) same is = same ∙ is
adds_same one other seconds (Err (refused.Fault fault)) same is = fault_same one other fault same is
adds_same one other seconds (Err refused.NoMemory) same is = tt

pub gives_all : {T : Type 0} (one other : Result T FolderFault) (result : Result T (Refused FolderFault)) → one ≡ other → Gives other result → Gives one result
gives_all one other (Ok value) same is = same ∙ is
gives_all one other (Err (refused.Fault fault)) same is = fault_same one other fault same is
gives_all one other (Err refused.NoMemory) same is = tt
