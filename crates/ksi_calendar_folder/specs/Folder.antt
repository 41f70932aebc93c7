-- The seconds of a folder of calendar files.
use Rattle.std.specs.Fmt.{decimal}
use Rattle.std.specs.Prelude.{◌≡◌, ℕ, zero, suc, ◌+◌, ◌-◌, ◌*◌, ◌/◌, ◌==◌, nat_le, nat_lt, ◌&&◌, if◌then◌else◌, List, [], ◌∷◌, ◌++◌, length, bytes_eq, Option, Some, None, Result, Ok, Err}
use Rattle.ksi_imprint.specs.declared.refused.Refused.{Refused}
use Rattle.ksi_imprint.specs.declared.refused.Refused.TheVariants as refused
use Rattle.ksi_ports.specs.Stored.{Held}
use Rattle.ksi_calendar.specs.Calendar.{Seconds}
use Rattle.ksi_calendar_files.specs.File.{Contents, first_second}
use Rattle.ksi_calendar_files.specs.Reading.{file_at}
use Rattle.ksi_calendar_files.specs.declared.fault.FileFault.{FileFault}
use Rattle.ksi_calendar_folder.specs.declared.fault.FolderFault.{FolderFault}
use Rattle.ksi_calendar_folder.specs.declared.fault.FolderFault.TheVariants.{Missing, TooLong, Malformed, OtherNumber, OtherPlan, NotFull, BeforeStart, Undecided}

-- ---- the files

-- the files of a folder, by their numbers
abbrev pub Folder : Type 0
Folder = ℕ → Option (List ℕ)

-- the folder's name, a slash, and the number in decimal
abbrev pub file_name : List ℕ → ℕ → List ℕ
file_name folder number = folder ++ 47 ∷ decimal number

-- the folder of this name
abbrev pub folder_of : Held → List ℕ → Folder
folder_of held folder = λ number. held (file_name folder number)

-- ---- one file

infixl 10 ◌>>=◌
abbrev pub ◌>>=◌ : {A B : Type 0} → Result A FolderFault → (A → Result B FolderFault) → Result B FolderFault
(Ok x) >>= next = next x
(Err fault) >>= next = Err fault

-- the file has its own number in its head
abbrev pub numbered : ℕ → Result Contents FileFault → Result Contents FolderFault
numbered number (Ok file) = if file.number == number then Ok file else Err (OtherNumber number file.number)
numbered number (Err fault) = Err (Malformed number fault)

-- the file of this number, from its bytes
abbrev pub file_of : ℕ → List ℕ → Result Contents FolderFault
file_of number bytes = numbered number (file_at bytes)

-- the same of a file that may be missing, or have more bytes than a head and 4,096 imprints
abbrev pub file_held : ℕ → Option (List ℕ) → Result Contents FolderFault
file_held number None = Err (Missing number)
file_held number (Some bytes) = if nat_le (length bytes) 135229 then file_of number bytes else Err (TooLong number)

unfoldable pub file_in : Folder → ℕ → Result Contents FolderFault
file_in folder number = file_held number (folder number)

-- ---- the files before the last one

-- the second after the last one of a file
abbrev pub end_of : Contents → ℕ
end_of file = first_second file.start file.number + length file.roots

-- the file is of the plan of the last one, and is full
abbrev pub follows : (last file : Contents) → Result (Unit {0}) FolderFault
follows last file =
    if bytes_eq file.plan last.plan && file.start == last.start
    then (if end_of file == 4096 * (file.number + 1) then Ok tt else Err (NotFull file.number (end_of file)))
    else Err (OtherPlan file.number)

-- these roots, and then those of a file that is full
abbrev pub with_full : (last file : Contents) → List (List ℕ) → Result (List (List ℕ)) FolderFault
with_full last file roots = follows last file >>= λ _. Ok (roots ++ file.roots)

-- the same of the file of this number
unfoldable pub full_in : Contents → Folder → List (List ℕ) → ℕ → Result (List (List ℕ)) FolderFault
full_in last folder roots number = file_in folder number >>= λ file. with_full last file roots

-- these roots, and then those of n full files, of which the first has this number
abbrev pub full_from : Contents → Folder → List (List ℕ) → (number n : ℕ) → Result (List (List ℕ)) FolderFault
full_from last folder roots number zero = Ok roots
full_from last folder roots number (suc n) = full_in last folder roots number >>= λ more. full_from last folder more (suc number) n

-- the roots of all files before the last one
unfoldable pub all_full : Contents → Folder → Result (List (List ℕ)) FolderFault
all_full last folder = full_from last folder [] (last.start / 4096) (last.number - last.start / 4096)

-- ---- all seconds

abbrev pub seconds_of : Contents → List (List ℕ) → Seconds
seconds_of last roots = record { start = last.start; roots = roots ++ last.roots }

abbrev pub reaching : ℕ → Seconds → Result Seconds FolderFault
reaching p seconds = if nat_le (seconds.start + length seconds.roots) p then Err (Undecided (seconds.start + length seconds.roots)) else Ok seconds

abbrev pub from_start : Folder → ℕ → Contents → Result Seconds FolderFault
from_start folder p last = if nat_lt p last.start then Err (BeforeStart p) else (all_full last folder >>= λ roots. reaching p (seconds_of last roots))

-- the seconds from the plan's first one to the end of the file of p, or the first refusal
unfoldable pub seconds_to : Folder → ℕ → Result Seconds FolderFault
seconds_to folder p = file_in folder (p / 4096) >>= from_start folder p

-- ---- what a call returns

-- what is expected; or memory was missing; a file that was there may also not be read
abbrev pub IsFault : {T : Type 0} → Result T FolderFault → FolderFault → Type 0
IsFault expected (Missing number) = Unit {0}
IsFault expected fault = expected ≡ Err fault

abbrev pub Gives : {T : Type 0} → Result T FolderFault → Result T (Refused FolderFault) → Type 0
Gives expected (Ok value) = expected ≡ Ok value
Gives expected (Err (refused.Fault fault)) = IsFault expected fault
Gives expected (Err refused.NoMemory) = Unit {0}

-- the same of a call that leaves a calendar with the roots that are expected
abbrev pub Adds : Result (List (List ℕ)) FolderFault → Seconds → Result (Unit {0}) (Refused FolderFault) → Type 0
Adds expected seconds (Ok u) = expected ≡ Ok seconds.roots
Adds expected seconds (Err (refused.Fault fault)) = IsFault expected fault
Adds expected seconds (Err refused.NoMemory) = Unit {0}
