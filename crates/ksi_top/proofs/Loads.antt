-- A file that is loaded, and then read.
use Rattle.std.proofs.Common.{◌≡◌, ℕ, ◌≤◌, Bool, true, false, IsTrue, List, length, Result, Ok, Err, inr, refl, sym, ap, subst, ◌∙◌}
use Rattle.std.specs.Prelude.{nat_lt}
use Rattle.std.proofs.lemmas.Bool.{le-ltb, ltb-false}
use Rattle.ksi_ports.specs.Stored.{Held}
use Rattle.ksi_ports.specs.declared.files.Files as files
use Rattle.ksi_top.specs.declared.report.Report.{Report}
use Rattle.ksi_top.specs.declared.report.Halt.{Halt}
use Rattle.ksi_top.specs.declared.report.Halt.TheVariants as halts
use Rattle.ksi_top.specs.declared.status.Status.TheVariants.{TooLong}
use Rattle.ksi_top.specs.Reports.{Gives, HaltsMalformed, IsTooLong, and_then, report}
use Rattle.ksi_top.specs.Causes.{LoadCaused, counts_of}
use Rattle.ksi_top.specs.Loading.{FileKind, content, loaded, loaded_as, or_malformed, read_as, too_long_line}
use Rattle.ksi_top.specs.Promised.{IsLoaded}

-- what is malformed is not too long
malformed_only : {T X : Type 0} (words : X → List (List ℕ)) (n : ℕ) (read : Result T X) → IsTooLong (or_malformed words n read) → ⊥
malformed_only words n (Ok value) long = long
malformed_only words n (Err fault) long = absurd (cc long)

-- so what is too long was so when it was loaded
long_before : {T : Type 0} (file : FileKind T) (n : ℕ) (bytes : Result (List ℕ) Report) → IsTooLong (and_then bytes (read_as file n)) → IsTooLong bytes
long_before file n (Ok bytes) long = malformed_only file.words n (file.read bytes) long
long_before file n (Err report) long = long

-- a load that gives another value, or none
load_of : {F A B : Type 0} (kind : files.Ghosts F) (n limit : ℕ) (bytes : Result A Report) (expected : Result B Report) (old new : F) (loaded : Result A Halt) (result : Result B Halt)
    → IsLoaded kind n limit bytes old new loaded → (IsTrue kind.tells → Gives expected result) → (IsTrue kind.tells → result ≡ Err halts.NoMemory → IsTooLong expected → kind.calls new ≡ kind.calls old)
    → LoadCaused n limit (counts_of kind old) (counts_of kind new) result → IsLoaded kind n limit expected old new result
load_of kind n limit bytes expected old new loaded result one told wanting causes = record { told = told; stays = one.stays; later = one.later; few_calls = one.few_calls; wanting = wanting; causes = causes }

-- what is told of bytes, told of what is read of them
read_told : {T : Type 0} (file : FileKind T) (n : ℕ) (bytes it : Result (List ℕ) Report) → bytes ≡ it → and_then bytes (read_as file n) ≡ and_then it (read_as file n)
read_told file n bytes it is = ap (λ (it : Result (List ℕ) Report). and_then it (read_as file n)) is

-- the load gives no bytes
unloaded_so : {F T : Type 0} (kind : files.Ghosts F) (file : FileKind T) (n limit : ℕ) (bytes : Result (List ℕ) Report) (old new : F) (halt : Halt)
    → IsLoaded {T = List ℕ} kind n limit bytes old new (Err halt) → IsLoaded {T = T} kind n limit (and_then bytes (read_as file n)) old new (Err halt)
unloaded_so kind file n limit bytes old new (halts.Reported report) one =
    load_of kind n limit bytes _ old new _ _ one (λ tells. read_told file n bytes _ (one.told tells)) (λ tells no long. absurd (cc no)) one.causes
unloaded_so kind file n limit bytes old new halts.Fault one =
    load_of kind n limit bytes _ old new _ _ one (λ tells. tt) (λ tells no long. absurd (cc no)) one.causes
unloaded_so kind file n limit bytes old new halts.NoMemory one =
    load_of kind n limit bytes _ old new _ _ one (λ tells. tt) (λ tells no long. one.wanting tells refl (long_before file n bytes long)) one.causes

pub unloaded : {F T : Type 0} (kind : files.Ghosts F) (file : FileKind T) (n limit : ℕ) (held : Held) (name : List ℕ) (old new : F) (halt : Halt) (result : Result T Halt)
    → IsLoaded {T = List ℕ} kind n limit (loaded limit n held name) old new (Err halt) → result ≡ Err halt → IsLoaded kind n limit (loaded_as file limit n held name) old new result
unfolding loaded_as
unloaded {T = T} kind file n limit held name old new halt result one is =
    subst (λ (result : Result T Halt). IsLoaded kind n limit (and_then (loaded limit n held name) (read_as file n)) old new result) (sym is) (unloaded_so kind file n limit (loaded limit n held name) old new halt one)

-- the bytes are read
read_behind : {F T : Type 0} (kind : files.Ghosts F) (file : FileKind T) (n limit : ℕ) (expected : Result (List ℕ) Report) (bytes : List ℕ) (old new : F) (result : Result T Halt)
    → IsLoaded {T = List ℕ} kind n limit expected old new (Ok bytes) → Gives (read_as file n bytes) result → HaltsMalformed result
    → IsLoaded {T = T} kind n limit (and_then expected (read_as file n)) old new result
read_behind kind file n limit expected bytes old new (Ok value) one gives halts =
    load_of kind n limit expected _ old new _ _ one (λ tells. read_told file n expected _ (one.told tells) ∙ gives) (λ tells no long. absurd (cc no)) one.causes
read_behind kind file n limit expected bytes old new (Err (halts.Reported report)) one gives halts =
    load_of kind n limit expected _ old new _ _ one (λ tells. read_told file n expected _ (one.told tells) ∙ gives) (λ tells no long. absurd (cc no))
    (inr (record { loaded = one.causes; status = halts.0; unsaved = halts.1 }))
read_behind kind file n limit expected bytes old new (Err halts.Fault) one gives halts = absurd halts
read_behind kind file n limit expected bytes old new (Err halts.NoMemory) one gives halts =
    let held_long : (it : Result (List ℕ) Report) → it ≡ Ok bytes → IsTooLong it → ⊥ = λ it same long. subst (λ (it : Result (List ℕ) Report). IsTooLong it) same long in
    load_of kind n limit expected _ old new _ _ one (λ tells. tt) (λ tells no long. absurd (held_long expected (one.told tells) (long_before file n expected long))) one.causes.quiet

pub read_after : {F T : Type 0} (kind : files.Ghosts F) (file : FileKind T) (n limit : ℕ) (held : Held) (name bytes slice : List ℕ) (old new : F) (result : Result T Halt)
    → slice ≡ bytes → IsLoaded {T = List ℕ} kind n limit (loaded limit n held name) old new (Ok bytes) → Gives (read_as file n slice) result → HaltsMalformed result
    → IsLoaded kind n limit (loaded_as file limit n held name) old new result
unfolding loaded_as
read_after kind file n limit held name bytes slice old new result same one gives halts =
    read_behind kind file n limit (loaded limit n held name) bytes old new result one (subst (λ (bytes : List ℕ). Gives (read_as file n bytes) result) same gives) halts

-- what is read is within the limit
pub few_read : {T : Type 0} (file : FileKind T) (limit n : ℕ) (held : Held) (name : List ℕ) (value : T) → loaded_as file limit n held name ≡ Ok value → length (content held name) ≤ limit
unfolding loaded_as loaded
few_read file limit n held name value is = by (nat_lt limit (length (content held name))) refl
  where
    by : (long : Bool) → nat_lt limit (length (content held name)) ≡ long → length (content held name) ≤ limit
    by true e = absurd (let no : Err (report TooLong (too_long_line n)) ≡ Ok value = rw e at is in cc no)
    by false e = ltb-false _ _ e

-- a file within the limit is read as its value
pub loads_as : {T : Type 0} (file : FileKind T) (limit n : ℕ) (held : Held) (name : List ℕ) (value : T) → length (content held name) ≤ limit → file.read (content held name) ≡ Ok value → loaded_as file limit n held name ≡ Ok value
unfolding loaded_as loaded
loads_as file limit n held name value few is = rw (le-ltb limit (length (content held name)) few, is) refl

-- what is read follows from what is held
pub loads_the_same : {T : Type 0} (file : FileKind T) (limit n : ℕ) (before after : Held) (name : List ℕ) → content after name ≡ content before name → loaded_as file limit n after name ≡ loaded_as file limit n before name
unfolding loaded_as loaded
loads_the_same file limit n before after name same = rw same refl
