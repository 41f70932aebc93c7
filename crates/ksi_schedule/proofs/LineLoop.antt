-- Going over the lines of a text, as a loop does.
use Rattle.std.proofs.Common.{◌≡◌, ℕ, ◌+◌, List, [], ◌∷◌, Ok, Err, Result, refl, sym, ap, ◌∙◌}
use Rattle.ksi_imprint.specs.declared.refused.Refused.{Refused}
use Rattle.ksi_imprint.specs.declared.refused.Refused.TheVariants as refused
use Rattle.ksi_schedule.specs.Pieces.{Text, words}
use Rattle.ksi_schedule.specs.Events.{History}
use Rattle.ksi_schedule.specs.Lines.{history, next_in, with_line}
use Rattle.ksi_schedule.specs.Reading.{Fault, read_from, Goes, Reads, on_line}
use Rattle.ksi_schedule.specs.declared.version.Version.{Version}
use Rattle.ksi_schedule.specs.declared.fault.LineFault.{LineFault}
use Rattle.ksi_schedule.specs.declared.fault.ScheduleFault.{ScheduleFault}

pub goes_on : (version : Version) (n : ℕ) (ls others : List Text) (line : Text) (h new : History) (whole : Result History Fault) → read_from n ls (history version h) ≡ whole → ls ≡ line ∷ others → next_in version h (words line) ≡ Ok new → read_from (n + 1) others (history version new) ≡ whole
unfolding read_from with_line
goes_on version n ls others line h new whole left is one =
    let here : read_from n (line ∷ others) (history version h) ≡ read_from (n + 1) others (history version new) = rw one refl in
    sym here ∙ ap (λ (ls : List Text). read_from n ls (history version h)) (sym is) ∙ left

stopped : (version : Version) (n : ℕ) (ls others : List Text) (line : Text) (h : History) (fault : LineFault) (whole : Result History Fault) → read_from n ls (history version h) ≡ whole → ls ≡ line ∷ others → next_in version h (words line) ≡ Err fault → whole ≡ Err (fault, n)
unfolding read_from with_line
stopped version n ls others line h fault whole left is one =
    let here : read_from n (line ∷ others) (history version h) ≡ Err (fault, n) = rw one refl in
    sym left ∙ ap (λ (ls : List Text). read_from n ls (history version h)) is ∙ here

pub stops_there : (version : Version) (n : ℕ) (ls others : List Text) (line : Text) (h new : History) (stop : Refused LineFault) (whole : Result History Fault) → read_from n ls (history version h) ≡ whole → ls ≡ line ∷ others → Goes (next_in version h (words line)) new (Err stop) → Reads whole (Err (on_line n stop))
stops_there version n ls others line h new (refused.Fault fault) whole left is one = stopped version n ls others line h fault whole left is one
stops_there version n ls others line h new refused.NoMemory whole left is one = tt

pub ends : (version : Version) (n : ℕ) (ls : List Text) (h : History) (whole : Result History Fault) → read_from n ls (history version h) ≡ whole → ls ≡ [] → whole ≡ Ok h
unfolding read_from
ends version n ls h whole left is = sym left ∙ ap (λ (ls : List Text). read_from n ls (history version h)) is

pub wants_memory : (n : ℕ) (stop : Refused LineFault) (given : Refused ScheduleFault) → given ≡ on_line n stop → given ≡ refused.NoMemory → stop ≡ refused.NoMemory
wants_memory n (refused.Fault other) given is memory = absurd cc
wants_memory n refused.NoMemory given is memory = refl
