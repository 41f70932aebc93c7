-- What a line behind the first three adds, by its first word.
use Rattle.std.proofs.Common.{◌≡◌, ◌<◌, Bool, true, false, ◌&&◌, leb, eqb, List, [], ◌∷◌, length, Result, Ok, Err, refl, sym, ap, arith}
use Rattle.std.specs.Str.{bytes_eq}
use Rattle.std.specs.List.{list_all}
use Rattle.std.specs.Borrow.{Bor}
use Rattle.std.specs.Prelude.{Option, Some, None, is_some}
use Rattle.ksi_schedule.specs.declared.version.Version.{Version}
use Rattle.ksi_schedule.specs.declared.fault.LineFault.{LineFault}
use Rattle.ksi_schedule.specs.Pieces.{Text, words}
use Rattle.ksi_schedule.specs.Events.{History, with_event}
use Rattle.ksi_schedule.specs.Words.{core_actor, looks_like, kind_at, ◌>>=◌}
use Rattle.ksi_schedule.specs.Forms.{event_kinds, aggregator_line}
use Rattle.ksi_schedule.specs.Members.{members_name, name_cores, members_at, next_members}
use Rattle.ksi_schedule.specs.Lines.{is_empty, takes_members, next_in}
use Rattle.ksi_schedule.specs.Reading.{words_left}
use Rattle.ksi_schedule.proofs.Cuts.{more_words}

pub to_members : (version : Version) (h : History) (name : Text) (ws all : List Text) → all ≡ name ∷ ws → leb 1000000 (length h.events) ≡ false
    → (bytes_eq name (aggregator_line version).name && is_empty h.events) ≡ false → bytes_eq name members_name ≡ true → takes_members version h ≡ true
    → next_in version h all ≡ (members_at h.plan ws >>= next_members h)
unfolding next_in
to_members version h name ws all is room other named taken = rw (is, room, other, named, taken) refl

pub to_event : (version : Version) (h : History) (name : Text) (ws all : List Text) → all ≡ name ∷ ws → leb 1000000 (length h.events) ≡ false
    → (bytes_eq name (aggregator_line version).name && is_empty h.events) ≡ false → (bytes_eq name members_name && takes_members version h) ≡ false
    → next_in version h all ≡ (kind_at h.plan (event_kinds version) name ws >>= λ event. Ok (with_event h event))
unfolding next_in
to_event version h name ws all is room other not = rw (is, room, other, not) refl

-- words of which there are some
pub named : (o : Option (Bor Text)) → is_some o ≡ true → list_all (looks_like core_actor) (words_left o) ≡ name_cores (words_left o)
named None some = absurd cc
named (Some r) some = by_words (words r.now) (more_words r.now)
  where
    by_words : (ws : List Text) → 0 < length ws → list_all (looks_like core_actor) ws ≡ name_cores ws
    by_words [] more = absurd (omega arith)
    by_words (w ∷ ws) more = refl

pub some_there : {A : Type 0} (xs ys : List A) (b : Bool) → b ≡ eqb (length ys) 0 → b ≡ false → ys ≡ xs → is_empty xs ≡ false
some_there xs [] b is not same = absurd cc
some_there xs (y ∷ ys) b is not same = ap is_empty (sym same)

pub second_false : (a b : Bool) → b ≡ false → (a && b) ≡ false
second_false true b is = is
second_false false b is = refl

pub first_false : (a b : Bool) → a ≡ false → (a && b) ≡ false
first_false true b is = absurd cc
first_false false b is = refl

pub refused : {A B : Type 0} (r : Result A LineFault) (f : A → Result B LineFault) (fault : LineFault) → let err : Result A LineFault = Err fault in err ≡ r → (r >>= f) ≡ Err fault
refused (Ok x) f fault is = absurd cc
refused (Err other) f fault is = sym (ap (λ r. r >>= f) is)
