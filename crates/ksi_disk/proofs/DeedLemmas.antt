-- What one mark more means.
use Rattle.std.proofs.Common.{◌≡◌, ℕ, suc, ◌+◌, ◌-◌, ◌≤◌, ◌<◌, List, [], ◌∷◌, ◌++◌, length, take, drop, get_or, refl, sym, ◌∙◌, ap, arith, length-append, length-drop}
use Rattle.std.proofs.lemmas.List.{drop-drop, take-append-drop, take-append-le, drop-append-le, take_all, drop_at, take_more}
use Rattle.ksi_disk.specs.declared.marks.Mark.{Mark}
use Rattle.ksi_disk.specs.declared.marks.Mark.TheVariants.{Wrote, Synced}
use Rattle.ksi_disk.specs.Deeds.{Deed, wrote, synced, deeds_onto, deeds_at, deed_of, pieces_length}

-- a mark more is a deed more
pub deeds_more : (earlier : List Deed) (marks : List Mark) (mark : Mark) (pieces : List ℕ) → deeds_onto earlier (marks ++ mark ∷ []) pieces ≡ deed_of mark (drop (pieces_length marks) pieces) ∷ deeds_onto earlier marks pieces
deeds_more earlier [] (Wrote at count succeeded) pieces = refl
deeds_more earlier [] Synced pieces = refl
deeds_more earlier (Wrote at count succeeded ∷ marks) mark pieces =
    deeds_more (wrote at (take count pieces) succeeded ∷ earlier) marks mark (drop count pieces)
    ∙ ap (λ (rest : List ℕ). deed_of mark rest ∷ deeds_onto (wrote at (take count pieces) succeeded ∷ earlier) marks (drop count pieces)) (drop-drop (pieces_length marks) count pieces)
deeds_more earlier (Synced ∷ marks) mark pieces = deeds_more (synced ∷ earlier) marks mark pieces

-- bytes behind the pieces change nothing
pub deeds_behind : (earlier : List Deed) (marks : List Mark) (pieces more : List ℕ) → pieces_length marks ≤ length pieces → deeds_onto earlier marks (pieces ++ more) ≡ deeds_onto earlier marks pieces
deeds_behind earlier [] pieces more whole = refl
deeds_behind earlier (Wrote at count succeeded ∷ marks) pieces more whole =
    let within : count ≤ length pieces = omega arith in
    ap (λ (piece : List ℕ). deeds_onto (wrote at piece succeeded ∷ earlier) marks (drop count (pieces ++ more))) (take-append-le count pieces more within)
    ∙ ap (λ (rest : List ℕ). deeds_onto (wrote at (take count pieces) succeeded ∷ earlier) marks rest) (drop-append-le count pieces more within)
    ∙ deeds_behind (wrote at (take count pieces) succeeded ∷ earlier) marks (drop count pieces) more (omega (arith, length-drop count pieces))
deeds_behind earlier (Synced ∷ marks) pieces more whole = deeds_behind (synced ∷ earlier) marks pieces more whole

pub length-deeds_onto : (earlier : List Deed) (marks : List Mark) (pieces : List ℕ) → length (deeds_onto earlier marks pieces) ≡ length earlier + length marks
length-deeds_onto earlier [] pieces = omega arith
length-deeds_onto earlier (Wrote at count succeeded ∷ marks) pieces = omega (arith, length-deeds_onto (wrote at (take count pieces) succeeded ∷ earlier) marks (drop count pieces))
length-deeds_onto earlier (Synced ∷ marks) pieces = omega (arith, length-deeds_onto (synced ∷ earlier) marks pieces)

pub pieces_length-more : (marks : List Mark) (mark : Mark) → pieces_length (marks ++ mark ∷ []) ≡ pieces_length marks + pieces_length (mark ∷ [])
pieces_length-more [] mark = omega arith
pieces_length-more (Wrote at count succeeded ∷ marks) mark = omega (arith, pieces_length-more marks mark)
pieces_length-more (Synced ∷ marks) mark = pieces_length-more marks mark

-- a write is noted, its piece behind the others
pub noted_write : (marks more_marks : List Mark) (pieces more_pieces piece : List ℕ) (at : ℕ) (succeeded : _) → more_marks ≡ marks ++ Wrote at (length piece) succeeded ∷ [] → more_pieces ≡ pieces ++ piece → pieces_length marks ≡ length pieces
    → deeds_onto [] more_marks more_pieces ≡ wrote at piece succeeded ∷ deeds_onto [] marks pieces
noted_write marks more_marks pieces more_pieces piece at succeeded is_marks is_pieces whole =
    (λ i. deeds_onto [] (is_marks i) (is_pieces i))
    ∙ deeds_more [] marks (Wrote at (length piece) succeeded) (pieces ++ piece)
    ∙ ap (λ (p : List ℕ). wrote at p succeeded ∷ deeds_onto [] marks (pieces ++ piece)) (ap (λ (rest : List ℕ). take (length piece) rest) (drop_at pieces piece (pieces_length marks) (sym whole)) ∙ take_all (length piece) piece (omega arith))
    ∙ ap (λ (deeds : List Deed). wrote at piece succeeded ∷ deeds) (deeds_behind [] marks pieces piece (omega arith))

pub noted_length : (marks more_marks : List Mark) (pieces more_pieces piece : List ℕ) (at : ℕ) (succeeded : _) → more_marks ≡ marks ++ Wrote at (length piece) succeeded ∷ [] → more_pieces ≡ pieces ++ piece → pieces_length marks ≡ length pieces
    → pieces_length more_marks ≡ length more_pieces
noted_length marks more_marks pieces more_pieces piece at succeeded is_marks is_pieces whole =
    omega (arith, ap pieces_length is_marks, pieces_length-more marks (Wrote at (length piece) succeeded), ap length is_pieces, length-append pieces piece)

-- deeds of marks behind others
pub deeds_split : (earlier : List Deed) (marks later : List Mark) (pieces : List ℕ) → deeds_onto earlier (marks ++ later) pieces ≡ deeds_onto (deeds_onto earlier marks pieces) later (drop (pieces_length marks) pieces)
deeds_split earlier [] later pieces = refl
deeds_split earlier (Wrote at count succeeded ∷ marks) later pieces =
    deeds_split (wrote at (take count pieces) succeeded ∷ earlier) marks later (drop count pieces)
    ∙ ap (λ (rest : List ℕ). deeds_onto (deeds_onto (wrote at (take count pieces) succeeded ∷ earlier) marks (drop count pieces)) later rest) (drop-drop (pieces_length marks) count pieces)
deeds_split earlier (Synced ∷ marks) later pieces = deeds_split (synced ∷ earlier) marks later pieces

drop_one_more : (deed : Deed) (earlier all : List Deed) (count : ℕ) → drop count all ≡ deed ∷ earlier → drop (suc count) all ≡ earlier
drop_one_more deed earlier all count is = let more : count + 1 ≡ suc count = omega arith in sym (ap (λ (k : ℕ). drop k all) more) ∙ sym (drop-drop 1 count all) ∙ ap (λ (l : List Deed). drop 1 l) is

pub deeds_before : (earlier : List Deed) (marks : List Mark) (pieces : List ℕ) → drop (length marks) (deeds_onto earlier marks pieces) ≡ earlier
deeds_before earlier [] pieces = refl
deeds_before earlier (Wrote at count succeeded ∷ marks) pieces =
    drop_one_more (wrote at (take count pieces) succeeded) earlier (deeds_onto (wrote at (take count pieces) succeeded ∷ earlier) marks (drop count pieces)) (length marks) (deeds_before (wrote at (take count pieces) succeeded ∷ earlier) marks (drop count pieces))
deeds_before earlier (Synced ∷ marks) pieces = drop_one_more synced earlier (deeds_onto (synced ∷ earlier) marks pieces) (length marks) (deeds_before (synced ∷ earlier) marks pieces)

-- the first marks are the first deeds
pub deeds_of_first : (moment : ℕ) (marks : List Mark) (pieces : List ℕ) → moment ≤ length marks → deeds_onto [] (take moment marks) pieces ≡ deeds_at moment (deeds_onto [] marks pieces)
deeds_of_first moment marks pieces within =
    let first = take moment marks in
    let later = drop moment marks in
    let rest = drop (pieces_length first) pieces in
    let split : deeds_onto [] marks pieces ≡ deeds_onto (deeds_onto [] first pieces) later rest = ap (λ (ms : List Mark). deeds_onto [] ms pieces) (sym (take-append-drop moment marks)) ∙ deeds_split [] first later pieces in
    let count : length (deeds_onto [] marks pieces) - moment ≡ length later = omega (arith, length-deeds_onto [] marks pieces, length-drop moment marks) in
    sym (deeds_before (deeds_onto [] first pieces) later rest) ∙ sym (ap (λ (deeds : List Deed). drop (length later) deeds) split) ∙ sym (ap (λ (k : ℕ). drop k (deeds_onto [] marks pieces)) count)

pub pieces_length-split : (marks later : List Mark) → pieces_length (marks ++ later) ≡ pieces_length marks + pieces_length later
pieces_length-split [] later = omega arith
pieces_length-split (Wrote at count succeeded ∷ marks) later = omega (arith, pieces_length-split marks later)
pieces_length-split (Synced ∷ marks) later = pieces_length-split marks later

-- one mark more was replayed
pub first_more : (marks : List Mark) (i : ℕ) (none : Mark) (pieces : List ℕ) → i < length marks → deeds_onto [] (take (i + 1) marks) pieces ≡ deed_of (get_or marks i none) (drop (pieces_length (take i marks)) pieces) ∷ deeds_onto [] (take i marks) pieces
first_more marks i none pieces within = ap (λ (ms : List Mark). deeds_onto [] ms pieces) (take_more marks i none within) ∙ deeds_more [] (take i marks) (get_or marks i none) pieces

pub first_pieces : (marks : List Mark) (i : ℕ) (none : Mark) → i < length marks → pieces_length (take (i + 1) marks) ≡ pieces_length (take i marks) + pieces_length (get_or marks i none ∷ [])
first_pieces marks i none within = ap pieces_length (take_more marks i none within) ∙ pieces_length-more (take i marks) (get_or marks i none)

pub first_within : (marks : List Mark) (i : ℕ) → pieces_length (take i marks) ≤ pieces_length marks
first_within marks i = omega (arith, pieces_length-split (take i marks) (drop i marks), ap pieces_length (take-append-drop i marks))
