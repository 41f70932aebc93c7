-- The lines of one second more.
use Rattle.std.proofs.Common.{◌≡◌, ℕ, suc, ◌+◌, ◌-◌, ◌<◌, ◌≤◌, List, [], ◌∷◌, ◌++◌, refl, sym, ap, append_assoc, append-nil, ◌∙◌, arith}
use Rattle.ksi_corenode.specs.CoreState.{CoreState}
use Rattle.ksi_schedule.specs.Pieces.{Text}
use Rattle.ksi_schedule.specs.Printed.{line_of, text_of_lines}
use Rattle.ksi_wire.specs.Told.{held_lines, second_lines}

pub text_of_both : (one other : List (List Text)) → text_of_lines (one ++ other) ≡ text_of_lines one ++ text_of_lines other
text_of_both [] other = refl
text_of_both (line ∷ lines) other = ap (λ (t : Text). line_of line ++ 10 ∷ t) (text_of_both lines other) ∙ sym (append_assoc (line_of line) (10 ∷ text_of_lines lines) (text_of_lines other))

one_second : (core : CoreState) (second left : ℕ) → text_of_lines (held_lines core second (suc left)) ≡ text_of_lines (second_lines core second) ++ text_of_lines (held_lines core (suc second) left)
one_second core second left = text_of_both (second_lines core second) (held_lines core (suc second) left)

pub told_more : (core : CoreState) (text now whole : Text) (from behind count : ℕ) → behind < count → text ++ text_of_lines (held_lines core (from + behind) (count - behind)) ≡ whole
    → now ≡ text ++ text_of_lines (second_lines core (from + behind)) → now ++ text_of_lines (held_lines core (from + (behind + 1)) (count - (behind + 1))) ≡ whole
told_more core text now whole from behind count lt was is =
    let left : count - behind ≡ suc (count - (behind + 1)) = omega (arith, lt) in
    let next : from + (behind + 1) ≡ suc (from + behind) = omega arith in
    let more = text_of_lines (held_lines core (suc (from + behind)) (count - (behind + 1))) in
    ap (λ (s : ℕ). now ++ text_of_lines (held_lines core s (count - (behind + 1)))) next
    ∙ ap (λ (t : Text). t ++ more) is
    ∙ append_assoc text (text_of_lines (second_lines core (from + behind))) more
    ∙ ap (λ (t : Text). text ++ t) (sym (one_second core (from + behind) (count - (behind + 1))))
    ∙ ap (λ (n : ℕ). text ++ text_of_lines (held_lines core (from + behind) n)) (sym left)
    ∙ was

pub told_all : (core : CoreState) (text whole : Text) (from behind count : ℕ) → count ≤ behind → text ++ text_of_lines (held_lines core (from + behind) (count - behind)) ≡ whole → text ≡ whole
told_all core text whole from behind count le was =
    let none : count - behind ≡ 0 = omega (arith, le) in
    sym (append-nil text) ∙ ap (λ (n : ℕ). text ++ text_of_lines (held_lines core (from + behind) n)) (sym none) ∙ was
