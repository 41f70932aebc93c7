-- Memory that is wanting for a later line is wanting behind the lines before it.
use Rattle.std.proofs.Common.{◌≡◌, ℕ, ◌-◌, ◌^◌, List, [], ◌∷◌, codes, Some, Ok, refl, sym, ap, subst, ◌∙◌}
use Rattle.std.specs.Prelude.{IsOk}
use Rattle.ksi_schedule.specs.Pieces.{Text, words}
use Rattle.ksi_schedule.specs.Events.{History}
use Rattle.ksi_schedule.specs.Lines.{Said, nothing, title, cores, history, bare, version_in, number_behind, number_in, within, next_in, with_line}
use Rattle.ksi_schedule.specs.Spelled.{IsWantingFrom}
use Rattle.ksi_schedule.specs.declared.version.Version.{Version}

pub wanting_here : (version : Version) (h : History) (line : Text) (ls others : List Text) → ls ≡ line ∷ others → IsOk (next_in version h (words line)) → IsWantingFrom (history version h) ls
wanting_here version h line ls others split fine = record { before = []; line = line; others = others; split = split; version = version; h = h; says = refl; fine = fine }

pub wanting_behind : (said next : Said) (line : Text) (ls others : List Text) → ls ≡ line ∷ others → with_line said line ≡ Ok next → IsWantingFrom next others → IsWantingFrom said ls
wanting_behind said next line ls others split step w = record {
  before = line ∷ w.before;
  line = w.line;
  others = w.others;
  split = split ∙ ap (λ (ls : List Text). line ∷ ls) w.split;
  version = w.version;
  h = w.h;
  says = (next, step, w.says);
  fine = w.fine;
}

pub wanting_next : (version : Version) (h next : History) (line : Text) (ls others : List Text) → ls ≡ line ∷ others → next_in version h (words line) ≡ Ok next → IsWantingFrom (history version next) others → IsWantingFrom (history version h) ls
unfolding with_line
wanting_next version h next line ls others split step w = wanting_behind (history version h) (history version next) line ls others split (rw step refl) w

-- ---- the first three lines

title_line : (line : Text) (version : Version) → Some version ≡ version_in line → with_line nothing line ≡ Ok (title version)
unfolding with_line
title_line line version is = rw (sym is) refl

cores_line : (version : Version) (line : Text) (n : ℕ) → Some n ≡ within 1 9 (number_behind (codes "cores") (words line)) → with_line (title version) line ≡ Ok (cores version n)
unfolding with_line number_in
cores_line version line n is = rw (sym is) refl

start_line : (version : Version) (line : Text) (n start : ℕ) → Some start ≡ within 0 (2 ^ 63 - 2 ^ 24) (number_behind (codes "start") (words line)) → with_line (cores version n) line ≡ Ok (history version (bare n start))
unfolding with_line number_in
start_line version line n start is = rw (sym is) refl

pub wanting_behind_three : (version : Version) (one two three : Text) (all behind_one behind_two behind_three : List Text) (n start : ℕ) (h : History)
    → all ≡ one ∷ behind_one → behind_one ≡ two ∷ behind_two → behind_two ≡ three ∷ behind_three
    → Some version ≡ version_in one → Some n ≡ within 1 9 (number_behind (codes "cores") (words two)) → Some start ≡ within 0 (2 ^ 63 - 2 ^ 24) (number_behind (codes "start") (words three))
    → h ≡ bare n start → IsWantingFrom (history version h) behind_three → IsWantingFrom nothing all
wanting_behind_three version one two three all behind_one behind_two behind_three n start h first second third titled some begun bare_is w =
    wanting_behind nothing (title version) one all behind_one first (title_line one version titled)
    (wanting_behind (title version) (cores version n) two behind_one behind_two second (cores_line version two n some)
    (wanting_behind (cores version n) (history version (bare n start)) three behind_two behind_three third (start_line version three n start begun)
    (subst (λ (h : History). IsWantingFrom (history version h) behind_three) bare_is w)))
