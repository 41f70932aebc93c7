use Rattle.std.proofs.Common.{◌≡◌, ◌+◌, ◌≤◌, ◌++◌, drop, length}
use Rattle.ksi_lines.specs.Answers.{letters}
use Rattle.ksi_lines.proofs.auditing.push_letters.Given as goal

-- the text so far and the sides to come make the text, and they fit
abbrev pub invariant-loop-side : goal.invariant-loop-side
invariant-loop-side l = record {
  told : l.text.bytes ++ letters (drop l.side-index l.sides) ≡ l.fn.text.bytes ++ letters l.fn.sides;
  fits : length l.text.bytes + length (drop l.side-index l.sides) ≤ 63;
}
