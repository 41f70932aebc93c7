use Rattle.std.proofs.Common.{◌≡◌, ◌+◌, ◌≤◌, ◌++◌, drop, length, map}
use Rattle.ksi_schedule.specs.Printed.{spaced}
use Rattle.ksi_lines.specs.Printed.{word_text, room}
use Rattle.ksi_lines.proofs.printing.push_words.Given as goal

-- the text so far and the words to come make the text, and they fit
abbrev pub invariant-loop-word : goal.invariant-loop-word
invariant-loop-word l = record {
  told : l.text.items ++ spaced (map word_text (drop l.word-index l.words)) ≡ l.fn.text.items ++ spaced (map word_text l.fn.words);
  fits : length l.text.items + room (drop l.word-index l.words) ≤ length l.fn.text.items + room l.fn.words;
}
