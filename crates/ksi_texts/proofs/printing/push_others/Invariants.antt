use Rattle.std.proofs.Common.{◌≡◌, ◌++◌, drop, map}
use Rattle.ksi_schedule.specs.Printed.{spaced}
use Rattle.ksi_texts.specs.Words.{word_text}
use Rattle.ksi_texts.proofs.printing.push_others.Given as goal

abbrev pub invariant-loop-word : goal.invariant-loop-word
invariant-loop-word l = l.text.items ++ spaced (map word_text (drop l.word-index l.words)) ≡ l.fn.text.items ++ spaced (map word_text l.fn.words)
