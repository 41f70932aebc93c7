use Rattle.std.proofs.Common.{◌≡◌, ◌++◌, drop, map}
use Rattle.ksi_texts.specs.Words.{pasted, word_text}
use Rattle.ksi_texts.proofs.printing.paste.Given as goal

abbrev pub invariant-loop-word : goal.invariant-loop-word
invariant-loop-word l = l.text.items ++ pasted (map word_text (drop l.word-index l.words)) ≡ l.fn.text.items ++ pasted (map word_text l.fn.words)
