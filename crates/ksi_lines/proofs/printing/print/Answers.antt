use Rattle.std.proofs.Common.{map, ◌∙◌}
use Rattle.ksi_lines.specs.Printed.{word_text}
use Rattle.ksi_lines.proofs.Spacing.{whole_line}
use Rattle.ksi_lines.proofs.printing.print.Goals as goal

pub returns : goal.returns
returns c =
    whole_line c.new-text.result.items c.push_word.new.text.items c.push_words.new.text.items c.push_words-2.new.text.items c.short.result
    (word_text c.args.first) (map word_text c.args.words.now) (map word_text c.args.values.now)
    c.new-text.ensures c.push_word.ensures.told c.push_words.ensures.told c.push_words-2.ensures.told (c.short.ensures ∙ c.push.ensures)
