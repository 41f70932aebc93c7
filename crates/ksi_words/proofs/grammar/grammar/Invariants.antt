use Rattle.std.proofs.Common.{◌≡◌, map, take}
use Rattle.clap.specs.Words.{app_of}
use Rattle.ksi_words.specs.Grammar.{app_over, form_of}
use Rattle.ksi_words.proofs.grammar.grammar.Given as goal

abbrev pub invariant-rows : goal.invariant-rows
invariant-rows l = app_of l.grammar ≡ app_over (map form_of (take l.row-index l.fn.rows))
