use Rattle.std.proofs.Common.{◌<◌, ◌⊎◌, ℕ, List, length, subst, arith}
use Rattle.ksi_words.specs.Words.{Asks, command_named, table}
use Rattle.ksi_words.proofs.Counted.{one_of, two_of, three_of, four_of, miscounted_refused}
use Rattle.ksi_words.proofs.table.asked.Goals as goal

pub returns-in-len1 : goal.returns-in-len1
returns-in-len1 c =
    subst (λ (words : List (List ℕ)). Asks (command_named table c.args.name.now words) c.with_one.result) (one_of c.args.words.now _ c.in-len1.len_at_least c.in-len1.len_below) c.with_one.ensures

pub returns-in-len2 : goal.returns-in-len2
returns-in-len2 c =
    subst (λ (words : List (List ℕ)). Asks (command_named table c.args.name.now words) c.with_two.result) (two_of c.args.words.now _ c.in-len2.len_at_least c.in-len2.len_below) c.with_two.ensures

pub returns-in-len3 : goal.returns-in-len3
returns-in-len3 c =
    subst (λ (words : List (List ℕ)). Asks (command_named table c.args.name.now words) c.with_three.result) (three_of c.args.words.now _ c.in-len3.len_at_least c.in-len3.len_below) c.with_three.ensures

pub returns-in-len4 : goal.returns-in-len4
returns-in-len4 c =
    subst (λ (words : List (List ℕ)). Asks (command_named table c.args.name.now words) c.with_four.result) (four_of c.args.words.now _ c.in-len4.len_at_least c.in-len4.len_below) c.with_four.ensures

pub returns-in_default : goal.returns-in_default
returns-in_default c =
    let other : (length c.args.words.now < 1) ⊎ (4 < length c.args.words.now) = grind (arith, c.in_default.branch) in
    miscounted_refused c.args.name.now c.args.words.now other
