use Rattle.std.proofs.Common.{rules, ◌≡◌, ◌<◌, ◌^◌, ℕ, IfOk, Result, sym, subst}
use Rattle.ksi_words.specs.declared.asked.WordsRefusal.{WordsRefusal}
use Rattle.ksi_words.specs.Sorts.{time_of}
use Rattle.ksi_words.specs.Words.{word_at}
use Rattle.ksi_words.proofs.Early.{early_at}
use Rattle.ksi_words.proofs.table.time_at.Goals as goal

pub returns-clause-early : goal.returns-clause-early
returns-clause-early c =
    let is : c.ok_or.result ≡ word_at c.args.n (time_of c.args.word.now) = search rules in
    subst (λ (r : Result ℕ WordsRefusal). IfOk r (λ (t : ℕ). t < 2 ^ 63)) (sym is) (early_at c.args.n c.args.word.now)
