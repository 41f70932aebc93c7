use Rattle.std.proofs.Common.{[], ◌∷◌, refl}
use Rattle.ksi_words.specs.Words.{table}
use Rattle.ksi_words.proofs.Unnamed.{unnamed_refused}
use Rattle.ksi_words.proofs.table.with_one.Goals as goal

pub returns-in_default : goal.returns-in_default
returns-in_default c =
    let other = c.in_default in
    unnamed_refused table c.args.name.now (c.args.one.now ∷ []) (other.not-drill, (other.not-inspect, tt))

pub returns-in-drill : goal.returns-in-drill
returns-in-drill c = rw c.in-drill.is c.drill.ensures

pub returns-in-inspect : goal.returns-in-inspect
returns-in-inspect c = rw c.in-inspect.is (refl, tt)
