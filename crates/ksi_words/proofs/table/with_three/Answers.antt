use Rattle.std.proofs.Common.{[], ◌∷◌, refl}
use Rattle.ksi_words.specs.Words.{table}
use Rattle.ksi_words.proofs.Unnamed.{unnamed_refused}
use Rattle.ksi_words.proofs.table.with_three.Goals as goal

pub returns-in_default : goal.returns-in_default
returns-in_default c =
    let other = c.in_default in
    unnamed_refused table c.args.name.now (c.args.one.now ∷ c.args.two.now ∷ c.args.three.now ∷ []) (other.not-sign, (other.not-verify, (other.not-compare, (other.not-merge, (other.not-mirror, (other.not-node, tt))))))

pub returns-in-sign : goal.returns-in-sign
returns-in-sign c = rw c.in-sign.is c.sign.ensures

pub returns-in-verify : goal.returns-in-verify
returns-in-verify c = rw c.in-verify.is c.verify.ensures

pub returns-in-compare : goal.returns-in-compare
returns-in-compare c = rw c.in-compare.is (refl, tt)

pub returns-in-merge : goal.returns-in-merge
returns-in-merge c = rw c.in-merge.is (refl, tt)

pub returns-in-mirror : goal.returns-in-mirror
returns-in-mirror c = rw c.in-mirror.is c.mirror.ensures

pub returns-in-node : goal.returns-in-node
returns-in-node c = rw c.in-node.is c.node.ensures
