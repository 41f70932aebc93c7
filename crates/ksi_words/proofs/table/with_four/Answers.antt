use Rattle.std.proofs.Common.{[], ◌∷◌, refl}
use Rattle.ksi_words.specs.Words.{table}
use Rattle.ksi_words.proofs.Unnamed.{unnamed_refused}
use Rattle.ksi_words.proofs.table.with_four.Goals as goal

pub returns-in_default : goal.returns-in_default
returns-in_default c =
    let other = c.in_default in
    unnamed_refused table c.args.name.now (c.args.one.now ∷ c.args.two.now ∷ c.args.three.now ∷ c.args.four.now ∷ []) (other.not-extend, (other.not-audit, (other.not-front, (other.not-line, (other.not-checkline, (other.not-locate, tt))))))

pub returns-in-extend : goal.returns-in-extend
returns-in-extend c = rw c.in-extend.is c.extend.ensures

pub returns-in-audit : goal.returns-in-audit
returns-in-audit c = rw c.in-audit.is c.audit.ensures

pub returns-in-front : goal.returns-in-front
returns-in-front c = rw c.in-front.is c.front.ensures

pub returns-in-line : goal.returns-in-line
returns-in-line c = rw c.in-line.is c.line.ensures

pub returns-in-checkline : goal.returns-in-checkline
returns-in-checkline c = rw c.in-checkline.is (refl, tt)

pub returns-in-locate : goal.returns-in-locate
returns-in-locate c = rw c.in-locate.is c.locate.ensures
