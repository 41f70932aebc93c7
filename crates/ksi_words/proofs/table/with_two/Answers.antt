use Rattle.std.proofs.Common.{[], ◌∷◌, refl}
use Rattle.ksi_words.specs.Words.{table}
use Rattle.ksi_words.proofs.Unnamed.{unnamed_refused}
use Rattle.ksi_words.proofs.table.with_two.Goals as goal

pub returns-in_default : goal.returns-in_default
returns-in_default c =
    let other = c.in_default in
    unnamed_refused table c.args.name.now (c.args.one.now ∷ c.args.two.now ∷ []) (other.not-replay, (other.not-publish, (other.not-make, (other.not-migrate, (other.not-block, (other.not-whole, tt))))))

pub returns-in-replay : goal.returns-in-replay
returns-in-replay c = rw c.in-replay.is (refl, tt)

pub returns-in-publish : goal.returns-in-publish
returns-in-publish c = rw c.in-publish.is (refl, tt)

pub returns-in-make : goal.returns-in-make
returns-in-make c = rw c.in-make.is c.make.ensures

pub returns-in-migrate : goal.returns-in-migrate
returns-in-migrate c = rw c.in-migrate.is (refl, tt)

pub returns-in-block : goal.returns-in-block
returns-in-block c = rw c.in-block.is c.block.ensures

pub returns-in-whole : goal.returns-in-whole
returns-in-whole c = rw c.in-whole.is (refl, tt)
