use Rattle.std.proofs.Common.{[], ◌∷◌, refl, arith}
use Rattle.ksi_schedule.specs.Forms.{bare_parents, named_parents}
use Rattle.ksi_schedule.specs.Reading.{words_left}
use Rattle.ksi_schedule.proofs.Fitting.{bare_is, none_is, named_is}
use Rattle.ksi_schedule.proofs.rows.parent.Goals as goal

pub returns-in-Some-clause-value : goal.returns-in-Some-clause-value
returns-in-Some-clause-value c =
    bare_is c.args.plan.now c.args.version bare_parents named_parents (words_left c.args.words) (c.in-Some.k.now ∷ c.in-Some.word.now ∷ c.in-Some.actor.now ∷ []) c.bare_parent.result c.in-Some.ensures ((λ is. omega (arith, is)), ((λ is. omega (arith, is)), tt)) c.bare_parent.ensures.value

pub returns-in-One-clause-value : goal.returns-in-One-clause-value
returns-in-One-clause-value c = none_is c.args.plan.now c.args.version bare_parents named_parents (words_left c.args.words) _ (c.in-None.ensures, (c.in-None.ensures, tt)) c.in-One.is refl

pub returns-in-Two-clause-value : goal.returns-in-Two-clause-value
returns-in-Two-clause-value c = named_is c.args.plan.now c.args.version bare_parents named_parents (words_left c.args.words) c.named_parent.result (c.in-None.ensures, (c.in-None.ensures, tt)) c.in-Two.is c.named_parent.ensures.value
