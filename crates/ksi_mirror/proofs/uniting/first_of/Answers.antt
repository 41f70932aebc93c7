use Rattle.std.proofs.Common.{map, subst, sym}
use Rattle.ksi_journal.specs.Journal.{RiseFrom}
use Rattle.ksi_mirror.proofs.ByKeys.{other_case}
use Rattle.ksi_mirror.proofs.uniting.first_of.Goals as goal

pub returns-in-Some : goal.returns-in-Some
returns-in-Some g c =
    other_case g.E.Keyed.key c.args.left.now c.args.right.now (subst (λ xs. RiseFrom 0 (map g.E.Keyed.key xs)) (sym c.requires.none) tt) c.requires.right c.in-Some.two.now c.in-Some.two.now c.in-Some.further.now c.in-Some.further.now
    c.requires.none c.in-Some.ensures.cases.0
