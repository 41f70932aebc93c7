use Rattle.std.proofs.Common.{◌+◌, ◌∙◌, sym, arith}
use Rattle.ksi_calendar.specs.Climbing.{calendar_join}
use Rattle.ksi_calendar.specs.Calendar.{calendar_leaf}
use Rattle.ksi_calendar.specs.Covered.{covered_seconds}
use Rattle.ksi_calendar.proofs.Knowing.{leaf_is, seconds_is}
use Rattle.ksi_calendar.proofs.laws.one_covered.Goals as goal

pub returns-clause-leaves : goal.returns-clause-leaves
returns-clause-leaves c = leaf_is

pub returns-clause-root : goal.returns-clause-root
returns-clause-root c = λ image seconds roots start p leaves.
    c.one_calendar.ensures.own_seconds image seconds (covered_seconds roots start p) 0 (p + 1) (omega arith)
    (λ t from below. leaves t (omega (arith, below)) ∙ sym (leaf_is roots start p t (omega (arith, below))))

pub returns-clause-path : goal.returns-clause-path
returns-clause-path c = λ image seconds roots start t p leaves.
    c.one_path.ensures.own_leaves (calendar_join image) (calendar_leaf seconds) (calendar_leaf (covered_seconds roots start p)) 0 t (p + 1)
    (λ u from below. leaves u (omega (arith, below)) ∙ sym (leaf_is roots start p u (omega (arith, below))))

pub returns-clause-seconds : goal.returns-clause-seconds
returns-clause-seconds c = seconds_is
