use Rattle.std.proofs.Common.{◌≡◌, ℕ, List, Bool, true, false, Option, None, refl, if◌then◌else◌}
use Rattle.ksi_calendar.specs.Climbing.{calendar_join}
use Rattle.ksi_split.specs.Trees.{node_at}
use Rattle.ksi_calendar.specs.Calendar.{calendar_leaf, is_covered}
use Rattle.ksi_calendar.proofs.laws.one_part.Goals as goal

none_of : (test : Bool) (found : Option (List ℕ)) → found ≡ None → (if test then found else None) ≡ None
none_of true found none = none
none_of false found none = refl

pub returns-clause-none : goal.returns-clause-none
returns-clause-none c = λ image seconds p place sides passes.
    none_of (is_covered seconds p) (node_at (calendar_join image) (calendar_leaf seconds) p sides) (c.one_node.ensures.none (calendar_join image) (calendar_leaf seconds) p place sides passes)
