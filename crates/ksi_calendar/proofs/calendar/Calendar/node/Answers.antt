use Rattle.std.proofs.Common.{◌≡◌, ℕ, List, Bool, true, None, if◌then◌else◌, ◌∙◌, sym, ap}
use Rattle.ksi_split.specs.Trees.{node_at}
use Rattle.ksi_split.specs.Leaves.{leaf_at}
use Rattle.ksi_calendar.specs.Climbing.{calendar_join}
use Rattle.ksi_calendar.specs.Calendar.{Seconds, calendar_leaf, is_covered}
use Rattle.ksi_calendar.proofs.calendar.Calendar.node.Goals as goal

pub returns-then-covers : goal.returns-then-covers
returns-then-covers g c =
    let join = calendar_join g.C.Compress.image in
    let p = c.args.p in
    let sides = c.args.sides.now in
    let covered : is_covered c.args.self.now p ≡ true = sym c.covers.ensures ∙ c.if-covers.true in
    c.node.ensures
    ∙ ap (λ (before : List ℕ). node_at join (leaf_at c.self.inside.rows.start before c.self.inside.rows.items) p sides) c.self.invariant
    ∙ ap (λ (seconds : Seconds). node_at join (calendar_leaf seconds) p sides) c.self.view_is
    ∙ sym (ap (λ (test : Bool). if test then node_at join (calendar_leaf c.args.self.now) p sides else None) covered)
