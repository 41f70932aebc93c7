use Rattle.std.proofs.Common.{◌∙◌, ℕ, ◌+◌, ◌++◌, List, length, Option, Some, refl, sym, ap, subst}
use Rattle.ksi_calendar.specs.Calendar.{Seconds}
use Rattle.ksi_corenode.specs.CoreState.{held_by}
use Rattle.ksi_corenode.specs.Kept.{held_with}
use Rattle.ksi_corenode.specs.Settled.{IsCalendarOf}
use Rattle.ksi_corenode.proofs.Changes.{on_ok}
use Rattle.ksi_corenode.proofs.Kept.{kept_longer}
use Rattle.ksi_corenode.proofs.growing.lengthen.Goals as goal

pub returns-clause-lengthened : goal.returns-clause-lengthened
returns-clause-lengthened g c =
    let roots = held_by c.args.seconds.now in
    let start = c.args.seconds.now.start in
    let run = c.in_ok-roots.roots.items in
    let next = c.if-not-is_next.ensures.next refl in
    on_ok c.append_all.result
    (λ same. subst (λ (calendar : Seconds). IsCalendarOf (held_with roots c.args.second c.args.held) start calendar)
    (sym (same ∙ ap (λ (xs : List (List ℕ)). record c.args.calendar.now { roots = c.args.calendar.now.roots ++ xs }) c.deref.ensures.value))
    (subst (λ (held : Option (List ℕ)). IsCalendarOf (held_with roots c.args.second held) start (record c.args.calendar.now { roots = c.args.calendar.now.roots ++ run })) (sym c.in-Some.is)
    (kept_longer roots start c.args.second c.args.calendar.now c.requires.calendar (Some c.in-Some.root) run (next.0 ∙ ap (λ (n : ℕ). n + length c.args.calendar.now.roots) c.requires.calendar.begins)
    (record { most = c.in_ok-roots.ensures.most; roots = c.in_ok-roots.ensures.roots }))))
    c.append_all.ensures.added
