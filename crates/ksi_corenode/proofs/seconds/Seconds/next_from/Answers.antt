use Rattle.std.proofs.Common.{◌≡◌, ◌∙◌, subst}
use Rattle.std.specs.Prelude.{IfSome, false}
use Rattle.ksi_corenode.specs.CoreState.{CoreState, state_of, stable_at}
use Rattle.ksi_corenode.specs.Next.{IsNext, held_or_sealed, part_held_or_sealed}
use Rattle.ksi_corenode.proofs.Following.{next_same, second_so}
use Rattle.ksi_corenode.proofs.seconds.Seconds.next_from.Goals as goal

pub returns-clause-next : goal.returns-clause-next
returns-clause-next g c =
    let now = c.args.self.now in
    let from = c.args.from in
    next_same (λ t. part_held_or_sealed (stable_at now t)) (λ t. held_or_sealed (state_of now t)) (second_so now) from c.next_from.result
    (subst (λ (core : CoreState). IfSome c.next_from.result (IsNext (λ t. part_held_or_sealed (stable_at core t)) from)) c.self.view_is c.next_from.ensures.next)

pub returns-clause-none : goal.returns-clause-none
returns-clause-none g c = λ none t behind.
    second_so c.args.self.now t
    ∙ subst (λ (core : CoreState). part_held_or_sealed (stable_at core t) ≡ false) c.self.view_is (c.next_from.ensures.none none t behind)
