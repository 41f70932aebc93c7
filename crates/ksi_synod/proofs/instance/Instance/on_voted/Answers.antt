use Rattle.std.proofs.Common.{◌≡◌, refl, ap, ◌∙◌}
use Rattle.ksi_synod.specs.Instance.{state_of}
use Rattle.ksi_synod.specs.Rows.{on_voted, with_voted, completes}
use Rattle.ksi_synod.proofs.instance.Instance.on_voted.Goals as goal

pub returns-then-not-add_voted-clause-after : goal.returns-then-not-add_voted-clause-after
unfolding on_voted state_of
returns-then-not-add_voted-clause-after c =
    let first : c.add_voted.result ≡ completes c.self.inside.voters c.in-Some.hand (with_voted c.in-Some.hand c.args.from) = c.add_voted.ensures.first ∙ ap (completes c.self.inside.voters c.in-Some.hand) c.add_voted.ensures.hand in
    rw (← c.self.view_is, c.in-Some.is, c.add_voted.ensures.hand, ← c.voted_for.ensures, c.in-Some-voted_for.is, ← first, c.if-not-add_voted.true) refl

pub returns-then-not-add_voted-clause-answer : goal.returns-then-not-add_voted-clause-answer
unfolding on_voted state_of
returns-then-not-add_voted-clause-answer c =
    let first : c.add_voted.result ≡ completes c.self.inside.voters c.in-Some.hand (with_voted c.in-Some.hand c.args.from) = c.add_voted.ensures.first ∙ ap (completes c.self.inside.voters c.in-Some.hand) c.add_voted.ensures.hand in
    rw (← c.self.view_is, c.in-Some.is, ← c.voted_for.ensures, c.in-Some-voted_for.is, ← first, c.if-not-add_voted.true) refl

pub returns-clause-after : goal.returns-clause-after
unfolding on_voted state_of
returns-clause-after c =
    let first : c.add_voted.result ≡ completes c.self.inside.voters c.in-Some.hand (with_voted c.in-Some.hand c.args.from) = c.add_voted.ensures.first ∙ ap (completes c.self.inside.voters c.in-Some.hand) c.add_voted.ensures.hand in
    rw (← c.self.view_is, c.in-Some.is, c.add_voted.ensures.hand, c.unwrap_or.ensures, ← c.voted_for.ensures, c.in-Some-voted_for.is, ← first, c.if-not-add_voted.false) refl

pub returns-clause-answer : goal.returns-clause-answer
unfolding on_voted state_of
returns-clause-answer c =
    let first : c.add_voted.result ≡ completes c.self.inside.voters c.in-Some.hand (with_voted c.in-Some.hand c.args.from) = c.add_voted.ensures.first ∙ ap (completes c.self.inside.voters c.in-Some.hand) c.add_voted.ensures.hand in
    rw (← c.self.view_is, c.in-Some.is, ← c.voted_for.ensures, c.in-Some-voted_for.is, ← first, c.if-not-add_voted.false) refl
