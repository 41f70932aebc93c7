use Rattle.std.proofs.Common.{◌≡◌, ◌^◌, ◌∙◌, sym, ap, subst, arith}
use Rattle.ksi_world.specs.Histories.{put_rising}
use Rattle.ksi_world.specs.Validity.{AreTimes}
use Rattle.ksi_world.proofs.Rising.{put_known, put_new}
use Rattle.ksi_world.proofs.Publishing.{put_times}
use Rattle.ksi_world.proofs.published.PublishedRoots.put.Goals as goal

pub returns-then-contains_key-clause-put : goal.returns-then-contains_key-clause-put
returns-then-contains_key-clause-put c =
    let known = sym c.contains_key.ensures ∙ c.if-contains_key.true in
    subst (λ xs. xs ≡ put_rising c.args.second c.args.root xs) c.self.view_is
    (sym (put_known c.args.second c.args.root 0 (2 ^ 64) c.self.inside.roots.entries c.self.invariant known))

pub invariant_of-self-2 : goal.invariant_of-self-2
invariant_of-self-2 c =
    let new = sym c.contains_key.ensures ∙ c.if-contains_key.false in
    let put = c.in_ok-insert.ensures.entries ∙ put_new c.args.second c.args.root c.self.inside.roots.entries new in
    subst (AreTimes 0 (2 ^ 64)) (sym put)
    (put_times c.args.second c.args.root 0 (2 ^ 64) c.self.inside.roots.entries (omega arith) (omega (arith, c.ranges.second.fits)) c.self.invariant)

pub returns-clause-put : goal.returns-clause-put
returns-clause-put c =
    let new = sym c.contains_key.ensures ∙ c.if-contains_key.false in
    c.in_ok-insert.ensures.entries ∙ put_new c.args.second c.args.root c.self.inside.roots.entries new
    ∙ ap (put_rising c.args.second c.args.root) c.self.view_is
