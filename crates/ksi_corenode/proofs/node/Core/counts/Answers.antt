use Rattle.std.proofs.Common.{◌+◌, ℕ, subst, sym, arith}
use Rattle.std.specs.Prelude.{if◌then◌else◌}
use Rattle.ksi_corenode.proofs.Counting.{AreCounted, none_counted, one_counted, count_most, sealed_there, held_there}
use Rattle.ksi_corenode.proofs.node.Core.counts.Goals as goal

pub counting-init : goal.counting-init
counting-init g c = none_counted c.args.self.now c.next_before-second.result c.next_before-second.ensures.most c.next_before-second.ensures.before

pub counted-counts-requires-clause-sealed : goal.counted-counts-requires-clause-sealed
counted-counts-requires-clause-sealed g c = omega (arith, c.counting.invariant.seals, count_most (sealed_there c.args.self.now) c.counting.second)

pub counted-counts-requires-clause-held : goal.counted-counts-requires-clause-held
counted-counts-requires-clause-held g c = omega (arith, c.counting.invariant.holds, count_most (held_there c.args.self.now) c.counting.second)

pub counting-preserved : goal.counting-preserved
counting-preserved g c =
    let now = c.args.self.now in
    let old = c.counting in
    let next = c.next_before-second-in-counting in
    subst (λ (n : ℕ). AreCounted now n c.counted-counts.result.held next.result) (sym c.counted-counts.ensures.sealed)
    (subst (λ (n : ℕ). AreCounted now (old.counts.sealed + (if sealed_there now old.second then 1 else 0)) n next.result) (sym c.counted-counts.ensures.held)
    (one_counted now old.counts.sealed old.counts.held old.second next.result old.invariant next.ensures.behind next.ensures.most next.ensures.before))
