use Rattle.std.proofs.Common.{◌≡◌, ◌∙◌, ◌∷◌, [], length, rules, Some, sym, ap, arith, length-append}
use Rattle.ksi_corenode.specs.CoreState.{held_by}
use Rattle.ksi_corenode.specs.Kept.{held_with}
use Rattle.ksi_corenode.proofs.Kept.{run_first, run_more, run_ends, held_behind}
use Rattle.ksi_corenode.proofs.growing.roots_from.Goals as goal

pub following-init : goal.following-init
following-init g c =
    let items : c.push.new.self.items ≡ c.args.root ∷ [] = search rules in
    record {
      here = omega (arith, ap length items);
      some = omega arith;
      roots = rw items (run_first (held_by c.args.seconds.now) c.args.second c.args.root);
    }

pub following-preserved : goal.following-preserved
following-preserved g c =
    let held = held_with (held_by c.args.seconds.now) c.args.second (Some c.args.root) in
    let l = c.following in
    let same = c.in_ok-push-in-Some.ensures.items in
    record {
      here = omega (arith, l.invariant.here, ap length same, length-append l.roots.items (c.in-Some.root ∷ []));
      some = omega (arith, l.invariant.some);
      roots = rw same (run_more held c.args.second l.t l.roots.items c.in-Some.root l.invariant.here l.invariant.roots
          (held_behind (held_by c.args.seconds.now) c.args.second l.t (Some c.args.root) l.invariant.some ∙ sym c.held.ensures ∙ c.in-Some.is));
    }

pub returns-in-None-clause-most : goal.returns-in-None-clause-most
returns-in-None-clause-most g c = omega (arith, c.following.invariant.here, c.following-test.true)

pub returns-in-None-clause-roots : goal.returns-in-None-clause-roots
returns-in-None-clause-roots g c =
    let held = held_with (held_by c.args.seconds.now) c.args.second (Some c.args.root) in
    let l = c.following in
    run_ends held c.args.second l.t l.roots.items l.invariant.here l.invariant.roots
    (λ _. held_behind (held_by c.args.seconds.now) c.args.second l.t (Some c.args.root) l.invariant.some ∙ sym c.held.ensures ∙ c.in-None.is)

pub returns-clause-most : goal.returns-clause-most
returns-clause-most g c = omega (arith, c.following.invariant.here, c.following-test.false)

pub returns-clause-roots : goal.returns-clause-roots
returns-clause-roots g c =
    let held = held_with (held_by c.args.seconds.now) c.args.second (Some c.args.root) in
    let l = c.following in
    run_ends held c.args.second l.t l.roots.items l.invariant.here l.invariant.roots (λ below. absurd (omega (arith, below, c.following-test.false)))
