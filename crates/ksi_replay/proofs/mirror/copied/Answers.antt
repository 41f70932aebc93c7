use Rattle.std.proofs.Common.{◌+◌, ◌^◌, arith}
use Rattle.ksi_corenode.specs.CoreState.{held_by}
use Rattle.ksi_replay.specs.Mirrors.{each_second, root_with, list_at, sealed_by}
use Rattle.ksi_replay.proofs.CoreCopied.{idle_roots, idle_lists}
use Rattle.ksi_replay.proofs.Listing.{those_to, those_go_on, those_end}
use Rattle.ksi_replay.proofs.mirror.copied.Goals as goal

pub copying-preserved : goal.copying-preserved
copying-preserved g c =
    let node = c.args.node.now in
    let end = c.args.start + 16777216 in
    let second = c.in-Some.second in
    let within = c.in-Some.ensures.within in
    let roots = root_with (held_by node) in
    let lists = list_at (sealed_by node) c.args.core in
    record {
      within = omega (arith, within.1);
      roots = those_go_on roots c.copying.roots.items c.put_root.new.roots.items (those_to roots c.args.start end) c.copying.from second end within.0 within.1
          (idle_roots node c.args.core c.copying.from second c.in-Some.ensures.idle) c.in_ok-put_root.ensures c.copying.invariant.roots;
      lists = those_go_on lists c.copying.lists.items c.put_list.new.lists.items (those_to lists c.args.start end) c.copying.from second end within.0 within.1
          (idle_lists node c.args.core c.copying.from second c.in-Some.ensures.idle) c.in_ok-put_list.ensures c.copying.invariant.lists;
    }

pub returns-clause-roots : goal.returns-clause-roots
unfolding each_second
returns-clause-roots g c =
    those_end (root_with (held_by c.args.node.now)) c.copying.roots.items c.args.start (2 ^ 24) c.copying.from c.copying.invariant.within
    (idle_roots c.args.node.now c.args.core c.copying.from (c.args.start + 16777216) c.in_default.ensures.none) c.copying.invariant.roots

pub returns-clause-lists : goal.returns-clause-lists
unfolding each_second
returns-clause-lists g c =
    those_end (list_at (sealed_by c.args.node.now) c.args.core) c.copying.lists.items c.args.start (2 ^ 24) c.copying.from c.copying.invariant.within
    (idle_lists c.args.node.now c.args.core c.copying.from (c.args.start + 16777216) c.in_default.ensures.none) c.copying.invariant.lists
