use Rattle.std.proofs.Common.{◌≡◌, ◌≤◌, ◌+◌, ◌*◌, map, drop, length}
use Rattle.ksi_verifier.specs.Leading.{all_links}
use Rattle.ksi_auditor.proofs.chains.count_of.Given as goal

abbrev pub invariant-chains : goal.invariant-chains
invariant-chains g l = record {
  so_far : l.count + length (all_links (map g.T.LaidChain.plain (drop l.chain-index l.chains))) ≡ length (all_links (map g.T.LaidChain.plain l.fn.chains));
  few : l.count ≤ 63 * l.chain-index;
}
