use Rattle.std.proofs.Common.{◌≡◌, ◌≤◌, ◌++◌, true, map, length}
use Rattle.std.specs.List.{list_all}
use Rattle.std.specs.Vec.Iter.{into_iter_items}
use Rattle.ksi_wire.specs.AskedAbove.{as_above, has_round_links}
use Rattle.ksi_wire.proofs.above.all_above.Given as goal

-- those so far, and what is left
abbrev pub invariant-taking : goal.invariant-taking
invariant-taking l = record {
  taken : l.above.items ≡ map as_above l.yielded;
  rest : l.fn.chains.items ≡ l.yielded ++ into_iter_items l.chain-iterator;
  links : list_all has_round_links (into_iter_items l.chain-iterator) ≡ true;
  few : length l.fn.chains.items ≤ 7;
}
