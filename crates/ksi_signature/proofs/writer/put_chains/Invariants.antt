use Rattle.std.proofs.Common.{◌≡◌, ◌++◌, map, drop, take}
use Rattle.std.specs.Prelude.{flat_map}
use Rattle.std.specs.List.{AllByRecursion}
use Rattle.ksi_tlv.specs.Writing.{texts}
use Rattle.ksi_signature.specs.Kept.{IsAggregation}
use Rattle.ksi_signature.specs.Written.{chain_element, chain_sizes, first_long}
use Rattle.ksi_signature.proofs.writer.put_chains.Given as goal

abbrev pub invariant-loop-chain : goal.invariant-loop-chain
invariant-loop-chain l =
    (l.writer ++ texts (map chain_element (drop l.chain-index l.chains)) ≡ l.fn.writer ++ texts (map chain_element l.chains))
    × (first_long (flat_map chain_sizes (drop l.chain-index l.chains)) ≡ first_long (flat_map chain_sizes l.chains))
    × AllByRecursion IsAggregation (take l.chain-index l.chains)
