use Rattle.std.proofs.Common.{◌≡◌, ◌+◌, ◌*◌, ◌≤◌, ◌++◌, drop, length, map}
use Rattle.std.specs.List.{AllByRecursion}
use Rattle.ksi_tlv.specs.Writing.{texts}
use Rattle.ksi_signature.specs.Carried.{IsAboveChain}
use Rattle.ksi_signature.specs.Written.{chain_element}
use Rattle.ksi_signature.specs.Issued.{index_of, issued_chains}
use Rattle.ksi_signature.proofs.issuing.put_chains.Given as goal

abbrev pub invariant-loop-chain : goal.invariant-loop-chain
invariant-loop-chain l = record {
  index : l.index ≡ index_of (drop l.chain-index l.chains);
  told : l.writer ++ texts (map chain_element (issued_chains l.second (drop l.chain-index l.chains))) ≡ l.fn.writer ++ texts (map chain_element (issued_chains l.second l.chains));
  chains : AllByRecursion IsAboveChain (drop l.chain-index l.chains);
  short : length l.writer ≤ length l.fn.writer + 842 * l.chain-index;
}
