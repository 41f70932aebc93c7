use Rattle.std.proofs.Common.{◌≡◌, ◌≤◌, length, take, vec_len}
use Rattle.std.specs.Prelude.{vec_capacity}
use Rattle.ksi_aggtree.proofs.entries.Entries.to_vec.Given as goal

abbrev pub invariant-loop-k : goal.invariant-loop-k
invariant-loop-k g l = record {
  items : l.entries.items ≡ take l.k l.self;
  len : vec_len l.entries ≡ l.k;
  room : length l.self ≤ vec_capacity l.entries;
}
