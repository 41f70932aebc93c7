use Rattle.std.proofs.Common.{◌≡◌, ◌<◌, ◌^◌, take}
use Rattle.ksi_replay.specs.Stream.{stream, further}
use Rattle.ksi_replay.proofs.stream.Stream.fill.Given as goal

abbrev pub invariant-bytes : goal.invariant-bytes
invariant-bytes l = record {
  full : l.initial.self.places ≡ 2 ^ 64;
  early : l.initial.self.taken < 2 ^ 64;
  so_far : take l.k l.bytes ≡ stream l.initial.self l.k;
  place : l.self ≡ further l.initial.self l.k;
}
