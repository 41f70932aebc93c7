use Rattle.std.proofs.Common.{arith}
use Rattle.ksi_replay.proofs.Places.{stream_filled, further_one}
use Rattle.ksi_replay.proofs.stream.Stream.fill.Goals as goal

pub bytes-preserved : goal.bytes-preserved
bytes-preserved c = record {
  full = c.bytes.invariant.full;
  early = c.bytes.invariant.early;
  so_far = stream_filled c.bytes.bytes c.bytes.k c.next.result c.args.self.now c.bytes.self (omega arith) c.bytes.invariant.full c.bytes.invariant.early c.bytes.invariant.so_far c.bytes.invariant.place c.next.ensures.byte;
  place = further_one c.args.self.now c.bytes.self c.next.new.self c.bytes.k c.bytes.invariant.full c.bytes.invariant.place c.next.ensures.place;
}
