use Rattle.std.proofs.Common.{◌≡◌, ◌+◌, ◌++◌, map, length}
use Rattle.std.specs.Vec.Iter.{into_iter_items}
use Rattle.ksi_world.specs.Histories.{round_message}
use Rattle.ksi_world.proofs.posting.post_round.Given as goal

abbrev pub invariant-posting : goal.invariant-posting
invariant-posting l = record {
  sent : l.posted.messages ≡ l.fn.posted.messages ++ map (round_message l.plan l.aggregator l.second) l.yielded;
  rest : l.fn.step.sends ≡ l.yielded ++ into_iter_items l.send-iterator;
  room : l.posted.room + length l.yielded ≡ l.fn.posted.room;
}
