use Rattle.std.proofs.Common.{◌≡◌, ℕ, take}
use Rattle.ksi_aggregator.specs.Rounds.{rounds_of}
use Rattle.ksi_roundstore.specs.Facts.{AreAccepted, rounds_after}
use Rattle.ksi_roundstore.proofs.folding.take_all.Given as goal

-- its number stays, and so many events were accepted
abbrev pub invariant-taking : goal.invariant-taking
invariant-taking g l = record {
  mine : l.aggregator.me ≡ l.fn.aggregator.me;
  accepted : AreAccepted g.C.Compress.image (rounds_of l.fn.aggregator) (take l.k l.events);
  after : (t : ℕ) → rounds_of l.aggregator t ≡ rounds_after g.C.Compress.image (rounds_of l.fn.aggregator) (take l.k l.events) t;
}
