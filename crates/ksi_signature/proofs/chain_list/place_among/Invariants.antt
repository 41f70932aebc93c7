use Rattle.std.proofs.Common.{◌≡◌, ◌+◌, drop, map}
use Rattle.ksi_signature.specs.Places.{place_of}
use Rattle.ksi_signature.specs.PartsSeen.{chain_seen}
use Rattle.ksi_signature.proofs.chain_list.place_among.Given as goal

abbrev pub invariant-loop-place : goal.invariant-loop-place
invariant-loop-place l = l.place + place_of l.parts (map chain_seen (drop l.place l.chains)) ≡ place_of l.parts (map chain_seen l.chains)
