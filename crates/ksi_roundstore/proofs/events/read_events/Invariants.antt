use Rattle.std.proofs.Common.{◌≡◌, ◌++◌, length}
use Rattle.std.specs.List.{AllByRecursion}
use Rattle.ksi_roundstore.specs.Texts.{lines_of}
use Rattle.ksi_roundstore.specs.Written.{IsWritten}
use Rattle.ksi_roundstore.proofs.events.read_events.Given as goal

-- the lines of the events so far, and the rest, make the whole
abbrev pub invariant-reading : goal.invariant-reading
invariant-reading l = record {
  text : l.text ≡ lines_of l.events.items ++ l.rest;
  written : AllByRecursion (IsWritten l.plan l.me) l.events.items;
}

abbrev pub decreases-reading : goal.decreases-reading
decreases-reading l = length l.rest
