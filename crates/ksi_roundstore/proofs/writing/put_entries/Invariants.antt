use Rattle.std.proofs.Common.{◌≡◌, ◌++◌, drop, map}
use Rattle.ksi_roundstore.specs.Texts.{event_of, lines_of}
use Rattle.ksi_roundstore.proofs.writing.put_entries.Given as goal

-- the text so far and the lines to come make the whole
abbrev pub invariant-loop-entry : goal.invariant-loop-entry
invariant-loop-entry l = l.text.items ++ lines_of (map (event_of l.second) (drop l.entry-index l.entries)) ≡ l.fn.text.items ++ lines_of (map (event_of l.second) l.entries)
