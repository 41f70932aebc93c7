use Rattle.std.proofs.Common.{◌≤◌, ◌+◌, ◌-◌, ◌^◌, min, vec_len}
use Rattle.std.specs.Io.KnownBytes.{Consumes}
use Rattle.ksi_ports.proofs.host_files.read_up_to.Given as goal

-- the tally has risen by the bytes so far, and these are what the source gave
abbrev pub invariant-reading : goal.invariant-reading
invariant-reading g l = record {
  later : l.fn.taken ≤ l.taken;
  rose : min (l.fn.taken + vec_len l.bytes) (2 ^ 64 - 1) ≤ l.taken;
  no_more : l.taken ≤ l.fn.taken + vec_len l.bytes;
  within : vec_len l.bytes ≤ l.most + 1;
  told : Consumes (g.S.Read.remaining l.fn.source) (g.S.Read.remaining l.source) l.bytes.items;
}

abbrev pub decreases-reading : goal.decreases-reading
decreases-reading g l = l.most + 1 - vec_len l.bytes
