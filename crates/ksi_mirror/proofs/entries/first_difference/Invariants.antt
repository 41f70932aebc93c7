use Rattle.std.proofs.Common.{◌≡◌, take}
use Rattle.ksi_mirror.proofs.entries.first_difference.Given as goal

abbrev pub invariant-comparing : goal.invariant-comparing
invariant-comparing l = take l.place l.one ≡ take l.place l.two
