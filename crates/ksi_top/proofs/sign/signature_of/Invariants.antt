use Rattle.std.proofs.Common.{◌≡◌, drop}
use Rattle.ksi_top.specs.Sign.{signature_of}
use Rattle.ksi_top.proofs.sign.signature_of.Given as goal

-- the signature stands among those to come
abbrev pub invariant-numbers : goal.invariant-numbers
invariant-numbers l = signature_of l.number (drop l.signature-index l.issued) ≡ signature_of l.number l.issued
