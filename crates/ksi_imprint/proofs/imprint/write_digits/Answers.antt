use Rattle.std.proofs.Common.{◌∙◌, ap, arith, Result, Ok, Err}
use Rattle.std.specs.Prelude.{OnOk, IsOk}
use Rattle.ksi_imprint.proofs.HexDigits.{hex_at-encode_lower}
use Rattle.ksi_imprint.specs.Reading.{hex_at}
use Rattle.ksi_imprint.proofs.imprint.write_digits.Goals as goal

ok_gives : {T E P : Type 0} (r : Result T E) → IsOk r → OnOk r P → P
ok_gives (Ok x) ok p = p
ok_gives (Err e) ok p = absurd cc

pub returns-clause-read_again : goal.returns-clause-read_again
returns-clause-read_again c =
    let written = ok_gives c.encode_to_slice.result (c.encode_to_slice.ensures.fits.1 (omega (arith, c.requires))) c.encode_to_slice.ensures.written in
    ap hex_at written ∙ hex_at-encode_lower c.args.digest.now (λ i. omega (arith, c.type_inv.digest i)) c.requires
