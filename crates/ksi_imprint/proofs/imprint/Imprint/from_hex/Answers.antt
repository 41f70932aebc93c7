use Rattle.std.proofs.Common.{◌∙◌, sym, ap, Ok, Err}
use Rattle.ksi_imprint.proofs.HexDigits.{hex_at-length, hex_at-decoded, hex_at-refused, decoded_by, refused_by_decoder}
use Rattle.ksi_imprint.proofs.imprint.Imprint.from_hex.Goals as goal

pub returns-then-text-ne64 : goal.returns-then-text-ne64
returns-then-text-ne64 c = sym (hex_at-length c.args.text.now c.if-text-ne64.true)

pub returns-in-Ok : goal.returns-in-Ok
returns-in-Ok c =
    let decoded = decoded_by _ c.decode_to_slice.result c.decode_to_slice.new.out c.in-Ok.field-0 c.decode_to_slice.ensures.value c.in-Ok.is in
    ap Ok c.of_digest.ensures ∙ sym (hex_at-decoded c.args.text.now c.decode_to_slice.new.out c.if-text-ne64.false (rw c.as_bytes.ensures.value at decoded))

pub returns-in-Err : goal.returns-in-Err
returns-in-Err c =
    let refused = refused_by_decoder _ c.decode_to_slice.result c.decode_to_slice.new.out c.in-Err.fault c.decode_to_slice.ensures.value c.in-Err.is in
    ap Err c.digit_fault.ensures ∙ sym (hex_at-refused c.args.text.now c.in-Err.fault c.if-text-ne64.false (rw c.as_bytes.ensures.value at refused))
