use Rattle.std.proofs.Common.{List, Ok, ap, ◌∙◌}
use Rattle.ksi_tlv.specs.Walking.{PlacedTlv}
use Rattle.ksi_signature.specs.Contents.{signature_of}
use Rattle.ksi_signature.specs.Reading.{elements_in, read_as, signature_at}
use Rattle.ksi_signature.specs.Seen.{seen}
use Rattle.ksi_signature.proofs.laws.shown_is_of_bytes.Goals as goal

pub returns-clause-signature : goal.returns-clause-signature
unfolding signature_at
returns-clause-signature c =
    let view = c.args.view.now in
    (c.signature_is_read.ensures.signature view.bytes.now (seen view) c.are_bytes.ensures).0
    (ap (read_as (signature_of (elements_in view.bytes.now))) view.is_whole ∙ ap (λ (es : List PlacedTlv). Ok (signature_of es)) view.elements_are)

pub returns-clause-read : goal.returns-clause-read
unfolding signature_at
returns-clause-read c =
    let view = c.args.view.now in
    ap (read_as (signature_of (elements_in view.bytes.now))) view.is_whole ∙ ap (λ (es : List PlacedTlv). Ok (signature_of es)) view.elements_are
