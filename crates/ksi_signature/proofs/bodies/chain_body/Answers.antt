use Rattle.std.proofs.Common.{List, [], ◌∷◌, ◌++◌, map, ap, ◌∙◌, append_assoc}
use Rattle.std.specs.Prelude.{option_map}
use Rattle.ksi_tlv.specs.Spelling.{Tlv, plain}
use Rattle.ksi_tlv.specs.Numerals.{numeral}
use Rattle.ksi_tlv.specs.Writing.{texts}
use Rattle.ksi_signature.specs.Written.{part_element, body_element, link_element}
use Rattle.ksi_signature.proofs.Sizes.{text_behind}
use Rattle.ksi_signature.proofs.bodies.chain_body.Goals as goal

pub returns-clause-text : goal.returns-clause-text
returns-clause-text c =
    let parts = map part_element c.args.index.now in
    let inputs = body_element (option_map (λ content. content.now) c.args.input_body) in
    let rest = plain 5 c.args.input.now ∷ plain 6 (numeral 1) ∷ map link_element c.args.links.now in
    let time = plain 2 (numeral c.args.time) in
    text_behind (time ∷ (parts ++ inputs)) rest [] c.in_ok-body.body c.put_chain_end.new.writer c.in_ok-body.ensures.text c.in_ok-put_chain_end.ensures.text
    ∙ ap (λ (es : List Tlv). texts (time ∷ es)) (append_assoc parts inputs rest)
