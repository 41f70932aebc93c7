use Rattle.std.proofs.Common.{◌++◌, map}
use Rattle.std.specs.Prelude.{option_map}
use Rattle.ksi_tlv.specs.Spelling.{plain}
use Rattle.ksi_tlv.specs.Numerals.{numeral}
use Rattle.ksi_signature.specs.Written.{part_element, body_element}
use Rattle.ksi_signature.proofs.Sizes.{text_behind, text_first}
use Rattle.ksi_signature.proofs.bodies.chain_front.Goals as goal

pub returns-clause-text : goal.returns-clause-text
returns-clause-text c =
    let parts = map part_element c.args.index.now in
    let inputs = body_element (option_map (λ content. content.now) c.args.input_body) in
    text_first (plain 2 (numeral c.args.time)) (parts ++ inputs) c.new-body.result c.put_number.new.self c.put_input_data.new.writer c.new-body.ensures c.in_ok-put_number.ensures.ok
    (text_behind parts inputs c.put_number.new.self c.put_index.new.writer c.put_input_data.new.writer c.in_ok-put_index.ensures c.in_ok-put_input_data.ensures.ok)
