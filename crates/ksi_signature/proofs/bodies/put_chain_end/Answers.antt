use Rattle.std.proofs.Common.{List, ℕ, ◌++◌, map, ap, ◌∙◌}
use Rattle.ksi_tlv.specs.Spelling.{plain, canonical}
use Rattle.ksi_tlv.specs.Numerals.{numeral}
use Rattle.ksi_signature.specs.Written.{link_element}
use Rattle.ksi_signature.proofs.Sizes.{text_before_two}
use Rattle.ksi_signature.proofs.bodies.put_chain_end.Goals as goal

pub returns-clause-text : goal.returns-clause-text
returns-clause-text c =
    text_before_two (plain 5 c.args.input.now) (plain 6 (numeral 1)) (map link_element c.args.links.now) c.args.writer.now c.put_short.new.writer c.put_number.new.self c.put_links.new.writer
    (c.in_ok-put_short.ensures.ok ∙ ap (λ (content : List ℕ). c.args.writer.now ++ canonical (plain 5 content)) c.bytes.ensures.value) c.in_ok-put_number.ensures.ok c.in_ok-put_links.ensures.text
