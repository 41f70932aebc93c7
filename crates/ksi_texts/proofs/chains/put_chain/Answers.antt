use Rattle.std.proofs.Common.{◌≡◌, [], ◌∷◌, ◌++◌, length, codes, sym, ap, ◌∙◌}
use Rattle.std.proofs.lemmas.List.{length-map}
use Rattle.ksi_schedule.specs.Printed.{hex_of, text_of_lines}
use Rattle.ksi_aggtree.specs.Lent.{lent_link, lent_links}
use Rattle.ksi_verifier.specs.Lent.{lent_chain}
use Rattle.ksi_texts.specs.Chains.{head_row, link_rows}
use Rattle.ksi_texts.proofs.RowLemmas.{then_rows}
use Rattle.ksi_texts.proofs.chains.put_chain.Goals as goal

pub returns-clause-told : goal.returns-clause-told
returns-clause-told c =
    let chain = lent_chain c.args.chain.now in
    let text = c.args.text.now.items in
    let links : lent_links c.as_slice-links.result.now ≡ chain.links = c.as_slice-links.ensures.links ∙ c.links-links.ensures.links in
    let count : length c.as_slice-links.result.now ≡ length chain.links = sym (length-map c.as_slice-links.result.now lent_link) ∙ ap length links in
    let head : c.put_head.new.text.items ≡ text ++ text_of_lines (head_row c.args.k (length chain.links) chain.time ∷ [])
    = c.in_ok-put_head.ensures ∙ (λ i. text ++ text_of_lines (head_row c.args.k (count i) (c.time.ensures.value i) ∷ [])) in
    let begins : c.put.new.text.items ≡ c.put_head.new.text.items ++ text_of_lines ((codes "  begins with" ∷ hex_of chain.input ∷ []) ∷ [])
    = c.in_ok-put.ensures ∙ (λ i. c.put_head.new.text.items ++ text_of_lines ((codes "  begins with" ∷ hex_of (c.input.ensures i) ∷ []) ∷ [])) in
    let rows : c.put_links.new.text.items ≡ c.put.new.text.items ++ text_of_lines (link_rows 0 (record { imprint = chain.input; level = c.args.level }) chain.links)
    = c.in_ok-put_links.ensures ∙ (λ i. c.put.new.text.items ++ text_of_lines (link_rows 0 (record { imprint = c.input.ensures i; level = c.args.level }) (links i))) in
    then_rows _ _ _ (head_row c.args.k (length chain.links) chain.time ∷ []) ((codes "  begins with" ∷ hex_of chain.input ∷ []) ∷ link_rows 0 (record { imprint = chain.input; level = c.args.level }) chain.links) head
    (then_rows _ _ _ ((codes "  begins with" ∷ hex_of chain.input ∷ []) ∷ []) (link_rows 0 (record { imprint = chain.input; level = c.args.level }) chain.links) begins rows)
