use Rattle.std.proofs.Common.{◌≡◌, [], ◌∷◌, ◌++◌, length, codes, ◌∙◌}
use Rattle.std.proofs.lemmas.Result.{on_ok_weaker}
use Rattle.ksi_imprint.specs.Imprints.{imprint_of}
use Rattle.ksi_split.specs.Parts.{second_at}
use Rattle.ksi_split.specs.Trees.{climb_links}
use Rattle.ksi_schedule.specs.Printed.{hex_of, text_of_lines}
use Rattle.ksi_calendar.specs.Climbing.{calendar_join}
use Rattle.ksi_calendar.specs.Sides.{sides_from_top}
use Rattle.ksi_signature.specs.PartsSeen.{calendar_seen}
use Rattle.ksi_texts.specs.Calendar.{calendar_head, end_rows, leaf_rows}
use Rattle.ksi_texts.proofs.RowLemmas.{then_rows}
use Rattle.ksi_texts.proofs.calendar.put_chain.Goals as goal

pub returns : goal.returns
returns c =
    let chain = calendar_seen c.args.calendar.now in
    let text = c.args.text.now.items in
    let links : c.as_slice-links.result.now ≡ chain.links = c.as_slice-links.ensures.links ∙ c.links-links.ensures.links in
    let head : c.put_head.new.text.items ≡ text ++ text_of_lines (calendar_head (length chain.links) chain.time chain.publication ∷ [])
    = c.in_ok-put_head.ensures ∙ (λ i. text ++ text_of_lines (calendar_head (length (links i)) (c.time.ensures.value i) (c.publication-publication.ensures.value i) ∷ [])) in
    let begins : c.put.new.text.items ≡ c.put_head.new.text.items ++ text_of_lines ((codes "  begins with" ∷ hex_of chain.input ∷ []) ∷ [])
    = c.in_ok-put.ensures ∙ (λ i. c.put_head.new.text.items ++ text_of_lines ((codes "  begins with" ∷ hex_of (c.input-input.ensures i) ∷ []) ∷ [])) in
    let rows : c.put_links.new.text.items ≡ c.put.new.text.items ++ text_of_lines (leaf_rows 0 chain.input chain.links)
    = c.in_ok-put_links.ensures ∙ (λ i. c.put.new.text.items ++ text_of_lines (leaf_rows 0 (c.input-input.ensures i) (links i))) in
    let root : c.climb_calendar.result ≡ climb_links (calendar_join imprint_of) chain.input chain.links
    = c.climb_calendar.ensures.value ∙ (λ i. climb_links (calendar_join imprint_of) (c.input-input.ensures i) (links i)) in
    let named : c.second.result ≡ second_at chain.publication (sides_from_top chain.links)
    = c.second.ensures.value ∙ (λ i. second_at (c.publication-publication.ensures.value i) (sides_from_top (links i))) in
    let ends = end_rows (climb_links (calendar_join imprint_of) chain.input chain.links) (second_at chain.publication (sides_from_top chain.links)) in
    on_ok_weaker _
    (λ e. let last : c.put_end.new.text.items ≡ c.put_links.new.text.items ++ text_of_lines ends = e ∙ (λ i. c.put_links.new.text.items ++ text_of_lines (end_rows (root i) (named i))) in
    then_rows _ _ _ (calendar_head (length chain.links) chain.time chain.publication ∷ []) ((codes "  begins with" ∷ hex_of chain.input ∷ []) ∷ (leaf_rows 0 chain.input chain.links ++ ends)) head
    (then_rows _ _ _ ((codes "  begins with" ∷ hex_of chain.input ∷ []) ∷ []) (leaf_rows 0 chain.input chain.links ++ ends) begins
    (then_rows _ _ _ (leaf_rows 0 chain.input chain.links) ends rows last)))
    c.put_end.ensures
