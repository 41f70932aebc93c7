use Rattle.std.proofs.Common.{◌≡◌, ℕ, suc, ◌+◌, List, [], ◌∷◌, ◌++◌, drop, get_or, false, sym, ap, ◌∙◌, arith}
use Rattle.std.proofs.Math.Seq.{drop-cons}
use Rattle.std.proofs.lemmas.Result.{on_ok_weaker}
use Rattle.ksi_split.specs.declared.side.Side.TheVariants.{Left}
use Rattle.ksi_schedule.specs.Printed.{text_of_lines}
use Rattle.ksi_aggtree.specs.Lent.{lent_link, lent_links}
use Rattle.ksi_aggtree.specs.declared.chains.link_view.LinkView.{LinkView}
use Rattle.ksi_texts.specs.Chains.{link_row, link_rows, over_row}
use Rattle.ksi_texts.proofs.RowLemmas.{goes_on, stops, left_rows}
use Rattle.ksi_texts.proofs.chains.put_links.Goals as goal

-- what is read where a list has no link
abbrev blank : LinkView
blank = record { side = Left; correction = 0; sibling = record { ref_ptr = (0, 0); now = [] }; raw = false }

pub returns-in-Err : goal.returns-in-Err
returns-in-Err c =
    let links = c.args.links.now in
    let place = c.loop-place.place in
    let node = c.loop-place.node in
    let link = lent_link (get_or links place blank) in
    let is : link_rows place node (lent_links (drop place links)) ≡ over_row place ∷ []
    = ap (λ (left : List LinkView). link_rows place node (lent_links left)) (drop-cons links place blank c.loop-place-test.true)
    ∙ stops place node link (lent_links (drop (suc place) links)) c.in-Err.field-0 (c.in-Err.ensures.stops []) in
    on_ok_weaker c.put_over.result (λ (e : c.put_over.new.text.items ≡ c.loop-place.text.items ++ text_of_lines (over_row place ∷ [])). e ∙ ap (λ (rows : List (List (List ℕ))). c.loop-place.text.items ++ text_of_lines rows) (sym is) ∙ c.loop-place.invariant) c.put_over.ensures

pub loop-place-preserved : goal.loop-place-preserved
loop-place-preserved c =
    let links = c.args.links.now in
    let place = c.loop-place.place in
    let node = c.loop-place.node in
    let link = lent_link (get_or links place blank) in
    let next : suc place ≡ place + 1 = omega arith in
    let is : link_rows place node (lent_links (drop place links)) ≡ link_row place c.in-Ok.above link ∷ link_rows (place + 1) c.in-Ok.above (lent_links (drop (place + 1) links))
    = ap (λ (left : List LinkView). link_rows place node (lent_links left)) (drop-cons links place blank c.loop-place-test.true)
    ∙ goes_on place node c.in-Ok.above link (lent_links (drop (suc place) links)) (c.in-Ok.ensures.goes [])
    ∙ ap (λ (n : ℕ). link_row place c.in-Ok.above link ∷ link_rows (place + 1) c.in-Ok.above (lent_links (drop n links))) next in
    left_rows c.loop-place.text.items c.put_link.new.text.items (link_row place c.in-Ok.above link ∷ []) (link_rows (place + 1) c.in-Ok.above (lent_links (drop (place + 1) links))) _ is c.in_ok-put_link-in-Ok.ensures
    ∙ c.loop-place.invariant
