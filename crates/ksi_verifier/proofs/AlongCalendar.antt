-- The step at a place of the calendar chain, from what the links below it lead to.
use Rattle.std.proofs.Common.{◌≡◌, ℕ, zero, suc, ◌+◌, ◌≤◌, true, false, List, [], ◌∷◌, length, take, Some, None, refl, sym, ap, ◌∙◌, arith}
use Rattle.std.specs.List.{slice_get}
use Rattle.ksi_split.specs.Trees.{climb_links, link_from}
use Rattle.ksi_split.specs.declared.side.Side.{Side}
use Rattle.ksi_split.specs.declared.side.Side.TheVariants.{Left, Right}
use Rattle.ksi_split.specs.declared.tree_link.TreeLink.{TreeLink}
use Rattle.ksi_aggtree.specs.Links.{side_text}
use Rattle.ksi_calendar.specs.Climbing.{calendar_join, calendar_join_text, calendar_element_text}
use Rattle.ksi_verifier.specs.Steps.{calendar_step, calendar_steps}

pub none_past : (image : List ℕ → List ℕ) (place : ℕ) (below : List ℕ) (links : List (TreeLink (List ℕ))) (k : ℕ) → length links ≤ k → slice_get (calendar_steps image place below links) k ≡ None
none_past image place below [] k le = refl
none_past image place below (link ∷ links) zero le = absurd (omega (arith, le))
none_past image place below (link ∷ links) (suc k) le =
    let less : length links ≤ k = omega (arith, le) in none_past image (place + 1) (link_from (calendar_join image) below link link.side) links k less

step_here : (image : List ℕ → List ℕ) (place : ℕ) (below : List ℕ) (links : List (TreeLink (List ℕ))) (k : ℕ) (link : TreeLink (List ℕ)) → slice_get links k ≡ Some link
    → slice_get (calendar_steps image place below links) k ≡ Some (calendar_step image (place + k) (climb_links (calendar_join image) below (take k links)) link)
step_here image place below [] k link is = absurd cc
step_here image place below (first ∷ links) zero link is =
    let one : first ≡ link = cc in
    let at : place ≡ place + 0 = omega arith in
    λ i. Some (calendar_step image (at i) below (one i))
step_here image place below (first ∷ links) (suc k) link is =
    let at : place + 1 + k ≡ place + suc k = omega arith in
    step_here image (place + 1) (link_from (calendar_join image) below first first.side) links k link is
    ∙ ap (λ (n : ℕ). Some (calendar_step image n (climb_links (calendar_join image) (link_from (calendar_join image) below first first.side) (take k links)) link)) at

text_is : (node : List ℕ) (link : TreeLink (List ℕ)) (side : Side) → side_text side node link.sibling 255 ≡ link_from calendar_join_text node link side
text_is node link Left = refl
text_is node link Right = refl

pub step_is : (image : List ℕ → List ℕ) (input : List ℕ) (links : List (TreeLink (List ℕ))) (k : ℕ) (link : TreeLink (List ℕ)) (node sibling other join : List ℕ) → slice_get links k ≡ Some link
    → node ≡ climb_links (calendar_join image) input (take k links) → sibling ≡ link.sibling → other ≡ link.sibling → join ≡ image (side_text link.side node other 255)
    → Some (record { calendar = true; chain = 0; place = k; side = link.side; level = 255; node = node; sibling = sibling; raw = false; join = join })
    ≡ slice_get (calendar_steps image 0 input links) k
step_is image input links k link node sibling other join is leads beside same_beside joined =
    let at : k ≡ 0 + k = omega arith in
    let same : join ≡ image (calendar_element_text (climb_links (calendar_join image) input (take k links)) link) =
    joined ∙ ap (λ (n : List ℕ). image (side_text link.side node n 255)) same_beside ∙ ap image (text_is node link link.side)
    ∙ ap (λ (n : List ℕ). image (calendar_element_text n link)) leads in
    let told : Some (record { calendar = true; chain = 0; place = k; side = link.side; level = 255; node = node; sibling = sibling; raw = false; join = join })
    ≡ Some (calendar_step image (0 + k) (climb_links (calendar_join image) input (take k links)) link)
    = λ i. Some (record { calendar = true; chain = 0; place = at i; side = link.side; level = 255; node = leads i; sibling = beside i; raw = false; join = same i }) in
    told ∙ sym (step_here image 0 input links k link is)
