-- Climbing in a calendar as a relation and as a value.
use Rattle.std.proofs.Common.{◌≡◌, ℕ, zero, suc, ◌+◌, ◌<◌, ◌≤◌, List, [], ◌∷◌, ◌++◌, length, drop, get_or, Some, refl, sym, ap, ◌∙◌, arith}
use Rattle.std.specs.List.{slice_get}
use Rattle.std.proofs.Math.Seq.{drop-cons}
use Rattle.std.proofs.Math.ListN.{drop_of_length-le}
use Rattle.ksi_split.specs.declared.side.Side.{Side}
use Rattle.ksi_split.specs.declared.side.Side.TheVariants.{Left, Right}
use Rattle.ksi_split.specs.declared.tree_link.TreeLink.{TreeLink}
use Rattle.ksi_split.specs.Trees.{climb_links, link_from}
use Rattle.ksi_calendar.specs.Climbing.{ClimbsCalendar, calendar_join, calendar_join_text, calendar_element_text}

module _ (image : List ℕ → List ℕ) where
  side_leads : (x : List ℕ) (link : TreeLink (List ℕ)) (side : Side) → link_from (calendar_join image) x link side ≡ image (link_from calendar_join_text x link side)
  side_leads x link Left = refl
  side_leads x link Right = refl

  pub link_leads : (x : List ℕ) (link : TreeLink (List ℕ)) → link_from (calendar_join image) x link link.side ≡ image (calendar_element_text x link)
  link_leads x link = side_leads x link link.side

  module _ (x y top : List ℕ) (link : TreeLink (List ℕ)) (links : List (TreeLink (List ℕ))) (lead : y ≡ image (calendar_element_text x link)) (h : ClimbsCalendar image y links top) where
    each_on : (k : ℕ) (l : TreeLink (List ℕ)) (u v : List ℕ) → slice_get (link ∷ links) k ≡ Some l → slice_get (x ∷ h.imprints) k ≡ Some u → slice_get (x ∷ h.imprints) (k + 1) ≡ Some v → v ≡ image (calendar_element_text u l)
    each_on zero l u v is below next =
        let first = h.first in
        let same_link : link ≡ l = cc in
        let same_below : x ≡ u = cc in
        let same_next : y ≡ v = cc in
        sym same_next ∙ lead ∙ ap (λ (z : List ℕ). image (calendar_element_text z link)) same_below ∙ ap (λ (z : TreeLink (List ℕ)). image (calendar_element_text u z)) same_link
    each_on (suc k) l u v is below next =
        let s : suc (k + 1) ≡ suc k + 1 = omega arith in
        h.each k l u v is below (ap (λ (n : ℕ). slice_get (x ∷ h.imprints) n) s ∙ next)

    climbs_on : ClimbsCalendar image x (link ∷ links) top
    climbs_on = record { imprints = x ∷ h.imprints; count = (let c = h.count in omega arith); first = refl; last = h.last; each = each_on }

  pub climbs_from : (x : List ℕ) (links : List (TreeLink (List ℕ))) (top : List ℕ) → top ≡ climb_links (calendar_join image) x links → ClimbsCalendar image x links top
  climbs_from x [] top e = record { imprints = x ∷ []; count = refl; first = refl; last = ap (λ (z : List ℕ). Some z) (sym e); each = λ k l u v is below next. cc }
  climbs_from x (link ∷ links) top e = climbs_on x (link_from (calendar_join image) x link link.side) top link links (link_leads x link) (climbs_from (link_from (calendar_join image) x link link.side) links top e)

  climbs_list : (x : List ℕ) (imprints : List (List ℕ)) (links : List (TreeLink (List ℕ))) (top : List ℕ) → length imprints ≡ length links + 1 → slice_get imprints 0 ≡ Some x → slice_get imprints (length links) ≡ Some top
      → ((k : ℕ) (l : TreeLink (List ℕ)) (u v : List ℕ) → slice_get links k ≡ Some l → slice_get imprints k ≡ Some u → slice_get imprints (k + 1) ≡ Some v → v ≡ image (calendar_element_text u l)) → top ≡ climb_links (calendar_join image) x links
  climbs_list x [] links top count first last each = absurd (omega arith)
  climbs_list x (z ∷ imprints) [] top count first last each = cc
  climbs_list x (z ∷ []) (link ∷ links) top count first last each = absurd (omega arith)
  climbs_list x (z ∷ y ∷ imprints) (link ∷ links) top count first last each =
      let same : z ≡ x = cc in
      let lead : y ≡ link_from (calendar_join image) x link link.side = each 0 link z y refl refl refl ∙ ap (λ (t : List ℕ). image (calendar_element_text t link)) same ∙ sym (link_leads x link) in
      climbs_list y (y ∷ imprints) links top (omega arith) refl last
      (λ k l u v is below next. each (suc k) l u v is below (let s : suc k + 1 ≡ suc (k + 1) = omega arith in ap (λ (n : ℕ). slice_get (z ∷ y ∷ imprints) n) s ∙ next))
      ∙ ap (λ (t : List ℕ). climb_links (calendar_join image) t links) lead

  pub climbs_to : (x : List ℕ) (links : List (TreeLink (List ℕ))) (top : List ℕ) → ClimbsCalendar image x links top → top ≡ climb_links (calendar_join image) x links
  climbs_to x links top h = climbs_list x h.imprints links top h.count h.first h.last h.each

  pub climb_both : (x : List ℕ) (links more : List (TreeLink (List ℕ))) → climb_links (calendar_join image) x (links ++ more) ≡ climb_links (calendar_join image) (climb_links (calendar_join image) x links) more
  climb_both x [] more = refl
  climb_both x (link ∷ links) more = climb_both (link_from (calendar_join image) x link link.side) links more

  -- ---- as a loop climbs

  pub loop_goes : (place : ℕ) (x next : List ℕ) (link : TreeLink (List ℕ)) (links : List (TreeLink (List ℕ))) (all : List ℕ) → place < length links → link ≡ get_or links place link
      → climb_links (calendar_join image) x (drop place links) ≡ all → next ≡ image (calendar_element_text x link) → climb_links (calendar_join image) next (drop (place + 1) links) ≡ all
  loop_goes place x next link links all lt is so_far joined =
      let s : suc place ≡ place + 1 = omega arith in
      let rest : drop place links ≡ link ∷ drop (place + 1) links = drop-cons links place link lt ∙ ap (λ (l : TreeLink (List ℕ)). l ∷ drop (suc place) links) (sym is) ∙ ap (λ (n : ℕ). link ∷ drop n links) s in
      ap (λ (y : List ℕ). climb_links (calendar_join image) y (drop (place + 1) links)) (joined ∙ sym (link_leads x link))
      ∙ ap (λ (more : List (TreeLink (List ℕ))). climb_links (calendar_join image) x more) (sym rest) ∙ so_far

  pub loop_ends : (place : ℕ) (x : List ℕ) (links : List (TreeLink (List ℕ))) (all : List ℕ) → length links ≤ place → climb_links (calendar_join image) x (drop place links) ≡ all → x ≡ all
  loop_ends place x links all end so_far = ap (λ (more : List (TreeLink (List ℕ))). climb_links (calendar_join image) x more) (sym (drop_of_length-le links {i = place} end)) ∙ so_far
