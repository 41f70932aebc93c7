-- The links of chains, from the top.
use Rattle.std.proofs.Common.{◌≡◌, ℕ, ◌+◌, ◌≤◌, List, [], ◌∷◌, ◌++◌, map, reverse, length, take, drop, Ok, refl, sym, ap, subst, ◌∙◌, arith, inl, inr, length-append}
use Rattle.std.proofs.lemmas.List.{map-append, take-append-drop, length-take-le}
use Rattle.std.proofs.Math.Seq.{drop-append_seam}
use Rattle.std.proofs.lemmas.Grind.{reverse_onto}
use Rattle.ksi_split.specs.declared.side.Side.{Side}
use Rattle.ksi_split.specs.declared.side.Side.TheVariants.{Left, Right}
use Rattle.ksi_split.specs.declared.tree_link.TreeLink.{TreeLink}
use Rattle.ksi_split.specs.Trees.{climb_links, link_from}
use Rattle.ksi_aggtree.specs.Links.{PlainLink, side_text, level_above}
use Rattle.ksi_aggtree.specs.Climbing.{above, climbed, level_after}
use Rattle.ksi_aggtree.specs.declared.chains.node.Node.{Node}
use Rattle.ksi_calendar.specs.Climbing.{calendar_join, calendar_join_text, calendar_element_text}
use Rattle.ksi_calendar.specs.Sides.{sides_from_top}
use Rattle.ksi_beside.specs.Beside.{Rung, rung_side, rung_text, rung_from, rungs_from, calendar_rung_from, calendar_rungs_from}
use Rattle.ksi_beside.specs.Standing.{Holds}
use Rattle.ksi_auditor.specs.Climbed.{climbed_to}
use Rattle.ksi_auditor.proofs.Cases.{lt_cases}
use Rattle.ksi_auditor.proofs.Climbs.{level_more}
use Rattle.ksi_auditor.proofs.Chaining.{rungs_append}

calendar_side : (side : Side) (below : List ℕ) (link : TreeLink (List ℕ)) → side_text side below link.sibling 255 ≡ link_from calendar_join_text below link side
calendar_side Left below link = refl
calendar_side Right below link = refl

-- a calendar link's string
calendar_text_is : (below : List ℕ) (link : TreeLink (List ℕ)) → rung_text (calendar_rung_from below link) ≡ calendar_element_text below link
calendar_text_is below link = calendar_side link.side below link

-- one more side at the top
more_sides : (rungs : List Rung) (rung : Rung) (sides : List Side) → map rung_side rungs ≡ reverse sides → map rung_side (rungs ++ rung ∷ []) ≡ reverse (rung.side ∷ sides)
more_sides rungs rung sides e = map-append rung_side rungs (rung ∷ []) ∙ ap (λ (w : List Side). w ++ rung.side ∷ []) e ∙ sym (reverse_onto sides rung.side [])

same_back : (a b c d : List Rung) → a ++ b ≡ c ++ d → length b ≡ length d → b ≡ d
same_back a b c d e n =
    let all = ap length e in
    let front : length a ≡ length c = omega (arith, n, length-append a b, length-append c d, all) in
    sym (drop-append_seam a b) ∙ ap (λ (k : ℕ). drop k (a ++ b)) front ∙ ap (drop (length c)) e ∙ drop-append_seam c d

module _ (image : List ℕ → List ℕ) where
  holds_more : (x y z : List ℕ) (rungs : List Rung) (rung : Rung) → Holds image z y rungs → z ≡ image (rung_text rung) → rung.below ≡ x → Holds image x y (rungs ++ rung ∷ [])
  holds_more x y z [] rung h e is = (sym h ∙ e, sym is)
  holds_more x y z (top ∷ rungs) rung h e is = (h.0, holds_more x top.below z rungs rung h.1 e is)

  pub calendar_sides : (x : List ℕ) (links : List (TreeLink (List ℕ))) → map rung_side (calendar_rungs_from image x links) ≡ sides_from_top links
  calendar_sides x [] = refl
  calendar_sides x (link ∷ links) = more_sides (calendar_rungs_from image (image (calendar_element_text x link)) links) (calendar_rung_from x link) (map (λ (s : TreeLink (List ℕ)). s.side) links) (calendar_sides (image (calendar_element_text x link)) links)

  pub aggregation_sides : (x : Node) (links : List PlainLink) → map rung_side (rungs_from image x links) ≡ reverse (map (λ (link : PlainLink). link.side) links)
  aggregation_sides x [] = refl
  aggregation_sides x (link ∷ links) = more_sides (rungs_from image (above image x link) links) (rung_from x link) (map (λ (l : PlainLink). l.side) links) (aggregation_sides (above image x link) links)

  pub rungs_count : (x : Node) (links : List PlainLink) → length (rungs_from image x links) ≡ length links
  rungs_count x [] = refl
  rungs_count x (link ∷ links) = length-append (rungs_from image (above image x link) links) (rung_from x link ∷ []) ∙ (let so_far = rungs_count (above image x link) links in omega arith)

  from_is : (side : Side) (x : List ℕ) (link : TreeLink (List ℕ)) → link_from (calendar_join image) x link side ≡ image (link_from calendar_join_text x link side)
  from_is Left x link = refl
  from_is Right x link = refl

  -- a chain that ends with no level past 255: where it leads, and its levels
  pub climbed_ends : (place : ℕ) (x top : Node) (links : List PlainLink) → climbed image place x links ≡ Ok top → x.level ≤ 255 → (climbed_to image x links ≡ top) × (level_after x.level links ≤ 255)
  climbed_ends place x top [] e low = (cc, omega (arith, low))
  climbed_ends place x top (link ∷ links) e low = elim (lt_cases 255 (level_above x.level link)) [
    | inl high ↦ (let over = rw high.0 at e in absurd cc)
    | inr fits ↦ (let further = rw fits.0 at e in
        let rest = climbed_ends (place + 1) (above image x link) top links further fits.1 in
        let more = level_more x.level link links in
        let high = rest.1 in
        (rest.0, omega (arith, more, high)))
  ]

  pub calendar_holds : (x : List ℕ) (links : List (TreeLink (List ℕ))) → Holds image x (climb_links (calendar_join image) x links) (calendar_rungs_from image x links)
  calendar_holds x [] = refl
  calendar_holds x (link ∷ links) =
      let next = image (calendar_element_text x link) in
      let is : link_from (calendar_join image) x link link.side ≡ next = from_is link.side x link in
      holds_more x (climb_links (calendar_join image) (link_from (calendar_join image) x link link.side) links) next (calendar_rungs_from image next links) (calendar_rung_from x link)
      (subst (λ (z : List ℕ). Holds image next (climb_links (calendar_join image) z links) (calendar_rungs_from image next links)) (sym is) (calendar_holds next links))
      (ap image (sym (calendar_text_is x link))) refl

  pub aggregation_holds : (x : Node) (links : List PlainLink) → Holds image x.imprint (climbed_to image x links).imprint (rungs_from image x links)
  aggregation_holds x [] = refl
  aggregation_holds x (link ∷ links) = holds_more x.imprint (climbed_to image (above image x link) links).imprint (above image x link).imprint (rungs_from image (above image x link) links) (rung_from x link)
      (aggregation_holds (above image x link) links) refl refl

  pub climbed_size : (sizes : (x : List ℕ) → length (image x) ≡ 33) (x : Node) (links : List PlainLink) → length x.imprint ≡ 33 → length (climbed_to image x links).imprint ≡ 33
  climbed_size sizes x [] n = n
  climbed_size sizes x (link ∷ links) n = climbed_size sizes (above image x link) links (sizes _)

  -- links that are left, down from an imprint: the first so many lead to it
  pub left_climbs : (x : Node) (y : List ℕ) (links : List PlainLink) (passed left : List Rung) (rung : Rung) → rungs_from image x links ≡ passed ++ rung ∷ left → Holds image x.imprint y (rung ∷ left)
      → (climbed_to image x (take (length (rung ∷ left)) links)).imprint ≡ y
  left_climbs x y links passed left rung e h =
      let m : ℕ = length (rung ∷ left) in
      let count : length links ≡ length passed + m = sym (rungs_count x links) ∙ ap length e ∙ length-append passed (rung ∷ left) in
      let parts = rungs_append image x (take m links) (drop m links) in
      let all : rungs_from image (climbed_to image x (take m links)) (drop m links) ++ rungs_from image x (take m links) ≡ passed ++ rung ∷ left = sym parts ∙ ap (rungs_from image x) (take-append-drop m links) ∙ e in
      let is : rungs_from image x (take m links) ≡ rung ∷ left = same_back _ _ _ _ all (rungs_count x (take m links) ∙ length-take-le m links (omega (arith, count))) in
      let full = aggregation_holds x (take m links) in
      let there : Holds image x.imprint (climbed_to image x (take m links)).imprint (rung ∷ left) = subst (Holds image x.imprint (climbed_to image x (take m links)).imprint) is full in
      there.0 ∙ sym h.0
