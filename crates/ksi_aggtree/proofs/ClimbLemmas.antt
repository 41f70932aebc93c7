-- Climbing as a relation and as a value.
use Rattle.std.proofs.Common.{◌≡◌, ℕ, zero, suc, ◌+◌, ◌<◌, ◌≤◌, ◌⊎◌, ◌↔◌, Bool, true, false, ltb, List, [], ◌∷◌, ◌++◌, length, take, drop, get_or, map, Some, Result, Ok, Err, refl, sym, ap, ◌∙◌, subst, arith, inl, inr}
use Rattle.std.specs.List.{slice_get}
use Rattle.std.proofs.lemmas.Bool.{ltb-false, ltb-true}
use Rattle.std.proofs.lemmas.List.Sums.{sum_by-cons}
use Rattle.std.proofs.Math.Seq.{drop-cons}
use Rattle.std.proofs.Math.ListN.{drop_of_length-le, get_or-map}
use Rattle.std.proofs.lemmas.List.{length-map}
use Rattle.ksi_split.specs.declared.side.Side.{Side}
use Rattle.ksi_aggtree.specs.Links.{PlainLink, side_text, link_text, level_above}
use Rattle.ksi_aggtree.specs.Climbing.{Leads, Climbs, level_after, PassesLevels, above, climbed}
use Rattle.ksi_aggtree.specs.declared.chains.node.Node.{Node}
use Rattle.ksi_aggtree.specs.declared.chains.climbing.LevelFault.{LevelFault}
use Rattle.ksi_aggtree.specs.declared.chains.climbing.LevelFault.TheVariants.{Over}

pub lt_cases : (a b : ℕ) → ((ltb a b ≡ true) × (a < b)) ⊎ ((ltb a b ≡ false) × (b ≤ a))
lt_cases a b = of (ltb a b) refl
  where
    of : (t : Bool) → ltb a b ≡ t → ((ltb a b ≡ true) × (a < b)) ⊎ ((ltb a b ≡ false) × (b ≤ a))
    of true e = inl (e, ltb-true _ _ e)
    of false e = inr (e, ltb-false _ _ e)

-- ---- levels

risen : PlainLink → ℕ
risen link = link.correction + 1

pub level_cons : (start : ℕ) (link : PlainLink) (links : List PlainLink) → level_after start (link ∷ links) ≡ level_after (level_above start link) links
level_cons start link links = omega (arith, sum_by-cons (λ (l : PlainLink). l.correction + 1) link links)

level_take : (start : ℕ) (link : PlainLink) (links : List PlainLink) (k n : ℕ) → n ≡ suc k → level_after start (take n (link ∷ links)) ≡ level_after (level_above start link) (take k links)
level_take start link links k n e = ap (λ (m : ℕ). level_after start (take m (link ∷ links))) e ∙ level_cons start link (take k links)

-- the first link's level passes 255
passes_here : (start : ℕ) (link : PlainLink) (links : List PlainLink) → 255 < level_above start link → PassesLevels start (link ∷ links) 0 (level_above start link)
passes_here start link links high = record {
  within = omega arith;
  level = omega (arith, level_take start link links 0 1 refl);
  over = high;
  first = λ k lt. absurd (omega arith);
}

-- a later link's does
module _ (start : ℕ) (link : PlainLink) (links : List PlainLink) (place high : ℕ) where
  all_before : level_above start link ≤ 255 → PassesLevels (level_above start link) links place high → (k : ℕ) → k < place + 1 → level_after start (take (k + 1) (link ∷ links)) ≤ 255
  all_before low h zero lt = omega (arith, level_take start link links 0 1 refl)
  all_before low h (suc k) lt = omega (arith, level_take start link links (k + 1) (suc k + 1) (omega arith), h.first k (omega arith))

  passes_later : level_above start link ≤ 255 → PassesLevels (level_above start link) links place high → PassesLevels start (link ∷ links) (place + 1) high
  passes_later low h = record {
    within = (let w = h.within in omega arith);
    level = omega (arith, level_take start link links (place + 1) (place + 1 + 1) (omega arith), h.level);
    over = h.over;
    first = all_before low h;
  }

  passes_back : PassesLevels start (link ∷ links) (suc place) high → (level_above start link ≤ 255) × PassesLevels (level_above start link) links place high
  passes_back h = (
    omega (arith, level_take start link links 0 1 refl, h.first 0 (omega arith)),
    record {
      within = (let w = h.within in omega arith);
      level = omega (arith, level_take start link links (place + 1) (suc place + 1) (omega arith), h.level);
      over = h.over;
      first = λ k lt. omega (arith, level_take start link links (k + 1) (k + 1 + 1) (omega arith), h.first (k + 1) (omega arith));
    },
  )

-- ---- nodes

same_node : (a b : Node) → a.imprint ≡ b.imprint → a.level ≡ b.level → a ≡ b
same_node a b imprint level = λ i. record { imprint = imprint i; level = level i }

module _ (image : List ℕ → List ℕ) where
  -- a link leads to one node
  lead_is : (link : PlainLink) (x y : Node) → Leads image link x y → above image x link ≡ y
  lead_is link x y h = same_node (above image x link) y
      (ap (λ (n : ℕ). image (link_text x.imprint link n)) (sym h.level) ∙ sym h.imprint) (sym h.level)

  leads_up : (link : PlainLink) (x : Node) → level_above x.level link ≤ 255 → Leads image link x (above image x link)
  leads_up link x low = record { level = refl; low = low; imprint = refl }

  leads_same : (link other : PlainLink) (x y u v : Node) → link ≡ other → x ≡ u → y ≡ v → Leads image link x y → Leads image other u v
  leads_same link other x y u v l s t h =
      subst (λ (o : PlainLink). Leads image o u v) l (subst (λ (z : Node). Leads image link z v) s (subst (λ (z : Node). Leads image link x z) t h))

  module _ (x y top : Node) (link : PlainLink) (links : List PlainLink) (lead : Leads image link x y) (h : Climbs image y links top) where
    each_on : (k : ℕ) (l : PlainLink) (u v : Node) → slice_get (link ∷ links) k ≡ Some l → slice_get (x ∷ h.nodes) k ≡ Some u → slice_get (x ∷ h.nodes) (k + 1) ≡ Some v → Leads image l u v
    each_on zero l u v is below next =
        let first = h.first in
        let same_link : link ≡ l = cc in
        let same_below : x ≡ u = cc in
        let same_next : y ≡ v = cc in
        leads_same link l x y u v same_link same_below same_next lead
    each_on (suc k) l u v is below next =
        let s : suc (k + 1) ≡ suc k + 1 = omega arith in
        h.each k l u v is below (ap (λ (n : ℕ). slice_get (x ∷ h.nodes) n) s ∙ next)

    climbs_on : Climbs image x (link ∷ links) top
    climbs_on = record { nodes = x ∷ h.nodes; count = (let c = h.count in omega arith); first = refl; last = h.last; each = each_on }

  pub climbs_from : (place : ℕ) (x : Node) (links : List PlainLink) (top : Node) → climbed image place x links ≡ Ok top → Climbs image x links top
  climbs_from place x [] top e = record { nodes = x ∷ []; count = refl; first = refl; last = (let same : x ≡ top = cc in ap (λ (z : Node). Some z) same); each = λ k l u v is below next. cc }
  climbs_from place x (link ∷ links) top e = elim (lt_cases 255 (level_above x.level link)) [
    | inl t ↦ (let here = rw t.0 at e in cc)
    | inr f ↦ (let here = rw f.0 at e in climbs_on x (above image x link) top link links (leads_up link x f.1) (climbs_from (place + 1) (above image x link) links top here))
  ]

  climbs_list : (place : ℕ) (x : Node) (nodes : List Node) (links : List PlainLink) (top : Node) → length nodes ≡ length links + 1 → slice_get nodes 0 ≡ Some x → slice_get nodes (length links) ≡ Some top
      → ((k : ℕ) (l : PlainLink) (u v : Node) → slice_get links k ≡ Some l → slice_get nodes k ≡ Some u → slice_get nodes (k + 1) ≡ Some v → Leads image l u v) → climbed image place x links ≡ Ok top
  climbs_list place x [] links top count first last each = absurd (omega arith)
  climbs_list place x (z ∷ nodes) [] top count first last each = let same : x ≡ top = cc in ap (λ (t : Node). Ok t) same
  climbs_list place x (z ∷ []) (link ∷ links) top count first last each = absurd (omega arith)
  climbs_list place x (z ∷ y ∷ nodes) (link ∷ links) top count first last each =
      let same : z ≡ x = cc in
      let lead : Leads image link x y = subst (λ (t : Node). Leads image link t y) same (each 0 link z y refl refl refl) in
      let level = lead.level in
      let low = lead.low in
      elim (lt_cases 255 (level_above x.level link)) [
        | inl t ↦ absurd (omega arith)
        | inr f ↦ rw f.0 (ap (λ (t : Node). climbed image (place + 1) t links) (lead_is link x y lead)
            ∙ climbs_list (place + 1) y (y ∷ nodes) links top (omega arith) refl last
            (λ k l u v is below next. each (suc k) l u v is below (let s : suc k + 1 ≡ suc (k + 1) = omega arith in ap (λ (n : ℕ). slice_get (z ∷ y ∷ nodes) n) s ∙ next)))
      ]

  pub climbs_to : (place : ℕ) (x : Node) (links : List PlainLink) (top : Node) → Climbs image x links top → climbed image place x links ≡ Ok top
  climbs_to place x links top h = climbs_list place x h.nodes links top h.count h.first h.last h.each

  pub passes_from : (place : ℕ) (x : Node) (links : List PlainLink) (p high : ℕ) → climbed image place x links ≡ Err (Over p high) → (j : ℕ) × (p ≡ place + j) × PassesLevels x.level links j high
  passes_from place x [] p high e = cc
  passes_from place x (link ∷ links) p high e = elim (lt_cases 255 (level_above x.level link)) [
    | inl t ↦ (let here = rw t.0 at e in
        let at : place ≡ p = cc in
        let level : level_above x.level link ≡ high = cc in
        (0, omega arith, subst (PassesLevels x.level (link ∷ links) 0) level (passes_here x.level link links t.1)))
    | inr f ↦ (let here = rw f.0 at e in
        let r = passes_from (place + 1) (above image x link) links p high here in
        (r.0 + 1, omega (arith, r.1), passes_later x.level link links r.0 high f.1 r.2))
  ]

  pub passes_to : (place : ℕ) (x : Node) (links : List PlainLink) (j high : ℕ) → PassesLevels x.level links j high → climbed image place x links ≡ Err (Over (place + j) high)
  passes_to place x [] j high h = let w = h.within in absurd (omega arith)
  passes_to place x (link ∷ links) zero high h =
      let level : high ≡ level_above x.level link = omega (arith, level_take x.level link links 0 1 refl, h.level) in
      let over = h.over in
      elim (lt_cases 255 (level_above x.level link)) [
        | inl t ↦ rw t.0 (let at : place ≡ place + 0 = omega arith in cc)
        | inr f ↦ absurd (omega arith)
      ]
  passes_to place x (link ∷ links) (suc j) high h =
      let back = passes_back x.level link links j high h in
      elim (lt_cases 255 (level_above x.level link)) [
        | inl t ↦ absurd (omega (arith, back.0))
        | inr f ↦ rw f.0 (passes_to (place + 1) (above image x link) links j high back.1
            ∙ (let at : place + 1 + j ≡ place + suc j = omega arith in ap (λ (n : ℕ). Err (Over n high)) at))
      ]

  -- ---- as the clauses say it

  pub climb_both : (x : Node) (links : List PlainLink) (r : Result Node LevelFault) → r ≡ climbed image 0 x links → (top : Node) → (r ≡ Ok top) ↔ Climbs image x links top
  climb_both x links r is top = (λ e. climbs_from 0 x links top (sym is ∙ e), λ h. is ∙ climbs_to 0 x links top h)

  pub over_both : (x : Node) (links : List PlainLink) (r : Result Node LevelFault) → r ≡ climbed image 0 x links → (place high : ℕ) → (r ≡ Err (Over place high)) ↔ PassesLevels x.level links place high
  over_both x links r is place high = (
    λ e. (let p = passes_from 0 x links place high (sym is ∙ e) in
        let at : p.0 ≡ place = omega (arith, p.1) in
        subst (λ (j : ℕ). PassesLevels x.level links j high) at p.2),
    λ h. is ∙ passes_to 0 x links place high h ∙ (let at : 0 + place ≡ place = omega arith in ap (λ (n : ℕ). Err (Over n high)) at),
  )

  -- ---- one list after another

  pub climbed_both : (place : ℕ) (x y : Node) (links more : List PlainLink) → climbed image place x links ≡ Ok y → climbed image place x (links ++ more) ≡ climbed image (place + length links) y more
  climbed_both place x y [] more e =
      let same : x ≡ y = cc in
      let at : place ≡ place + 0 = omega arith in
      ap (λ (z : Node). climbed image place z more) same ∙ ap (λ (n : ℕ). climbed image n y more) at
  climbed_both place x y (link ∷ links) more e = elim (lt_cases 255 (level_above x.level link)) [
    | inl t ↦ (let here = rw t.0 at e in cc)
    | inr f ↦ (let here = rw f.0 at e in
        let at : place + 1 + length links ≡ place + suc (length links) = omega arith in
        rw f.0 (climbed_both (place + 1) (above image x link) y links more here ∙ ap (λ (n : ℕ). climbed image n y more) at))
  ]

  pub climbed_first : (place : ℕ) (x z : Node) (links more : List PlainLink) → climbed image place x (links ++ more) ≡ Ok z → (y : Node) × (climbed image place x links ≡ Ok y)
  climbed_first place x z [] more e = (x, refl)
  climbed_first place x z (link ∷ links) more e = elim (lt_cases 255 (level_above x.level link)) [
    | inl t ↦ (let here = rw t.0 at e in cc)
    | inr f ↦ (let here = rw f.0 at e in
        let r = climbed_first (place + 1) (above image x link) z links more here in
        (r.0, rw f.0 r.1))
  ]

  pub climbs_apart : (x z : Node) (links more : List PlainLink) → Climbs image x (links ++ more) z → (y : Node) × Climbs image x links y × Climbs image y more z
  climbs_apart x z links more h =
      let all = climbs_to 0 x (links ++ more) z h in
      let r = climbed_first 0 x z links more all in
      (r.0, climbs_from 0 x links r.0 r.1, climbs_from (0 + length links) r.0 more z (sym (climbed_both 0 x r.0 links more r.1) ∙ all))

  pub climbs_joined : (x y z : Node) (links more : List PlainLink) → Climbs image x links y → Climbs image y more z → Climbs image x (links ++ more) z
  climbs_joined x y z links more h k =
      climbs_from 0 x (links ++ more) z (climbed_both 0 x y links more (climbs_to 0 x links y h) ∙ climbs_to (0 + length links) y more z k)

  -- ---- levels of a climb

  top_level : (place : ℕ) (x y : Node) (links : List PlainLink) → climbed image place x links ≡ Ok y → y.level ≡ level_after x.level links
  top_level place x y [] e = let same : x ≡ y = cc in ap (λ (z : Node). z.level) (sym same) ∙ omega arith
  top_level place x y (link ∷ links) e = elim (lt_cases 255 (level_above x.level link)) [
    | inl t ↦ (let here = rw t.0 at e in cc)
    | inr f ↦ (let here = rw f.0 at e in top_level (place + 1) (above image x link) y links here ∙ sym (level_cons x.level link links))
  ]

  pub level_of_top : (x y : Node) (links : List PlainLink) → Climbs image x links y → y.level ≡ level_after x.level links
  level_of_top x y links h = top_level 0 x y links (climbs_to 0 x links y h)

  pub one_top : (x y z : Node) (links : List PlainLink) → Climbs image x links y → Climbs image x links z → y ≡ z
  one_top x y z links h k = let a = climbs_to 0 x links y h in let b = climbs_to 0 x links z k in cc

  pub either : (x : Node) (links : List PlainLink) → ((top : Node) × Climbs image x links top) ⊎ ((place : ℕ) × (high : ℕ) × PassesLevels x.level links place high)
  either x links = of (climbed image 0 x links) refl
    where
      of : (r : Result Node LevelFault) → climbed image 0 x links ≡ r → ((top : Node) × Climbs image x links top) ⊎ ((place : ℕ) × (high : ℕ) × PassesLevels x.level links place high)
      of (Ok top) e = inl (top, climbs_from 0 x links top e)
      of (Err (Over place high)) e = (let p = passes_from 0 x links place high e in inr (p.0, high, p.2))

  pub not_both : (x top : Node) (links : List PlainLink) (place high : ℕ) → Climbs image x links top → PassesLevels x.level links place high → ⊥
  not_both x top links place high h k = let a = climbs_to 0 x links top h in let b = passes_to 0 x links place high k in cc

  -- ---- along one link

  module _ (place level high : ℕ) (imprint : List ℕ) (link : PlainLink) (up : high ≡ level_above level link) (links : List PlainLink) where
    pub link_stops : 255 < high → climbed image place (record { imprint = imprint; level = level }) (link ∷ links) ≡ Err (Over place high)
    link_stops over = elim (lt_cases 255 (level_above level link)) [
      | inl t ↦ (rw t.0 (ap (λ (n : ℕ). Err (Over place n)) (sym up)))
      | inr f ↦ absurd (omega arith)
    ]

    pub link_goes : (side : Side) (node sibling next : List ℕ) → high ≤ 255 → next ≡ image (side_text side node sibling high) → side ≡ link.side → node ≡ imprint → sibling ≡ link.sibling
        → climbed image place (record { imprint = imprint; level = level }) (link ∷ links) ≡ climbed image (place + 1) (record { imprint = next; level = high }) links
    link_goes side node sibling next low is_next s n b = elim (lt_cases 255 (level_above level link)) [
      | inl t ↦ absurd (omega arith)
      | inr f ↦ (
          let text : side_text side node sibling high ≡ side_text link.side imprint link.sibling (level_above level link) = λ i. side_text (s i) (n i) (b i) (up i) in
          let same : next ≡ image (link_text imprint link (level_above level link)) = is_next ∙ ap image text in
          rw f.0 (ap (λ (x : Node). climbed image (place + 1) x links) (sym (same_node (record { imprint = next; level = high }) (above image (record { imprint = imprint; level = level }) link) same up))))
    ]

  -- ---- as a loop climbs

  module _ (place : ℕ) (node : Node) (link : PlainLink) (links : List PlainLink) (all : Result Node LevelFault) (lt : place < length links) (is : link ≡ get_or links place link)
      (so_far : climbed image place node (drop place links) ≡ all) where
    rest_is : drop place links ≡ link ∷ drop (place + 1) links
    rest_is = let s : suc place ≡ place + 1 = omega arith in
        drop-cons links place link lt ∙ ap (λ (l : PlainLink). l ∷ drop (suc place) links) (sym is) ∙ ap (λ (n : ℕ). link ∷ drop n links) s

    here : climbed image place node (link ∷ drop (place + 1) links) ≡ all
    here = ap (climbed image place node) (sym rest_is) ∙ so_far

    pub loop_stops : (fault : LevelFault) → ((more : List PlainLink) → climbed image place node (link ∷ more) ≡ Err fault) → Err fault ≡ all
    loop_stops fault stops = sym (stops (drop (place + 1) links)) ∙ here

    pub loop_goes : (next : Node) → ((more : List PlainLink) → climbed image place node (link ∷ more) ≡ climbed image (place + 1) next more) → climbed image (place + 1) next (drop (place + 1) links) ≡ all
    loop_goes next goes = sym (goes (drop (place + 1) links)) ∙ here

  pub loop_ends : (place : ℕ) (x : Node) (links : List PlainLink) (all : Result Node LevelFault) → length links ≤ place → climbed image place x (drop place links) ≡ all → Ok x ≡ all
  loop_ends place x links all end so_far =
      let none : drop place links ≡ [] = drop_of_length-le links {i = place} end in
      ap (λ (more : List PlainLink). climbed image place x more) (sym none) ∙ so_far

-- an element of a list as another list shows it
pub seen_at : {X Y : Type 0} (f : X → Y) (xs : List X) (place : ℕ) (x : X) → x ≡ get_or xs place x → f x ≡ get_or (map f xs) place (f x)
seen_at f xs place x is = ap f is ∙ sym (get_or-map f xs place x)

pub seen_within : {X Y : Type 0} (f : X → Y) (xs : List X) (place : ℕ) → place < length xs → place < length (map f xs)
seen_within f xs place lt = omega (arith, length-map xs f)

pub seen_past : {X Y : Type 0} (f : X → Y) (xs : List X) (place : ℕ) → length xs ≤ place → length (map f xs) ≤ place
seen_past f xs place le = omega (arith, length-map xs f)

-- a level at least as many higher as there are links
pub level_rises : (level : ℕ) (links : List PlainLink) → level + length links ≤ level_after level links
level_rises level [] = omega arith
level_rises level (link ∷ links) = omega (arith, level_cons level link links, level_rises (level_above level link) links)

pub one_fault : (start place high other_place other : ℕ) (links : List PlainLink) → PassesLevels start links place high → PassesLevels start links other_place other → (place ≡ other_place) × (high ≡ other)
one_fault start place high other_place other links h k =
    let image = λ (bytes : List ℕ). bytes in
    let node : Node = record { imprint = []; level = start } in
    let a = passes_to image 0 node links place high h in
    let b = passes_to image 0 node links other_place other k in
    let places : 0 + place ≡ 0 + other_place = cc in
    let levels : high ≡ other = cc in
    (omega arith, levels)
