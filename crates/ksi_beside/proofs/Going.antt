-- Links laid beside a tree, the ones of the code beside those of the definitions.
use Rattle.std.proofs.Common.{◌≡◌, ℕ, suc, List, [], ◌∷◌, ◌++◌, map, take, length, Result, Ok, Err, Option, Some, None, refl, sym, ap, subst, ◌∙◌, inl, inr, ◌⊎◌, append_assoc, append-nil}
use Rattle.std.specs.Prelude.{IfOk, OnErr}
use Rattle.ksi_imprint.specs.declared.clash.Clash.{Clash}
use Rattle.ksi_split.specs.declared.side.Side.{Side}
use Rattle.ksi_split.specs.declared.side.Side.TheVariants.{Left, Right}
use Rattle.ksi_split.specs.declared.tree_link.TreeLink.{TreeLink}
use Rattle.ksi_split.specs.Trees.{link_from}
use Rattle.ksi_aggtree.specs.Links.{PlainLink, side_text}
use Rattle.ksi_aggtree.specs.Climbing.{above}
use Rattle.ksi_aggtree.specs.declared.chains.node.Node.{Node}
use Rattle.ksi_calendar.specs.Climbing.{calendar_element_text, calendar_join_text}
use Rattle.ksi_beside.specs.Beside.{Rung, Pair, rung_side, rung_text, rung_from, rungs_from, calendar_rung_from, calendar_rungs_from, ended, laid_from, laid_on, IsApart}
use Rattle.ksi_beside.specs.Walks.{step, go}
use Rattle.ksi_beside.specs.declared.walk.Walk.{Walk}
use Rattle.ksi_beside.specs.declared.walk.Walk.TheVariants.{Apart, At, Past}
use Rattle.ksi_beside.proofs.Cases.{eq_cases, next_same, none_same}
use Rattle.ksi_beside.proofs.Strings.{same_cases}

pub ok_goes_on : {A E : Type 0} (r : Result A E) (x y : A) → IfOk r (λ z. z ≡ x) → x ≡ y → IfOk r (λ z. z ≡ y)
ok_goes_on (Ok z) x y is e = is ∙ e
ok_goes_on (Err fault) x y is e = tt

pub err_goes_on : {A E : Type 0} (r : Result A E) (x y : Walk) → OnErr r (IsApart x) → x ≡ y → OnErr r (IsApart y)
err_goes_on r x y is e = subst (λ (w : Walk). OnErr r (IsApart w)) e is

pub err_told : {A E : Type 0} (r : Result A E) (x : Walk) → IsApart x → OnErr r (IsApart x)
err_told (Ok z) x h = tt
err_told (Err fault) x h = h

-- ---- the walk of the code is that of the definition

module _ (text : List Side → Option (List ℕ)) where
  pub go_apart : (clash : Clash) (rungs : List Rung) → go text (Apart clash) rungs ≡ Apart clash
  go_apart clash [] = refl
  go_apart clash (rung ∷ rungs) = go_apart clash rungs

  go_past : (sides : List Side) (rungs : List Rung) → go text (Past sides) rungs ≡ Past sides
  go_past sides [] = refl
  go_past sides (rung ∷ rungs) = go_past sides rungs

  option_cases : (sides : List Side) → (text sides ≡ None) ⊎ ((kept : List ℕ) × (text sides ≡ Some kept))
  option_cases sides = of (text sides) refl
    where
      of : (found : Option (List ℕ)) → text sides ≡ found → (text sides ≡ None) ⊎ ((kept : List ℕ) × (text sides ≡ Some kept))
      of None e = inl e
      of (Some kept) e = inr (kept, e)

  -- one link is passed
  ended_on : (sides : List Side) (rung : Rung) (rungs : List Rung) (passed : ℕ) (found : Option Pair) → ended (sides ++ rung.side ∷ []) rungs passed found ≡ ended sides (rung ∷ rungs) (suc passed) found
  ended_on sides rung rungs passed (Some pair) = refl
  ended_on sides rung rungs passed None = elim (eq_cases passed (length rungs)) [
    | inl same ↦ rw (next_same passed (length rungs), same.0) (ap At (append_assoc sides (rung.side ∷ []) (map rung_side rungs)))
    | inr other ↦ rw (next_same passed (length rungs), other.0) (ap Past (append_assoc sides (rung.side ∷ []) (take passed (map rung_side rungs))))
  ]

  go_at : (sides : List Side) (rungs : List Rung) → go text (At sides) rungs ≡ laid_from text sides rungs
  go_at sides [] = ap At (sym (append-nil sides))
  go_at sides (rung ∷ rungs) = elim (option_cases sides) [
    | inl none ↦ rw (none, none_same (length rungs)) (go_past sides rungs ∙ ap Past (sym (append-nil sides)))
    | inr kept ↦ elim (same_cases (rung_text rung) kept.0) [
      | inl same ↦ rw (kept.1, same.0) (go_at (sides ++ rung.side ∷ []) rungs ∙ ended_on sides rung rungs _ _)
      | inr other ↦ rw (kept.1, other.0) (go_apart (record { one = rung_text rung; two = kept.0 }) rungs)
    ]
  ]

  pub go_is : (walk : Walk) (rungs : List Rung) → go text walk rungs ≡ laid_on text walk rungs
  go_is (Apart clash) rungs = go_apart clash rungs
  go_is (At sides) rungs = go_at sides rungs
  go_is (Past sides) rungs = go_past sides rungs

  pub laid_none : (walk : Walk) → laid_on text walk [] ≡ walk
  laid_none walk = sym (go_is walk [])

  go_append : (walk : Walk) (rungs more : List Rung) → go text walk (rungs ++ more) ≡ go text (go text walk rungs) more
  go_append walk [] more = refl
  go_append walk (rung ∷ rungs) more = go_append (step text walk rung) rungs more

  pub laid_append : (walk : Walk) (rungs more : List Rung) → laid_on text walk (rungs ++ more) ≡ laid_on text (laid_on text walk rungs) more
  laid_append walk rungs more = sym (go_is walk (rungs ++ more)) ∙ go_append walk rungs more ∙ ap (λ (w : Walk). go text w more) (go_is walk rungs) ∙ go_is (laid_on text walk rungs) more

  go_last : (start walk : Walk) (rungs : List Rung) (rung : Rung) → walk ≡ go text start rungs → step text walk rung ≡ go text start (rungs ++ rung ∷ [])
  go_last start walk rungs rung e = ap (λ (w : Walk). step text w rung) e ∙ sym (go_append start rungs (rung ∷ []))

  -- once apart, links below come to the same clash
  pub apart_stays : (start : Walk) (rungs : List Rung) (rung : Rung) → IsApart (go text start rungs) → IsApart (go text start (rungs ++ rung ∷ []))
  apart_stays start rungs rung h = subst IsApart (go_last start (go text start rungs) rungs rung refl) (of (go text start rungs) h)
    where
      of : (walk : Walk) → IsApart walk → IsApart (step text walk rung)
      of (Apart clash) h = tt
      of (At sides) h = absurd h
      of (Past sides) h = absurd h

-- ---- one link further

calendar_side : (side : Side) (below : List ℕ) (link : TreeLink (List ℕ)) → side_text side below link.sibling 255 ≡ link_from calendar_join_text below link side
calendar_side Left below link = refl
calendar_side Right below link = refl

-- a calendar link's string
calendar_text_is : (below : List ℕ) (link : TreeLink (List ℕ)) → rung_text (calendar_rung_from below link) ≡ calendar_element_text below link
calendar_text_is below link = calendar_side link.side below link

module _ (image : List ℕ → List ℕ) (text : List Side → Option (List ℕ)) (start : Walk) (rung : Rung) where
  module _ (below next : List ℕ) (link : TreeLink (List ℕ)) (higher links : List (TreeLink (List ℕ))) (is : links ≡ link ∷ higher) (rung_is : rung ≡ calendar_rung_from below link) (next_is : next ≡ image (rung_text rung)) where
    calendar_rungs : calendar_rungs_from image next higher ++ rung ∷ [] ≡ calendar_rungs_from image below links
    calendar_rungs =
        let above_is : next ≡ image (calendar_element_text below link) = next_is ∙ ap (λ (r : Rung). image (rung_text r)) rung_is ∙ ap image (calendar_text_is below link) in
        ap (λ (x : List ℕ). calendar_rungs_from image x higher ++ rung ∷ []) above_is ∙ ap (λ (r : Rung). calendar_rungs_from image (image (calendar_element_text below link)) higher ++ r ∷ []) rung_is ∙ ap (calendar_rungs_from image below) (sym is)

    pub calendar_down : (walk : Walk) → walk ≡ go text start (calendar_rungs_from image next higher) → step text walk rung ≡ go text start (calendar_rungs_from image below links)
    calendar_down walk e = go_last text start walk (calendar_rungs_from image next higher) rung e ∙ ap (go text start) calendar_rungs

    pub calendar_apart : IsApart (go text start (calendar_rungs_from image next higher)) → IsApart (go text start (calendar_rungs_from image below links))
    calendar_apart h = subst (λ (r : List Rung). IsApart (go text start r)) calendar_rungs (apart_stays text start (calendar_rungs_from image next higher) rung h)

  module _ (below next : Node) (link : PlainLink) (higher links : List PlainLink) (is : links ≡ link ∷ higher) (rung_is : rung ≡ rung_from below link) (next_is : next ≡ record { imprint = image (rung_text rung); level = rung.level }) where
    chain_rungs : rungs_from image next higher ++ rung ∷ [] ≡ rungs_from image below links
    chain_rungs =
        let above_is : next ≡ above image below link = next_is ∙ ap (λ (r : Rung). record { imprint = image (rung_text r); level = r.level }) rung_is in
        ap (λ (x : Node). rungs_from image x higher ++ rung ∷ []) above_is ∙ ap (λ (r : Rung). rungs_from image (above image below link) higher ++ r ∷ []) rung_is ∙ ap (rungs_from image below) (sym is)

    pub chain_down : (walk : Walk) → walk ≡ go text start (rungs_from image next higher) → step text walk rung ≡ go text start (rungs_from image below links)
    chain_down walk e = go_last text start walk (rungs_from image next higher) rung e ∙ ap (go text start) chain_rungs

    pub chain_apart : IsApart (go text start (rungs_from image next higher)) → IsApart (go text start (rungs_from image below links))
    chain_apart h = subst (λ (r : List Rung). IsApart (go text start r)) chain_rungs (apart_stays text start (rungs_from image next higher) rung h)
