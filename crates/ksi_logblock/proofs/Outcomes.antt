-- What the walk along a line's links comes to is what the definition says.
use Rattle.std.proofs.Common.{◌≡◌, ℕ, List, [], ◌∷◌, ◌++◌, length, Result, Ok, Err, OnErr, Option, Some, None, false, refl, sym, ap, subst, ◌∙◌, arith, inl, inr}
use Rattle.std.specs.Prelude.{IfOk}
use Rattle.std.specs.List.{AllByRecursion}
use Rattle.ksi_imprint.specs.declared.clash.Clash.{Clash}
use Rattle.ksi_split.specs.declared.side.Side.{Side}
use Rattle.ksi_split.specs.declared.side.Side.TheVariants.{Left}
use Rattle.ksi_beside.specs.Beside.{Rung, rungs_from, Pair, differing, ended, laid_from, laid_on, IsApart, IsShortLink, clash_in}
use Rattle.ksi_beside.specs.declared.walk.Walk.{Walk}
use Rattle.ksi_beside.specs.declared.walk.Walk.TheVariants.{Apart, At, Past}
use Rattle.ksi_logblock.specs.declared.line_proof.LineLink.{LineLink}
use Rattle.ksi_logblock.specs.declared.line_proof.LineProof.{LineProof}
use Rattle.ksi_logblock.specs.Blocks.{Masked, leaf_text}
use Rattle.ksi_logblock.specs.Links.{plain_line_links}
use Rattle.ksi_logblock.specs.Locating.{block_text, found, first_pair, line_pairs, line_rungs, mask_node, node_pairs}
use Rattle.ksi_logblock.specs.Shown.{HasClash}
use Rattle.ksi_logblock.specs.declared.locating.Located.{Located}
use Rattle.ksi_logblock.specs.declared.locating.Located.TheVariants as answers
use Rattle.ksi_logblock.proofs.Cases.{eq_cases, same_cases}

abbrev pub pair_of : Clash → Pair
pair_of clash = (clash.one, clash.two)

-- ---- answers of calls that take memory

pub ok_goes_on : {A E : Type 0} (r : Result A E) (x y : A) → IfOk r (λ z. z ≡ x) → x ≡ y → IfOk r (λ z. z ≡ y)
ok_goes_on (Ok z) x y is e = is ∙ e
ok_goes_on (Err fault) x y is e = tt

pub err_told : {A E : Type 0} (r : Result A E) (P : Type 0) → P → OnErr r P
err_told (Ok z) P h = tt
err_told (Err fault) P h = h

pub err_has : {A E P Q : Type 0} (r : Result A E) → OnErr r P → (P → Q) → OnErr r Q
err_has (Ok z) h on = tt
err_has (Err fault) h on = on h

-- ---- how links ended

module _ (above : List Side) (rungs : List Rung) (passed : ℕ) where
  pub apart_differs : (d : Option Pair) → IsApart (ended above rungs passed d) → (pair : Pair) × (d ≡ Some pair)
  apart_differs (Some pair) h = (pair, refl)
  apart_differs None h = elim (eq_cases passed (length rungs)) [
    | inl same ↦ (let at = rw same.0 at h in absurd at)
    | inr other ↦ (let past = rw other.0 at h in absurd past)
  ]

  pub none_differs : (d : Option Pair) → None ≡ clash_in (ended above rungs passed d) → d ≡ None
  none_differs (Some pair) e = absurd cc
  none_differs None e = refl

  pub some_differs : (d : Option Pair) (clash : Clash) → Some clash ≡ clash_in (ended above rungs passed d) → d ≡ Some (pair_of clash)
  some_differs (Some pair) clash e = let is : clash ≡ record { one = pair.0; two = pair.1 } = cc in ap (λ (c : Clash). Some (pair_of c)) (sym is)
  some_differs None clash e = elim (eq_cases passed (length rungs)) [
    | inl same ↦ (let at = rw same.0 at e in absurd cc)
    | inr other ↦ (let past = rw other.0 at e in absurd cc)
  ]

apart_on : (kept : List Side → Option (List ℕ)) (walk : Walk) (rungs : List Rung) → IsApart walk → IsApart (laid_on kept walk rungs)
apart_on kept (Apart clash) rungs h = h
apart_on kept (At sides) rungs h = absurd h
apart_on kept (Past sides) rungs h = absurd h

-- ---- pairs one after the other

pub differing_first : (pairs more : List Pair) (pair : Pair) → differing pairs ≡ Some pair → differing (pairs ++ more) ≡ Some pair
differing_first [] more pair e = absurd cc
differing_first (here ∷ pairs) more pair e = elim (same_cases here.0 here.1) [
  | inl same ↦ (let further = rw same.0 at e in rw same.0 (differing_first pairs more pair further))
  | inr other ↦ (let is = rw other.0 at e in rw other.0 is)
]

pub differing_then : (pairs more : List Pair) → differing pairs ≡ None → differing (pairs ++ more) ≡ differing more
differing_then [] more e = refl
differing_then (here ∷ pairs) more e = elim (same_cases here.0 here.1) [
  | inl same ↦ (let further = rw same.0 at e in rw same.0 (differing_then pairs more further))
  | inr other ↦ (let is = rw other.0 at e in absurd cc)
]

-- ---- as the code has them

pub short_links : (links : List LineLink) → AllByRecursion (λ link. length link.sibling ≡ 33) links → AllByRecursion IsShortLink (plain_line_links links)
short_links [] all = tt
short_links (link ∷ links) all = (omega (arith, all.0), short_links links all.1)

abbrev Together : Type 0
Together = (kept : List Side → Option (List ℕ)) (walk : Walk) (rungs more : List Rung) → laid_on kept walk (rungs ++ more) ≡ laid_on kept (laid_on kept walk rungs) more

module _ (together : Together) (image : List ℕ → List ℕ) (block : Masked) (line : List ℕ) (proof : LineProof) where
  abbrev from_leaf : List ℕ → List LineLink → List Rung
  from_leaf leaf links = rungs_from image (record { imprint = leaf; level = 1 }) (plain_line_links links)

  abbrev from_mask : List ℕ → List Rung
  from_mask hash = rungs_from image (mask_node proof.mask) (record { side = Left; correction = 0; sibling = hash; raw = false } ∷ [])

  abbrev pub laid_all : Walk
  laid_all = laid_from (block_text image block) [] (line_rungs image line proof)

  module _ (top : List Side) (leaf : List ℕ) (links : List LineLink) (top_is : top ≡ []) (leaf_is : leaf ≡ image (leaf_text image proof.mask line)) (links_are : links ≡ proof.links) where
    above_is : laid_on (block_text image block) (At top) (from_leaf leaf links) ≡ laid_on (block_text image block) (At []) (from_leaf (image (leaf_text image proof.mask line)) proof.links)
    above_is = ap (λ (s : List Side). laid_on (block_text image block) (At s) (from_leaf leaf links)) top_is ∙ ap (λ (x : List ℕ). laid_on (block_text image block) (At []) (from_leaf x links)) leaf_is ∙ ap (λ (l : List LineLink). laid_on (block_text image block) (At []) (from_leaf (image (leaf_text image proof.mask line)) l)) links_are

    pub line_laid : (walk : Walk) (hash : List ℕ) → hash ≡ image line → walk ≡ laid_on (block_text image block) (At top) (from_leaf leaf links) → laid_on (block_text image block) walk (from_mask hash) ≡ laid_all
    line_laid walk hash h w =
        ap (λ (x : List ℕ). laid_on (block_text image block) walk (from_mask x)) h
        ∙ ap (λ (x : Walk). laid_on (block_text image block) x (from_mask (image line))) (w ∙ above_is)
        ∙ sym (together (block_text image block) (At []) (from_leaf (image (leaf_text image proof.mask line)) proof.links) (from_mask (image line)))

    pub line_apart : IsApart (laid_on (block_text image block) (At top) (from_leaf leaf links)) → IsApart laid_all
    line_apart h =
        subst IsApart (sym (together (block_text image block) (At []) (from_leaf (image (leaf_text image proof.mask line)) proof.links) (from_mask (image line))))
        (apart_on (block_text image block) (laid_on (block_text image block) (At []) (from_leaf (image (leaf_text image proof.mask line)) proof.links)) (from_mask (image line)) (subst IsApart above_is h))

module _ (image : List ℕ → List ℕ) (block : Masked) (line : List ℕ) (proof : LineProof) (named : Option ℕ) where
  abbrev pub walked : Walk
  walked = laid_from (block_text image block) [] (line_rungs image line proof)

  abbrev pub answer : Located
  answer = found named (first_pair image block line proof named)

  pub apart_has : IsApart walked → HasClash answer
  apart_has h =
      let d = apart_differs [] (line_rungs image line proof) (length (node_pairs image block line proof)) (differing (node_pairs image block line proof)) h in
      subst (λ (o : Option Pair). HasClash (found named o)) (sym (differing_first (node_pairs image block line proof) (line_pairs block line named) d.0 d.1)) tt

  pub clash_is : (walk : Walk) (o : Option Clash) (clash : Clash) → walk ≡ walked → o ≡ clash_in walk → o ≡ Some clash → answers.Clash clash ≡ answer
  clash_is walk o clash w is some =
      let d = some_differs [] (line_rungs image line proof) (length (node_pairs image block line proof)) (differing (node_pairs image block line proof)) clash (sym some ∙ is ∙ ap clash_in w) in
      ap (found named) (sym (differing_first (node_pairs image block line proof) (line_pairs block line named) (pair_of clash) d))

  pub lines_are : (walk : Walk) (o : Option Clash) → walk ≡ walked → o ≡ clash_in walk → o ≡ None → found named (differing (line_pairs block line named)) ≡ answer
  lines_are walk o w is none =
      let d = none_differs [] (line_rungs image line proof) (length (node_pairs image block line proof)) (differing (node_pairs image block line proof)) (sym none ∙ is ∙ ap clash_in w) in
      ap (found named) (sym (differing_then (node_pairs image block line proof) (line_pairs block line named) d))
