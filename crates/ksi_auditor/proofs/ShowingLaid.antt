-- What is found of an accepted signature beside the calendar of seconds, and beside the tree of its second's items, is true.
use Rattle.std.proofs.Common.{◌≡◌, ◌≢◌, ℕ, ◌+◌, ◌-◌, ◌≤◌, true, List, [], ◌∷◌, ◌++◌, map, take, length, Result, Ok, Err, Option, Some, None, refl, sym, ap, subst, ◌∙◌, arith, inl, inr, ◌⊎◌, length-append, append-nil}
use Rattle.std.specs.List.{AllByRecursion}
use Rattle.std.proofs.Math.Seq.{take-append_seam}
use Rattle.std.proofs.lemmas.List.{length-map, map-append}
use Rattle.std.proofs.lemmas.List.Sums.{sum_by-take-le}
use Rattle.ksi_imprint.specs.Imprints.{IsImprint, IsClash, zero_imprint}
use Rattle.ksi_imprint.specs.declared.clash.Clash.{Clash}
use Rattle.ksi_split.specs.declared.side.Side.{Side}
use Rattle.ksi_split.specs.Parts.{Part, part_at, second_in, second_at}
use Rattle.ksi_aggtree.specs.Links.{PlainLink}
use Rattle.ksi_aggtree.specs.Climbing.{level_after}
use Rattle.ksi_aggtree.specs.declared.chains.node.Node.{Node}
use Rattle.ksi_aggtree.specs.declared.item.Item.{Item}
use Rattle.ksi_aggtree.specs.Nodes.{text_of}
use Rattle.ksi_aggtree.specs.Rounds.{tree_from}
use Rattle.ksi_calendar.specs.Sides.{sides_from_top}
use Rattle.ksi_calendar.specs.Calendar as calendars
use Rattle.ksi_signature.specs.declared.signature.Signature.{Signature}
use Rattle.ksi_verifier.specs.Accepted.{IsAccepted}
use Rattle.ksi_verifier.specs.Chains.{plain_chains, at_level_zero}
use Rattle.ksi_verifier.specs.Verdict.{chain_root}
use Rattle.ksi_journal.specs.Journal.{IsItem}
use Rattle.ksi_beside.specs.Beside.{Rung, rung_side, rungs_from, calendar_rungs_from, Pair, differing}
use Rattle.ksi_beside.specs.Standing.{Holds, IsTree, Walked}
use Rattle.ksi_auditor.specs.declared.answer.Audit.TheVariants as answers
use Rattle.ksi_auditor.specs.Climbed.{climbed_to}
use Rattle.ksi_auditor.specs.Kept.{calendar_text}
use Rattle.ksi_auditor.specs.Audit.{links_of, link_sides, calendar_pairs, item_pairs, item_named, ends, found, compared, laid_over}
use Rattle.ksi_auditor.specs.Shown.{HasLinks, Names, imprint_at, IsInside, IsBeneath, ShowsIn}
use Rattle.ksi_auditor.proofs.Cases.{eq_cases}
use Rattle.ksi_auditor.proofs.Cited.{Laws, RoundLaws}
use Rattle.ksi_auditor.proofs.CalendarTree.{calendar_is_tree, calendar_top, node_is_of, no_string}
use Rattle.ksi_auditor.proofs.Climbs.{rise, climbed_is}
use Rattle.ksi_auditor.proofs.Fitting.{above_a_node, calendar_fits, is_told_link, links_fit, told_chains}
use Rattle.ksi_auditor.proofs.Keeping.{KeptItems, HasItems}
use Rattle.ksi_auditor.proofs.Outcomes.{first_above, none_above}
use Rattle.ksi_auditor.proofs.Parts.{part_goes_on, part_with, whole}
use Rattle.ksi_auditor.proofs.RoundTree.{IsReached, round_is_tree, top_is, item_reached}
use Rattle.ksi_auditor.proofs.Rungs.{calendar_sides, aggregation_sides, rungs_count, climbed_ends, calendar_holds, aggregation_holds, climbed_size, left_climbs}

-- ---- parts

ok_is : {A B : Type 0} {x y : A} → ◌≡◌ {A = Result A B} (Ok x) (Ok y) → x ≡ y
ok_is e = cc

-- a second that sides name is the only leaf of the part that they lead to
record IsLeaf (t : ℕ) (q : Part) : Type 0 where
  first : q.first ≡ t
  one : q.count ≡ 1

leaf_named : (p t : ℕ) (sides : List Side) → second_at p sides ≡ Ok t → (q : Part) × (part_at 0 (whole (p + 1)) sides ≡ Ok q) × IsLeaf t q
unfolding second_at
leaf_named p t sides e = of (part_at 0 (whole (p + 1)) sides) refl e
  where
    of : (r : Result Part ℕ) → part_at 0 (whole (p + 1)) sides ≡ r → second_in r ≡ Ok t → (q : Part) × (part_at 0 (whole (p + 1)) sides ≡ Ok q) × IsLeaf t q
    of (Err place) is e = absurd cc
    of (Ok q) is e = elim (eq_cases q.count 1) [
      | inl one ↦ (let first = rw one.0 at e in (q, is, record { first = ok_is first; one = one.1 }))
      | inr other ↦ (let fault = rw other.0 at e in absurd cc)
    ]

-- no link is left where the sides lead to a leaf
none_left : (n : ℕ) (part last : Part) (passed left : List Rung) → part_at 0 (whole n) (map rung_side passed) ≡ Ok part → (left ≡ []) ⊎ (part.count ≡ 1) → part_at 0 (whole n) (map rung_side (passed ++ left)) ≡ Ok last → left ≡ []
none_left n part last passed [] reached stops e = refl
none_left n part last passed (rung ∷ left) reached stops e = elim stops [
  | inl none ↦ none
  | inr one ↦ (let on = part_goes_on (map rung_side passed) (map rung_side (rung ∷ left)) 0 (whole n) part reached in
      let all : part_at (0 + length (map rung_side passed)) part (map rung_side (rung ∷ left)) ≡ Ok last = sym on ∙ ap (part_at 0 (whole n)) (sym (map-append rung_side passed (rung ∷ left))) ∙ e in
      elim (eq_cases part.count 1) [ inl t ↦ (let over = rw t.0 at all in absurd cc) | inr f ↦ absurd (f.1 one) ])
]

module _ (laws : Laws) (image : List ℕ → List ℕ) (lawful : (bytes : List ℕ) → IsImprint (image bytes)) (seconds : calendars.Seconds) (leaves : (t : ℕ) → length (calendars.calendar_leaf seconds t) ≡ 33) where
  sizes : (x : List ℕ) → length (image x) ≡ 33
  sizes x = (lawful x).size

  -- ---- an accepted signature whose publication is decided

  module _ (signature : Signature) (hash : List ℕ) (publications : List (ℕ × List ℕ)) (t : ℕ) (size : length hash ≡ 33) (a : IsAccepted image signature hash publications t)
      (covered : calendars.is_covered seconds a.calendar.publication ≡ true) (leads : chain_root image a.calendar ≡ calendars.calendar_root image seconds a.calendar.publication) where
    abbrev p : ℕ
    p = a.calendar.publication

    abbrev links : List PlainLink
    links = links_of signature

    abbrev start : Node
    start = at_level_zero hash

    top : (climbed_to image start links ≡ a.node) × (level_after 0 links ≤ 255)
    top = climbed_ends image 0 start a.node links ((laws.climbs image start a.node links).1 (laws.lead image (plain_chains signature.chains) start a.node a.chains.lead)) (omega arith)

    input_is : (climbed_to image start links).imprint ≡ a.calendar.input
    input_is = ap (λ (x : Node). x.imprint) top.0 ∙ sym a.input

    input_size : length a.calendar.input ≡ 33
    input_size = ap length (sym input_is) ∙ climbed_size image sizes start links size

    names : Names signature t
    names = record { calendar = a.calendar; has_calendar = a.has_calendar; second = a.second }

    abbrev calendar_rungs : List Rung
    calendar_rungs = calendar_rungs_from image a.calendar.input a.calendar.links

    calendar_stands : Holds image a.calendar.input (calendars.calendar_root image seconds p) calendar_rungs
    calendar_stands = subst (λ (y : List ℕ). Holds image a.calendar.input y calendar_rungs) leads (calendar_holds image a.calendar.input a.calendar.links)

    calendar_clash : (pair : Pair) → differing (calendar_pairs image seconds a.calendar) ≡ Some pair → IsClash image (record { one = pair.0; two = pair.1 })
    calendar_clash pair e = laws.clash image (calendar_text image seconds p) (calendars.node_of image seconds p) above_a_node calendar_rungs [] a.calendar.input (calendars.calendar_root image seconds p) pair
        (calendar_is_tree laws image sizes seconds leaves p covered) (calendar_top laws image sizes seconds leaves p covered) (calendar_fits image sizes a.calendar.input a.calendar.links input_size) calendar_stands e

    -- links that stand in the calendar and name second t end at its leaf
    ends_at_leaf : Walked image (calendar_text image seconds p) (calendars.node_of image seconds p) [] a.calendar.input calendar_rungs → a.calendar.input ≡ calendars.calendar_leaf seconds t
    ends_at_leaf w =
        let at : Part → List ℕ = λ q. calendars.calendar_tree image seconds q.first q.count in
        let here = node_is_of laws image sizes seconds leaves p covered (map rung_side w.passed) w.reached w.there in
        let here_is : w.reached ≡ at here.0 = here.2 in
        let some = (laws.parts (p + 1) (map rung_side w.passed) here.0 (omega arith) here.1).some in
        let stops : (w.left ≡ []) ⊎ (here.0.count ≡ 1) = elim w.stops [ inl none ↦ inl none | inr none ↦ inr (no_string laws image sizes seconds leaves p covered (map rung_side w.passed) here.0 here.1 some none) ] in
        let named = leaf_named p t (sides_from_top a.calendar.links) ((laws.second p t (sides_from_top a.calendar.links)).1 a.second) in
        let reach : List Rung → Result Part ℕ = λ r. part_at 0 (whole (p + 1)) (map rung_side r) in
        let all : reach (w.passed ++ w.left) ≡ Ok named.0 = ap reach (sym w.split) ∙ ap (part_at 0 (whole (p + 1))) (calendar_sides image a.calendar.input a.calendar.links) ∙ named.1 in
        let ended = none_left (p + 1) here.0 named.0 w.passed w.left here.1 stops all in
        let there : reach w.passed ≡ Ok named.0 = ap reach (sym (append-nil w.passed) ∙ ap (λ (r : List Rung). w.passed ++ r) (sym ended)) ∙ all in
        let same : here.0 ≡ named.0 = ok_is (sym here.1 ∙ there) in
        let rest : a.calendar.input ≡ w.reached = subst (Holds image a.calendar.input w.reached) ended w.rest in
        let leaf : at named.0 ≡ calendars.calendar_leaf seconds t = ap (λ (n : ℕ). at (part_with named.0.first n)) named.2.one ∙ laws.calendar_one image seconds named.0.first ∙ ap (calendars.calendar_leaf seconds) named.2.first in
        let reached : w.reached ≡ calendars.calendar_leaf seconds t = here_is ∙ ap at same ∙ leaf in
        rest ∙ reached

    at_leaf : differing (calendar_pairs image seconds a.calendar) ≡ None → a.calendar.input ≡ calendars.calendar_leaf seconds t
    at_leaf e = ends_at_leaf (laws.beside image (calendar_text image seconds p) (calendars.node_of image seconds p) above_a_node calendar_rungs [] a.calendar.input (calendars.calendar_root image seconds p)
        (calendar_is_tree laws image sizes seconds leaves p covered) (calendar_top laws image sizes seconds leaves p covered) (calendar_fits image sizes a.calendar.input a.calendar.links input_size) calendar_stands e)

    module _ (second_items : ℕ → List Item) (kept : KeptItems image (second_items t)) (rounds : RoundLaws) (are : HasLinks signature) (h : HasItems image (second_items t) (calendars.calendar_leaf seconds t)) (leaf : a.calendar.input ≡ calendars.calendar_leaf seconds t) where
      abbrev items : List Item
      items = second_items t

      abbrev last : ℕ
      last = length items - 1

      len : length items ≡ last + 1
      len = let some = h.some in omega (arith, some)

      each : AllByRecursion IsItem items
      each = kept.each

      abbrev rungs : List Rung
      rungs = rungs_from image start links

      abbrev passed_links : ℕ
      passed_links = length (item_pairs image items links hash)

      tree_root_is : (climbed_to image start links).imprint ≡ (tree_from image items 0 (length items)).imprint
      tree_root_is = input_is ∙ leaf ∙ sym h.tree

      items_are_tree : IsTree image (text_of image items) (imprint_at image items) is_told_link
      items_are_tree = round_is_tree laws rounds image sizes items each last len

      items_top : imprint_at image items [] ≡ Some (tree_from image items 0 (length items)).imprint
      items_top = top_is laws rounds image sizes items each last len

      links_stand : Holds image hash (tree_from image items 0 (length items)).imprint rungs
      links_stand = subst (λ (y : List ℕ). Holds image hash y rungs) tree_root_is (aggregation_holds image start links)

      told : AllByRecursion (λ rung. is_told_link rung ≡ true) rungs
      told = links_fit image sizes start links size (told_chains signature.chains are a.chains.named)

      aggregation_clash : (pair : Pair) → differing (item_pairs image items links hash) ≡ Some pair → IsClash image (record { one = pair.0; two = pair.1 })
      aggregation_clash pair e = laws.clash image (text_of image items) (imprint_at image items) is_told_link rungs [] hash (tree_from image items 0 (length items)).imprint pair items_are_tree items_top told links_stand e

      inside : (passed : List Rung) (reached : List ℕ) → rungs ≡ passed → imprint_at image items (map rung_side passed) ≡ Some reached → hash ≡ reached → IsInside image items signature hash t (link_sides signature)
      inside passed reached split there rest =
          let sides : link_sides signature ≡ map rung_side passed = sym (aggregation_sides image start links) ∙ ap (map rung_side) split in
          record {
            second = names;
            all = refl;
            node = ap (imprint_at image items) sides ∙ there ∙ ap (λ (x : List ℕ). Some x) (sym rest);
          }

      beneath : (passed left : List Rung) (rung : Rung) (reached : List ℕ) → rungs ≡ passed ++ rung ∷ left → (r : IsReached items (map rung_side passed) reached) → Holds image hash reached (rung ∷ left) → IsBeneath image items signature hash t r.item (length (rung ∷ left))
      beneath passed left rung reached split r rest =
          let m : ℕ = length (rung ∷ left) in
          let count : length links ≡ length passed + m = sym (rungs_count image start links) ∙ ap length split ∙ length-append passed (rung ∷ left) in
          let some : 1 ≤ m = omega arith in
          let sides : link_sides signature ≡ map rung_side passed ++ map rung_side (rung ∷ left) = sym (aggregation_sides image start links) ∙ ap (map rung_side) split ∙ map-append rung_side passed (rung ∷ left) in
          let depth : length (map rung_side passed) ≡ length passed = length-map passed rung_side in
          let front : take (length links - m) (link_sides signature) ≡ map rung_side passed
          = (let k : length links - m ≡ length (map rung_side passed) = omega (arith, count, depth) in ap (λ (n : ℕ). take n (link_sides signature)) k)
          ∙ ap (take (length (map rung_side passed))) sides ∙ take-append_seam (map rung_side passed) (map rung_side (rung ∷ left)) in
          let fewer = sum_by-take-le rise links m in
          let low = top.1 in
          let low_here : level_after 0 (take m links) ≤ 255 = omega (arith, fewer, low) in
          record {
            second = names;
            there = r.there;
            some = some;
            within = omega (arith, count);
            top = climbed_to image start (take m links);
            climbs = (laws.climbs image start (climbed_to image start (take m links)) (take m links)).0 (climbed_is image 0 start (take m links) low_here);
            imprint = left_climbs image start reached links passed left rung split rest ∙ r.imprint;
            way = front ∙ r.way;
          }

      ended : (passed left : List Rung) (reached : List ℕ) → rungs ≡ passed ++ left → imprint_at image items (map rung_side passed) ≡ Some reached → passed_links ≡ length passed → (left ≡ []) ⊎ (text_of image items (map rung_side passed) ≡ None)
          → Holds image hash reached left → ShowsIn image second_items signature hash (ends t (length items) (link_sides signature) passed_links)
      ended passed [] reached split there count stops rest =
          let whole_is = split ∙ append-nil passed in
          let sides : link_sides signature ≡ map rung_side passed = sym (aggregation_sides image start links) ∙ ap (map rung_side) whole_is in
          let same : passed_links ≡ length (link_sides signature) = count ∙ sym (ap length sides ∙ length-map passed rung_side) in
          elim (eq_cases passed_links (length (link_sides signature))) [ inl equal ↦ rw equal.0 (inside passed reached whole_is there rest) | inr other ↦ absurd (other.1 same) ]
      ended passed (rung ∷ left) reached split there count stops rest =
          let none : text_of image items (map rung_side passed) ≡ None = elim stops [ inl empty ↦ absurd cc | inr none ↦ none ] in
          let r = item_reached laws rounds image sizes items each last len (map rung_side passed) reached there none in
          let sides : link_sides signature ≡ map rung_side passed ++ map rung_side (rung ∷ left) = sym (aggregation_sides image start links) ∙ ap (map rung_side) split ∙ map-append rung_side passed (rung ∷ left) in
          let depth = length-map passed rung_side in
          let rest_length = length-map (rung ∷ left) rung_side in
          let all : length (link_sides signature) ≡ length passed + length (rung ∷ left) = ap length sides ∙ length-append (map rung_side passed) (map rung_side (rung ∷ left)) ∙ (omega (arith, depth, rest_length)) in
          let front : take passed_links (link_sides signature) ≡ map rung_side passed
          = ap (λ (n : ℕ). take n (link_sides signature)) (count ∙ sym depth) ∙ ap (take (length (map rung_side passed))) sides ∙ take-append_seam (map rung_side passed) (map rung_side (rung ∷ left)) in
          let item : item_named (length items) (take passed_links (link_sides signature)) ≡ r.item = ap (item_named (length items)) front ∙ r.named in
          let left_is : length (link_sides signature) - passed_links ≡ length (rung ∷ left) = omega (arith, all, count) in
          let is = ap (λ (k : ℕ). answers.Beneath t k (length (link_sides signature) - passed_links)) item ∙ ap (answers.Beneath t r.item) left_is in
          elim (eq_cases passed_links (length (link_sides signature))) [
            | inl equal ↦ absurd (omega (arith, equal.1, all, count))
            | inr other ↦ rw other.0 (subst (ShowsIn image second_items signature hash) (sym is) (beneath passed left rung reached split r rest))
          ]

      on_items : (d : Option Pair) → differing (item_pairs image items links hash) ≡ d → ShowsIn image second_items signature hash (found t (length items) (link_sides signature) passed_links d)
      on_items (Some pair) e = aggregation_clash pair e
      on_items None e =
          let w = laws.beside image (text_of image items) (imprint_at image items) is_told_link rungs [] hash (tree_from image items 0 (length items)).imprint items_are_tree items_top told links_stand e in
          ended w.passed w.left w.reached w.split w.there w.number w.stops w.rest

      items_show : ShowsIn image second_items signature hash (compared image items links hash t [])
      items_show = on_items (differing (item_pairs image items links hash)) refl

    -- the calendar links end in a clash, or at the leaf of the second
    on_calendar : (d : Option Pair) → differing (calendar_pairs image seconds a.calendar) ≡ d → ((pair : Pair) × (differing (calendar_pairs image seconds a.calendar) ≡ Some pair)) ⊎ (differing (calendar_pairs image seconds a.calendar) ≡ None)
    on_calendar (Some pair) e = inl (pair, e)
    on_calendar None e = inr e

    clash_above : (items : List Item) (pair : Pair) → differing (calendar_pairs image seconds a.calendar) ≡ Some pair → answers.Clash (record { one = pair.0; two = pair.1 }) ≡ laid_over image seconds items links hash t a.calendar
    clash_above items pair e = first_above image items links hash t (calendar_pairs image seconds a.calendar) (record { one = pair.0; two = pair.1 }) e

    pub laid_shows : (items : ℕ → List Item) → KeptItems image (items t) → (calendars.calendar_leaf seconds t ≢ zero_imprint → HasItems image (items t) (calendars.calendar_leaf seconds t)) → RoundLaws → HasLinks signature
        → ShowsIn image items signature hash (laid_over image seconds (items t) links hash t a.calendar)
    laid_shows items kept has rounds are = elim (on_calendar (differing (calendar_pairs image seconds a.calendar)) refl) [
      | inl d ↦ subst (ShowsIn image items signature hash) (clash_above (items t) d.0 d.1) (calendar_clash d.0 d.1)
      | inr e ↦ (let leaf = at_leaf e in
          let h = has (λ zero. a.not_missed (leaf ∙ zero)) in
          subst (ShowsIn image items signature hash) (none_above image (items t) links hash t (calendar_pairs image seconds a.calendar) e) (items_show items kept rounds are h leaf))
    ]

    -- of a second before the start, or a missed one, only with a clash
    pub missed_is_clash : (items : List Item) → calendars.calendar_leaf seconds t ≡ zero_imprint → (clash : Clash) × (laid_over image seconds items links hash t a.calendar ≡ answers.Clash clash) × IsClash image clash
    missed_is_clash items missed = elim (on_calendar (differing (calendar_pairs image seconds a.calendar)) refl) [
      | inl d ↦ (record { one = d.0.0; two = d.0.1 }, sym (clash_above items d.0 d.1), calendar_clash d.0 d.1)
      | inr e ↦ absurd (a.not_missed (at_leaf e ∙ missed))
    ]
