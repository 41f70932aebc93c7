-- What is written is loaded again.
use Rattle.std.proofs.Common.{◌≡◌, ℕ, suc, ◌+◌, ◌-◌, ◌^◌, ◌<◌, ◌≤◌, Bool, true, false, cond, leb, eqb, List, [], ◌∷◌, ◌++◌, length, map, Option, Some, None, Ok, refl, sym, ap, subst, ◌∙◌, arith, append_assoc, append-nil}
use Rattle.std.specs.List.{AllByRecursion}
use Rattle.std.proofs.lemmas.Bool.{le-leb, ne_eqb, eq-eqb, eqb-true}
use Rattle.ksi_tlv.specs.Spelling.{Tlv, FitsLong, plain, canonical}
use Rattle.ksi_tlv.specs.Walking.{PlacedTlv, placed_at, elements}
use Rattle.ksi_tlv.specs.Numerals.{numeral}
use Rattle.ksi_tlv.specs.Writing.{texts, placed}
use Rattle.ksi_tlv.specs.Contents.{time_in, imprint_in}
use Rattle.ksi_aggtree.specs.declared.item.Item.{Item}
use Rattle.ksi_tlv.specs.Order.{may_stand}
use Rattle.ksi_tlv.specs.Sequence.{Leads}
use Rattle.ksi_tlv.specs.Fields.{field, done}
use Rattle.ksi_tlv.specs.Values.{number_at, time_at, imprint_at}
use Rattle.ksi_tlv.proofs.Again.{Written, number_again, time_again, imprint_again, fits_number, fits_imprint, length-two, length-three, file_again}
use Rattle.ksi_journal.specs.Journal.{RiseFrom, IsItem}
use Rattle.ksi_journal.specs.Written.{pair_elements, element_with, item_element}
use Rattle.ksi_journal.proofs.Items.{item_again, items_fit}
use Rattle.ksi_mirror.specs.declared.stage.MirrorStage.TheVariants as stages
use Rattle.ksi_mirror.specs.declared.sealed_list.SealedList.{SealedList}
use Rattle.ksi_mirror.specs.Mirrors.{MirrorState, rank_at, rank, IsRoot, IsList, IsMirror}
use Rattle.ksi_mirror.specs.Elements.{MirrorSaid, started, start_at, root_said, with_root, root_at, core_from, list_said, counts, opened, list_at, with_item, closed, added, item_at, end_at, element_read, mirror_order, nothing_yet, is_end, kinds_next}
use Rattle.ksi_mirror.specs.File.{mirror_format, IsMirrorFile}
use Rattle.ksi_mirror.specs.Written.{root_element, head_elements, list_element, list_elements, lists_elements, mirror_elements, mirror_text}

-- ---- the states that elements lead to

abbrev after_roots : MirrorSaid → List (ℕ × List ℕ) → MirrorSaid
after_roots s [] = s
after_roots s (one ∷ others) = after_roots (with_root s one) others

abbrev after_lists : MirrorSaid → List SealedList → MirrorSaid
after_lists s [] = s
after_lists s (one ∷ others) = after_lists (closed s one) others

-- what roots leave as it was
record IsBehind (s u : MirrorSaid) : Type 0 where
  stage : u.stage ≡ s.stage
  list : u.least_list ≡ s.least_list
  core : u.least_core ≡ s.least_core

behind_roots : (s : MirrorSaid) (roots : List (ℕ × List ℕ)) → IsBehind s (after_roots s roots)
behind_roots s [] = record { stage = refl; list = refl; core = refl }
behind_roots s (one ∷ others) = let on = behind_roots (with_root s one) others in record { stage = on.stage; list = on.list; core = on.core }

roots_after : (s : MirrorSaid) (roots : List (ℕ × List ℕ)) → (after_roots s roots).mirror ≡ record s.mirror { roots = s.mirror.roots ++ roots }
roots_after s [] = ap (λ (xs : List (ℕ × List ℕ)). record s.mirror { roots = xs }) (sym (append-nil s.mirror.roots))
roots_after s (one ∷ others) = roots_after (with_root s one) others ∙ ap (λ (xs : List (ℕ × List ℕ)). record s.mirror { roots = xs }) (append_assoc s.mirror.roots (one ∷ []) others)

lists_after : (s : MirrorSaid) (lists : List SealedList) → (after_lists s lists).mirror ≡ record s.mirror { lists = s.mirror.lists ++ lists }
lists_after s [] = ap (λ (xs : List SealedList). record s.mirror { lists = xs }) (sym (append-nil s.mirror.lists))
lists_after s (one ∷ others) = lists_after (closed s one) others ∙ ap (λ (xs : List SealedList). record s.mirror { lists = xs }) (append_assoc s.mirror.lists (one ∷ []) others)

-- a list or the end may stand
record MayList (s : MirrorSaid) : Type 0 where
  more : is_end s.stage ≡ false
  list : may_stand (kinds_next s.stage) 9 ≡ true
  end : may_stand (kinds_next s.stage) 6 ≡ true

may_after : (s : MirrorSaid) (lists : List SealedList) → MayList s → MayList (after_lists s lists)
may_after s [] may = may
may_after s (one ∷ others) may = may_after (closed s one) others (record { more = refl; list = refl; end = refl })

may_at_roots : (s : MirrorSaid) → s.stage ≡ stages.Roots → MayList s
may_at_roots s at = record { more = rw at refl; list = rw at refl; end = rw at refl }

module _ (laws : Written) where
  -- ---- what stands inside

  root_from : (least : ℕ) (at a b : PlacedTlv) (t : ℕ) (root : List ℕ) → elements at.inside at.element.body ≡ Ok a ∷ Ok b ∷ []
      → a.element.kind ≡ 1 → b.element.kind ≡ 2 → time_at a ≡ Ok t → leb least t ≡ true → imprint_at b ≡ Ok root → root_said least at ≡ Ok (t, root)
  unfolding root_said field done time_at time_in imprint_at imprint_in
  root_from least at a b t root split ka kb ta rises ib = rw (split, ka, ta, rises, kb, ib) refl

  root_again : (least : ℕ) (one : ℕ × List ℕ) (place n : ℕ) → IsRoot one → least ≤ one.0
      → root_said least (placed_at place (root_element one) n) ≡ Ok (one.0, one.1)
  root_again least one place n is rises =
      let at : PlacedTlv = placed_at place (root_element one) n in
      let first : Tlv = plain 1 (numeral one.0) in
      let second : Tlv = plain 2 one.1 in
      let fits : AllByRecursion FitsLong (pair_elements one) = (fits_number laws 1 one.0 (omega arith), (fits_imprint 2 one.1 (omega arith) is.imprint, tt)) in
      root_from least (placed_at place (root_element one) n) _ _ one.0 one.1
      (laws.texts at.inside (pair_elements one) fits) refl refl
      (time_again laws (placed_at at.inside first (length (canonical first))) one.0 refl is.early) (le-leb least one.0 rises)
      (imprint_again (placed_at (at.inside + length (canonical first)) second (length (canonical second))) is.imprint)

  list_from : (least_list least_core : ℕ) (at a b c : PlacedTlv) (t core count : ℕ) → elements at.inside at.element.body ≡ Ok a ∷ Ok b ∷ Ok c ∷ []
      → a.element.kind ≡ 1 → b.element.kind ≡ 2 → c.element.kind ≡ 3 → time_at a ≡ Ok t → leb least_list t ≡ true → number_at b ≡ Ok core → leb core 8 ≡ true
      → leb (core_from least_list least_core t) core ≡ true → number_at c ≡ Ok count → list_said least_list least_core at ≡ Ok (t, core, count)
  unfolding list_said field done time_at time_in number_at
  list_from least_list least_core at a b c t core count split ka kb kc ta rises nb low up nc = rw (split, ka, ta, rises, kb, nb, low, up, kc, nc) refl

  core_rises : (least_list least_core : ℕ) (one : SealedList) → one.core ≤ 8 → least_core ≤ 9 → rank_at least_list least_core ≤ rank one → (least_list ≤ one.second) × (core_from least_list least_core one.second ≤ one.core)
  core_rises least_list least_core one low few rises = (omega (arith, rises, low), by (eqb one.second least_list) refl)
    where
      by : (here : Bool) → eqb one.second least_list ≡ here → cond here least_core 0 ≤ one.core
      by true is = let e = eqb-true one.second least_list is in omega (arith, e, rises)
      by false is = omega arith

  list_again : (least_list least_core : ℕ) (one : SealedList) (place n : ℕ) → IsList one → least_core ≤ 9 → rank_at least_list least_core ≤ rank one
      → list_said least_list least_core (placed_at place (list_element one) n) ≡ Ok (one.second, one.core, length one.items)
  list_again least_list least_core one place n is cores rises =
      let at : PlacedTlv = placed_at place (list_element one) n in
      let first : Tlv = plain 1 (numeral one.second) in
      let second : Tlv = plain 2 (numeral one.core) in
      let third : Tlv = plain 3 (numeral (length one.items)) in
      let low = is.core in
      let few = is.few in
      let up = core_rises least_list least_core one low cores rises in
      let fits : AllByRecursion FitsLong (head_elements one) = (fits_number laws 1 one.second (omega arith), (fits_number laws 2 one.core (omega arith), (fits_number laws 3 (length one.items) (omega arith), tt))) in
      list_from least_list least_core (placed_at place (list_element one) n) _ _ _ one.second one.core (length one.items)
      (laws.texts at.inside (head_elements one) fits) refl refl refl
      (time_again laws (placed_at at.inside first (length (canonical first))) one.second refl is.early) (le-leb least_list one.second up.0)
      (number_again laws (placed_at (at.inside + length (canonical first)) second (length (canonical second))) one.core refl (omega (arith, low)))
      (le-leb one.core 8 low) (le-leb (core_from least_list least_core one.second) one.core up.1)
      (number_again laws (placed_at (at.inside + length (canonical first) + length (canonical second)) third (length (canonical third))) (length one.items) refl (omega (arith, few)))

  -- ---- one element after the other

  module _ (t : MirrorSaid) where
    -- elements lead from a state to the last one, wherever they stand
    abbrev Goes : MirrorSaid → List Tlv → Type 0
    Goes s es = (place : ℕ) → Leads mirror_order s (placed place es) t

    record Step (s : MirrorSaid) (e : Tlv) (u : MirrorSaid) : Type 0 where
      more : is_end s.stage ≡ false
      may : may_stand (kinds_next s.stage) e.kind ≡ true
      read : (place n : ℕ) → element_read s (placed_at place e n) ≡ Ok u

    goes_on : (s u : MirrorSaid) (e : Tlv) (es : List Tlv) → Step s e u → Goes u es → Goes s (e ∷ es)
    goes_on s u e es step rest place = (step.more, step.may, (u, step.read place (length (canonical e)), rest (place + length (canonical e))))

    start_step : (start : ℕ) → start < 2 ^ 63 → Step nothing_yet (plain 1 (numeral start)) (started nothing_yet start)
    unfolding element_read start_at
    start_step start lt = record { more = refl; may = refl; read = λ place n. rw (time_again laws (placed_at place (plain 1 (numeral start)) n) start refl lt) refl }

    end_step : (s : MirrorSaid) → MayList s → Step s (plain 6 []) (record s { stage = stages.End })
    unfolding element_read end_at
    end_step s may = record { more = may.more; may = may.end; read = λ place n. refl }

    root_step : (s : MirrorSaid) (one : ℕ × List ℕ) → s.stage ≡ stages.Roots → IsRoot one → s.least_root ≤ one.0 → Step s (root_element one) (with_root s one)
    unfolding element_read root_at
    root_step s one at is rises = record {
      more = rw at refl;
      may = rw at refl;
      read = λ place n. rw (root_again s.least_root one place n is rises) refl;
    }

    counts_again : (n : ℕ) → 1 ≤ n → n ≤ 65536 → counts n ≡ true
    counts_again n some few = let one : leb 1 n ≡ true = le-leb _ _ some in let most : leb n 65536 ≡ true = le-leb _ _ few in rw (one, most) refl

    list_step : (s : MirrorSaid) (one : SealedList) → MayList s → IsList one → s.least_core ≤ 9 → rank_at s.least_list s.least_core ≤ rank one
        → Step s (list_element one) (opened s one.second one.core (length one.items))
    unfolding element_read list_at
    list_step s one may is cores rises = record {
      more = may.more;
      may = may.list;
      read = λ place n. rw (list_again s.least_list s.least_core one place n is cores rises, counts_again (length one.items) is.some is.few) refl;
    }

    item_read : (s : MirrorSaid) (item : Item) (name : Option (List ℕ)) (place n : ℕ) → IsItem item → item.name ≡ name
        → element_read s (placed_at place (element_with item name) n) ≡ Ok (added s (with_item s.current item) (s.left - 1))
    unfolding element_read item_at
    item_read s item None place n is same = rw (item_again item None place n is same) refl
    item_read s item (Some name) place n is same = rw (item_again item (Some name) place n is same) refl

    item_stands : (item : Item) (name : Option (List ℕ)) → may_stand (kinds_next stages.Items) (element_with item name).kind ≡ true
    item_stands item None = refl
    item_stands item (Some name) = refl

    item_more : (s : MirrorSaid) (item : Item) → s.stage ≡ stages.Items → IsItem item → eqb (s.left - 1) 0 ≡ false
        → Step s (item_element item) (record s { current = with_item s.current item; left = s.left - 1 })
    item_more s item at is left = record {
      more = rw at refl;
      may = rw at (item_stands item item.name);
      read = λ place n. item_read s item item.name place n is refl ∙ rw left refl;
    }

    item_last : (s : MirrorSaid) (item : Item) → s.stage ≡ stages.Items → IsItem item → eqb (s.left - 1) 0 ≡ true
        → Step s (item_element item) (closed s (with_item s.current item))
    item_last s item at is left = record {
      more = rw at refl;
      may = rw at (item_stands item item.name);
      read = λ place n. item_read s item item.name place n is refl ∙ rw left refl;
    }

    abbrev filled : SealedList → List Item → SealedList
    filled one items = record one { items = one.items ++ items }

    items_again : (s : MirrorSaid) (item : Item) (items : List Item) (more : List Tlv) → s.stage ≡ stages.Items → s.left ≡ suc (length items) → AllByRecursion IsItem (item ∷ items)
        → Goes (closed s (filled s.current (item ∷ items))) more → Goes s (map item_element (item ∷ items) ++ more)
    items_again s item [] more at left all rest =
        goes_on s (closed s (with_item s.current item)) (item_element item) more
        (item_last s item at all.0 (eq-eqb (s.left - 1) 0 (omega arith))) rest
    items_again s item (next ∷ items) more at left all rest =
        let joined : (s.current.items ++ item ∷ []) ++ (next ∷ items) ≡ s.current.items ++ (item ∷ next ∷ items) = append_assoc s.current.items (item ∷ []) (next ∷ items) in
        goes_on s (record s { current = with_item s.current item; left = s.left - 1 }) (item_element item) (map item_element (next ∷ items) ++ more)
        (item_more s item at all.0 (ne_eqb (s.left - 1) 0 (λ e. absurd (omega arith))))
        (items_again (record s { current = with_item s.current item; left = s.left - 1 }) next items more at (omega arith) all.1
        (subst (λ (xs : List Item). Goes (closed s (record s.current { items = xs })) more) (sym joined) rest))

    one_list_again : (s : MirrorSaid) (one : SealedList) (items : List Item) (more : List Tlv) → one.items ≡ items → MayList s → IsList one → s.least_core ≤ 9 → rank_at s.least_list s.least_core ≤ rank one
        → Goes (closed s one) more → Goes s (list_elements one ++ more)
    one_list_again s one [] more is may list cores rises rest = absurd (let some = subst (λ (xs : List Item). 1 ≤ length xs) is list.some in omega (arith, some))
    one_list_again s one (item ∷ items) more is may list cores rises rest =
        let all = subst (λ (xs : List Item). AllByRecursion IsItem xs) is list.items in
        goes_on s (opened s one.second one.core (length one.items)) (list_element one) (map item_element one.items ++ more) (list_step s one may list cores rises)
        (subst (λ (xs : List Item). Goes (opened s one.second one.core (length xs)) (map item_element xs ++ more)) (sym is)
        (items_again (opened s one.second one.core (suc (length items))) item items more refl refl all
        (subst (λ (xs : List Item). Goes (closed s (record one { items = xs })) more) is rest)))

    lists_again : (s : MirrorSaid) (lists : List SealedList) (more : List Tlv) → MayList s → s.least_core ≤ 9 → AllByRecursion IsList lists → RiseFrom (rank_at s.least_list s.least_core) (map rank lists)
        → Goes (after_lists s lists) more → Goes s (lists_elements lists ++ more)
    lists_again s [] more may cores all rise rest = rest
    lists_again s (one ∷ others) more may cores all rise rest =
        subst (λ (es : List Tlv). Goes s es) (sym (append_assoc (list_elements one) (lists_elements others) more))
        (one_list_again s one one.items (lists_elements others ++ more) refl may all.0 cores rise.0
        (lists_again (closed s one) others more (record { more = refl; list = refl; end = refl }) (let low = all.0.core in omega (arith, low)) all.1 (subst (λ n. RiseFrom n (map rank others)) next rise.1) rest))
      where
        next : rank one + 1 ≡ rank_at one.second (one.core + 1)
        next = omega arith

    roots_again : (s : MirrorSaid) (roots : List (ℕ × List ℕ)) (more : List Tlv) → s.stage ≡ stages.Roots → AllByRecursion IsRoot roots → RiseFrom s.least_root (map (λ (one : ℕ × List ℕ). one.0) roots)
        → Goes (after_roots s roots) more → Goes s (map root_element roots ++ more)
    roots_again s [] more at all rise rest = rest
    roots_again s (one ∷ others) more at all rise rest =
        goes_on s (with_root s one) (root_element one) (map root_element others ++ more) (root_step s one at all.0 rise.0)
        (roots_again (with_root s one) others more at all.1 rise.1 rest)

  -- ---- sizes

  root_fits : (one : ℕ × List ℕ) → IsRoot one → FitsLong (root_element one)
  root_fits one is = record {
    kind = omega arith;
    body = (let size = is.imprint.size in omega (arith, length-two (plain 1 (numeral one.0)) (plain 2 one.1), laws.size one.0, size));
  }

  roots_fit : (roots : List (ℕ × List ℕ)) (more : List Tlv) → AllByRecursion IsRoot roots → AllByRecursion FitsLong more → AllByRecursion FitsLong (map root_element roots ++ more)
  roots_fit [] more all rest = rest
  roots_fit (one ∷ others) more all rest = (root_fits one all.0, roots_fit others more all.1 rest)

  list_fits : (one : SealedList) → FitsLong (list_element one)
  list_fits one = record {
    kind = omega arith;
    body = omega (arith, length-three (plain 1 (numeral one.second)) (plain 2 (numeral one.core)) (plain 3 (numeral (length one.items))), laws.size one.second, laws.size one.core, laws.size (length one.items));
  }

  lists_fit : (lists : List SealedList) (more : List Tlv) → AllByRecursion IsList lists → AllByRecursion FitsLong more → AllByRecursion FitsLong (lists_elements lists ++ more)
  lists_fit [] more all rest = rest
  lists_fit (one ∷ others) more all rest =
      subst (AllByRecursion FitsLong) (sym (append_assoc (list_elements one) (lists_elements others) more))
      (list_fits one, items_fit one.items (lists_elements others ++ more) all.0.items (lists_fit others more all.1 rest))

  -- ---- the whole file

  pub mirror_again : (mirror : MirrorState) → IsMirror mirror → IsMirrorFile (mirror_text mirror) mirror
  unfolding mirror_format
  mirror_again mirror is =
      let none : MirrorSaid = nothing_yet in
      let a : MirrorSaid = started none mirror.start in
      let b : MirrorSaid = after_roots a mirror.roots in
      let c : MirrorSaid = after_lists b mirror.lists in
      let t : MirrorSaid = record c { stage = stages.End } in
      let behind = behind_roots a mirror.roots in
      let may_b = may_at_roots b behind.stage in
      let last : List Tlv = plain 6 [] ∷ [] in
      let from_lists : List Tlv = lists_elements mirror.lists ++ plain 6 [] ∷ [] in
      let cores : b.least_core ≤ 9 = (let core = behind.core in omega (arith, core)) in
      let rise : RiseFrom (rank_at b.least_list b.least_core) (map rank mirror.lists) =
      subst (λ (n : ℕ). RiseFrom (rank_at n b.least_core) (map rank mirror.lists)) (sym behind.list) (subst (λ (n : ℕ). RiseFrom (rank_at mirror.start n) (map rank mirror.lists)) (sym behind.core) is.lists_rise) in
      let end : Goes t c (plain 6 [] ∷ []) = goes_on t c t (plain 6 []) [] (end_step t c (may_after b mirror.lists may_b)) (λ place. refl) in
      let lists : Goes t b from_lists = lists_again t b mirror.lists (plain 6 [] ∷ []) may_b cores is.lists rise end in
      let roots = roots_again t a mirror.roots from_lists refl is.roots is.roots_rise lists in
      let all = goes_on t none a (plain 1 (numeral mirror.start)) (map root_element mirror.roots ++ from_lists) (start_step t mirror.start is.start) roots in
      let fits : AllByRecursion FitsLong (mirror_elements mirror) = (
        fits_number laws 1 mirror.start (omega arith),
        roots_fit mirror.roots from_lists is.roots (lists_fit mirror.lists last is.lists (record { kind = omega arith; body = omega arith }, tt)),
      ) in
      file_again laws mirror_format (mirror_elements mirror) mirror t fits (all 8) refl
      (sym (lists_after b mirror.lists ∙ ap (λ (m : MirrorState). record m { lists = m.lists ++ mirror.lists }) (roots_after a mirror.roots)))
