-- The journal of the merged mirrors of all cores at the end of a history has its start and its kept seconds.
use Rattle.std.proofs.Common.{◌≡◌, ◌≢◌, ℕ, zero, suc, ◌+◌, ◌^◌, ◌<◌, ◌≤◌, Bool, true, false, cond, eqb, ltb, List, [], ◌∷◌, map, Option, Some, None, Ok, refl, sym, ap, subst, ◌∙◌, arith}
use Rattle.std.specs.Prelude.{option_map, unwrap_or}
use Rattle.std.specs.List.{AllByRecursion}
use Rattle.std.specs.Str.{bytes_eq}
use Rattle.std.proofs.lemmas.Bool.{cond-true, ltb-true, ltb-false}
use Rattle.std.proofs.lemmas.Slice.Eq.{bytes_eq-Decides}
use Rattle.ksi_imprint.specs.Imprints.{IsImprint, zero_imprint}
use Rattle.ksi_aggtree.specs.declared.item.Item.{Item}
use Rattle.ksi_aggtree.specs.declared.entries.Entry.{Entry}
use Rattle.ksi_aggtree.specs.Entries.{items_of, candidate_of}
use Rattle.ksi_schedule.specs.Plans.{PlanState, IsPlan, InRange}
use Rattle.ksi_schedule.specs.Events.{History, AreEvents}
use Rattle.ksi_world.specs.Histories.{WorldState, held_in, world_of}
use Rattle.ksi_world.specs.Records as records
use Rattle.ksi_world.specs.Records.{kept_root, kept_items, kept_at, kept_among, kept_before, kept_seconds, sealed_as}
use Rattle.ksi_world.specs.Validity.{IsProposed}
use Rattle.ksi_journal.specs.Journal.{RiseFrom}
use Rattle.ksi_mirror.specs.Maps as maps
use Rattle.ksi_mirror.specs.Mirrors.{MirrorState, root_among, root_of, list_of, IsRoot, IsMirror}
use Rattle.ksi_mirror.specs.Whole as whole
use Rattle.ksi_mirror.specs.Whole.{tree_as, items_from, second_for, seconds_for, with_second, journal_with, whole_of}
use Rattle.ksi_replay.specs.Journals.{journal_of}
use Rattle.ksi_replay.specs.Mirrors.{put_before, those_from, each_second, root_with, some_sealed}
use Rattle.ksi_replay.specs.Gatherings.{Gathering, ComesTo, HasAllEnds, seconds_alone}
use Rattle.ksi_replay.proofs.Listing.{roots_has, roots_rise, roots_are}
use Rattle.ksi_replay.proofs.Gathered.{WorldLaws, lowest_some, lowest_there, root_kept, list_sealed, list_none, starts}

-- what stands under a second is one of all
root_found : (P : ℕ × List ℕ → Type 0) (xs : List (ℕ × List ℕ)) (t : ℕ) (root : List ℕ) → AllByRecursion P xs → root_among xs t ≡ Some root → (x : ℕ × List ℕ) × P x × (x.1 ≡ root)
root_found P [] t root all is = absurd (cc is)
root_found P (x ∷ xs) t root all is = by (λ is. root_found P xs t root all.1 is) (eqb x.0 t) is
  where
    by : (root_among xs t ≡ Some root → (y : ℕ × List ℕ) × P y × (y.1 ≡ root)) → (here : Bool) → cond here (Some x.1) (root_among xs t) ≡ Some root → (y : ℕ × List ℕ) × P y × (y.1 ≡ root)
    by more true is = (x, all.0, cc is)
    by more false is = more is

one_or_else : {A : Type 0} (o p : Option A) → maps.or_else o p ≡ records.or_else o p
one_or_else None p = refl
one_or_else (Some x) p = refl

lowest_none : {A : Type 0} (f : ℕ → Option A) (m from : ℕ) → ((i : ℕ) → from ≤ i → f i ≡ None) → whole.lowest f from m ≡ None
lowest_none f zero from none = refl
lowest_none f (suc m) from none = ap (λ o. maps.or_else o (whole.lowest f (suc from) m)) (none from (omega arith)) ∙ lowest_none f m (suc from) (λ i ge. none i (omega (arith, ge)))

-- the lowest of all cores that there may be is that of the plan's cores, where the others have nothing
lowest_to : {A : Type 0} (f g : ℕ → Option A) (n m from : ℕ) → n ≤ m → ((i : ℕ) → i < from + n → f i ≡ g i) → ((i : ℕ) → from + n ≤ i → f i ≡ None) → whole.lowest f from m ≡ records.lowest g from n
lowest_to f g zero m from le same none = lowest_none f m from (λ i ge. none i (omega (arith, ge)))
lowest_to f g (suc n) zero from le same none = absurd (omega (arith, le))
lowest_to f g (suc n) (suc m) from le same none =
    ap (λ o. maps.or_else o (whole.lowest f (suc from) m)) (same from (omega arith))
    ∙ ap (λ o. maps.or_else (g from) o) (lowest_to f g n m (suc from) (omega (arith, le)) (λ i lt. same i (omega (arith, lt))) (λ i ge. none i (omega (arith, ge))))
    ∙ one_or_else (g from) (records.lowest g (suc from) n)

-- the list is a tree's as a mirror has it where it is as it was sealed
tree_sealed : (image : List ℕ → List ℕ) (root : List ℕ) → root ≢ zero_imprint → (o : Option (List Entry)) → tree_as image root (some_sealed o) ≡ sealed_as image root o
tree_sealed image root real None = refl
tree_sealed image root real (Some []) = by (bytes_eq zero_imprint root) refl
  where
    by : (same : Bool) → bytes_eq zero_imprint root ≡ same → tree_as image root None ≡ cond same (Some (items_of [])) None
    by true is = absurd (real (sym ((bytes_eq-Decides zero_imprint root).0 is)))
    by false is = refl
tree_sealed image root real (Some (e ∷ es)) = refl

module _ (image : List ℕ → List ℕ) (laws : WorldLaws image) (history : History) (is : IsPlan history.plan) (are : AreEvents history.plan history.events)
    (proposed : (core t : ℕ) (root : List ℕ) → held_in (world_of image history) core t ≡ Some root → root ≢ zero_imprint → IsProposed image history.plan (world_of image history) t root)
    (kept_range : (t : ℕ) (root : List ℕ) → kept_root history.plan (world_of image history) t ≡ Some root → InRange history.plan t)
    (one_mirror : (one two : MirrorState) → IsMirror one → IsMirror two → one.start ≡ two.start → ((t : ℕ) → root_of one t ≡ root_of two t) → ((t j : ℕ) → list_of one t j ≡ list_of two t j) → one ≡ two)
    (order : Gathering) (mirror : MirrorState) (comes : ComesTo image history order mirror) (all : HasAllEnds history.plan order) (so : IsMirror mirror) where
  abbrev w : WorldState
  w = world_of image history

  abbrev plan : PlanState
  plan = history.plan

  kept : (t : ℕ) → root_of mirror t ≡ kept_root plan w t
  kept t = root_kept image laws history is are order mirror comes all t

  -- ---- its roots are those that are kept

  abbrev listed : MirrorState
  listed = record mirror { roots = each_second (root_with (kept_root plan w)) plan.start }

  start_is : mirror.start ≡ plan.start
  start_is = starts image laws history is are order mirror comes all

  listed_is : IsMirror listed
  listed_is = record {
    start = so.start;
    roots = roots_are (kept_root plan w) plan.start IsRoot (λ t root le lt at.
        let early = is.core_plan.early in
        let one = root_found IsRoot mirror.roots t root so.roots (kept t ∙ at) in
        record { early = omega (arith, early, lt); imprint = subst IsImprint one.2 one.1.imprint });
    roots_rise = subst (λ n. RiseFrom n (map (λ (x : ℕ × List ℕ). x.0) listed.roots)) (sym start_is) (roots_rise (kept_root plan w) plan.start);
    lists = so.lists;
    lists_rise = so.lists_rise;
  }

  roots_listed : mirror.roots ≡ each_second (root_with (kept_root plan w)) plan.start
  roots_listed =
      ap (λ (m : MirrorState). m.roots) (one_mirror mirror listed so listed_is refl (λ t. kept t ∙ sym (roots_has (kept_root plan w) plan.start kept_range t)) (λ t j. refl))

  -- ---- and their trees are too

  list_tree : (t core : ℕ) (root : List ℕ) → root ≢ zero_imprint → core < plan.cores → tree_as image root (list_of mirror t core) ≡ sealed_as image root (w.seconds core t).sealed
  list_tree t core root real lt = ap (tree_as image root) (list_sealed image laws history is are order mirror comes all t core lt) ∙ tree_sealed image root real (w.seconds core t).sealed

  items_same : (t : ℕ) (root : List ℕ) → root ≢ zero_imprint → items_from image (list_of mirror t) root ≡ records.lowest (λ core. sealed_as image root (w.seconds core t).sealed) 0 plan.cores
  unfolding items_from
  items_same t root real =
      let few = is.core_plan.few in
      lowest_to (λ core. tree_as image root (list_of mirror t core)) (λ core. sealed_as image root (w.seconds core t).sealed) plan.cores 9 0 (omega (arith, few))
      (λ i lt. list_tree t i root real (omega (arith, lt)))
      (λ i le. ap (tree_as image root) (list_none image laws history is are order mirror comes all t i (omega (arith, le))))

  items_there : (t : ℕ) (root : List ℕ) → root ≢ zero_imprint → kept_root plan w t ≡ Some root → (items : List Item) × (records.lowest (λ core. sealed_as image root (w.seconds core t).sealed) 0 plan.cores ≡ Some items)
  items_there t root real at =
      let holder = lowest_some (λ core. held_in w core t) 0 plan.cores root at in
      let p = proposed holder.0 t root holder.3 real in
      lowest_there (λ core. sealed_as image root (w.seconds core t).sealed) 0 plan.cores p.owner (items_of p.entries) (omega arith) (let lt = p.there in omega (arith, lt))
      (ap (sealed_as image root) p.sealed ∙ cond-true (bytes_eq (candidate_of image p.entries) root) (Some (items_of p.entries)) None ((bytes_eq-Decides (candidate_of image p.entries) root).1 p.candidate))

  second_same : (t : ℕ) (root : List ℕ) → kept_root plan w t ≡ Some root → second_for image mirror (t, root) ≡ Some (records.kept_with t root (kept_items image plan w t root))
  second_same t root at = by (bytes_eq root zero_imprint) refl
    where
      found : Option (List Item)
      found = records.lowest (λ core. sealed_as image root (w.seconds core t).sealed) 0 plan.cores

      by : (missed : Bool) → bytes_eq root zero_imprint ≡ missed →
          cond missed (Some (whole.kept_with t root [])) (option_map (whole.kept_with t root) (items_from image (list_of mirror t) root)) ≡ Some (records.kept_with t root (cond missed [] (unwrap_or found [])))
      by true missed = refl
      by false other =
          let real : root ≢ zero_imprint = λ same. absurd (cc (sym other ∙ (bytes_eq-Decides root zero_imprint).1 same)) in
          let some = items_there t root real at in
          ap (option_map (whole.kept_with t root)) (items_same t root real ∙ some.1) ∙ sym (ap (λ o. Some (records.kept_with t root (unwrap_or o []))) some.1)

  -- ---- one second after the other

  seconds_same : (from n : ℕ) → seconds_for image mirror (those_from (root_with (kept_root plan w)) from n) ≡ Ok (kept_among (kept_at image plan w) from n)
  seconds_same from zero = refl
  seconds_same from (suc n) = by (kept_root plan w from) refl (seconds_same (suc from) n)
    where
      by : (o : Option (List ℕ)) → kept_root plan w from ≡ o → seconds_for image mirror (those_from (root_with (kept_root plan w)) (suc from) n) ≡ Ok (kept_among (kept_at image plan w) (suc from) n) →
          seconds_for image mirror (put_before (option_map (λ root. (from, root)) o) (those_from (root_with (kept_root plan w)) (suc from) n))
          ≡ Ok (kept_before (option_map (λ root. records.kept_with from root (kept_items image plan w from root)) o) (kept_among (kept_at image plan w) (suc from) n))
      by None none later = later
      by (Some root) at later =
          ap (λ o. with_second from o (seconds_for image mirror (those_from (root_with (kept_root plan w)) (suc from) n))) (second_same from root at)
          ∙ ap (with_second from (Some (records.kept_with from root (kept_items image plan w from root)))) later

  -- what is merged is one mirror, whatever the order
  pub one_result : (other : Gathering) (two : MirrorState) → ComesTo image history other two → HasAllEnds history.plan other → IsMirror two → mirror ≡ two
  one_result other two too ends so_too =
      one_mirror mirror two so so_too (start_is ∙ sym (starts image laws history is are other two too ends))
      (λ t. kept t ∙ sym (root_kept image laws history is are other two too ends t)) (λ t j. by t j (ltb j history.plan.cores) refl)
    where
      by : (t j : ℕ) (there : Bool) → ltb j history.plan.cores ≡ there → list_of mirror t j ≡ list_of two t j
      by t j true lt = let there = ltb-true j history.plan.cores lt in list_sealed image laws history is are order mirror comes all t j there ∙ sym (list_sealed image laws history is are other two too ends t j there)
      by t j false ge = let le = ltb-false j history.plan.cores ge in list_none image laws history is are order mirror comes all t j le ∙ sym (list_none image laws history is are other two too ends t j le)

  pub journal_is : whole_of image mirror ≡ Ok (seconds_alone (journal_of image history))
  unfolding whole_of journal_of kept_seconds each_second
  journal_is =
      ap (λ xs. journal_with mirror.start (seconds_for image mirror xs)) roots_listed
      ∙ ap (journal_with mirror.start) (seconds_same plan.start (2 ^ 24))
      ∙ ap (λ n. journal_with n (Ok (kept_among (kept_at image plan w) plan.start (2 ^ 24)))) start_is
