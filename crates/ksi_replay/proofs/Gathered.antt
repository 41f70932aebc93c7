-- Mirrors of cores of one history merge in any order, and come to all that the cores hold and have sealed.
use Rattle.std.proofs.Common.{◌≡◌, ◌⊎◌, inl, inr, ℕ, zero, suc, ◌+◌, ◌<◌, ◌≤◌, List, [], ◌∷◌, ◌++◌, Option, Some, None, refl, sym, ap, subst, ◌∙◌, arith, append-nil}
use Rattle.std.proofs.lemmas.Bool.{cases_eq}
use Rattle.ksi_aggtree.specs.declared.item.Item.{Item}
use Rattle.ksi_aggtree.specs.declared.entries.Entry.{Entry}
use Rattle.ksi_schedule.specs.declared.event.Event.{Event}
use Rattle.ksi_schedule.specs.Plans.{PlanState, IsPlan, InRange}
use Rattle.ksi_schedule.specs.Events.{History, AreEvents}
use Rattle.ksi_world.specs.Histories.{WorldState, held_in, after, world_of}
use Rattle.ksi_world.specs.Records as records
use Rattle.ksi_world.specs.Records.{kept_root}
use Rattle.ksi_mirror.specs.Maps.{Agree, IsUnion, or_else}
use Rattle.ksi_mirror.specs.Mirrors.{MirrorState, root_of, list_of}
use Rattle.ksi_mirror.specs.Merging.{MayMerge, Merges}
use Rattle.ksi_replay.specs.Mirrors.{some_sealed, sealed_in, mirror_in, mirror_of}
use Rattle.ksi_replay.specs.Gatherings.{Gathering, Copy, Both, history_to, ComesTo, HasEndOf, HasAllEnds}
use Rattle.ksi_replay.proofs.Copying.{IsPlanned, sealed_entries, mirror_roots, mirror_lists, mirror_others}

-- ---- unions

agree_of : {A : Type 0} (o p : Option A) → ((x y : A) → o ≡ Some x → p ≡ Some y → x ≡ y) → Agree o p
agree_of None p same = tt
agree_of (Some x) None same = tt
agree_of (Some x) (Some y) same = same x y refl refl

either_of : {A : Type 0} (o p : Option A) (x : A) → or_else o p ≡ Some x → (o ≡ Some x) ⊎ (p ≡ Some x)
either_of None p x is = inr is
either_of (Some y) p x is = inl is

second_of : {A : Type 0} (o p : Option A) (x : A) → Agree o p → p ≡ Some x → or_else o p ≡ Some x
second_of None p x agree is = is
second_of (Some y) None x agree is = absurd (cc is)
second_of (Some y) (Some z) x agree is = ap Some agree ∙ is

module _ {A : Type 0} (f g h : ℕ → Option A) (union : IsUnion f g h) (k : ℕ) (x : A) where
  from_either : h k ≡ Some x → (f k ≡ Some x) ⊎ (g k ≡ Some x)
  from_either is = either_of (f k) (g k) x (sym (union.both k) ∙ is)

  has_first : f k ≡ Some x → h k ≡ Some x
  has_first is = union.both k ∙ ap (λ o. or_else o (g k)) is

  has_second : g k ≡ Some x → h k ≡ Some x
  has_second is = union.both k ∙ second_of (f k) (g k) x (union.agree k) is

-- ---- the lowest core that has something

module _ {B : Type 0} (g : ℕ → Option B) where
  pub lowest_some : (from n : ℕ) (x : B) → records.lowest g from n ≡ Some x → (i : ℕ) × (from ≤ i) × (i < from + n) × (g i ≡ Some x)
  lowest_some from zero x is = absurd (cc is)
  lowest_some from (suc n) x is = by (g from) refl (lowest_some (suc from) n x) is
    where
      by : (o : Option B) → g from ≡ o → (records.lowest g (suc from) n ≡ Some x → (i : ℕ) × (suc from ≤ i) × (i < suc from + n) × (g i ≡ Some x)) → records.or_else o (records.lowest g (suc from) n) ≡ Some x
          → (i : ℕ) × (from ≤ i) × (i < from + suc n) × (g i ≡ Some x)
      by None none later found = let r = later found in (r.0, omega (arith, r.1), omega (arith, r.2), r.3)
      by (Some y) some later found = (from, omega arith, omega arith, some ∙ found)

  pub lowest_there : (from n i : ℕ) (x : B) → from ≤ i → i < from + n → g i ≡ Some x → (y : B) × (records.lowest g from n ≡ Some y)
  lowest_there from zero i x le lt is = absurd (omega (arith, le, lt))
  lowest_there from (suc n) i x le lt is = by (g from) refl (λ behind. lowest_there (suc from) n i x behind (omega (arith, lt)) is)
    where
      by : (o : Option B) → g from ≡ o → (suc from ≤ i → (y : B) × (records.lowest g (suc from) n ≡ Some y)) → (y : B) × (records.or_else o (records.lowest g (suc from) n) ≡ Some y)
      by (Some y) some later = (y, refl)
      by None none later = elim (cases_eq from i) [
        | inl same ↦ absurd (cc (sym none ∙ ap g same ∙ is))
        | inr ne ↦ later (omega (arith, le, ne))
      ]

-- what a core of the plan holds is kept
pub held_kept : (plan : PlanState) (w : WorldState) → ((one other t : ℕ) (d e : List ℕ) → held_in w one t ≡ Some d → held_in w other t ≡ Some e → d ≡ e)
    → (core t : ℕ) (root : List ℕ) → core < plan.cores → held_in w core t ≡ Some root → kept_root plan w t ≡ Some root
held_kept plan w agree core t root there at =
    let found = lowest_there (λ core. held_in w core t) 0 plan.cores core root (omega arith) (omega (arith, there)) at in
    let holder = lowest_some (λ core. held_in w core t) 0 plan.cores found.0 found.1 in
    found.1 ∙ ap Some (agree holder.0 core t found.0 root holder.3 at)

-- ---- the laws of histories that this rests on

pub record WorldLaws (image : List ℕ → List ℕ) : Type 0 where
  pub agreement : (history : History) → IsPlan history.plan → AreEvents history.plan history.events → (one other t : ℕ) (d e : List ℕ) →
      held_in (world_of image history) one t ≡ Some d → held_in (world_of image history) other t ≡ Some e → d ≡ e
  pub held_range : (history : History) → IsPlan history.plan → AreEvents history.plan history.events → (core t : ℕ) (root : List ℕ) → held_in (world_of image history) core t ≡ Some root → InRange history.plan t
  pub held_stays : (plan : PlanState) (before later : List Event) (core t : ℕ) (root : List ℕ) → held_in (after image plan before) core t ≡ Some root → held_in (after image plan (before ++ later)) core t ≡ Some root
  pub sealed_stays : (plan : PlanState) (before later : List Event) (core t : ℕ) (entries : List Entry) → ((after image plan before).seconds core t).sealed ≡ Some entries
      → ((after image plan (before ++ later)).seconds core t).sealed ≡ Some entries
  pub sealed_core : (history : History) → IsPlan history.plan → AreEvents history.plan history.events → (core t : ℕ) (entries : List Entry) → ((world_of image history).seconds core t).sealed ≡ Some entries → core < history.plan.cores
  pub sealed_range : (history : History) → AreEvents history.plan history.events → (core t : ℕ) (entries : List Entry) → ((world_of image history).seconds core t).sealed ≡ Some entries → InRange history.plan t

pub world_laws : (image : List ℕ → List ℕ)
    → ((history : History) → IsPlan history.plan → AreEvents history.plan history.events → (one other t : ℕ) (d e : List ℕ) →
    held_in (world_of image history) one t ≡ Some d → held_in (world_of image history) other t ≡ Some e → d ≡ e)
    → ((history : History) → IsPlan history.plan → AreEvents history.plan history.events → (core t : ℕ) (root : List ℕ) → held_in (world_of image history) core t ≡ Some root → InRange history.plan t)
    → ((plan : PlanState) (before later : List Event) (core t : ℕ) (root : List ℕ) → held_in (after image plan before) core t ≡ Some root → held_in (after image plan (before ++ later)) core t ≡ Some root)
    → ((plan : PlanState) (before later : List Event) (core t : ℕ) (entries : List Entry) → ((after image plan before).seconds core t).sealed ≡ Some entries
    → ((after image plan (before ++ later)).seconds core t).sealed ≡ Some entries)
    → ((history : History) → IsPlan history.plan → AreEvents history.plan history.events → (core t : ℕ) (entries : List Entry) → ((world_of image history).seconds core t).sealed ≡ Some entries → core < history.plan.cores)
    → ((history : History) → AreEvents history.plan history.events → (core t : ℕ) (entries : List Entry) → ((world_of image history).seconds core t).sealed ≡ Some entries → InRange history.plan t)
    → WorldLaws image
world_laws image a b c d e f = record { agreement = a; held_range = b; held_stays = c; sealed_stays = d; sealed_core = e; sealed_range = f }

are_front : (plan : PlanState) (before later : List Event) → AreEvents plan (before ++ later) → AreEvents plan before
are_front plan [] later are = tt
are_front plan (e ∷ es) later are = (are.0, are_front plan es later are.1)

module _ (image : List ℕ → List ℕ) (laws : WorldLaws image) where
  pub planned : (history : History) → IsPlan history.plan → AreEvents history.plan history.events → IsPlanned history.plan (world_of image history)
  planned history is are = record { held = laws.held_range history is are; sealed = laws.sealed_range history are; core = laws.sealed_core history is are }

  module _ (history : History) (is : IsPlan history.plan) (are : AreEvents history.plan history.events) where
    -- the world at the end
    abbrev pub end : WorldState
    end = world_of image history

    -- ---- what a mirror of such an order has, the cores hold and have sealed at the end

    pub record IsTrue (mirror : MirrorState) : Type 0 where
      pub start : mirror.start ≡ history.plan.start
      pub roots : (t : ℕ) (root : List ℕ) → root_of mirror t ≡ Some root → (core : ℕ) × (core < history.plan.cores) × (held_in end core t ≡ Some root)
      pub lists : (t j : ℕ) (items : List Item) → list_of mirror t j ≡ Some items → (j < history.plan.cores) × (sealed_in end j t ≡ Some items)

    module _ (core : ℕ) (there : core < history.plan.cores) (before later : List Event) (parts : before ++ later ≡ history.events) where
      front : AreEvents history.plan before
      front = are_front history.plan before later (subst (AreEvents history.plan) (sym parts) are)

      -- the world then
      abbrev then : WorldState
      then = after image history.plan before

      planned_then : IsPlanned history.plan then
      planned_then = planned (history_to history.plan before) is front

      held_yet : (t : ℕ) (root : List ℕ) → held_in then core t ≡ Some root → held_in end core t ≡ Some root
      held_yet t root at = subst (λ es. held_in (after image history.plan es) core t ≡ Some root) parts (laws.held_stays history.plan before later core t root at)

      sealed_yet : (t : ℕ) (items : List Item) → sealed_in then core t ≡ Some items → sealed_in end core t ≡ Some items
      sealed_yet t items at =
          let s = sealed_entries (then.seconds core t).sealed items at in
          let now = subst (λ es. ((after image history.plan es).seconds core t).sealed ≡ Some s.0) parts (laws.sealed_stays history.plan before later core t s.0 s.1) in
          ap some_sealed now ∙ sym (ap some_sealed s.1) ∙ at

      copy_lists : (t j : ℕ) (items : List Item) → list_of (mirror_in history.plan then core) t j ≡ Some items → (j < history.plan.cores) × (sealed_in end j t ≡ Some items)
      copy_lists t j items at = elim (cases_eq j core) [
        | inl same ↦
            let here : sealed_in then core t ≡ Some items = sym (mirror_lists history.plan then planned_then core t) ∙ ap (λ j. list_of (mirror_in history.plan then core) t j) (sym same) ∙ at in
            (omega (arith, same, there), ap (λ j. sealed_in end j t) same ∙ sealed_yet t items here)
        | inr other ↦ absurd (let none = mirror_others history.plan then core t j other in cc (sym none ∙ at))
      ]

      copy_true : IsTrue (mirror_in history.plan then core)
      copy_true = record {
        start = refl;
        roots = λ t root at. (core, there, held_yet t root (sym (mirror_roots history.plan then planned_then core t) ∙ at));
        lists = copy_lists;
      }

      pub copied_true : (mirror : MirrorState) → mirror ≡ mirror_of image (history_to history.plan before) core → IsTrue mirror
      unfolding mirror_of
      copied_true mirror e = subst IsTrue (sym e) copy_true

    both_true : (one two mirror : MirrorState) → Merges one two mirror → IsTrue one → IsTrue two → IsTrue mirror
    both_true one two mirror m first second = record {
      start = sym m.first ∙ first.start;
      roots = λ t root at. elim (from_either (root_of one) (root_of two) (root_of mirror) m.roots t root at) [
        | inl in_one ↦ first.roots t root in_one
        | inr in_two ↦ second.roots t root in_two
      ];
      lists = λ t j items at. elim (from_either (list_of one t) (list_of two t) (list_of mirror t) (m.lists t) j items at) [
        | inl in_one ↦ first.lists t j items in_one
        | inr in_two ↦ second.lists t j items in_two
      ];
    }

    pub order_true : (order : Gathering) (mirror : MirrorState) → ComesTo image history order mirror → IsTrue mirror
    order_true (Copy core before later) mirror comes = copied_true core comes.0 before later comes.1 mirror comes.2
    order_true (Both one two) mirror comes = both_true comes.0 comes.1 mirror comes.4 (order_true one comes.0 comes.2) (order_true two comes.1 comes.3)

    true_merge : (one two : MirrorState) → IsTrue one → IsTrue two → MayMerge one two
    true_merge one two first second = record {
      start = first.start ∙ sym second.start;
      each = λ t. record {
        root = agree_of (root_of one t) (root_of two t) (λ d e at too. let a = first.roots t d at in let b = second.roots t e too in laws.agreement history is are a.0 b.0 t d e a.2 b.2);
        lists = λ j. agree_of (list_of one t j) (list_of two t j) (λ xs ys at too. let a = first.lists t j xs at in let b = second.lists t j ys too in cc (sym a.1 ∙ b.1));
      };
    }

    pub orders_merge : (order other : Gathering) (one two : MirrorState) → ComesTo image history order one → ComesTo image history other two → MayMerge one two
    orders_merge order other one two first second = true_merge one two (order_true order one first) (order_true other two second)

    -- ---- and where the mirrors of the cores at the end are among them, it has all of that

    module _ (core : ℕ) where
      pub order_roots : (order : Gathering) (mirror : MirrorState) → ComesTo image history order mirror → HasEndOf core order → (t : ℕ) (root : List ℕ) → held_in end core t ≡ Some root → root_of mirror t ≡ Some root
      unfolding mirror_of
      order_roots (Copy of before later) mirror comes last t root at =
          ap (λ m. root_of m t) comes.2 ∙ ap (λ j. root_of (mirror_in history.plan (after image history.plan before) j) t) last.0
          ∙ ap (λ es. root_of (mirror_in history.plan (after image history.plan es) core) t) (sym (append-nil before) ∙ ap (λ es. before ++ es) (sym last.1) ∙ comes.1)
          ∙ mirror_roots history.plan end (planned history is are) core t ∙ at
      order_roots (Both one two) mirror comes (inl last) t root at = has_first (root_of comes.0) (root_of comes.1) (root_of mirror) comes.4.roots t root (order_roots one comes.0 comes.2 last t root at)
      order_roots (Both one two) mirror comes (inr last) t root at = has_second (root_of comes.0) (root_of comes.1) (root_of mirror) comes.4.roots t root (order_roots two comes.1 comes.3 last t root at)

      pub order_lists : (order : Gathering) (mirror : MirrorState) → ComesTo image history order mirror → HasEndOf core order → (t : ℕ) (items : List Item) → sealed_in end core t ≡ Some items → list_of mirror t core ≡ Some items
      unfolding mirror_of
      order_lists (Copy of before later) mirror comes last t items at =
          ap (λ m. list_of m t core) comes.2 ∙ ap (λ j. list_of (mirror_in history.plan (after image history.plan before) j) t core) last.0
          ∙ ap (λ es. list_of (mirror_in history.plan (after image history.plan es) core) t core) (sym (append-nil before) ∙ ap (λ es. before ++ es) (sym last.1) ∙ comes.1)
          ∙ mirror_lists history.plan end (planned history is are) core t ∙ at
      order_lists (Both one two) mirror comes (inl last) t items at = has_first (list_of comes.0 t) (list_of comes.1 t) (list_of mirror t) (comes.4.lists t) core items (order_lists one comes.0 comes.2 last t items at)
      order_lists (Both one two) mirror comes (inr last) t items at = has_second (list_of comes.0 t) (list_of comes.1 t) (list_of mirror t) (comes.4.lists t) core items (order_lists two comes.1 comes.3 last t items at)

    module _ (order : Gathering) (mirror : MirrorState) (comes : ComesTo image history order mirror) (all : HasAllEnds history.plan order) where
      of_core : (t core : ℕ) → Option (List ℕ)
      of_core t core = held_in end core t

      pub root_kept : (t : ℕ) → root_of mirror t ≡ kept_root history.plan end t
      root_kept t = by (kept_root history.plan end t) refl (root_of mirror t) refl
        where
          by : (o : Option (List ℕ)) → kept_root history.plan end t ≡ o → (p : Option (List ℕ)) → root_of mirror t ≡ p → p ≡ o
          by None none None is = refl
          by None none (Some root) is =
              let holder = (order_true order mirror comes).roots t root is in
              let found = lowest_there (λ core. held_in end core t) 0 history.plan.cores holder.0 root (omega arith) (omega (arith, holder.1)) holder.2 in
              absurd (cc (sym none ∙ found.1))
          by (Some root) kept p is =
              let holder = lowest_some (λ core. held_in end core t) 0 history.plan.cores root kept in
              sym is ∙ order_roots holder.0 order mirror comes (all holder.0 (omega (arith, holder.2))) t root holder.3

      pub list_sealed : (t j : ℕ) → j < history.plan.cores → list_of mirror t j ≡ sealed_in end j t
      list_sealed t j lt = by (sealed_in end j t) refl (list_of mirror t j) refl
        where
          by : (o : Option (List Item)) → sealed_in end j t ≡ o → (p : Option (List Item)) → list_of mirror t j ≡ p → p ≡ o
          by None none None is = refl
          by None none (Some items) is = absurd (let true_ = (order_true order mirror comes).lists t j items is in cc (sym none ∙ true_.1))
          by (Some items) some p is = sym is ∙ order_lists j order mirror comes (all j lt) t items some

      pub list_none : (t j : ℕ) → history.plan.cores ≤ j → list_of mirror t j ≡ None
      list_none t j le = by (list_of mirror t j) refl
        where
          by : (p : Option (List Item)) → list_of mirror t j ≡ p → p ≡ None
          by None is = refl
          by (Some items) is = absurd (let true_ = (order_true order mirror comes).lists t j items is in omega (arith, le, true_.0))

      pub starts : mirror.start ≡ history.plan.start
      starts = (order_true order mirror comes).start
