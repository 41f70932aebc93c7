-- The mirror of a core has what the core holds and has sealed.
use Rattle.std.proofs.Common.{◌≡◌, ℕ, ◌^◌, ◌<◌, ◌≤◌, List, [], ◌∷◌, length, Option, Some, None, refl, sym, subst, arith}
use Rattle.std.specs.Prelude.{IfSome}
use Rattle.std.specs.List.{AllByRecursion}
use Rattle.ksi_imprint.specs.Imprints.{IsImprint}
use Rattle.ksi_aggtree.specs.declared.item.Item.{Item}
use Rattle.ksi_aggtree.specs.declared.entries.Entry.{Entry}
use Rattle.ksi_aggtree.specs.Entries.{items_of}
use Rattle.ksi_aggtree.specs.Names.{IsName}
use Rattle.ksi_aggtree.specs.Rounds.{IsRound}
use Rattle.ksi_schedule.specs.Plans.{PlanState, IsPlan, InRange}
use Rattle.ksi_world.specs.Histories.{WorldState, held_in}
use Rattle.ksi_mirror.specs.declared.sealed_list.SealedList.{SealedList}
use Rattle.ksi_mirror.specs.Mirrors.{MirrorState, root_of, list_of, IsRoot, IsList, IsMirror}
use Rattle.ksi_replay.specs.Mirrors.{some_sealed, sealed_in, mirror_in, HasSealedImprints}
use Rattle.ksi_replay.proofs.Lawful.{are_items}
use Rattle.ksi_replay.proofs.Listing.{IsWithin, roots_has, roots_rise, roots_are, lists_of_others, lists_has, lists_rise, lists_are}

-- what a core sealed, where items are
pub sealed_entries : (o : Option (List Entry)) (items : List Item) → some_sealed o ≡ Some items → (entries : List Entry) × (o ≡ Some entries) × (items_of entries ≡ items) × (1 ≤ length items)
sealed_entries None items is = absurd (cc is)
sealed_entries (Some []) items is = absurd (cc is)
sealed_entries (Some (e ∷ es)) items is = let same : items_of (e ∷ es) ≡ items = cc is in (e ∷ es, refl, same, subst (λ (xs : List Item). 1 ≤ length xs) same (omega arith))

-- what is known of a world: the seconds for which something is held and sealed, and who sealed it
pub record IsPlanned (plan : PlanState) (w : WorldState) : Type 0 where
  pub held : (core t : ℕ) (root : List ℕ) → held_in w core t ≡ Some root → InRange plan t
  pub sealed : (core t : ℕ) (entries : List Entry) → (w.seconds core t).sealed ≡ Some entries → InRange plan t
  pub core : (core t : ℕ) (entries : List Entry) → (w.seconds core t).sealed ≡ Some entries → core < plan.cores

module _ (plan : PlanState) (w : WorldState) (planned : IsPlanned plan w) where
  sealed_within : (core : ℕ) → IsWithin plan.start (sealed_in w core)
  sealed_within core t items is = let s = sealed_entries (w.seconds core t).sealed items is in planned.sealed core t s.0 s.1

  pub sealed_core : (core t : ℕ) (items : List Item) → sealed_in w core t ≡ Some items → core < plan.cores
  sealed_core core t items is = let s = sealed_entries (w.seconds core t).sealed items is in planned.core core t s.0 s.1

  pub mirror_roots : (core t : ℕ) → root_of (mirror_in plan w core) t ≡ held_in w core t
  mirror_roots core t = roots_has (held_in w core) plan.start (planned.held core) t

  pub mirror_lists : (core t : ℕ) → list_of (mirror_in plan w core) t core ≡ sealed_in w core t
  mirror_lists core t = lists_has (sealed_in w core) core plan.start (sealed_within core) t

pub mirror_others : (plan : PlanState) (w : WorldState) (core t j : ℕ) → (j ≡ core → ⊥) → list_of (mirror_in plan w core) t j ≡ None
mirror_others plan w core t j other = lists_of_others (sealed_in w core) core plan.start t j (λ e. other (sym e))

-- ---- it is a mirror

all_with : {A : Type 0} (P Q R : A → Type 0) (xs : List A) → ((x : A) → P x → Q x → R x) → AllByRecursion P xs → AllByRecursion Q xs → AllByRecursion R xs
all_with P Q R [] both ps qs = tt
all_with P Q R (x ∷ xs) both ps qs = (both x ps.0 qs.0, all_with P Q R xs both ps.1 qs.1)

-- all of a list but that its items have imprints
record IsListBut (one : SealedList) : Type 0 where
  early : one.second < 2 ^ 63
  core : one.core ≤ 8
  some : 1 ≤ length one.items
  round : IsRound one.items

module _ (plan : PlanState) (w : WorldState) (core : ℕ) (is : IsPlan plan) (there : core < plan.cores)
    (rounds : (t : ℕ) (entries : List Entry) → (w.seconds core t).sealed ≡ Some entries → IsRound (items_of entries)) where
  abbrev mirror : MirrorState
  mirror = mirror_in plan w core

  pub mirror_is : AllByRecursion (λ (one : ℕ × List ℕ). IsImprint one.1) mirror.roots → AllByRecursion HasSealedImprints mirror.lists → IsMirror mirror
  mirror_is roots lists =
      let early = is.core_plan.early in
      let few = is.core_plan.few in
      record {
        start = omega (arith, early);
        roots = all_with (λ (one : ℕ × List ℕ). one.0 < 2 ^ 63) (λ (one : ℕ × List ℕ). IsImprint one.1) IsRoot mirror.roots (λ one before imprint. record { early = before; imprint = imprint })
            (roots_are (held_in w core) plan.start (λ (one : ℕ × List ℕ). one.0 < 2 ^ 63) (λ t root le lt at. omega (arith, early, lt))) roots;
        roots_rise = roots_rise (held_in w core) plan.start;
        lists = all_with IsListBut HasSealedImprints IsList mirror.lists
            (λ one but imprints. record { early = but.early; core = but.core; some = but.some; few = but.round.few; items = are_items one.items but.round.low imprints })
            (lists_are (sealed_in w core) core plan.start IsListBut (λ t xs le lt at.
            let s = sealed_entries (w.seconds core t).sealed xs at in
            record { early = omega (arith, early, lt); core = omega (arith, there, few); some = s.3; round = subst IsRound s.2 (rounds t s.0 s.1) })) lists;
        lists_rise = lists_rise (sealed_in w core) core plan.start (omega (arith, there, few));
      }

  -- where what is held and sealed are imprints
  pub mirror_imprinted : ((t : ℕ) (root : List ℕ) → held_in w core t ≡ Some root → IsImprint root)
      → ((t : ℕ) (entries : List Entry) → (w.seconds core t).sealed ≡ Some entries → AllByRecursion (λ (item : Item). IsImprint item.imprint × IfSome item.name IsName) (items_of entries)) → IsMirror mirror
  mirror_imprinted held sealed = mirror_is (roots_are (held_in w core) plan.start (λ (one : ℕ × List ℕ). IsImprint one.1) (λ t root le lt at. held t root at))
      (lists_are (sealed_in w core) core plan.start HasSealedImprints (λ t xs le lt at.
      let s = sealed_entries (w.seconds core t).sealed xs at in
      subst (λ (xs : List Item). AllByRecursion (λ (item : Item). IsImprint item.imprint × IfSome item.name IsName) xs) s.2 (sealed t s.0 s.1)))
