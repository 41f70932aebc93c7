-- What a core of a history holds and has sealed, as a mirror.
use Rattle.std.specs.Prelude.{ℕ, zero, suc, ◌^◌, List, [], ◌∷◌, Option, None, Some, option_map, IfSome}
use Rattle.std.specs.List.{AllByRecursion}
use Rattle.ksi_imprint.specs.Imprints.{IsImprint}
use Rattle.ksi_aggtree.specs.declared.item.Item.{Item}
use Rattle.ksi_aggtree.specs.declared.entries.Entry.{Entry}
use Rattle.ksi_aggtree.specs.Entries.{items_of}
use Rattle.ksi_aggtree.specs.Names.{IsName}
use Rattle.ksi_aggtree.specs.Rounds.{some_items}
use Rattle.ksi_corenode.specs.CoreState.{CoreState, state_of}
use Rattle.ksi_schedule.specs.Plans.{PlanState}
use Rattle.ksi_schedule.specs.Events.{History}
use Rattle.ksi_world.specs.Histories.{WorldState, held_in, world_of}
use Rattle.ksi_mirror.specs.declared.sealed_list.SealedList.{SealedList}
use Rattle.ksi_mirror.specs.Mirrors.{MirrorState}

-- ---- what there is for each second

abbrev pub put_before : {A : Type 0} → Option A → List A → List A
put_before None later = later
put_before (Some x) later = x ∷ later

-- of n seconds from this one on what there is for them, in order
abbrev pub those_from : {A : Type 0} → (ℕ → Option A) → (second n : ℕ) → List A
those_from f t zero = []
those_from f t (suc n) = put_before (f t) (those_from f (suc t) n)

-- what there is for the seconds of a plan that starts with this one
unfoldable pub each_second : {A : Type 0} → (ℕ → Option A) → (start : ℕ) → List A
each_second f start = those_from f start (2 ^ 24)

-- a root after its second
abbrev pub root_with : (ℕ → Option (List ℕ)) → (second : ℕ) → Option (ℕ × List ℕ)
root_with roots t = option_map (λ root. (t, root)) (roots t)

abbrev pub list_with : (core second : ℕ) → List Item → SealedList
list_with core t items = record { second = t; core = core; items = items }

-- the list of a core
abbrev pub list_at : (ℕ → Option (List Item)) → (core second : ℕ) → Option SealedList
list_at lists core t = option_map (list_with core t) (lists t)

-- ---- what a core sealed

-- the items without their origins, if there are any
abbrev pub some_sealed : Option (List Entry) → Option (List Item)
some_sealed None = None
some_sealed (Some entries) = some_items (items_of entries)

-- what a core sealed for a second, where it sealed items
abbrev pub sealed_in : WorldState → (core second : ℕ) → Option (List Item)
sealed_in w core t = some_sealed (w.seconds core t).sealed

-- ---- the mirror of a core

abbrev pub mirror_in : PlanState → WorldState → (core : ℕ) → MirrorState
mirror_in plan w core = record {
  start = plan.start;
  roots = each_second (root_with (held_in w core)) plan.start;
  lists = each_second (list_at (sealed_in w core) core) plan.start;
}

-- the plan's start, each root that the core holds, and each list of items that it sealed, after all events
unfoldable pub mirror_of : (List ℕ → List ℕ) → History → (core : ℕ) → MirrorState
mirror_of image h core = mirror_in h.plan (world_of image h) core

-- ---- in the code

-- the same of a core alone
abbrev pub sealed_by : CoreState → (second : ℕ) → Option (List Item)
sealed_by core t = some_sealed (state_of core t).sealed

-- the imprints of its items are imprints, and their names are names
abbrev pub HasSealedImprints : SealedList → Type 0
HasSealedImprints one = AllByRecursion (λ (item : Item). IsImprint item.imprint × IfSome item.name IsName) one.items
