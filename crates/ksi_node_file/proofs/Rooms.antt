-- Stores on a disk in memory that has room enough.
use Rattle.std.specs.Prelude.{IsErrOf}
use Rattle.std.proofs.Common.{◌≡◌, Bool, true, false, ℕ, suc, ◌+◌, ◌≤◌, List, [], ◌∷◌, length, option_map, IfSome, Option, Some, None, Result, Err, refl, sym, ap, subst, ◌∙◌, arith}
use Rattle.ksi_aggtree.specs.declared.entries.Entry.{Entry}
use Rattle.ksi_aggtree.specs.Entries.{items_of}
use Rattle.ksi_synod.specs.CorePlans.{CorePlanState}
use Rattle.ksi_corenode.specs.declared.fact.What.{What}
use Rattle.ksi_corenode.specs.declared.fact.What.TheVariants as whats
use Rattle.ksi_corenode.specs.declared.fact.Fact.{Fact}
use Rattle.ksi_corenode.specs.Facts.{StableState, fact_of}
use Rattle.ksi_corenode.specs.Lawful.{IsLawful, MayStore}
use Rattle.ksi_corenode.specs.Restored.{IsOfFacts}
use Rattle.ksi_disk.specs.Costs.{Affords, Meter, Spends}
use Rattle.ksi_disk.specs.Deeds.{StoredDisk, content_of, meter_of, meter_unless, with_room}
use Rattle.ksi_nodestore.specs.declared.refusal.OpenRefusal.{OpenRefusal}
use Rattle.ksi_nodestore.specs.declared.refusal.OpenRefusal.TheVariants as opens
use Rattle.ksi_nodestore.specs.declared.refusal.TakeRefusal.{TakeRefusal}
use Rattle.ksi_nodestore.specs.declared.refusal.TakeRefusal.TheVariants as takes
use Rattle.ksi_nodestore.specs.Headers.{empty_file}
use Rattle.ksi_nodestore.specs.Opens.{HasNotFailed, IsOutside}
use Rattle.ksi_nodestore.specs.StoreState.{IsStoreOf, StoreState}
use Rattle.ksi_nodestore.specs.Spelling.{node_text}
use Rattle.ksi_nodestore.specs.Stores.{IsFileOf}
use Rattle.ksi_nodestore.specs.Takes.{AffordsMost, SpendsFor}
use Rattle.ksi_nodestore.specs.Writing.{most_bytes}
use Rattle.ksi_node_file.specs.Followed.{images_of, IsOpened, IsTakeWant, IsWant}

-- a disk that tells what it takes goes on telling, so no call of it is to fail
telling : (room turns bytes spent : ℕ) (new : StoredDisk) → Spends bytes spent (Some (record { room = room; turns = turns })) (meter_of new) → new.failing ≡ []
telling room turns bytes spent new spends = by new.failing spends
  where
    by : (failing : List ℕ) → Spends bytes spent (Some (record { room = room; turns = turns })) (meter_unless failing new.room new.turns) → failing ≡ []
    by [] s = refl
    by (x ∷ failing) s = absurd s

pub sure_on : (disk old new : StoredDisk) (room turns bytes spent : ℕ) → old ≡ with_room disk room turns → disk.failing ≡ [] → Spends bytes spent (meter_of old) (meter_of new) → new.failing ≡ []
sure_on disk old new room turns bytes spent made none spends =
    telling room turns bytes spent new
    (subst (λ (l : List ℕ). Spends bytes spent (meter_unless l room turns) (meter_of new)) none (subst (λ (d : StoredDisk). Spends bytes spent (meter_of d) (meter_of new)) made spends))

pub affords_now : (disk old : StoredDisk) (room turns : ℕ) → old ≡ with_room disk room turns → disk.failing ≡ [] → Affords room turns (meter_of old)
affords_now disk old room turns made none =
    subst (λ (d : StoredDisk). Affords room turns (meter_of d)) (sym made) (subst (λ (l : List ℕ). Affords room turns (meter_unless l room turns)) (sym none) (omega arith, omega arith))

-- OPENED

-- the file of a core that has stored nothing
pub new_file : (me : ℕ) (plan : CorePlanState) (file : List ℕ) → IsFileOf me plan [] (empty_file me plan.cores plan.start) → file ≡ node_text me plan [] → IsFileOf me plan [] file
unfolding node_text
new_file me plan file new is = subst (λ (l : List ℕ). IsFileOf me plan [] l) (sym is) new

pub want_of : (refusal : OpenRefusal) (disk : StoredDisk) → IsOutside refusal → HasNotFailed {D = StoredDisk} (Err (refusal, disk)) → IsWant refusal
want_of opens.Failed disk outside sure = sure
want_of opens.NotFormatted disk outside sure = outside
want_of (opens.Foreign core cores start) disk outside sure = outside
want_of (opens.Malformed place) disk outside sure = outside
want_of opens.NoMemory disk outside sure = tt

pub opened_as : (image : List ℕ → List ℕ) (me : ℕ) (plan : CorePlanState) (facts others : List Fact) (disk old : StoredDisk) (store : StoreState StoredDisk) → old ≡ with_room disk 0 1 → disk.failing ≡ []
    → ((facts others : List Fact) (file : List ℕ) → IsFileOf me plan facts file → IsFileOf me plan others file → facts ≡ others)
    → IsFileOf me plan facts (content_of disk) → content_of disk ≡ node_text me plan facts → IsFileOf me plan others (content_of old) → IsOfFacts image me plan others store.core
    → IsStoreOf image content_of images_of me plan others store → content_of store.log.disk ≡ content_of old → Spends 0 1 (meter_of old) (meter_of store.log.disk) → IsOpened image me plan facts store
opened_as image me plan facts others disk old store made none one is exact found of stored stays spends =
    let same : content_of old ≡ content_of disk = ap content_of made in
    let here : others ≡ facts = one others facts (content_of disk) (subst (λ (l : List ℕ). IsFileOf me plan others l) same found) is in
    record {
      held = record {
        stored = subst (λ (fs : List Fact). IsStoreOf image content_of images_of me plan fs store) here stored;
        exact = stays ∙ same ∙ exact;
        sure = sure_on disk old store.log.disk 0 1 0 1 made none spends;
      };
      made = subst (λ (fs : List Fact). IsOfFacts image me plan fs store.core) here of;
    }

-- TAKEN

items_length : (entries : List Entry) → length (items_of entries) ≡ length entries
items_length [] = refl
items_length (x ∷ xs) = ap suc (items_length xs)

most_room : (s : StableState) (what : What) → MayStore s what → most_bytes what + 6 ≤ 6750227
most_room s (whats.Sealed items) may = omega (arith, may.1.few, items_length items)
most_room s (whats.Tried ballot) may = omega arith
most_room s (whats.Promised ballot) may = omega arith
most_room s (whats.Cast vote) may = omega arith
most_room s (whats.Holds root) may = omega arith

pub affords_most : (cores start second : ℕ) (s : StableState) (row : Option What) (meter : Option Meter) → Affords 6750227 4 meter → IfSome row (λ what. IsLawful cores start s (fact_of second what)) → AffordsMost (option_map (fact_of second) row) meter
affords_most cores start second s None meter affords may = tt
affords_most cores start second s (Some what) None affords may = affords
affords_most cores start second s (Some what) (Some meter) affords may = (omega (arith, affords.0, most_room s what may.what), affords.1)

-- what an event takes of a disk that tells what it takes
pub sure_for : (disk old new : StoredDisk) (room turns : ℕ) (fact : Option Fact) → old ≡ with_room disk room turns → disk.failing ≡ [] → SpendsFor fact (meter_of old) (meter_of new) → new.failing ≡ []
sure_for disk old new room turns None made none spends = sure_on disk old new room turns 0 0 made none (same (meter_of old) (meter_of new) spends)
  where
    same : (one other : Option Meter) → other ≡ one → Spends 0 0 one other
    same None other is = is
    same (Some meter) other is = subst (λ (m : Option Meter). Spends 0 0 (Some meter) m) (sym is) (omega arith, omega arith)
sure_for disk old new room turns (Some fact) made none spends = sure_on disk old new room turns _ 4 made none spends

pub take_want_of : {T : Type 0} (result : Result T TakeRefusal) (refusal : TakeRefusal) (spent : Bool) → result ≡ Err refusal → (IsErrOf result takes.Failed → ⊥) → (result ≡ Err takes.Spent → spent ≡ true) → spent ≡ false → IsTakeWant refusal
take_want_of result takes.Failed spent here failed is fresh = failed here
take_want_of result takes.Spent spent here failed is fresh = absurd (let no : false ≡ true = sym fresh ∙ is here in cc no)
take_want_of result takes.NoMemory spent here failed is fresh = tt
