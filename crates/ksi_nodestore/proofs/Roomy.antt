-- A store whose disk in memory is given room keeps its facts.
use Rattle.std.specs.Prelude.{◌≡◌, ℕ, List, OnErr, OnOk, Result, Ok, Err}
use Rattle.std.proofs.Common.{sym, subst}
use Rattle.ksi_synod.specs.CorePlans.{CorePlanState}
use Rattle.ksi_corenode.specs.declared.fact.Fact.{Fact}
use Rattle.ksi_disk.specs.Deeds.{StoredDisk, content_of, with_room, IsImage}
use Rattle.ksi_nodestore.specs.StoreState.{IsStoreOf, StoreState, on_disk}

module _ (image : List ℕ → List ℕ) (me : ℕ) (plan : CorePlanState) (facts : List Fact) where
  abbrev IsMine : StoreState StoredDisk → Type 0
  IsMine store = IsStoreOf image content_of (λ disk. IsImage disk.start disk.deeds) me plan facts store

  made : (store : StoreState StoredDisk) (room turns : ℕ) → IsMine store → IsMine (on_disk store (with_room store.log.disk room turns))
  made store room turns is = record {
    mine = is.mine;
    has = is.has;
    counted = is.counted;
    settled = record { durable = is.settled.durable; standing = is.settled.standing; within = is.settled.within; fresh = is.settled.fresh };
    from = is.from;
    file = is.file;
  }

  pub roomy : {T E : Type 0} (store : StoreState StoredDisk) (disk : StoredDisk) (room turns : ℕ) (result : Result T E) → OnOk result (disk ≡ with_room store.log.disk room turns) → OnErr result (disk ≡ store.log.disk)
      → IsMine store → IsMine (on_disk store disk)
  roomy store disk room turns (Ok done) is_made stays is = subst (λ (d : StoredDisk). IsMine (on_disk store d)) (sym is_made) (made store room turns is)
  roomy store disk room turns (Err refused) is_made stays is = subst (λ (d : StoredDisk). IsMine (on_disk store d)) (sym stays) is
