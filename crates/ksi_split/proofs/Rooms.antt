-- Rows, and the room in them, after one row is written.
use Rattle.std.proofs.Common.{◌≡◌, ◌≢◌, inl, inr, ℕ, zero, suc, ◌<◌, List, [], ◌∷◌, ◌++◌, refl, length, get_or, slice_set, ◌∙◌, sym, ap, arith}
use Rattle.ksi_split.proofs.Powers.{eq_cases}
use Rattle.ksi_split.specs.Stored.{Stored, row_at, room_at}
use Rattle.ksi_split.proofs.Members.{read_is, read_set_same, read_set_other}

module _ {A : Type 0} (rows : List (Stored A)) where
  pub row_is : (k : ℕ) (v : Stored A) → k < length rows → v ≡ get_or rows k v → row_at rows k ≡ v.parts
  unfolding row_at
  row_is k v lt e = read_is (λ (v : Stored A). v.parts) [] rows k v lt e

  pub room_of : (k : ℕ) (v : Stored A) → k < length rows → v ≡ get_or rows k v → room_at rows k ≡ v.room
  unfolding room_at
  room_of k v lt e = read_is (λ (v : Stored A). v.room) 0 rows k v lt e

  pub row_set : (k : ℕ) (v : Stored A) → k < length rows → row_at (slice_set rows k v) k ≡ v.parts
  unfolding row_at
  row_set k v lt = read_set_same (λ (v : Stored A). v.parts) [] rows k v lt

  pub room_set : (k : ℕ) (v : Stored A) → k < length rows → room_at (slice_set rows k v) k ≡ v.room
  unfolding room_at
  room_set k v lt = read_set_same (λ (v : Stored A). v.room) 0 rows k v lt

  pub row_others : (k j : ℕ) (v : Stored A) → j ≢ k → row_at (slice_set rows k v) j ≡ row_at rows j
  unfolding row_at
  row_others k j v ne = read_set_other (λ (v : Stored A). v.parts) [] rows k j v ne

  pub room_others : (k j : ℕ) (v : Stored A) → j ≢ k → room_at (slice_set rows k v) j ≡ room_at rows j
  unfolding room_at
  room_others k j v ne = read_set_other (λ (v : Stored A). v.room) 0 rows k j v ne

  pub row_kept : (k : ℕ) (old new : Stored A) → k < length rows → old ≡ get_or rows k old → new.parts ≡ old.parts → (j : ℕ) → row_at (slice_set rows k new) j ≡ row_at rows j
  row_kept k old new lt at e j = elim (eq_cases j k) [
    | inl t ↦ ap (row_at (slice_set rows k new)) t.1 ∙ row_set k new lt ∙ e ∙ sym (row_is k old lt at) ∙ ap (row_at rows) (sym t.1)
    | inr f ↦ row_others k j new f.1
  ]

pub no_row : {A : Type 0} (rows : List (Stored A)) → length rows ≡ 0 → (k : ℕ) → row_at rows k ≡ []
unfolding row_at
no_row [] e k = refl
no_row (v ∷ rows) e k = absurd (omega arith)

-- an empty row behind the others
pub row_pushed : {A : Type 0} (rows : List (Stored A)) (v : Stored A) → v.parts ≡ [] → (k : ℕ) → row_at (rows ++ v ∷ []) k ≡ row_at rows k
unfolding row_at
row_pushed [] v e zero = e
row_pushed [] v e (suc k) = refl
row_pushed (u ∷ rows) v e zero = refl
row_pushed (u ∷ rows) v e (suc k) = row_pushed rows v e k

-- a row that has parts is there
pub row_there : {A : Type 0} (rows : List (Stored A)) (k j : ℕ) → j < length (row_at rows k) → k < length rows
unfolding row_at
row_there [] k j lt = absurd (omega arith)
row_there (v ∷ rows) zero j lt = omega arith
row_there (v ∷ rows) (suc k) j lt = omega (arith, row_there rows k j lt)

-- a row that has room is there
pub room_there : {A : Type 0} (rows : List (Stored A)) (k : ℕ) → 0 < room_at rows k → k < length rows
unfolding room_at
room_there [] k lt = absurd (omega arith)
room_there (v ∷ rows) zero lt = omega arith
room_there (v ∷ rows) (suc k) lt = omega (arith, room_there rows k lt)
