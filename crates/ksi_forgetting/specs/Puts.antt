-- The records of a core's file that are copied to the compacted file.
use Rattle.std.specs.Prelude.{◌≡◌, ℕ, ◌<◌, ◌≤◌, ◌^◌, ◌&&◌, ◌||◌, not, nat_le, nat_lt, Bool, true, false, List, ◌++◌, length, take}
use Rattle.std.specs.List.{All}
use Rattle.ksi_corenode.specs.declared.fact.What.{What}
use Rattle.ksi_corenode.specs.declared.fact.What.TheVariants.{Sealed, Tried, Promised, Cast, Holds}
use Rattle.ksi_corenode.specs.declared.fact.Fact.{Fact}
use Rattle.ksi_disk.specs.Gates.{records_text}
use Rattle.ksi_nodestore.specs.Stores.{AreTexts}
use Rattle.ksi_nodestore.specs.Texts.{IsTextOf}
use Rattle.ksi_laws_forgetting.specs.Left.{left_of, left_of_one}

-- the seconds from the start on that are before a horizon
abbrev pub is_early : (start horizon : ℕ) → ℕ → Bool
is_early start horizon t = nat_le start t && nat_lt t horizon

-- whether the fact is that a root is held
abbrev pub is_root : What → Bool
is_root (Sealed items) = false
is_root (Tried ballot) = false
is_root (Promised ballot) = false
is_root (Cast vote) = false
is_root (Holds root) = true

-- whether the fact is kept
abbrev pub stays : (forgotten : ℕ → Bool) → Fact → Bool
stays forgotten fact = not (forgotten fact.second) || is_root fact.what

-- records, at most one, were appended to a text: those of the facts left of the fact in this content
pub record IsPutOf (forgotten : ℕ → Bool) (content old new : List ℕ) (count : ℕ) : Type 0 where
  pub left : List (List ℕ)
  pub text_is : new ≡ old ++ records_text left
  pub texts : (fact : Fact) → IsTextOf fact content → AreTexts (left_of_one forgotten fact) left
  pub small : All (λ one. length one < 2 ^ 32) left
  pub counted : count ≡ length left
  pub few : count ≤ 1

-- the same for the first of these records
pub record IsPutAll (forgotten : ℕ → Bool) (records : List (List ℕ)) (k : ℕ) (old new : List ℕ) (count : ℕ) : Type 0 where
  pub left : List (List ℕ)
  pub text_is : new ≡ old ++ records_text left
  pub texts : (facts : List Fact) → AreTexts facts records → AreTexts (left_of forgotten (take k facts)) left
  pub small : All (λ one. length one < 2 ^ 32) left
  pub counted : count ≡ length left
  pub few : count ≤ k

-- these records, at most one, were appended to a text
pub record IsPut (left : List (List ℕ)) (old new : List ℕ) (count : ℕ) : Type 0 where
  pub text_is : new ≡ old ++ records_text left
  pub small : All (λ one. length one < 2 ^ 32) left
  pub counted : count ≡ length left
  pub few : count ≤ 1
