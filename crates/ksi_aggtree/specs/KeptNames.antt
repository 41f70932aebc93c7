-- The stored form of a name, padded with zero bytes, for the proof of the code: each name has one form.
use Rattle.std.proofs.Common.{◌≡◌, ℕ, ◌-◌, ◌≤◌, List, ◌++◌, length, take, drop, sym, ap, ◌∙◌, arith, take-append-drop, length-take-le}
use Rattle.std.specs.Prelude.{replicate}
use Rattle.ksi_aggtree.specs.declared.name.Name.TheInside.{Inside}
use Rattle.ksi_aggtree.specs.Names.{IsName, most_letters}

-- the first n bytes are the name, and zero bytes follow
pub record IsKeptName (bytes : List ℕ) (n : ℕ) : Type 0 where
  pub all : length bytes ≡ most_letters
  pub few : n ≤ most_letters
  pub name : IsName (take n bytes)
  pub behind : drop n bytes ≡ replicate (most_letters - n) 0

-- the fields of a name
abbrev pub fields_of_name : List ℕ → Inside
fields_of_name name = record { bytes = name ++ replicate (most_letters - length name) 0; length = length name }

pub fields_of_name-take : (a : Inside) → IsKeptName a.bytes a.length → fields_of_name (take a.length a.bytes) ≡ a
fields_of_name-take a kept =
    ap (λ (n : ℕ). with_fields (take a.length a.bytes ++ replicate (most_letters - n) 0) n) (length-take-le a.length a.bytes (omega (arith, kept.few, kept.all)))
    ∙ ap (λ (behind : List ℕ). with_fields (take a.length a.bytes ++ behind) a.length) (sym kept.behind)
    ∙ ap (λ (bytes : List ℕ). with_fields bytes a.length) (take-append-drop a.length a.bytes)
  where
    with_fields : List ℕ → ℕ → Inside
    with_fields bytes n = record { bytes = bytes; length = n }
