-- What a block has that is filled from its front.
use Rattle.std.proofs.Common.{◌≡◌, ◌⊎◌, ℕ, ◌-◌, ◌<◌, ◌≤◌, List, ◌++◌, length, take, drop, replicate, min, sym, ap, ◌∙◌, arith, inl, inr}
use Rattle.std.proofs.lemmas.Bool.{cases_lt}
use Rattle.std.proofs.lemmas.List.{drop-replicate, take_all}
use Rattle.ksi_c.specs.Drawn.{padded}

pub filled : (room count : ℕ) (bytes : List ℕ) → count ≡ min (length bytes) room → take count bytes ++ drop count (replicate room 0) ≡ padded room bytes
unfolding padded
filled room count bytes is =
    let behind : drop count (replicate room 0) ≡ replicate (room - length bytes) 0 =
    drop-replicate count room 0 ∙ (let same : room - count ≡ room - length bytes = omega (arith, is) in ap (λ (n : ℕ). replicate n 0) same) in
    let front : take count bytes ≡ take room bytes = elim (cases_lt room (length bytes)) [
      | inl long ↦ (let same : count ≡ room = omega (arith, is, long) in ap (λ (n : ℕ). take n bytes) same)
      | inr short ↦ (take_all count bytes (omega (arith, is, short)) ∙ sym (take_all room bytes short))
    ] in
    λ i. front i ++ behind i
