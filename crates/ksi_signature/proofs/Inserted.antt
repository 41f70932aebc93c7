-- An item put among others.
use Rattle.std.proofs.Common.{◌≡◌, ℕ, zero, suc, ◌<◌, ◌≤◌, List, [], ◌∷◌, ◌++◌, length, map, take, slice_set, slice_index_or, refl, ap, sym, ◌∙◌, arith}
use Rattle.std.specs.Prelude.{insert}

-- moved up by one
pub insert_next : {X : Type 0} (k : ℕ) (xs : List X) (x y : X) → k < length xs → y ≡ slice_index_or xs k y → insert (slice_set xs k x) (suc k) y ≡ insert xs k x
insert_next k [] x y lt is = absurd (omega (arith, lt))
insert_next zero (z ∷ zs) x y lt is = ap (λ y. x ∷ y ∷ zs) is
insert_next (suc k) (z ∷ zs) x y lt is = ap (λ zs. z ∷ zs) (insert_next k zs x y (omega (arith, lt)) is)

pub insert_front : {X : Type 0} (p n : ℕ) (xs : List X) (x : X) → p ≤ n → n ≤ length xs → take (suc n) (insert xs p x) ≡ insert (take n xs) p x
insert_front zero n xs x le within = refl
insert_front (suc p) zero xs x le within = absurd (omega (arith, le))
insert_front (suc p) (suc n) [] x le within = absurd (omega (arith, within))
insert_front (suc p) (suc n) (y ∷ ys) x le within = ap (λ ys. y ∷ ys) (insert_front p n ys x (omega (arith, le)) (omega (arith, within)))

pub insert_last : {X : Type 0} (n : ℕ) (xs : List X) (x : X) → n ≤ length xs → take (suc n) (insert xs n x) ≡ take n xs ++ x ∷ []
insert_last zero xs x within = refl
insert_last (suc n) [] x within = absurd (omega (arith, within))
insert_last (suc n) (y ∷ ys) x within = ap (λ ys. y ∷ ys) (insert_last n ys x (omega (arith, within)))

pub set_last : {X : Type 0} (n : ℕ) (xs : List X) (x : X) → n < length xs → take (suc n) (slice_set xs n x) ≡ take n xs ++ x ∷ []
set_last n [] x within = absurd (omega (arith, within))
set_last zero (y ∷ ys) x within = refl
set_last (suc n) (y ∷ ys) x within = ap (λ ys. y ∷ ys) (set_last n ys x (omega (arith, within)))

-- the last one is set, and so the first is among the others
pub put_among : {X : Type 0} (p n : ℕ) (old items : List X) (x carried : X) → p ≤ n → n < length old → length items ≡ length old → insert items n carried ≡ insert old p x
    → take (suc n) (slice_set items n carried) ≡ insert (take n old) p x
put_among p n old items x carried le lt same is =
    set_last n items carried (omega (arith, lt, same)) ∙ sym (insert_last n items carried (omega (arith, lt, same)))
    ∙ ap (take (suc n)) is ∙ insert_front p n old x le (omega (arith, lt))

pub map-insert : {X Y : Type 0} (f : X → Y) (i : ℕ) (xs : List X) (x : X) → map f (insert xs i x) ≡ insert (map f xs) i (f x)
map-insert f zero xs x = refl
map-insert f (suc i) [] x = refl
map-insert f (suc i) (y ∷ ys) x = ap (λ ys. f y ∷ ys) (map-insert f i ys x)
