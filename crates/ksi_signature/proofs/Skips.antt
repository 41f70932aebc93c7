-- Elements one after the other: what passes over some of them, and how many are of a kind.
use Rattle.std.proofs.Common.{◌≡◌, ℕ, ◌+◌, ◌≤◌, Bool, true, false, cond, eqb, ltb, List, [], ◌∷◌, ◌++◌, length, map, Option, Some, None, refl, sym, ap, ◌∙◌, arith, zero-add}
use Rattle.std.specs.Prelude.{◌||◌}
use Rattle.std.specs.List.{AllByRecursion}
use Rattle.std.proofs.lemmas.Bool.{ltb-false}
use Rattle.ksi_tlv.specs.Spelling.{Tlv, canonical}
use Rattle.ksi_tlv.specs.Walking.{PlacedTlv, placed_at}
use Rattle.ksi_tlv.specs.Writing.{placed}
use Rattle.ksi_tlv.specs.Table.{is_among, count}
use Rattle.ksi_tlv.specs.Inside.{first_of}
use Rattle.ksi_signature.specs.Contents.{bodies_of, link_in, links_among, chain_in, put_chain, chains_behind}
use Rattle.ksi_signature.specs.Values.{Aggregation}
use Rattle.ksi_signature.specs.Written.{first_long}

-- ---- lists

pub all_both : {A : Type 0} (P : A → Type 0) (xs ys : List A) → AllByRecursion P xs → AllByRecursion P ys → AllByRecursion P (xs ++ ys)
all_both {A} P [] ys front back = back
all_both {A} P (x ∷ xs) ys front back = (front.0, all_both P xs ys front.1 back)

pub all_front : {A : Type 0} (P : A → Type 0) (xs ys : List A) → AllByRecursion P (xs ++ ys) → AllByRecursion P xs
all_front {A} P [] ys all = tt
all_front {A} P (x ∷ xs) ys all = (all.0, all_front P xs ys all.1)

pub all_back : {A : Type 0} (P : A → Type 0) (xs ys : List A) → AllByRecursion P (xs ++ ys) → AllByRecursion P ys
all_back {A} P [] ys all = all
all_back {A} P (x ∷ xs) ys all = all_back P xs ys all.1

pub all_map : {A B : Type 0} (P : A → Type 0) (Q : B → Type 0) (f : A → B) (xs : List A) → ((x : A) → P x → Q (f x)) → AllByRecursion P xs → AllByRecursion Q (map f xs)
all_map {A} {B} P Q f [] each all = tt
all_map {A} {B} P Q f (x ∷ xs) each all = (each x all.0, all_map P Q f xs each all.1)

pub each_map : {A B : Type 0} (Q : B → Type 0) (f : A → B) (xs : List A) → ((x : A) → Q (f x)) → AllByRecursion Q (map f xs)
each_map {A} {B} Q f [] each = tt
each_map {A} {B} Q f (x ∷ xs) each = (each x, each_map Q f xs each)

-- ---- sizes of which none is too long

short_at : (b : Bool) (size : ℕ) (rest : Option ℕ) → ltb 65535 size ≡ b → cond b (Some size) rest ≡ None → (size ≤ 65535) × (rest ≡ None)
short_at true size rest test none = absurd cc
short_at false size rest test none = (ltb-false 65535 size test, none)

pub all_short : (sizes : List ℕ) → first_long sizes ≡ None → AllByRecursion (λ size. size ≤ 65535) sizes
all_short [] none = tt
all_short (size ∷ sizes) none = let both = short_at (ltb 65535 size) size (first_long sizes) refl none in (both.0, all_short sizes both.1)

-- ---- passing over elements

-- what passes over elements of other kinds
abbrev pub PassesOver : {A : Type 0} → List ℕ → (List PlacedTlv → A) → Type 0
PassesOver kinds f = (at : PlacedTlv) (es : List PlacedTlv) → is_among at.element.kind kinds ≡ false → f (at ∷ es) ≡ f es

abbrev pub NoneAmong : List ℕ → List Tlv → Type 0
NoneAmong kinds es = AllByRecursion (λ e. is_among e.kind kinds ≡ false) es

pub pass : {A : Type 0} (f : List PlacedTlv → A) (kinds : List ℕ) → PassesOver kinds f → (place : ℕ) (es fs : List Tlv) → NoneAmong kinds es → (other : ℕ) × (f (placed place (es ++ fs)) ≡ f (placed other fs))
pass {A} f kinds over place [] fs none = (place, refl)
pass {A} f kinds over place (e ∷ es) fs none =
    let rest = pass f kinds over (place + length (canonical e)) es fs none.1 in
    (rest.0, over (placed_at place e (length (canonical e))) (placed (place + length (canonical e)) (es ++ fs)) none.0 ∙ rest.1)

pub pass_all : {A : Type 0} (f : List PlacedTlv → A) (kinds : List ℕ) → PassesOver kinds f → (place : ℕ) (es : List Tlv) → NoneAmong kinds es → f (placed place es) ≡ f []
pass_all {A} f kinds over place [] none = refl
pass_all {A} f kinds over place (e ∷ es) none =
    over (placed_at place e (length (canonical e))) (placed (place + length (canonical e)) es) none.0 ∙ pass_all f kinds over (place + length (canonical e)) es none.1

false_at : {A : Type 0} (b : Bool) (x y : A) → (b || false) ≡ false → cond b x y ≡ y
false_at {A} true x y isnt = absurd cc
false_at {A} false x y isnt = refl

false_both : {A : Type 0} (b c : Bool) (x y : A) → (b || (c || false)) ≡ false → cond (b || c) x y ≡ y
false_both {A} true c x y isnt = absurd cc
false_both {A} false true x y isnt = absurd cc
false_both {A} false false x y isnt = refl

uncounted : (b : Bool) (n : ℕ) → b ≡ false → cond b 1 0 + n ≡ n
uncounted true n isnt = absurd cc
uncounted false n isnt = zero-add n

pub count_passes : (kinds : List ℕ) → PassesOver kinds (count kinds)
count_passes kinds at es isnt = uncounted (is_among at.element.kind kinds) (count kinds es) isnt

pub first_passes : (kind : ℕ) → PassesOver (kind ∷ []) (first_of kind)
first_passes kind at es isnt = false_at (eqb at.element.kind kind) (Some at) (first_of kind es) isnt

pub bodies_pass : (kind : ℕ) → PassesOver (kind ∷ []) (bodies_of kind)
bodies_pass kind at es isnt = false_at (eqb at.element.kind kind) (at.element.body ∷ bodies_of kind es) (bodies_of kind es) isnt

pub links_pass : PassesOver (7 ∷ 8 ∷ []) links_among
links_pass at es isnt = false_both (eqb at.element.kind 7) (eqb at.element.kind 8) (link_in at ∷ links_among es) (links_among es) isnt

pub chains_pass : (chains : List Aggregation) → PassesOver (2049 ∷ []) (chains_behind chains)
chains_pass chains at es isnt = false_at (eqb at.element.kind 2049) (chains_behind (put_chain (chain_in at) chains) es) (chains_behind chains es) isnt

-- ---- elements of one sort

counted : (b : Bool) (n : ℕ) → b ≡ true → cond b 1 0 + n ≡ 1 + n
counted true n is = refl
counted false n is = absurd cc

pub count_map : {A : Type 0} (kinds : List ℕ) (f : A → Tlv) → ((x : A) → is_among (f x).kind kinds ≡ true) → (place : ℕ) (xs : List A) (fs : List Tlv) → (other : ℕ) × (count kinds (placed place (map f xs ++ fs)) ≡ length xs + count kinds (placed other fs))
count_map {A} kinds f among place [] fs = (place, sym (zero-add (count kinds (placed place fs))))
count_map {A} kinds f among place (x ∷ xs) fs =
    let rest = count_map kinds f among (place + length (canonical (f x))) xs fs in
    let here = counted (is_among (f x).kind kinds) (count kinds (placed (place + length (canonical (f x))) (map f xs ++ fs))) (among x) in
    (rest.0, omega (arith, here, rest.1))

pub count_all : {A : Type 0} (kinds : List ℕ) (f : A → Tlv) → ((x : A) → is_among (f x).kind kinds ≡ true) → (place : ℕ) (xs : List A) → count kinds (placed place (map f xs)) ≡ length xs
count_all {A} kinds f among place [] = refl
count_all {A} kinds f among place (x ∷ xs) =
    let here = counted (is_among (f x).kind kinds) (count kinds (placed (place + length (canonical (f x))) (map f xs))) (among x) in
    omega (arith, here, count_all kinds f among (place + length (canonical (f x))) xs)

taken : {A : Type 0} (b : Bool) (x : A) (xs others : List A) → b ≡ true → cond b (x ∷ xs) others ≡ x ∷ xs
taken {A} true x xs others is = refl
taken {A} false x xs others is = absurd cc

pub bodies_map : {A : Type 0} (kind : ℕ) (f : A → Tlv) → ((x : A) → eqb (f x).kind kind ≡ true) → (place : ℕ) (xs : List A) (fs : List Tlv) → (other : ℕ) × (bodies_of kind (placed place (map f xs ++ fs)) ≡ map (λ x. (f x).body) xs ++ bodies_of kind (placed other fs))
bodies_map {A} kind f is place [] fs = (place, refl)
bodies_map {A} kind f is place (x ∷ xs) fs =
    let next = place + length (canonical (f x)) in
    let rest = bodies_map kind f is next xs fs in (
      rest.0,
      taken (eqb (f x).kind kind) (f x).body (bodies_of kind (placed next (map f xs ++ fs))) (bodies_of kind (placed next (map f xs ++ fs))) (is x)
          ∙ ap (λ (others : List (List ℕ)). (f x).body ∷ others) rest.1,
    )
