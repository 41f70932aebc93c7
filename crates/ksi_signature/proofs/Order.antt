-- A chain's place among chains, and their order.
use Rattle.std.proofs.Common.{◌≡◌, ℕ, ◌+◌, ◌<◌, suc, Bool, true, false, cond, eqb, ltb, List, [], ◌∷◌, ◌++◌, length, refl, ap, sym, ◌∙◌, arith}
use Rattle.std.specs.Prelude.{insert}
use Rattle.std.proofs.lemmas.Bool.{eqb-true, ltb-true}
use Rattle.std.proofs.lemmas.List.{append-nil, append_assoc}
use Rattle.ksi_tlv.specs.Walking.{PlacedTlv}
use Rattle.ksi_signature.specs.Values.{Aggregation, FallFrom, Fall}
use Rattle.ksi_signature.specs.Contents.{chain_in, put_chain, chains_behind, signature_of}
use Rattle.ksi_signature.specs.Places.{place_of}
use Rattle.ksi_signature.specs.Order.{chains_among, with_parts}
use Rattle.ksi_signature.proofs.Limits.{fall_put, fall_behind}

at_test : (c x : Aggregation) (xs : List Aggregation) (b : Bool) → ltb (length x.index) (length c.index) ≡ b → insert xs (place_of (length c.index) xs) c ≡ put_chain c xs → insert (x ∷ xs) (place_of (length c.index) (x ∷ xs)) c ≡ put_chain c (x ∷ xs)
at_test c x xs true e rest = rw e refl
at_test c x xs false e rest =
    let one : 1 + place_of (length c.index) xs ≡ suc (place_of (length c.index) xs) = omega arith in
    rw (e, one) (ap (λ (rest : List Aggregation). x ∷ rest) rest)

put-insert : (c : Aggregation) (xs : List Aggregation) → insert xs (place_of (length c.index) xs) c ≡ put_chain c xs
put-insert c [] = refl
put-insert c (x ∷ xs) = at_test c x xs (ltb (length x.index) (length c.index)) refl (put-insert c xs)

pub put_at : (c : Aggregation) (new old : List Aggregation) (place parts : ℕ) → new ≡ insert old place c → place ≡ place_of parts old → parts ≡ length c.index → new ≡ put_chain c old
put_at c new old place parts is at n = is ∙ ap (λ place. insert old place c) (at ∙ ap (λ parts. place_of parts old) n) ∙ put-insert c old

-- ---- falling numbers, and equal ones as they came

none_at : (b : Bool) (parts : ℕ) (x : Aggregation) (xs : List Aggregation) → eqb (length x.index) parts ≡ b → length x.index < parts → with_parts parts xs ≡ [] → cond b (x ∷ with_parts parts xs) (with_parts parts xs) ≡ []
none_at true parts x xs is lt rest = let same = eqb-true _ _ is in absurd (omega (arith, lt, same))
none_at false parts x xs is lt rest = rest

none_above : (most parts : ℕ) (xs : List Aggregation) → FallFrom most xs → most < parts → with_parts parts xs ≡ []
none_above most parts [] fall lt = refl
none_above most parts (x ∷ xs) fall lt =
    let less : length x.index < parts = omega (arith, fall.0, lt) in
    none_at (eqb (length x.index) parts) parts x xs refl less (none_above (length x.index) parts xs fall.1 less)

-- in front of chains with fewer parts
front_at : (b : Bool) (parts : ℕ) (c x : Aggregation) (xs : List Aggregation) → eqb (length c.index) parts ≡ b → length x.index < length c.index → FallFrom (length x.index) xs
    → cond b (c ∷ with_parts parts (x ∷ xs)) (with_parts parts (x ∷ xs)) ≡ with_parts parts (x ∷ xs) ++ cond b (c ∷ []) []
front_at true parts c x xs is lt fall =
    let same = eqb-true _ _ is in
    let none = none_above (length x.index) parts (x ∷ xs) (omega arith, fall) (omega (arith, lt, same)) in
    rw none refl
front_at false parts c x xs is lt fall = sym (append-nil (with_parts parts (x ∷ xs)))

behind_at : (b : Bool) (parts : ℕ) (c x : Aggregation) (xs : List Aggregation) → with_parts parts (put_chain c xs) ≡ with_parts parts xs ++ with_parts parts (c ∷ [])
    → cond b (x ∷ with_parts parts (put_chain c xs)) (with_parts parts (put_chain c xs)) ≡ cond b (x ∷ with_parts parts xs) (with_parts parts xs) ++ with_parts parts (c ∷ [])
behind_at true parts c x xs rest = ap (λ (rest : List Aggregation). x ∷ rest) rest
behind_at false parts c x xs rest = rest

put_test : (b : Bool) (parts : ℕ) (c x : Aggregation) (xs : List Aggregation) → ltb (length x.index) (length c.index) ≡ b → FallFrom (length x.index) xs → with_parts parts (put_chain c xs) ≡ with_parts parts xs ++ with_parts parts (c ∷ [])
    → with_parts parts (cond b (c ∷ x ∷ xs) (x ∷ put_chain c xs)) ≡ with_parts parts (x ∷ xs) ++ with_parts parts (c ∷ [])
put_test true parts c x xs test fall rest = front_at (eqb (length c.index) parts) parts c x xs refl (ltb-true _ _ test) fall
put_test false parts c x xs test fall rest = behind_at (eqb (length x.index) parts) parts c x xs rest

fall_of : (most : ℕ) (xs : List Aggregation) → FallFrom most xs → Fall xs
fall_of most [] fall = tt
fall_of most (x ∷ xs) fall = fall.1

put_parts : (parts : ℕ) (c : Aggregation) (xs : List Aggregation) → Fall xs → with_parts parts (put_chain c xs) ≡ with_parts parts xs ++ with_parts parts (c ∷ [])
put_parts parts c [] fall = refl
put_parts parts c (x ∷ xs) fall =
    put_test (ltb (length x.index) (length c.index)) parts c x xs refl fall (put_parts parts c xs (fall_of (length x.index) xs fall))

snoc_at : (b : Bool) (parts : ℕ) (c : Aggregation) (xs : List Aggregation) → cond b (c ∷ []) [] ++ with_parts parts xs ≡ cond b (c ∷ with_parts parts xs) (with_parts parts xs)
snoc_at true parts c xs = refl
snoc_at false parts c xs = refl

element_at : (b : Bool) (parts : ℕ) (chains : List Aggregation) (c : Aggregation) (es : List PlacedTlv) → Fall chains
    → with_parts parts (chains_behind (put_chain c chains) es) ≡ with_parts parts (put_chain c chains) ++ with_parts parts (chains_among es)
    → with_parts parts (chains_behind chains es) ≡ with_parts parts chains ++ with_parts parts (chains_among es)
    → with_parts parts (cond b (chains_behind (put_chain c chains) es) (chains_behind chains es)) ≡ with_parts parts chains ++ with_parts parts (cond b (c ∷ chains_among es) (chains_among es))
element_at true parts chains c es fall put others =
    put ∙ ap (λ (front : List Aggregation). front ++ with_parts parts (chains_among es)) (put_parts parts c chains fall)
    ∙ append_assoc (with_parts parts chains) (with_parts parts (c ∷ [])) (with_parts parts (chains_among es))
    ∙ ap (λ (rest : List Aggregation). with_parts parts chains ++ rest) (snoc_at (eqb (length c.index) parts) parts c (chains_among es))
element_at false parts chains c es fall put others = others

parts_behind : (parts : ℕ) (chains : List Aggregation) (es : List PlacedTlv) → Fall chains → with_parts parts (chains_behind chains es) ≡ with_parts parts chains ++ with_parts parts (chains_among es)
parts_behind parts chains [] fall = sym (append-nil (with_parts parts chains))
parts_behind parts chains (at ∷ es) fall =
    element_at (eqb at.element.kind 2049) parts chains (chain_in at) es fall (parts_behind parts (put_chain (chain_in at) chains) es (fall_put (chain_in at) chains fall)) (parts_behind parts chains es fall)

pub fall_all : (es : List PlacedTlv) → Fall (signature_of es).chains
unfolding signature_of
fall_all es = fall_behind [] es tt

pub equal_parts : (parts : ℕ) (es : List PlacedTlv) → with_parts parts (signature_of es).chains ≡ with_parts parts (chains_among es)
unfolding signature_of
equal_parts parts es = parts_behind parts [] es tt
