-- Places in a stream that has 2^64 of them.
use Rattle.std.proofs.Common.{◌≡◌, ℕ, zero, suc, ◌+◌, ◌%◌, ◌/◌, ◌<◌, ◌^◌, List, [], ◌∷◌, ◌++◌, length, take, set, sym, ap, subst, ◌∙◌, arith}
use Rattle.std.proofs.Math.Seq.{take-suc-set}
use Rattle.std.specs.Int.{w64, to_be_bytes}
use Rattle.sha2.specs.Sha256.{sha256}
use Rattle.ksi_replay.specs.Stream.{block, byte_of, stream, Place, further}

-- the block stays the same where the next place does not begin one
pub same_block : (t : ℕ) → t < 2 ^ 64 → ((t + 1) % 2 ^ 64 % 32 ≡ 0 → ⊥) → (t + 1) % 2 ^ 64 / 32 ≡ t / 32
same_block t lt not = omega arith

-- a place of such a stream
abbrev pub place_at : (number taken : ℕ) → Place
place_at number taken = record { number = number; places = 18446744073709551616; taken = taken }

further_none : (n t : ℕ) → t < 2 ^ 64 → further (place_at n t) 0 ≡ place_at n t
further_none n t lt = let same : (t + 0) % 18446744073709551616 ≡ t = omega (arith, lt) in ap (place_at n) same

pub further_more : (n t k : ℕ) → further (further (place_at n t) k) 1 ≡ further (place_at n t) (suc k)
further_more n t k = let same : ((t + k) % 18446744073709551616 + 1) % 18446744073709551616 ≡ (t + suc k) % 18446744073709551616 = omega arith in ap (place_at n) same

further_first : (n t k : ℕ) → further (further (place_at n t) 1) k ≡ further (place_at n t) (suc k)
further_first n t k = let same : ((t + 1) % 18446744073709551616 + k) % 18446744073709551616 ≡ (t + suc k) % 18446744073709551616 = omega arith in ap (place_at n) same

-- the byte at a place
abbrev pub byte_at : Place → ℕ
byte_at p = byte_of p.number p.taken

-- one byte more at the end
pub stream_more : (n t k : ℕ) → t < 2 ^ 64 → stream (place_at n t) (suc k) ≡ stream (place_at n t) k ++ byte_at (further (place_at n t) k) ∷ []
stream_more n t zero lt = ap (λ p. byte_at p ∷ []) (sym (further_none n t lt))
stream_more n t (suc k) lt =
    ap (λ rest. byte_of n t ∷ rest)
    (stream_more n ((t + 1) % 18446744073709551616) k (omega arith) ∙ ap (λ p. stream (further (place_at n t) 1) k ++ byte_at p ∷ []) (further_first n t k))

-- each place of such a stream is one
pub full_is : (p : Place) → p.places ≡ 2 ^ 64 → p ≡ place_at p.number p.taken
full_is p full = let at : ℕ → Place = λ places. record { number = p.number; places = places; taken = p.taken } in ap at full

-- so many bytes of the list are those of the stream, and one more
pub stream_filled : (bytes : List ℕ) (k b : ℕ) (first now : Place) → k < length bytes → first.places ≡ 2 ^ 64 → first.taken < 2 ^ 64 →
    take k bytes ≡ stream first k → now ≡ further first k → b ≡ byte_of now.number now.taken →
    take (k + 1) (set bytes k b) ≡ stream first (k + 1)
stream_filled bytes k b first now lt full early so_far place byte =
    let one : k + 1 ≡ suc k = omega arith in
    let next : b ≡ byte_at (further first k) = byte ∙ ap (λ p. byte_at p) place in
    let more : stream first (suc k) ≡ stream first k ++ byte_at (further first k) ∷ [] =
    subst (λ p. stream p (suc k) ≡ stream p k ++ byte_at (further p k) ∷ []) (sym (full_is first full)) (stream_more first.number first.taken k early) in
    subst (λ count. take count (set bytes k b) ≡ stream first count) (sym one)
    (take-suc-set bytes k b lt
    ∙ ap (λ front. front ++ b ∷ []) so_far
    ∙ ap (λ last. stream first k ++ last ∷ []) next
    ∙ sym more)

pub further_one : (first now next : Place) (k : ℕ) → first.places ≡ 2 ^ 64 → now ≡ further first k → next ≡ further now 1 → next ≡ further first (k + 1)
further_one first now next k full place behind =
    let one : k + 1 ≡ suc k = omega arith in
    let more : further (further first k) 1 ≡ further first (suc k) = subst (λ p. further (further p k) 1 ≡ further p (suc k)) (sym (full_is first full)) (further_more first.number first.taken k) in
    subst (λ count. next ≡ further first count) (sym one) (behind ∙ ap (λ p. further p 1) place ∙ more)

-- a block, by the bytes that are hashed
pub block_is : (number i : ℕ) (a b : List ℕ) → a ≡ to_be_bytes w64 number → b ≡ to_be_bytes w64 i → sha256 (107 ∷ 115 ∷ 105 ∷ (a ++ b)) ≡ block number i
unfolding block
block_is number i a b is_number is_i =
    ap (λ n. sha256 (107 ∷ 115 ∷ 105 ∷ (n ++ b))) is_number
    ∙ ap (λ k. sha256 (107 ∷ 115 ∷ 105 ∷ (to_be_bytes w64 number ++ k))) is_i
