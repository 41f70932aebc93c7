-- Where the records of a file end.
use Rattle.std.proofs.Common.{◌≡◌, ℕ, zero, suc, ◌+◌, List, length, drop, arith, length-append}
use Rattle.ksi_disk.specs.declared.front.Front.{Front}
use Rattle.ksi_disk.specs.declared.front.Front.TheVariants as front
use Rattle.ksi_disk.specs.Gates.{front_at, record_text, records_text, Reading, reading_after, reading_within, reading_at, reading_of, place_of}

after_front : (others : ℕ → List ℕ → Reading) (place : ℕ) (bytes : List ℕ) (f : Front) → ((next : ℕ) (rest : List ℕ) → next + length (records_text (others next rest).records) ≡ place_of (others next rest).ending)
    → place + length (records_text (reading_after others place bytes f).records) ≡ place_of (reading_after others place bytes f).ending
after_front others place bytes front.Closed deeper = omega arith
after_front others place bytes front.Broken deeper = omega arith
after_front others place bytes (front.Whole content) deeper =
    let next = place + (5 + length content) in
    let rest = drop (5 + length content) bytes in
    omega (arith, deeper next rest, length-append (record_text content) (records_text (others next rest).records))

end_within : (n place : ℕ) (bytes : List ℕ) → place + length (records_text (reading_within n place bytes).records) ≡ place_of (reading_within n place bytes).ending
end_within zero place bytes = omega arith
end_within (suc n) place bytes = after_front (reading_within n) place bytes (front_at bytes) (end_within n)

end_at : (place : ℕ) (bytes : List ℕ) → place + length (records_text (reading_at place bytes).records) ≡ place_of (reading_at place bytes).ending
unfolding reading_at
end_at place bytes = end_within (suc (length bytes)) place bytes

pub records_end : (from : ℕ) (file : List ℕ) → from + length (records_text (reading_of from file).records) ≡ place_of (reading_of from file).ending
records_end from file = end_at from (drop from file)
