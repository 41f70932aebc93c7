-- Lines of messages have at most 32,000 bytes, the most that a node reads.
use Rattle.std.proofs.Common.{◌≡◌, ◌^◌, ◌+◌, ◌<◌, ◌≤◌, ℕ, suc, List, [], ◌∷◌, length, codes, Option, Some, None, refl, arith, length-append}
use Rattle.std.specs.Prelude.{IfSome}
use Rattle.std.specs.Fmt.{decimal}
use Rattle.std.proofs.lemmas.Fmt.{length-decimal-le}
use Rattle.hex.specs.Hex.{lower_digits}
use Rattle.hex.proofs.HexLemmas.{length-encode_with}
use Rattle.ksi_aggtree.specs.Names.{IsName}
use Rattle.ksi_aggtree.specs.declared.item.Item.{Item}
use Rattle.ksi_synod.specs.declared.messages.Vote.{Vote}
use Rattle.ksi_synod.specs.declared.messages.SynodMessage.{SynodMessage}
use Rattle.ksi_synod.specs.declared.messages.SynodMessage.TheVariants as message
use Rattle.ksi_signature.specs.declared.above.Above.{Above}
use Rattle.ksi_signature.specs.Issued.{issued}
use Rattle.ksi_signature.specs.Written.{signature_text}
use Rattle.ksi_schedule.specs.Pieces.{Text}
use Rattle.ksi_schedule.specs.Printed.{hex_of, line_of, name_words, spaced}
use Rattle.ksi_corenode.specs.declared.event.CoreEvent.TheVariants as core_events
use Rattle.ksi_world.proofs.KeptOf.{Both}
use Rattle.ksi_wire.specs.Lines.{cast_words, core_words, vote_words}
use Rattle.ksi_wire.specs.Responses.{above_text, input_of}
use Rattle.ksi_laws_records.proofs.Votes.{IsCastSo, IsSaidSo}

-- how many bytes words have with a space before each
abbrev room : List Text → ℕ
room [] = 0
room (word ∷ words) = suc (length word) + room words

spaced_long : (words : List Text) → length (spaced words) ≡ room words
spaced_long [] = refl
spaced_long (word ∷ words) = omega (arith, length-append word (spaced words), spaced_long words)

line_long : (words : List Text) → length (line_of words) ≤ room words
line_long [] = omega arith
line_long (word ∷ words) = omega (arith, length-append word (spaced words), spaced_long words)

number_long : (n : ℕ) → n < 2 ^ 64 → length (decimal n) ≤ 20
number_long n h = length-decimal-le 20 n (omega arith) (omega (arith, h)) h

digest_long : (imprint : List ℕ) → Both imprint → length (hex_of imprint) ≤ 64
digest_long [] is = omega (arith, length-encode_with lower_digits [])
digest_long (b ∷ digest) is = let size : length (b ∷ digest) ≡ 33 = is.0.size in omega (arith, length-encode_with lower_digits digest, size)

name_long : (name : Option Text) → IfSome name IsName → room (name_words name) ≤ 65
name_long None is = omega arith
name_long (Some name) is = omega (arith, is.few)

pub submission_short : (from second : ℕ) (item : Item) → from < 2 ^ 64 → second < 2 ^ 64 → item.level < 2 ^ 64 → Both item.imprint → IfSome item.name IsName → length (line_of (core_words (core_events.Submission from second item))) ≤ 32000
submission_short from second item one early low is named =
    let kind : length (codes "submission") ≡ 10 = refl in
    omega (arith, line_long (core_words (core_events.Submission from second item)), kind, number_long from one, number_long second early, digest_long item.imprint is, number_long item.level low, name_long item.name named)

cast_long : (cores : ℕ) (vote : Option Vote) → IfSome vote (IsCastSo Both cores) → room (cast_words vote) ≤ 86
cast_long cores None is = omega arith
cast_long cores (Some vote) is = let b = is.0.0.1 in omega (arith, number_long vote.ballot (omega (arith, b)), digest_long vote.imprint is.1)

vote_long : (cores : ℕ) (m : SynodMessage) → IsSaidSo Both cores m → room (vote_words m) ≤ 200
vote_long cores (message.NextBallot b) is = let kind : length (codes "next") ≡ 4 = refl in omega (arith, kind, number_long b (omega (arith, is.0.1)))
vote_long cores (message.LastVote l) is = let kind : length (codes "last") ≡ 4 = refl in omega (arith, kind, number_long l.ballot (omega (arith, is.0.0.1)), cast_long cores l.vote is.1)
vote_long cores (message.BeginBallot b d) is = let kind : length (codes "begin") ≡ 5 = refl in omega (arith, kind, number_long b (omega (arith, is.0.0.1)), digest_long d is.1)
vote_long cores (message.Voted b) is = let kind : length (codes "voted") ≡ 5 = refl in omega (arith, kind, number_long b (omega (arith, is.0.1)))
vote_long cores (message.Success d) is = let kind : length (codes "success") ≡ 7 = refl in omega (arith, kind, digest_long d is)

pub vote_short : (cores from second : ℕ) (m : SynodMessage) → from < 2 ^ 64 → second < 2 ^ 64 → IsSaidSo Both cores m → length (line_of (core_words (core_events.Receive from second m))) ≤ 32000
vote_short cores from second m one early is =
    let kind : length (codes "synod") ≡ 5 = refl in
    omega (arith, line_long (core_words (core_events.Receive from second m)), kind, number_long from one, number_long second early, vote_long cores m is)

pub response_short : (second : ℕ) (above : Above) → second < 2 ^ 64 → length (signature_text (issued second (input_of above) [] above)) ≤ 10000
    → length (line_of (codes "response" ∷ decimal second ∷ above_text second above ∷ [])) ≤ 32000
response_short second above early few =
    let kind : length (codes "response") ≡ 8 = refl in
    let text = signature_text (issued second (input_of above) [] above) in
    omega (arith, line_long (codes "response" ∷ decimal second ∷ above_text second above ∷ []), kind, number_long second early, length-encode_with lower_digits text, few)
