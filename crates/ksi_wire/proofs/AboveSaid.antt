-- What stands above a round is read again from the word that says it.
use Rattle.std.proofs.Common.{◌≡◌, ℕ, zero, suc, ◌≤◌, ◌<◌, Bool, true, false, cond, leb, List, [], ◌∷◌, length, map, drop, Option, Some, None, Result, Ok, Err, refl, ap, subst, ◌∙◌, arith}
use Rattle.std.specs.Prelude.{◌↔◌, IfOk}
use Rattle.std.specs.List.{AllByRecursion, list_all}
use Rattle.std.proofs.lemmas.Bool.{and_parts, le-leb, leb-true}
use Rattle.std.proofs.lemmas.List.Elements.{recursion_from_All}
use Rattle.std.proofs.lemmas.List.Sums.{list_all-from_AllPass}
use Rattle.hex.specs.Hex.{IsBytes, decode_of, encode_lower, is_hex_digit}
use Rattle.hex.proofs.HexLemmas.{decode_of-encode_lower, decode_of-ok}
use Rattle.ksi_imprint.specs.declared.refused.Refused.{Refused}
use Rattle.ksi_schedule.specs.Pieces.{Text}
use Rattle.ksi_schedule.proofs.Again.{IsCleanWord}
use Rattle.ksi_schedule.proofs.Digests.{hex_lacks}
use Rattle.ksi_tlv.specs.Spelling.{AreBytes}
use Rattle.ksi_signature.specs.Above.{AreRoundLinks}
use Rattle.ksi_signature.specs.declared.above.Above.{Above}
use Rattle.ksi_signature.specs.declared.above.AboveChain.{AboveChain}
use Rattle.ksi_signature.specs.declared.fault.SignatureFault.{SignatureFault}
use Rattle.ksi_signature.specs.declared.signature.Signature.{Signature}
use Rattle.ksi_signature.specs.File.{IsSignature}
use Rattle.ksi_signature.specs.Issued.{issued, issued_chains, own_chain}
use Rattle.ksi_signature.specs.Reading.{signature_at}
use Rattle.ksi_signature.specs.Values.{Aggregation, Calendar, Publishing}
use Rattle.ksi_signature.specs.Written.{signature_text}
use Rattle.ksi_wire.specs.declared.fault.WireFault.{WireFault}
use Rattle.ksi_wire.specs.AskedAbove.{above_by, above_from, above_said, as_above, by_bytes, by_signature, has_round_links, may_stand, or_above}
use Rattle.ksi_schedule.specs.Plans.{PlanState}
use Rattle.ksi_wire.specs.Asked.{Answers, second_in}
use Rattle.ksi_wire.specs.AskedRounds.{response_in, response_of}
use Rattle.ksi_wire.specs.Responses.{above_text, input_of, IsTold}
use Rattle.ksi_wire.proofs.RoundLinks.{are_round_links_of, round_links_of}

-- bytes are read as the signature that they are
abbrev pub AreRead : Type 0
AreRead = (bytes : List ℕ) (signature : Signature) → AreBytes bytes → (signature_at bytes ≡ Ok signature) ↔ IsSignature bytes signature

each_byte : (bytes : List ℕ) → AllByRecursion (λ b. b < 256) bytes → IsBytes bytes
each_byte [] are zero = omega arith
each_byte [] are (suc i) = omega arith
each_byte (b ∷ bytes) are zero = are.0
each_byte (b ∷ bytes) are (suc i) = each_byte bytes are.1 i

hex_again : (bytes : List ℕ) → AreBytes bytes → decode_of (encode_lower bytes) ≡ Ok bytes
hex_again bytes are = decode_of-encode_lower bytes (each_byte bytes (recursion_from_All (λ b. b < 256) bytes are))

-- ---- the chains of what is issued

same_chains : (second : ℕ) (chains : List AboveChain) → map as_above (issued_chains second chains) ≡ chains
same_chains second [] = refl
same_chains second (chain ∷ chains) = ap (λ (l : List AboveChain). chain ∷ l) (same_chains second chains)

as_many : (second : ℕ) (chains : List AboveChain) → length (issued_chains second chains) ≡ length chains
as_many second [] = refl
as_many second (chain ∷ chains) = ap suc (as_many second chains)

stand : (second : ℕ) (chains : List AboveChain) → AllByRecursion (λ chain. AreRoundLinks chain.links) chains → list_all has_round_links (issued_chains second chains) ≡ true
stand second [] are = refl
stand second (chain ∷ chains) are = rw (are_round_links_of chain.links are.0, stand second chains are.1) refl

said_by_issued : (second : ℕ) (above : Above) → IsTold second above → above_from (issued second (input_of above) [] above) ≡ Some above
unfolding issued
said_by_issued second above is =
    let few : length (issued_chains second (own_chain (input_of above) [] ∷ above.chains)) ≤ 8 = omega (arith, as_many second above.chains, is.few) in
    rw (le-leb _ _ few, stand second above.chains is.links, same_chains second above.chains) refl

pub above_again : AreRead → (second : ℕ) (above : Above) → IsTold second above → above_said (above_text second above) ≡ Ok above
unfolding above_said
above_again read second above is =
    let bytes = signature_text (issued second (input_of above) [] above) in
    ap by_bytes (hex_again bytes is.bytes)
    ∙ ap by_signature ((read bytes (issued second (input_of above) [] above) is.bytes).1 is.again)
    ∙ ap or_above (said_by_issued second above is)

pub above_clean : (second : ℕ) (above : Above) → IsTold second above → IsCleanWord (above_text second above)
above_clean second above is =
    let bytes = signature_text (issued second (input_of above) [] above) in
    let ok = decode_of-ok (encode_lower bytes) bytes (hex_again bytes is.bytes) in
    let all = list_all-from_AllPass is_hex_digit (encode_lower bytes) ok.1 in
    (hex_lacks 32 (encode_lower bytes) (omega arith) all, hex_lacks 10 (encode_lower bytes) (omega arith) all)

-- ---- what is said may stand above a round

abbrev Stands : Above → Type 0
Stands above = (length above.chains ≤ 7) × AllByRecursion (λ chain. AreRoundLinks chain.links) above.chains

each_stands : (chains : List Aggregation) → list_all has_round_links chains ≡ true → AllByRecursion (λ chain. AreRoundLinks chain.links) (map as_above chains)
each_stands [] are = tt
each_stands (chain ∷ chains) are =
    let each = and_parts (has_round_links chain) (list_all has_round_links chains) are in
    (round_links_of chain.links each.0, each_stands chains each.1)

length_above : (chains : List Aggregation) → length (map as_above chains) ≡ length chains
length_above [] = refl
length_above (chain ∷ chains) = ap suc (length_above chains)

above_stand : (chains : List Aggregation) → may_stand chains ≡ true → (length (map as_above (drop 1 chains)) ≤ 7) × AllByRecursion (λ chain. AreRoundLinks chain.links) (map as_above (drop 1 chains))
above_stand [] may = (omega arith, tt)
above_stand (own ∷ chains) may =
    let each = and_parts (leb (length (own ∷ chains)) 8) (list_all has_round_links (own ∷ chains)) may in
    let few : length (own ∷ chains) ≤ 8 = leb-true _ _ each.0 in
    let all = and_parts (has_round_links own) (list_all has_round_links chains) each.1 in
    (omega (arith, length_above chains), each_stands chains all.1)

abbrev said_as : Above → Result Above WireFault
said_as above = Ok above

by_test : (chains : List Aggregation) (calendar : Calendar) (b : Bool) → may_stand chains ≡ b → (above : Above)
    → or_above (cond b (Some (record { root = calendar.input; chains = map as_above (drop 1 chains); calendar = calendar.links })) None) ≡ Ok above → Stands above
by_test chains calendar true may above is = subst Stands (same is) (above_stand chains may)
  where
    same : {one other : Above} → said_as one ≡ said_as other → one ≡ other
    same is = cc
by_test chains calendar false may above is = absurd cc

by_parts : (chains : List Aggregation) (calendar : Option Calendar) (published : Option Publishing) (above : Above) → or_above (above_by chains calendar published) ≡ Ok above → Stands above
by_parts chains None published above is = absurd cc
by_parts chains (Some calendar) (Some published) above is = absurd cc
by_parts chains (Some calendar) None above is = by_test chains calendar (may_stand chains) refl above is

by_reading : (read : Result Signature SignatureFault) (above : Above) → by_signature read ≡ Ok above → Stands above
by_reading (Ok signature) above is = by_parts signature.chains signature.calendar signature.publication above is
by_reading (Err fault) above is = absurd cc

-- what is read of the bytes of a word
pub decoded_few : (bytes : Text) (r : Result Above (Refused WireFault)) → Answers (by_signature (signature_at bytes)) r → IfOk r (λ above. length above.chains ≤ 7)
decoded_few bytes (Ok above) said = (by_reading (signature_at bytes) above said).0
decoded_few bytes (Err refusal) said = tt

pub decoded_links : (bytes : Text) (r : Result Above (Refused WireFault)) → Answers (by_signature (signature_at bytes)) r
    → IfOk r (λ above. AllByRecursion (λ chain. AreRoundLinks chain.links) above.chains)
decoded_links bytes (Ok above) said = (by_reading (signature_at bytes) above said).1
decoded_links bytes (Err refusal) said = tt

-- ---- a line of a response

pub response_read : (plan : PlanState) (ws mid rest : List Text) (second : ℕ) (word : Text) → second_in plan ws ≡ Ok (second, mid) → mid ≡ word ∷ rest → response_in plan ws ≡ response_of second word rest
response_read plan ws mid rest second word first next = rw (first, next) refl
