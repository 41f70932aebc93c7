-- What is extended are bytes, over roots that are bytes.
use Rattle.std.proofs.Common.{◌≡◌, ℕ, ◌<◌, ◌≤◌, List, [], length, Ok, subst, arith}
use Rattle.std.specs.List.{AllByRecursion}
use Rattle.std.proofs.lemmas.List.Elements.{All-cons, All-replicate}
use Rattle.std.specs.Prelude.{replicate}
use Rattle.ksi_imprint.specs.Imprints.{zero_imprint}
use Rattle.ksi_tlv.specs.Spelling.{AreBytes}
use Rattle.ksi_signature.specs.Carried.{CalendarOfBytes}
use Rattle.ksi_signature.specs.Values.{Calendar}
use Rattle.ksi_signature.specs.Extended.{extended_content, extended_text}
use Rattle.ksi_verifier.specs.declared.aggregated.Aggregated.{Aggregated}
use Rattle.ksi_calendar.specs.Covered.{covered_root}
use Rattle.ksi_journal.specs.Journal.{Contents, root_at}
use Rattle.ksi_extender.specs.Checks.{◌>>◌}
use Rattle.ksi_extender.specs.Extended.{chains_in, kept_to, chain_to, record_to, fitting, extended}
use Rattle.ksi_extender.proofs.Again.{fits}
use Rattle.ksi_extender.proofs.Imprints.{second_is, root_is, links_are}
use Rattle.ksi_extender.proofs.Passing.{bind_ok, then_ok}

zero_bytes : AreBytes zero_imprint
zero_bytes = All-cons (λ b. b < 256) 1 (replicate 32 0) (omega arith) (All-replicate (λ b. b < 256) 32 0 (omega arith))

-- the law of what is extended
abbrev ExtendedBytes : Type 0
ExtendedBytes = (bytes : List ℕ) (chain : Calendar) (time : ℕ) (hash : List ℕ) → AreBytes bytes → AreBytes chain.input → CalendarOfBytes chain.links → AreBytes hash
    → length (extended_content bytes chain (record { time = time; hash = hash; references = []; repositories = [] })) ≤ 65535
    → AreBytes (extended_text bytes chain (record { time = time; hash = hash; references = []; repositories = [] }))

pub extension_bytes : ExtendedBytes → (image : List ℕ → List ℕ) (journal : Contents) → ((x : List ℕ) → AreBytes (image x)) → AllByRecursion (λ kept. AreBytes kept.root) journal.seconds
    → (bytes text : List ℕ) (p : ℕ) → AreBytes bytes → extended image journal bytes p ≡ Ok text → AreBytes text
unfolding extended
extension_bytes law image journal images roots bytes text p are e =
    let first = bind_ok (chains_in image bytes) (λ (chains : Aggregated). kept_to journal chains p >> fitting bytes (chain_to image journal chains.time p) (record_to image journal p)) text e in
    let t = first.0.time in
    let rest = then_ok (kept_to journal first.0 p) (fitting bytes (chain_to image journal t p) (record_to image journal p)) text first.2 in
    let new = fits bytes text (chain_to image journal t p) (record_to image journal p) rest.1 in
    subst AreBytes new.1 (law bytes (chain_to image journal t p) p (covered_root image (root_at journal) journal.start p) are (second_is AreBytes zero_bytes journal roots t)
    (links_are AreBytes zero_bytes journal roots image images t p) (root_is AreBytes zero_bytes journal roots image images p) new.0)
