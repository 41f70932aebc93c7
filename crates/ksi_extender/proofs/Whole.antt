-- What is extended is accepted.
use Rattle.std.proofs.Common.{◌≡◌, ◌≢◌, ℕ, ◌+◌, ◌<◌, ◌≤◌, List, [], ◌∷◌, length, Result, Ok, Err, Some, refl, sym, ap, subst, ◌∙◌, arith}
use Rattle.std.specs.Prelude.{◌↔◌}
use Rattle.std.specs.List.{AllByRecursion}
use Rattle.ksi_imprint.specs.Imprints.{zero_imprint}
use Rattle.ksi_split.specs.declared.side.Side.{Side}
use Rattle.ksi_split.specs.Ways.{IsWay, way_of}
use Rattle.ksi_calendar.specs.Climbing.{ClimbsCalendar}
use Rattle.ksi_calendar.specs.Sides.{sides_from_top}
use Rattle.ksi_calendar.specs.Calendar.{Seconds, calendar_leaf, calendar_root, calendar_path}
use Rattle.ksi_publications.specs.Finding.{find}
use Rattle.ksi_signature.specs.Values.{Aggregation, Calendar, Publishing}
use Rattle.ksi_signature.specs.declared.signature.Signature.{Signature}
use Rattle.ksi_signature.specs.File.{IsSignature}
use Rattle.ksi_signature.specs.Extended.{renewed}
use Rattle.ksi_signature.specs.Reading.{signature_at}
use Rattle.ksi_verifier.specs.declared.aggregated.Aggregated.{Aggregated}
use Rattle.ksi_verifier.specs.declared.refusal.Refusal.{Refusal}
use Rattle.ksi_verifier.specs.declared.verdict.Verdict.TheVariants.{Accepted}
use Rattle.ksi_verifier.specs.Chains.{PlainChain, plain_chains, first_chain, at_level_zero}
use Rattle.ksi_verifier.specs.ChainChecks.{aggregated, chains_checked}
use Rattle.ksi_verifier.specs.Verdict.{verdict}
use Rattle.ksi_verifier.specs.Accepted.{IsAggregated, IsAccepted}
use Rattle.ksi_calendar.specs.Covered.{Roots, covered_seconds, covered_root, covered_path, second_leaf}
use Rattle.ksi_journal.specs.Journal.{Contents, root_at}
use Rattle.ksi_extender.specs.Checks.{◌>>◌}
use Rattle.ksi_extender.specs.Extended.{or_refused, chains_in, kept_to, chain_to, record_to, fitting, extended}
use Rattle.ksi_extender.specs.Accepted.{first_time, first_input, extended_signature, AcceptedBy}
use Rattle.ksi_extender.proofs.Passing.{bind_ok, then_ok}
use Rattle.ksi_extender.proofs.Steps.{read_then}
use Rattle.ksi_extender.proofs.Kept.{IsKept, is_kept}

pub or_refused_ok : (r : Result Aggregated Refusal) (chains : Aggregated) → or_refused r ≡ Ok chains → r ≡ Ok chains
or_refused_ok (Ok x) chains e = let is : x ≡ chains = cc in ap (λ (y : Aggregated). Ok y) is
or_refused_ok (Err refusal) chains e = absurd cc

same_chains : (a b : Aggregated) → (let r : Result Aggregated Refusal = Ok a in r) ≡ Ok b → a ≡ b
same_chains a b e = cc

some_chains : (image : List ℕ → List ℕ) (list : List Aggregation) (chains : Aggregated) → chains_checked image (plain_chains list) ≡ Ok chains → chains.node.imprint ≢ zero_imprint → 0 < length list
some_chains image [] chains e some = absurd (let is : record { time = 0; node = at_level_zero zero_imprint } ≡ chains = same_chains _ chains e in some (sym (ap (λ (a : Aggregated). a.node.imprint) is)))
some_chains image (chain ∷ list) chains e some = omega arith

timed : (chains : List PlainChain) (t : ℕ) → 0 < length chains → AllByRecursion (λ chain. chain.time ≡ t) chains → (first_chain chains).time ≡ t
timed [] t some all = absurd (omega arith)
timed (chain ∷ chains) t some all = all.0

-- ---- the steps that were passed

pub record Passed (image : List ℕ → List ℕ) (journal : Contents) (bytes : List ℕ) (p : ℕ) (text : List ℕ) (signature : Signature) : Type 0 where
  pub chains : Aggregated
  pub kept : IsKept journal chains p
  pub aggregation : aggregated image signature ≡ Ok chains
  pub fits : fitting bytes (chain_to image journal chains.time p) (record_to image journal p) ≡ Ok text

pub passed : (image : List ℕ → List ℕ) (journal : Contents) (bytes : List ℕ) (p : ℕ) (text : List ℕ) (signature : Signature) → signature_at bytes ≡ Ok signature → extended image journal bytes p ≡ Ok text → Passed image journal bytes p text signature
unfolding extended
passed image journal bytes p text signature read e =
    let first = bind_ok (chains_in image bytes) (λ (chains : Aggregated). kept_to journal chains p >> fitting bytes (chain_to image journal chains.time p) (record_to image journal p)) text e in
    let chains = first.0 in
    let rest = then_ok (kept_to journal chains p) (fitting bytes (chain_to image journal chains.time p) (record_to image journal p)) text first.2 in
    record {
      chains = chains;
      kept = is_kept journal chains p rest.0;
      aggregation = or_refused_ok (aggregated image signature) chains (read_then image bytes signature read ∙ first.1);
      fits = rest.1;
    }

module _ (image : List ℕ → List ℕ)
    (aggregation : (signature : Signature) (chains : Aggregated) → 0 < length signature.chains → (aggregated image signature ≡ Ok chains) ↔ IsAggregated image (plain_chains signature.chains) (first_input signature) chains.time chains.node) where
  pub is_aggregated : (signature : Signature) (chains : Aggregated) → aggregated image signature ≡ Ok chains → chains.node.imprint ≢ zero_imprint → IsAggregated image (plain_chains signature.chains) (first_input signature) chains.time chains.node
  is_aggregated signature chains e some = (aggregation signature chains (some_chains image signature.chains chains e some)).0 e

  -- the chains' time is that of the first
  pub is_time : (signature : Signature) (chains : Aggregated) → aggregated image signature ≡ Ok chains → chains.node.imprint ≢ zero_imprint → first_time signature ≡ chains.time
  is_time signature chains e some = let is = is_aggregated signature chains e some in timed (plain_chains signature.chains) chains.time is.some is.times

  -- what is read again is the signature extended
  pub read_again : (journal : Contents) (bytes text : List ℕ) (p : ℕ) (chains : Aggregated) (chain : Calendar) (published : Publishing) (signature : Signature) → signature_at bytes ≡ Ok signature → chains_in image bytes ≡ Ok chains
      → chains.node.imprint ≢ zero_imprint → chain ≡ chain_to image journal chains.time p → published ≡ record_to image journal p → IsSignature text (renewed signature chain published) → IsSignature text (extended_signature image journal signature p)
  read_again journal bytes text p chains chain published signature read are some chain_is published_is again =
      let joined = or_refused_ok (aggregated image signature) chains (read_then image bytes signature read ∙ are) in
      let time = is_time signature chains joined some in
      subst (IsSignature text)
      (ap (λ (c : Calendar). renewed signature c published) (chain_is ∙ ap (λ (t : ℕ). chain_to image journal t p) (sym time))
      ∙ ap (λ (r : Publishing). renewed signature (chain_to image journal (first_time signature) p) r) published_is)
      again

  module _ (accepted : (signature : Signature) (hash : List ℕ) (publications : List (ℕ × List ℕ)) (t : ℕ) → (verdict image signature hash publications ≡ Accepted t) ↔ IsAccepted image signature hash publications t)
      (climbs : (seconds : Seconds) (t p : ℕ) → t ≤ p → ClimbsCalendar image (calendar_leaf seconds t) (calendar_path image seconds t p) (calendar_root image seconds p))
      (sides : (seconds : Seconds) (t p : ℕ) → sides_from_top (calendar_path image seconds t p) ≡ way_of t (p + 1))
      (ways : (t n : ℕ) (sides : List Side) → IsWay t n sides ↔ ((t < n) × (sides ≡ way_of t n)))
      (leaves : (roots : Roots) (start last t : ℕ) → t ≤ last → calendar_leaf (covered_seconds roots start last) t ≡ second_leaf roots start t)
      (journal : Contents) where
    is_accepted : (bytes : List ℕ) (p : ℕ) (text : List ℕ) (signature : Signature) (publications : List (ℕ × List ℕ)) → Passed image journal bytes p text signature
        → find p publications ≡ Some (covered_root image (root_at journal) journal.start p) → IsAccepted image (extended_signature image journal signature p) (first_input signature) publications (first_time signature)
    is_accepted bytes p text signature publications h found =
        let t = first_time signature in
        let time = is_time signature h.chains h.aggregation h.kept.some in
        let to : t ≤ p = subst (λ (t : ℕ). t ≤ p) (sym time) h.kept.to in
        let seconds = covered_seconds (root_at journal) journal.start p in
        let input : second_leaf (root_at journal) journal.start t ≡ h.chains.node.imprint = ap (second_leaf (root_at journal) journal.start) time ∙ h.kept.root in
        record {
          node = h.chains.node;
          chains = subst (λ (time : ℕ). IsAggregated image (plain_chains signature.chains) (first_input signature) time h.chains.node) (sym time) (is_aggregated signature h.chains h.aggregation h.kept.some);
          calendar = chain_to image journal t p;
          has_calendar = refl;
          input = input;
          not_missed = λ zero. h.kept.some (sym input ∙ zero);
          second = record { within = to; way = (ways t (p + 1) (sides_from_top (covered_path image (root_at journal) journal.start t p))).1 (omega (arith, to), sides seconds t p) };
          time = refl;
          root = covered_root image (root_at journal) journal.start p;
          climbs = subst (λ (leaf : List ℕ). ClimbsCalendar image leaf (covered_path image (root_at journal) journal.start t p) (covered_root image (root_at journal) journal.start p)) (leaves (root_at journal) journal.start p t to) (climbs seconds t p to);
          stated = (refl, refl);
          published = found;
        }

    pub accepted_by : (bytes : List ℕ) (p : ℕ) (text : List ℕ) (signature : Signature) → signature_at bytes ≡ Ok signature → extended image journal bytes p ≡ Ok text → (publications : List (ℕ × List ℕ)) → AcceptedBy image journal signature p publications
    accepted_by bytes p text signature read e publications =
        λ found. (accepted (extended_signature image journal signature p) (first_input signature) publications (first_time signature)).1 (is_accepted bytes p text signature publications (passed image journal bytes p text signature read e) found)
