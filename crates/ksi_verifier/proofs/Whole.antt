-- What it means that all checks pass.
use Rattle.std.proofs.Common.{◌≡◌, ◌≢◌, ◌↔◌, ℕ, ◌<◌, not, List, [], ◌∷◌, length, Result, Ok, Err, Option, Some, None, option_map, refl, sym, ap, ◌∙◌, subst, arith}
use Rattle.std.specs.Prelude.{◌==◌, IfSome}
use Rattle.std.specs.Str.{bytes_eq}
use Rattle.ksi_imprint.specs.Imprints.{zero_imprint}
use Rattle.ksi_split.specs.declared.side.Side.{Side}
use Rattle.ksi_split.specs.declared.fault.ShapeFault.{ShapeFault}
use Rattle.ksi_split.specs.declared.tree_link.TreeLink.{TreeLink}
use Rattle.ksi_split.specs.Parts.{second_at}
use Rattle.ksi_split.specs.Trees.{climb_links}
use Rattle.ksi_split.specs.Ways.{NamesSecond}
use Rattle.ksi_aggtree.specs.Links.{PlainLink}
use Rattle.ksi_aggtree.specs.Climbing.{Climbs, climbed}
use Rattle.ksi_aggtree.specs.declared.chains.node.Node.{Node}
use Rattle.ksi_calendar.specs.Climbing.{ClimbsCalendar, calendar_join}
use Rattle.ksi_calendar.specs.Sides.{sides_from_top}
use Rattle.ksi_publications.specs.Finding.{find}
use Rattle.ksi_signature.specs.Values.{Calendar, Publishing}
use Rattle.ksi_signature.specs.declared.signature.Signature.{Signature}
use Rattle.ksi_verifier.specs.declared.aggregated.Aggregated.{Aggregated}
use Rattle.ksi_verifier.specs.declared.proved.Proved.{Proved}
use Rattle.ksi_verifier.specs.declared.refusal.Refusal.{Refusal}
use Rattle.ksi_verifier.specs.declared.refusal.Refusal.TheVariants.{WrongHash, CalendarInput, MissedSecond, CalendarShape, TimeField, RecordDiffers, PublicationDiffers}
use Rattle.ksi_verifier.specs.declared.difference.RecordDifference.TheVariants as differences
use Rattle.ksi_verifier.specs.declared.verdict.Verdict.TheVariants.{Accepted}
use Rattle.ksi_verifier.specs.Checks.{◌>>=◌, ◌>>◌, need}
use Rattle.ksi_verifier.specs.Chains.{PlainChain, plain_chains, first_chain, at_level_zero}
use Rattle.ksi_verifier.specs.ChainChecks.{chains_checked}
use Rattle.ksi_verifier.specs.Verdict.{same_hash, some_calendar, or_shape, second_named, calendar_second, same_second, chain_root, same_record, same_publication, published_checks, proved_by, calendar_checked, checked, signature_checked, or_refused, verdict}
use Rattle.ksi_verifier.specs.Accepted.{IsAggregated, IsRecord, IsAccepted, IsProved}
use Rattle.ksi_verifier.specs.Lent.{record_of}
use Rattle.ksi_verifier.proofs.Passing.{Passes, good, ok_is, bind_both, then_both, need_same, need_equal, need_other}
use Rattle.ksi_verifier.proofs.Chained.{chains_both}

-- ---- what was published

record_both : (published : Option Publishing) (time : ℕ) (root : List ℕ) → Passes (same_record (option_map record_of published) time root) ↔ IfSome published (IsRecord time root)
record_both None time root = (λ e. tt, λ h. refl)
record_both (Some published) time root =
    let time_differs = RecordDiffers (differences.Time published.time time) in
    let hash_differs = RecordDiffers (differences.Hash published.hash root) in
    let both = then_both (need (published.time == time) time_differs) (need (bytes_eq published.hash root) hash_differs) tt in
    let times = need_equal published.time time time_differs in
    let hashes = need_same published.hash root hash_differs in
    (λ e. (times.0 (both.0 e).0, hashes.0 (both.0 e).1), λ h. both.1 (times.1 h.0, hashes.1 h.1))

found_both : (found : Option (List ℕ)) (time : ℕ) (root : List ℕ) → Passes (same_publication found time root) ↔ (found ≡ Some root)
found_both None time root = (λ e. absurd cc, λ e. absurd cc)
found_both (Some hash) time root =
    let hashes = need_same hash root (PublicationDiffers time hash root) in
    (λ e. ap (λ (x : List ℕ). Some x) (hashes.0 e), λ e. (let is : hash ≡ root = cc in hashes.1 is))

-- ---- the calendar chain

pub shape_both : (r : Result ℕ ShapeFault) (t : ℕ) → (or_shape r ≡ Ok t) ↔ (r ≡ Ok t)
shape_both (Ok second) t = (λ e. let is : second ≡ t = cc in ap (λ (x : ℕ). Ok x) is, λ e. let is : second ≡ t = cc in ap (λ (x : ℕ). Ok x) is)
shape_both (Err fault) t = (λ e. absurd cc, λ e. absurd cc)

pub fault_both : (r : Result ℕ ShapeFault) (fault : ShapeFault) → (or_shape r ≡ Err (CalendarShape fault)) ↔ (r ≡ Err fault)
fault_both (Ok second) fault = (λ e. absurd cc, λ e. absurd cc)
fault_both (Err x) fault = (λ e. let is : x ≡ fault = cc in ap (λ (y : ShapeFault). Err y) is, λ e. let is : x ≡ fault = cc in ap (λ (y : ShapeFault). Err (CalendarShape y)) is)

calendar_both : (stated : Option Calendar) (calendar : Calendar) → (some_calendar stated ≡ Ok calendar) ↔ (stated ≡ Some calendar)
calendar_both None calendar = (λ e. absurd cc, λ e. absurd cc)
calendar_both (Some x) calendar = (λ e. let is : x ≡ calendar = cc in ap (λ (y : Calendar). Some y) is, λ e. let is : x ≡ calendar = cc in ap (λ (y : Calendar). Ok y) is)

refused_both : (r : Result Proved Refusal) (t : ℕ) → (or_refused r ≡ Accepted t) ↔ ((proved : Proved) × (r ≡ Ok proved) × (proved.second ≡ t))
refused_both (Ok proved) t = (
  λ e. (let is : proved.second ≡ t = cc in (proved, refl, is)),
  λ h. (let same : proved ≡ h.0 = ok_is proved h.0 h.1 in ap (λ (p : Proved). Accepted p.second) same ∙ ap (λ (x : ℕ). Accepted x) h.2),
)
refused_both (Err refusal) t = (λ e. absurd cc, λ h. absurd (let e = h.1 in cc))

named_both : (node : Node) (calendar : Calendar) (t : ℕ) → (calendar_second node calendar ≡ Ok t) ↔ ((calendar.input ≡ node.imprint) × (calendar.input ≢ zero_imprint) × (second_at calendar.publication (sides_from_top calendar.links) ≡ Ok t))
named_both node calendar t =
    let held = need (not (bytes_eq calendar.input zero_imprint)) MissedSecond in
    let both = then_both (need (bytes_eq calendar.input node.imprint) (CalendarInput node.imprint calendar.input)) (held >> second_named calendar) t in
    let rest = then_both held (second_named calendar) t in
    let inputs = need_same calendar.input node.imprint (CalendarInput node.imprint calendar.input) in
    let others = need_other calendar.input zero_imprint MissedSecond in
    let shape = shape_both (second_at calendar.publication (sides_from_top calendar.links)) t in
    (λ e. (inputs.0 (both.0 e).0, others.0 (rest.0 (both.0 e).1).0, shape.0 (rest.0 (both.0 e).1).1), λ h. both.1 (inputs.1 h.0, rest.1 (others.1 h.1, shape.1 h.2)))

times_both : (calendar_time chain_time t : ℕ) → Passes (same_second calendar_time chain_time t) ↔ ((calendar_time ≡ t) × (chain_time ≡ t))
times_both calendar_time chain_time t =
    let both = then_both (need (calendar_time == t) (TimeField calendar_time t)) (need (chain_time == t) (TimeField chain_time t)) tt in
    let first = need_equal calendar_time t (TimeField calendar_time t) in
    let second = need_equal chain_time t (TimeField chain_time t) in
    (λ e. (first.0 (both.0 e).0, second.0 (both.0 e).1), λ h. both.1 (first.1 h.0, second.1 h.1))

published_both : (published : Option Publishing) (publications : List (ℕ × List ℕ)) (time : ℕ) (root : List ℕ)
    → Passes (published_checks (option_map record_of published) publications time root) ↔ (IfSome published (IsRecord time root) × (find time publications ≡ Some root))
published_both published publications time root =
    let both = then_both (same_record (option_map record_of published) time root) (same_publication (find time publications) time root) tt in
    let records = record_both published time root in
    let found = found_both (find time publications) time root in
    (λ e. (records.0 (both.0 e).0, found.0 (both.0 e).1), λ h. both.1 (records.1 h.0, found.1 h.1))

-- what V8 to V14 say of an aggregation and a calendar chain
record GoesOn (image : List ℕ → List ℕ) (aggregation : Aggregated) (calendar : Calendar) (published : Option Publishing) (publications : List (ℕ × List ℕ)) (t : ℕ) : Type 0 where
  named : (calendar.input ≡ aggregation.node.imprint) × (calendar.input ≢ zero_imprint) × (second_at calendar.publication (sides_from_top calendar.links) ≡ Ok t)
  times : (calendar.time ≡ t) × (aggregation.time ≡ t)
  found : IfSome published (IsRecord calendar.publication (chain_root image calendar)) × (find calendar.publication publications ≡ Some (chain_root image calendar))

module _ (image : List ℕ → List ℕ) (aggregation : Aggregated) (calendar : Calendar) (published : Option Publishing) (publications : List (ℕ × List ℕ)) where
  abbrev listed : Result (Unit {0}) Refusal
  listed = published_checks (option_map record_of published) publications calendar.publication (chain_root image calendar)

  abbrev by : ℕ → Proved
  by second = proved_by image calendar second

  abbrev timed : ℕ → Result Proved Refusal
  timed second = same_second calendar.time aggregation.time second >> (listed >> good (by second))

  goes_on : (proved : Proved) → calendar_checked image aggregation calendar (option_map record_of published) publications ≡ Ok proved
      → GoesOn image aggregation calendar published publications proved.second × (by proved.second ≡ proved)
  goes_on proved e =
      let t = proved.second in
      let first = (bind_both (calendar_second aggregation.node calendar) timed proved).0 e in
      let second = first.0 in
      let rest = (then_both (same_second calendar.time aggregation.time second) (listed >> good (by second)) proved).0 first.2 in
      let last = (then_both listed (good (by second)) proved).0 rest.1 in
      let whole : by second ≡ proved = ok_is (by second) proved last.1 in
      let is : second ≡ t = ap (λ (p : Proved). p.second) whole in (
        record {
          named = (named_both aggregation.node calendar t).0 (first.1 ∙ ap good is);
          times = (times_both calendar.time aggregation.time t).0 (ap (same_second calendar.time aggregation.time) (sym is) ∙ rest.0);
          found = (published_both published publications calendar.publication (chain_root image calendar)).0 last.0;
        },
        ap by (sym is) ∙ whole,
      )

  comes_from : (t : ℕ) → GoesOn image aggregation calendar published publications t → calendar_checked image aggregation calendar (option_map record_of published) publications ≡ Ok (by t)
  comes_from t h =
      let named = (named_both aggregation.node calendar t).1 h.named in
      let times = (times_both calendar.time aggregation.time t).1 h.times in
      let last = (then_both listed (good (by t)) (by t)).1 ((published_both published publications calendar.publication (chain_root image calendar)).1 h.found, refl) in
      (bind_both (calendar_second aggregation.node calendar) timed (by t)).1 (t, named, (then_both (same_second calendar.time aggregation.time t) (listed >> good (by t)) (by t)).1 (times, last))

-- ---- V1 to V15, in the order V1 to V6, V15, V7 to V14

first_is : (image : List ℕ → List ℕ) (chains : List PlainChain) (hash : List ℕ) (time : ℕ) (node : Node) → IsAggregated image chains hash time node → (first_chain chains).input ≡ hash
first_is image [] hash time node h = absurd (let some = h.some in omega arith)
first_is image (chain ∷ chains) hash time node h = h.lead.1

some_chain : (image : List ℕ → List ℕ) (chains : List PlainChain) (aggregation : Aggregated) → chains_checked image chains ≡ Ok aggregation → aggregation.node.imprint ≢ zero_imprint → 0 < length chains
some_chain image [] aggregation e held = absurd (let is : record { time = 0; node = at_level_zero zero_imprint } ≡ aggregation = ok_is _ aggregation e in held (sym (ap (λ (a : Aggregated). a.node.imprint) is)))
some_chain image (chain ∷ chains) aggregation e held = omega arith

module _ (image : List ℕ → List ℕ) (climbs : (start top : Node) (links : List PlainLink) → (climbed image 0 start links ≡ Ok top) ↔ Climbs image start links top)
    (climbs_calendar : (start top : List ℕ) (links : List (TreeLink (List ℕ))) → ClimbsCalendar image start links top ↔ (top ≡ climb_links (calendar_join image) start links))
    (seconds : (p t : ℕ) (sides : List Side) → (second_at p sides ≡ Ok t) ↔ NamesSecond p sides t) (signature : Signature) (hash : List ℕ) (publications : List (ℕ × List ℕ)) where
  abbrev chains : List PlainChain
  chains = plain_chains signature.chains

  abbrev above : Aggregated → Calendar → Result Proved Refusal
  above aggregation calendar = calendar_checked image aggregation calendar (option_map record_of signature.publication) publications

  abbrev calendars : Aggregated → Result Proved Refusal
  calendars aggregation = some_calendar signature.calendar >>= above aggregation

  forward : (proved : Proved) → signature_checked image signature hash publications ≡ Ok proved → IsProved image signature hash publications proved
  forward proved e =
      let first = (then_both (same_hash (first_chain chains).input hash) (chains_checked image chains >>= calendars) proved).0 e in
      let hashes = (need_same (first_chain chains).input hash (WrongHash (first_chain chains).input hash)).0 first.0 in
      let linked = (bind_both (chains_checked image chains) calendars proved).0 first.1 in
      let aggregation = linked.0 in
      let stated = (bind_both (some_calendar signature.calendar) (above aggregation) proved).0 linked.2 in
      let calendar = stated.0 in
      let both = goes_on image aggregation calendar signature.publication publications proved stated.2 in
      let on = both.0 in
      let t = proved.second in
      let some = some_chain image chains aggregation linked.1 (λ zero. on.named.1 (on.named.0 ∙ zero)) in
      let agrees = (chains_both image climbs chains aggregation some).0 linked.1 in
      let accepted : IsAccepted image signature hash publications t = record {
        node = aggregation.node;
        chains = subst (λ (time : ℕ). IsAggregated image chains hash time aggregation.node) on.times.1 (subst (λ (x : List ℕ). IsAggregated image chains x aggregation.time aggregation.node) hashes agrees);
        calendar = calendar;
        has_calendar = (calendar_both signature.calendar calendar).0 stated.1;
        input = on.named.0;
        not_missed = on.named.1;
        second = (seconds calendar.publication t (sides_from_top calendar.links)).0 on.named.2;
        time = on.times.0;
        root = chain_root image calendar;
        climbs = (climbs_calendar calendar.input (chain_root image calendar) calendar.links).1 refl;
        stated = on.found.0;
        published = on.found.1;
      } in
      record { accepted = accepted; publication = ap (λ (p : Proved). p.publication) both.1; root = ap (λ (p : Proved). p.root) both.1 }

  backward : (t : ℕ) (h : IsAccepted image signature hash publications t) → signature_checked image signature hash publications ≡ Ok (proved_by image h.calendar t)
  backward t h =
      let by = proved_by image h.calendar t in
      let aggregation : Aggregated = record { time = t; node = h.node } in
      let hashes = first_is image chains hash t h.node h.chains in
      let agrees = subst (λ (x : List ℕ). IsAggregated image chains x t h.node) (sym hashes) h.chains in
      let root : h.root ≡ chain_root image h.calendar = (climbs_calendar h.calendar.input h.root h.calendar.links).0 h.climbs in
      let on : GoesOn image aggregation h.calendar signature.publication publications t = record {
        named = (h.input, h.not_missed, (seconds h.calendar.publication t (sides_from_top h.calendar.links)).1 h.second);
        times = (h.time, refl);
        found = (subst (λ (x : List ℕ). IfSome signature.publication (IsRecord h.calendar.publication x)) root h.stated, h.published ∙ ap (λ (x : List ℕ). Some x) root);
      } in
      let stated = (bind_both (some_calendar signature.calendar) (above aggregation) by).1 (h.calendar, (calendar_both signature.calendar h.calendar).1 h.has_calendar, comes_from image aggregation h.calendar signature.publication publications t on) in
      let linked = (bind_both (chains_checked image chains) calendars by).1 (aggregation, (chains_both image climbs chains aggregation h.chains.some).1 agrees, stated) in
      (then_both (same_hash (first_chain chains).input hash) (chains_checked image chains >>= calendars) by).1 ((need_same (first_chain chains).input hash (WrongHash (first_chain chains).input hash)).1 hashes, linked)

  pub proved_both : (proved : Proved) → (signature_checked image signature hash publications ≡ Ok proved) ↔ IsProved image signature hash publications proved
  proved_both proved = (
    λ e. forward proved e,
    λ h.
        let root : chain_root image h.accepted.calendar ≡ proved.root = sym ((climbs_calendar h.accepted.calendar.input h.accepted.root h.accepted.calendar.links).0 h.accepted.climbs) ∙ h.root in
        let same : proved_by image h.accepted.calendar proved.second ≡ proved = λ i. record { second = proved.second; publication = h.publication i; root = root i } in
        backward proved.second h.accepted ∙ ap good same,
  )

  pub accepted_both : (t : ℕ) → (verdict image signature hash publications ≡ Accepted t) ↔ IsAccepted image signature hash publications t
  unfolding verdict
  accepted_both t =
      let both = refused_both (signature_checked image signature hash publications) t in
      (λ e. (let h = both.0 e in subst (IsAccepted image signature hash publications) h.2 (forward h.0 h.1).accepted), λ h. both.1 (proved_by image h.calendar t, backward t h, refl))
