-- What a live aggregator issues is what the aggregator of the history does, of the request with that name.
use Rattle.std.proofs.Common.{◌≡◌, ℕ, List, option_map, refl, sym, ap, ◌∙◌, Option, Some, None}
use Rattle.std.specs.Prelude.{slice_get}
use Rattle.ksi_aggtree.specs.Entries.{items_of}
use Rattle.ksi_aggtree.specs.Paths.{chain_of}
use Rattle.ksi_aggtree.specs.declared.entries.Entry.{Entry}
use Rattle.ksi_aggtree.specs.declared.item.Item.{Item}
use Rattle.ksi_aggregator.specs.Issuing.{IsIssued, IsIssuedAt}
use Rattle.ksi_aggregator.specs.Rounds.{rounds_of}
use Rattle.ksi_aggregator.specs.Rows.{RoundState}
use Rattle.ksi_aggregator.specs.Renamed.{entries_renamed, round_renamed}
use Rattle.ksi_signature.specs.Issued.{issued}
use Rattle.ksi_signature.specs.Written.{signature_text}
use Rattle.ksi_schedule.specs.Plans.{PlanState}
use Rattle.ksi_schedule.specs.declared.event.Event.{Event}
use Rattle.ksi_world.specs.Histories.{after}
use Rattle.ksi_laws_crashed.specs.Aggregators.{IsNamed, IsRoundOf, Running, rounds_named}
use Rattle.ksi_laws_crashed.proofs.Naming.{found_named}

-- what is closed under a name was closed
closed_named : (name : ℕ → ℕ) (o : Option (List Entry)) (entries : List Entry) → option_map (entries_renamed name) o ≡ Some entries → (es : List Entry) × (o ≡ Some es) × (entries_renamed name es ≡ entries)
closed_named name None entries is = absurd (cc is)
closed_named name (Some es) entries is = (es, refl, cc is)

module _ (image : List ℕ → List ℕ) (name : ℕ → ℕ) (items : (entries : List Entry) → items_of (entries_renamed name entries) ≡ items_of entries) where
  round_issues : (live history : RoundState) (number second k : ℕ) (bytes : List ℕ) → live ≡ round_renamed name history → IsIssuedAt image live number second k bytes → (x : ℕ) × (name x ≡ number) × IsIssuedAt image history x second k bytes
  round_issues live history number second k bytes same is =
      let closed = closed_named name history.closed is.entries (sym (ap (λ (r : RoundState). r.closed) same) ∙ is.answered.closed) in
      let found = found_named name closed.0 k number is.item (ap (λ (es : List Entry). slice_get es k) closed.2 ∙ is.request) in (
        found.0,
        found.1,
        record {
          entries = closed.0;
          above = is.above;
          item = is.item;
          answered = record { closed = closed.1; answered = sym (ap (λ (r : RoundState). r.answered) same) ∙ is.answered.answered };
          request = found.2;
          text = is.text ∙ ap (λ (l : List Item). signature_text (issued second is.item.imprint (chain_of image l k) is.above)) (sym (ap items_of closed.2) ∙ items closed.0);
        },
      )

-- a round of which something is issued is not forgotten
not_forgotten : (image : List ℕ → List ℕ) (forgotten : Option (List Entry)) (whole live : RoundState) (number second k : ℕ) (bytes : List ℕ) → IsRoundOf forgotten whole live → IsIssuedAt image live number second k bytes → live ≡ whole
not_forgotten image None whole live number second k bytes same is = same
not_forgotten image (Some entries) whole live number second k bytes gone is = absurd (cc (ap (λ (r : RoundState). r.answered) (sym gone.2) ∙ is.answered.answered))

pub live_issues : (image : List ℕ → List ℕ) (plan : PlanState) (events : List Event) (k : ℕ) (running : Running) (name : ℕ → ℕ) → ((entries : List Entry) → items_of (entries_renamed name entries) ≡ items_of entries)
    → IsNamed image plan events k running name → (number : ℕ) (bytes : List ℕ) → IsIssued image (rounds_of running.aggregator) number bytes
    → (x : ℕ) × (name x ≡ number) × IsIssued image ((after image plan events).rounds k) x bytes
live_issues image plan events k running name items is number bytes issues =
    let at = round_issues image name items (rounds_of running.aggregator issues.0) ((after image plan events).rounds k issues.0) number issues.0 issues.1 bytes
    (not_forgotten image (running.forgotten issues.0) (rounds_named image plan events k name issues.0) (rounds_of running.aggregator issues.0) number issues.0 issues.1 bytes (is.rounds issues.0) issues.2) issues.2 in
    (at.0, at.1, (issues.0, issues.1, at.2))
