-- An extension depends on the roots of the seconds to the last one alone.
use Rattle.std.proofs.Common.{◌≡◌, ◌∙◌, ℕ, ◌≤◌, Bool, true, false, not, List, [], Option, Result, Ok, Err, refl, ap, nat_le, nat_lt, if◌then◌else◌}
use Rattle.std.specs.Prelude.{unwrap_or}
use Rattle.std.specs.Str.{bytes_eq}
use Rattle.std.proofs.lemmas.Bool.{leb-true}
use Rattle.ksi_imprint.specs.Imprints.{zero_imprint}
use Rattle.ksi_calendar.specs.Calendar.{Seconds, calendar_path, calendar_root}
use Rattle.ksi_calendar.specs.Covered.{Roots, covered_seconds, first_missing, second_leaf}
use Rattle.ksi_signature.specs.Values.{Calendar, Publishing}
use Rattle.ksi_verifier.specs.declared.aggregated.Aggregated.{Aggregated}
use Rattle.ksi_verifier.specs.declared.refusal.Refusal.TheVariants.{MissedSecond}
use Rattle.ksi_journal.specs.Journal.{Contents, root_at}
use Rattle.ksi_extender.specs.declared.refusal.ExtendRefusal.{ExtendRefusal}
use Rattle.ksi_extender.specs.declared.refusal.ExtendRefusal.TheVariants as refusals
use Rattle.ksi_extender.specs.Checks.{◌>>=◌, ◌>>◌, need}
use Rattle.ksi_extender.specs.Extended.{all_kept, chains_in, extended, fitting}
use Rattle.ksi_calendar_extender.specs.Kept.{journal_of}

same_next : {A : Type 0} (found : Result A ExtendRefusal) (one other : A → Result (List ℕ) ExtendRefusal) → ((x : A) → one x ≡ other x) → (found >>= one) ≡ (found >>= other)
same_next (Ok x) one other same = same x
same_next (Err refusal) one other same = refl

abbrev cut : Bool → (first second : ExtendRefusal) → Result (Unit {0}) ExtendRefusal
cut test first second = need test first >> Err second

stopped : (test : Bool) (first second : ExtendRefusal) (one other : Result (List ℕ) ExtendRefusal) → (cut test first second >> one) ≡ (cut test first second >> other)
stopped true first second one other = refl
stopped false first second one other = refl

module _ (image : List ℕ → List ℕ) (bytes : List ℕ) (p : ℕ) where
  -- what follows the chains, by two tests, the leaf of their time, the first missing second and the calendar
  abbrev by_parts : (start : ℕ) → Aggregated → (from to : Bool) → List ℕ → Option ℕ → Seconds → Result (List ℕ) ExtendRefusal
  by_parts start chains from to leaf missing seconds =
      (need (not (bytes_eq chains.node.imprint zero_imprint)) (refusals.Refused MissedSecond)
      >> (need from (refusals.BeforeStart chains.time)
      >> (need to (refusals.TooEarly chains.time p)
      >> (all_kept missing
      >> need (bytes_eq leaf chains.node.imprint) (refusals.RootDiffers chains.time leaf chains.node.imprint)))))
      >> fitting bytes (record { publication = p; time = chains.time; input = leaf; links = calendar_path image seconds chains.time p })
      (record { time = p; hash = calendar_root image seconds p; references = []; repositories = [] })

  abbrev by_roots : Roots → ℕ → Aggregated → Result (List ℕ) ExtendRefusal
  by_roots roots start chains = by_parts start chains (nat_le start chains.time) (nat_le chains.time p) (second_leaf roots start chains.time) (first_missing roots start p) (covered_seconds roots start p)

  module _ (roots others : Roots) (start : ℕ) (same : (t : ℕ) → start ≤ t → t ≤ p → roots t ≡ others t) (missing : first_missing roots start p ≡ first_missing others start p)
      (seconds : covered_seconds roots start p ≡ covered_seconds others start p) where
    roots_same : (chains : Aggregated) → by_roots roots start chains ≡ by_roots others start chains
    roots_same chains = by (nat_le start chains.time) (nat_le chains.time p) refl refl
      where
        t : ℕ
        t = chains.time

        chain_by : List ℕ → Seconds → Calendar
        chain_by leaf seconds = record { publication = p; time = t; input = leaf; links = calendar_path image seconds t p }

        record_by : Seconds → Publishing
        record_by seconds = record { time = p; hash = calendar_root image seconds p; references = []; repositories = [] }

        by : (from to : Bool) → nat_le start t ≡ from → nat_le t p ≡ to
            → by_parts start chains from to (second_leaf roots start t) (first_missing roots start p) (covered_seconds roots start p)
            ≡ by_parts start chains from to (second_leaf others start t) (first_missing others start p) (covered_seconds others start p)
        by true true from to =
            let leaf : second_leaf roots start t ≡ second_leaf others start t = ap (λ (o : Option (List ℕ)). if nat_lt t start then zero_imprint else unwrap_or o zero_imprint) (same t (leb-true start t from) (leb-true t p to)) in
            λ i. by_parts start chains true true (leaf i) (missing i) (seconds i)
        by true false from to = stopped (not (bytes_eq chains.node.imprint zero_imprint)) (refusals.Refused MissedSecond) (refusals.TooEarly t p) (fitting bytes (chain_by (second_leaf roots start t) (covered_seconds roots start p)) (record_by (covered_seconds roots start p))) (fitting bytes (chain_by (second_leaf others start t) (covered_seconds others start p)) (record_by (covered_seconds others start p)))
        by false to from e = stopped (not (bytes_eq chains.node.imprint zero_imprint)) (refusals.Refused MissedSecond) (refusals.BeforeStart t) (fitting bytes (chain_by (second_leaf roots start t) (covered_seconds roots start p)) (record_by (covered_seconds roots start p))) (fitting bytes (chain_by (second_leaf others start t) (covered_seconds others start p)) (record_by (covered_seconds others start p)))

-- over a journal that keeps the same roots an extension is the same
pub same_extension : (image : List ℕ → List ℕ) (journal : Contents) (seconds : Seconds) (bytes : List ℕ) (p : ℕ) → journal.start ≡ seconds.start
    → ((t : ℕ) → seconds.start ≤ t → t ≤ p → root_at journal t ≡ root_at (journal_of seconds) t)
    → first_missing (root_at journal) seconds.start p ≡ first_missing (root_at (journal_of seconds)) seconds.start p
    → covered_seconds (root_at journal) seconds.start p ≡ covered_seconds (root_at (journal_of seconds)) seconds.start p
    → extended image journal bytes p ≡ extended image (journal_of seconds) bytes p
unfolding extended
same_extension image journal seconds bytes p start same missing covered =
    same_next (chains_in image bytes) (by_roots image bytes p (root_at journal) journal.start) (by_roots image bytes p (root_at (journal_of seconds)) seconds.start)
    (λ chains. ap (λ (s : ℕ). by_roots image bytes p (root_at journal) s chains) start
    ∙ roots_same image bytes p (root_at journal) (root_at (journal_of seconds)) seconds.start same missing covered chains)
