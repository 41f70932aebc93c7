-- What a history has decided and issued.
use Rattle.std.specs.Prelude.{◌≡◌, ℕ, zero, suc, ◌^◌, Bool, false, ◌==◌, if◌then◌else◌, List, [], ◌∷◌, length, slice_get, Option, Some, None, option_map, unwrap_or}
use Rattle.std.specs.Str.{bytes_eq}
use Rattle.ksi_imprint.specs.Imprints.{zero_imprint}
use Rattle.ksi_aggtree.specs.declared.item.Item.{Item}
use Rattle.ksi_aggtree.specs.declared.entries.Entry.{Entry}
use Rattle.ksi_aggtree.specs.declared.entries.Origin.{Origin}
use Rattle.ksi_aggtree.specs.declared.entries.Origin.TheVariants as origins
use Rattle.ksi_aggtree.specs.Entries.{items_of, candidate_of}
use Rattle.ksi_calendar.specs.Covered.{Roots}
use Rattle.ksi_signature.specs.declared.above.Above.{Above}
use Rattle.ksi_aggregator.specs.Issuing.{IsIssued, NotIssued, issued_text}
use Rattle.ksi_schedule.specs.Plans.{PlanState}
use Rattle.ksi_aggtree.specs.declared.second.Second.{Second}
use Rattle.ksi_world.specs.declared.outcome.Asked.{Asked}
use Rattle.ksi_world.specs.Histories.{WorldState, held_in}

abbrev pub or_else : {A : Type 0} → Option A → Option A → Option A
or_else None later = later
or_else (Some x) later = Some x

-- what the lowest of n cores from this one on has that has something
abbrev pub lowest : {A : Type 0} → (ℕ → Option A) → (core n : ℕ) → Option A
lowest of_core core zero = None
lowest of_core core (suc n) = or_else (of_core core) (lowest of_core (suc core) n)

-- DECIDED SECONDS

-- the root that the lowest core holds that holds one
abbrev pub kept_root : PlanState → WorldState → Roots
kept_root plan w t = lowest (λ core. held_in w core t) 0 plan.cores

abbrev pub kept_before : Option Second → List Second → List Second
kept_before None later = later
kept_before (Some kept) later = kept ∷ later

-- of n seconds from this one on those that are kept, rising
abbrev pub kept_among : (ℕ → Option Second) → (second n : ℕ) → List Second
kept_among kept t zero = []
kept_among kept t (suc n) = kept_before (kept t) (kept_among kept (suc t) n)

abbrev pub kept_with : (second : ℕ) → (root : List ℕ) → (items : List Item) → Second
kept_with t root items = record { second = t; root = root; items = items }

module _ (image : List ℕ → List ℕ) where
  -- the sealed items, where their imprint is the root
  abbrev pub sealed_as : (root : List ℕ) → (sealed : Option (List Entry)) → Option (List Item)
  sealed_as root None = None
  sealed_as root (Some entries) = if bytes_eq (candidate_of image entries) root then Some (items_of entries) else None

  -- those of the lowest core whose candidate the root is; none for the zero imprint
  abbrev pub kept_items : PlanState → WorldState → (second : ℕ) → (root : List ℕ) → List Item
  kept_items plan w t root = if bytes_eq root zero_imprint then [] else unwrap_or (lowest (λ core. sealed_as root (w.seconds core t).sealed) 0 plan.cores) []

  -- a decided second: its root, and the items of its tree
  abbrev pub kept_at : PlanState → WorldState → (second : ℕ) → Option Second
  kept_at plan w t = option_map (λ root. kept_with t root (kept_items plan w t root)) (kept_root plan w t)

  -- all decided seconds, rising
  unfoldable pub kept_seconds : PlanState → WorldState → List Second
  kept_seconds plan w = kept_among (kept_at plan w) plan.start (2 ^ 24)

-- ISSUED SIGNATURES

-- the origin is the request of this number
abbrev pub is_request : (number : ℕ) → Origin → Bool
is_request number (origins.Request n) = n == number
is_request number (origins.Aggregator from) = false

-- the request's item with its place, where they are counted from this one on
abbrev pub placed_from : (number place : ℕ) → List Entry → Option (ℕ × Item)
placed_from number place [] = None
placed_from number place (entry ∷ entries) = if is_request number entry.origin then Some (place, entry.item) else placed_from number (suc place) entries

abbrev pub issued_before : (number : ℕ) → Option (List ℕ) → List (ℕ × List ℕ) → List (ℕ × List ℕ)
issued_before number None later = later
issued_before number (Some text) later = (number, text) ∷ later

module _ (image : List ℕ → List ℕ) where
  -- the signature of the request's item, where the round is closed, has a response and has such an item
  abbrev pub issued_where : (second number : ℕ) → (closed : Option (List Entry)) → (answered : Option Above) → Option (List ℕ)
  issued_where second number None answered = None
  issued_where second number (Some entries) None = None
  issued_where second number (Some entries) (Some above) =
      option_map (λ (placed : ℕ × Item). issued_text image second entries placed.0 placed.1 above) (placed_from number 0 entries)

  -- by the round of the aggregator that took it, of its second
  abbrev pub issued_for : WorldState → (number : ℕ) → Option Asked → Option (List ℕ)
  issued_for w number None = None
  issued_for w number (Some asked) = issued_where asked.second number (w.rounds asked.aggregator asked.second).closed (w.rounds asked.aggregator asked.second).answered

  -- the signature that is issued of the accepted request of this number
  unfoldable pub issued_of : WorldState → (number : ℕ) → Option (List ℕ)
  issued_of w number = issued_for w number (slice_get w.requests number)

  -- of n requests from this number on those that have a signature, with it
  abbrev pub issued_among : WorldState → (number n : ℕ) → List (ℕ × List ℕ)
  issued_among w number zero = []
  issued_among w number (suc n) = issued_before number (issued_of w number) (issued_among w (suc number) n)

  -- all issued signatures, each after the number of its request, rising
  unfoldable pub issued_all : WorldState → List (ℕ × List ℕ)
  issued_all w = issued_among w 0 (length w.requests)

  -- the bytes are the signature of the request of this number, issued by the aggregator that took it
  pub record IsIssuedOf (w : WorldState) (number : ℕ) (bytes : List ℕ) : Type 0 where
    pub asked : Asked
    pub accepted : slice_get w.requests number ≡ Some asked
    pub issued : IsIssued image (w.rounds asked.aggregator) number bytes

-- nothing is issued of the request of this number
abbrev pub NotIssuedOf : WorldState → (number : ℕ) → Type 0
NotIssuedOf w number = (asked : Asked) → slice_get w.requests number ≡ Some asked → NotIssued (w.rounds asked.aggregator) number
