-- The signatures that an aggregator issues.
use Rattle.std.specs.Prelude.{◌≡◌, ◌<◌, ◌^◌, ℕ, List, slice_get, Option, Some}
use Rattle.ksi_aggtree.specs.declared.item.Item.{Item}
use Rattle.ksi_aggtree.specs.declared.entries.Entry.{Entry}
use Rattle.ksi_aggtree.specs.declared.entries.Origin.TheVariants as origins
use Rattle.ksi_aggtree.specs.Paths.{chain_of}
use Rattle.ksi_aggtree.specs.Entries.{items_of}
use Rattle.ksi_signature.specs.declared.above.Above.{Above}
use Rattle.ksi_signature.specs.Issued.{issued}
use Rattle.ksi_signature.specs.Written.{signature_text}
use Rattle.ksi_aggregator.specs.declared.place.Place.{Place}
use Rattle.ksi_aggregator.specs.Rows.{RoundState}
use Rattle.ksi_aggregator.specs.Rounds.{items_in}

abbrev pub from_request : ℕ → Item → Entry
from_request number item = record { origin = origins.Request number; item = item }

-- the round is closed with these items and has this response
pub record IsAnswered (round : RoundState) (entries : List Entry) (above : Above) : Type 0 where
  pub closed : round.closed ≡ Some entries
  pub answered : round.answered ≡ Some above

-- what is issued of item k of a round, by its response
abbrev pub issued_text : (List ℕ → List ℕ) → (second : ℕ) → List Entry → (k : ℕ) → Item → Above → List ℕ
issued_text image second entries k item above = signature_text (issued second item.imprint (chain_of image (items_of entries) k) above)

-- The bytes are the signature of the request whose item is item k of the round of a second, which is closed and has a
-- response. They have the round's own chain for the item, the chains of the response, and the calendar chain from the
-- response's root.
pub record IsIssuedAt (image : List ℕ → List ℕ) (round : RoundState) (number second k : ℕ) (bytes : List ℕ) : Type 0 where
  pub entries : List Entry
  pub above : Above
  pub item : Item
  pub answered : IsAnswered round entries above
  pub request : slice_get entries k ≡ Some (from_request number item)
  pub text : bytes ≡ issued_text image second entries k item above

-- the bytes are the signature of the request
abbrev pub IsIssued : (List ℕ → List ℕ) → (ℕ → RoundState) → (number : ℕ) → List ℕ → Type 0
IsIssued image rounds number bytes = (second : ℕ) × (k : ℕ) × IsIssuedAt image (rounds second) number second k bytes

-- the request's item is not item k of a closed round that has a response
abbrev pub NotIssuedAt : RoundState → (number k : ℕ) → Type 0
NotIssuedAt round number k = (entries : List Entry) (above : Above) (item : Item) → IsAnswered round entries above → slice_get entries k ≡ Some (from_request number item) → ⊥

-- no closed round that has a response has an item of the request
abbrev pub NotIssued : (ℕ → RoundState) → ℕ → Type 0
NotIssued rounds number = (second k : ℕ) → NotIssuedAt (rounds second) number k

-- WHAT IS KEPT

-- each item of a request is found by its number
abbrev pub AreFound : (ℕ → RoundState) → (ℕ → Option Place) → Type 0
AreFound rounds found = (t k number : ℕ) (item : Item) → slice_get (items_in (rounds t)) k ≡ Some (from_request number item)
    → found number ≡ Some (record { second = t; place = k })

-- a result is in a second before 2^63
abbrev pub AreEarly : (ℕ → Option Place) → Type 0
AreEarly found = (number : ℕ) (place : Place) → found number ≡ Some place → place.second < 2 ^ 63
