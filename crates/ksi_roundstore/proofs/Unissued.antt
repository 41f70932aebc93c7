-- Signatures that an aggregator still issues after it forgot rounds, and those that it does not.
use Rattle.std.proofs.Common.{◌≡◌, ◌∙◌, ◌⊎◌, ℕ, List, Option, Some, slice_get, sym, ap, subst, inl, inr}
use Rattle.std.specs.Prelude.{unwrap_or}
use Rattle.ksi_aggtree.specs.declared.entries.Entry.{Entry}
use Rattle.ksi_aggtree.specs.declared.item.Item.{Item}
use Rattle.ksi_signature.specs.declared.above.Above.{Above}
use Rattle.ksi_aggregator.specs.Issuing.{from_request, IsAnswered, IsIssuedAt, NotIssued}
use Rattle.ksi_aggregator.specs.Lawful.{AreApart}
use Rattle.ksi_aggregator.specs.Rounds.{items_in}
use Rattle.ksi_aggregator.specs.Rows.{RoundState}
use Rattle.ksi_roundstore.specs.Forgotten.{AreForgotten, closed_empty, IsGone}

pub stays_issued : (image : List ℕ → List ℕ) (before : ℕ) (rounds forgot : ℕ → RoundState) (number second k : ℕ) (bytes : List ℕ) → AreForgotten before rounds forgot → IsIssuedAt image (rounds second) number second k bytes
    → IsIssuedAt image (forgot second) number second k bytes ⊎ IsGone before second (rounds second) (forgot second)
stays_issued image before rounds forgot number second k bytes are issued = elim (are second) [
  | inl same ↦ inl (subst (λ (r : RoundState). IsIssuedAt image r number second k bytes) (sym same) issued)
  | inr gone ↦ inr gone
]

-- a round that is gone has no response
no_response : (round : RoundState) (entries : List Entry) (above : Above) → round ≡ closed_empty → IsAnswered round entries above → ⊥
no_response round entries above empty is = absurd (cc (ap (λ (r : RoundState). r.answered) (sym empty) ∙ is.answered))

pub gone_issues_nothing : (before : ℕ) (rounds forgot : ℕ → RoundState) (number second k : ℕ) (item : Item) → AreForgotten before rounds forgot → AreApart (λ t. items_in (rounds t))
    → IsGone before second (rounds second) (forgot second) → slice_get (items_in (rounds second)) k ≡ Some (from_request number item) → NotIssued forgot number
gone_issues_nothing before rounds forgot number second k item are apart gone at = λ t j entries above other is there.
    by t j entries above other (are t) is there
  where
    by : (t j : ℕ) (entries : List Entry) (above : Above) (other : Item) → (forgot t ≡ rounds t) ⊎ IsGone before t (rounds t) (forgot t) → IsAnswered (forgot t) entries above
        → slice_get entries j ≡ Some (from_request number other) → ⊥
    by t j entries above other (inr empty) is there = no_response (forgot t) entries above empty.empty is
    by t j entries above other (inl same) is there =
        let closed : (rounds t).closed ≡ Some entries = ap (λ (r : RoundState). r.closed) (sym same) ∙ is.closed in
        let here : slice_get (items_in (rounds t)) j ≡ Some (from_request number other) = ap (λ (o : Option (List Entry)). slice_get (unwrap_or o (rounds t).open_items) j) closed ∙ there in
        let one : second ≡ t = (apart number second k t j item other at here).0 in
        no_response (forgot t) entries above (subst (λ (u : ℕ). forgot u ≡ closed_empty) one gone.empty) is
