-- Memory that is wanting behind an element is wanting behind those before it too.
use Rattle.std.proofs.Common.{◌≡◌, [], ◌∷◌, Result, Ok, Err, ℕ, refl, sym, ap, ◌∙◌}
use Rattle.ksi_tlv.specs.Walking.{PlacedTlv, Cut, Items}
use Rattle.ksi_tlv.specs.Order.{Order, one_more, walked, ◌>>=◌}
use Rattle.ksi_tlv.specs.Sequence.{IsWanting, WantsAt}
use Rattle.ksi_tlv.proofs.Both.{one_ok}

pub wanting_here : {S F : Type 0} (o : Order S F) (wants : S → PlacedTlv → Type 0) (item : Result PlacedTlv Cut) (items : Items) (s : S) → WantsAt o wants item s → IsWanting o wants (item ∷ items) s
wanting_here o wants (Err cut) items s h = absurd h
wanting_here o wants (Ok at) items s h = record { before = []; at = at; rest = items; split = refl; said = s; leads = refl; more = h.0; kind = h.1; known = h.2 }

pub wanting_behind : {S F : Type 0} (o : Order S F) (wants : S → PlacedTlv → Type 0) (item : Result PlacedTlv Cut) (items : Items) (s u : S) → one_more o item s ≡ Ok u → IsWanting o wants items u → IsWanting o wants (item ∷ items) s
wanting_behind o wants item items s u step h =
    let one = one_ok o 0 item s u step in
    record {
      before = one.0 ∷ h.before;
      at = h.at;
      rest = h.rest;
      split = ap (λ (item : Result PlacedTlv Cut). item ∷ items) one.1 ∙ ap (λ (items : Items). Ok one.0 ∷ items) h.split;
      said = h.said;
      leads = (one.2, one.3, (u, one.4, h.leads));
      more = h.more;
      kind = h.kind;
      known = h.known;
    }

pub left_on : {S F : Type 0} (o : Order S F) (end : ℕ) (item : Result PlacedTlv Cut) (items : Items) (s u : S) → one_more o item s ≡ Ok u → walked o end items u ≡ walked o end (item ∷ items) s
unfolding walked
left_on o end item items s u step = sym (ap (λ (r : Result _ _). r >>= walked o end items) step)
