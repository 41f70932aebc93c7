-- The elements of a front's file in their order: the meaning of each after those before it, or its fault.
use Rattle.std.specs.Prelude.{ℕ, ◌==◌, ◌<◌, ◌≤◌, ◌^◌, nat_lt, List, [], ◌∷◌, ◌++◌, Bool, true, false, Result, Ok, Err, if◌then◌else◌}
use Rattle.std.specs.List.{AllByRecursion}
use Rattle.ksi_imprint.specs.Imprints.{IsImprint}
use Rattle.ksi_tlv.specs.Walking.{PlacedTlv}
use Rattle.ksi_tlv.specs.declared.order.fault.OrderFault.{OrderFault}
use Rattle.ksi_tlv.specs.declared.order.fault.OrderFault.TheVariants as orders
use Rattle.ksi_tlv.specs.Order.{Order, ◌>>=◌}
use Rattle.ksi_tlv.specs.Values.{time_at, imprint_at}
use Rattle.ksi_tlv.specs.Format.{or_named}
use Rattle.ksi_consistency.specs.declared.fault.FrontFault.{FrontFault}
use Rattle.ksi_consistency.specs.declared.fault.FrontFault.TheVariants as faults
use Rattle.ksi_consistency.specs.declared.stage.Stage.{Stage}
use Rattle.ksi_consistency.specs.declared.stage.Stage.TheVariants.{Old, New, Imprints}

-- what a front has: both last seconds, and the imprints
pub record Contents : Type 0 where
  pub p1 : ℕ
  pub p2 : ℕ
  pub list : List (List ℕ)

-- both are below 2^63, the newer is not before the older
pub record IsBounded (p1 p2 : ℕ) : Type 0 where
  pub within : p1 ≤ p2
  pub early : p2 < 2 ^ 63

pub record IsFront (front : Contents) : Type 0 where
  pub bounded : IsBounded front.p1 front.p2
  pub imprints : AllByRecursion IsImprint front.list

-- The meaning of the elements so far: which may come next, and what the front then has. Before the newer second is read,
-- it is the least that it may be.
pub record Said : Type 0 where
  pub stage : Stage
  pub contents : Contents

-- the kinds that may come next: 1 the older second, 2 the newer one, 3 an imprint
abbrev pub kinds_next : Stage → List ℕ
kinds_next Old = 1 ∷ []
kinds_next New = 2 ∷ []
kinds_next Imprints = 3 ∷ []

-- both seconds are read
abbrev pub is_whole : Stage → Bool
is_whole Old = false
is_whole New = false
is_whole Imprints = true

-- a fault of order by its name here
abbrev pub named : OrderFault → FrontFault
named (orders.Tlv place) = faults.Tlv place
named (orders.Order place) = faults.Order place
named (orders.Ends place) = faults.Order place
named (orders.Bound place) = faults.Number place
named (orders.Imprint place) = faults.Imprint place

-- 1: the older second, a time
abbrev pub with_old : Said → ℕ → Said
with_old s p = record { stage = New; contents = record s.contents { p1 = p; p2 = p } }

unfoldable pub old_at : Said → PlacedTlv → Result Said FrontFault
old_at s at = or_named named (time_at at) >>= λ p. Ok (with_old s p)

-- 2: the newer second, a time that is not before the older
abbrev pub with_new : Said → ℕ → Said
with_new s p = record { stage = Imprints; contents = record s.contents { p2 = p } }

abbrev pub not_before : Said → ℕ → ℕ → Result Said FrontFault
not_before s place p = if nat_lt p s.contents.p1 then Err (faults.Number place) else Ok (with_new s p)

unfoldable pub new_at : Said → PlacedTlv → Result Said FrontFault
new_at s at = or_named named (time_at at) >>= not_before s at.place

-- 3: an imprint
abbrev pub with_imprint : Said → List ℕ → Said
with_imprint s x = record s { contents = record s.contents { list = s.contents.list ++ x ∷ [] } }

unfoldable pub next_at : Said → PlacedTlv → Result Said FrontFault
next_at s at = or_named named (imprint_at at) >>= λ x. Ok (with_imprint s x)

unfoldable pub element_read : Said → PlacedTlv → Result Said FrontFault
element_read s at =
    if at.element.kind == 1 then old_at s at
    else if at.element.kind == 2 then new_at s at
    else next_at s at

abbrev pub front_order : Order Said FrontFault
front_order = record {
  next = λ s. kinds_next s.stage;
  read = element_read;
  closed = λ s. false;
  whole = λ s. is_whole s.stage;
  named = named;
}

abbrev pub nothing_yet : Said
nothing_yet = record { stage = Old; contents = record { p1 = 0; p2 = 0; list = [] } }
