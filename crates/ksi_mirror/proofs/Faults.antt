-- Which faults the file of a mirror has: none of a second's tree, and none of voters.
use Rattle.std.proofs.Common.{◌≡◌, ℕ, ◌+◌, ◌-◌, ◌||◌, Bool, true, false, cond, eqb, leb, List, [], ◌∷◌, length, drop, Result, Ok, Err, refl, sym, subst, inl, inr}
use Rattle.ksi_tlv.specs.Walking.{PlacedTlv, Cut, Items}
use Rattle.ksi_tlv.specs.declared.order.fault.OrderFault.{OrderFault}
use Rattle.ksi_tlv.specs.declared.order.fault.OrderFault.TheVariants as orders
use Rattle.ksi_tlv.specs.Order.{one_more, may_stand, ◌>>=◌}
use Rattle.ksi_tlv.specs.Sequence.{StandsAt}
use Rattle.ksi_tlv.specs.Values.{time_at}
use Rattle.ksi_journal.specs.declared.fault.JournalFault.{JournalFault}
use Rattle.ksi_journal.specs.declared.fault.JournalFault.TheVariants as faults
use Rattle.ksi_journal.specs.Elements.{named, or_named, highest_named, head_in, plain_in, is_name, called, named_in, item_in}
use Rattle.ksi_mirror.specs.Elements.{MirrorSaid, kinds_next, is_end, start_at, started, root_said, root_at, with_root, list_said, list_at, counts, counted, opened, item_at, with_item, added, end_at, element_read, mirror_order}
use Rattle.ksi_mirror.specs.File.{mirror_format, IsMirrorFault}

abbrev is_of_mirror : JournalFault → Bool
is_of_mirror (faults.TreeRoot second root computed) = false
is_of_mirror (faults.Voters place) = false
is_of_mirror _ = true

-- the fault, where there is one, is such a fault
abbrev OnFault : {A : Type 0} → Result A JournalFault → Type 0
OnFault (Ok value) = Unit {0}
OnFault (Err fault) = is_of_mirror fault ≡ true

named_is : (fault : OrderFault) → is_of_mirror (named fault) ≡ true
named_is (orders.Tlv place) = refl
named_is (orders.Order place) = refl
named_is (orders.Ends place) = refl
named_is (orders.Bound place) = refl
named_is (orders.Imprint place) = refl

or_named_is : {A : Type 0} (r : Result A OrderFault) → OnFault (or_named r)
or_named_is (Ok value) = tt
or_named_is (Err fault) = named_is fault

bind_is : {A B : Type 0} (r : Result A JournalFault) (next : A → Result B JournalFault) → OnFault r → ((a : A) → OnFault (next a)) → OnFault (r >>= next)
bind_is (Ok a) next first behind = behind a
bind_is (Err fault) next first behind = first

test_is : {A : Type 0} (test : Bool) (one other : Result A JournalFault) → OnFault one → OnFault other → OnFault (cond test one other)
test_is true one other a b = a
test_is false one other a b = b

named_in_is : (at : PlacedTlv) → OnFault (named_in at)
unfolding named_in
named_in_is at =
    test_is (leb 34 (length at.element.body)) (or_named (head_in highest_named at) >>= called at.place (drop 34 at.element.body)) (Err (faults.Imprint at.place))
    (bind_is (or_named (head_in highest_named at)) (called at.place (drop 34 at.element.body)) (or_named_is (head_in highest_named at))
    (λ item. test_is (is_name (drop 34 at.element.body)) _ _ tt refl))
    refl

item_in_is : (at : PlacedTlv) → OnFault (item_in at)
unfolding item_in
item_in_is at = test_is (eqb at.element.kind 7) (named_in at) (or_named (plain_in at)) (named_in_is at) (or_named_is (plain_in at))

start_is : (s : MirrorSaid) (at : PlacedTlv) → OnFault (start_at s at)
unfolding start_at
start_is s at = bind_is (or_named (time_at at)) (λ t. Ok (started s t)) (or_named_is (time_at at)) (λ t. tt)

root_is : (s : MirrorSaid) (at : PlacedTlv) → OnFault (root_at s at)
unfolding root_at
root_is s at = bind_is (or_named (root_said s.least_root at)) (λ one. Ok (with_root s one)) (or_named_is (root_said s.least_root at)) (λ one. tt)

list_is : (s : MirrorSaid) (at : PlacedTlv) → OnFault (list_at s at)
unfolding list_at
list_is s at =
    bind_is (or_named (list_said s.least_list s.least_core at)) (λ said. counted s said.0 said.1 said.2) (or_named_is (list_said s.least_list s.least_core at))
    (λ said. test_is (counts said.2) (Ok (opened s said.0 said.1 said.2)) (Err (faults.Count said.0)) tt refl)

one_item_is : (s : MirrorSaid) (at : PlacedTlv) → OnFault (item_at s at)
unfolding item_at
one_item_is s at = bind_is (item_in at) (λ item. Ok (added s (with_item s.current item) (s.left - 1))) (item_in_is at) (λ item. tt)

end_is : (s : MirrorSaid) (at : PlacedTlv) → OnFault (end_at s at)
unfolding end_at
end_is s at = test_is (eqb (length at.element.body) 0) _ (Err (faults.Ends at.place)) tt refl

element_is : (s : MirrorSaid) (at : PlacedTlv) → OnFault (element_read s at)
unfolding element_read
element_is s at =
    test_is (eqb at.element.kind 1) (start_at s at) _ (start_is s at)
    (test_is (eqb at.element.kind 2) (root_at s at) _ (root_is s at)
    (test_is (eqb at.element.kind 9) (list_at s at) _ (list_is s at)
    (test_is (eqb at.element.kind 3 || eqb at.element.kind 7) (item_at s at) (end_at s at) (one_item_is s at) (end_is s at))))

more_is : (item : Result PlacedTlv Cut) (s : MirrorSaid) → OnFault (one_more mirror_order item s)
unfolding one_more
more_is (Err cut) s = test_is (is_end s.stage) (Err (faults.Ends cut.place)) (Err (faults.Tlv cut.place)) refl refl
more_is (Ok at) s =
    test_is (is_end s.stage) (Err (faults.Ends at.place)) _ refl
    (test_is (may_stand (kinds_next s.stage) at.element.kind) (element_read s at) (Err (faults.Order at.place)) (element_is s at) refl)

stands_is : (end : ℕ) (fault : JournalFault) (s : MirrorSaid) (items : Items) → StandsAt mirror_order end fault s items → is_of_mirror fault ≡ true
stands_is end fault s [] stands = subst (λ (f : JournalFault). is_of_mirror f ≡ true) (sym stands.1) refl
stands_is end fault s (item ∷ items) stands = subst OnFault stands (more_is item s)

fault_is : (bytes : List ℕ) (fault : JournalFault) → IsMirrorFault bytes fault → is_of_mirror fault ≡ true
unfolding mirror_format
fault_is bytes fault (inl other) = subst (λ (f : JournalFault). is_of_mirror f ≡ true) (sym other.named) refl
fault_is bytes fault (inr inside) = stands_is (8 + length inside.rest) fault inside.first.said inside.first.rest inside.first.stands

pub no_tree : (bytes : List ℕ) (second : ℕ) (root computed : List ℕ) → IsMirrorFault bytes (faults.TreeRoot second root computed) → ⊥
no_tree bytes second root computed is = let e : false ≡ true = fault_is bytes (faults.TreeRoot second root computed) is in cc e

pub no_voters : (bytes : List ℕ) (place : ℕ) → IsMirrorFault bytes (faults.Voters place) → ⊥
no_voters bytes place is = let e : false ≡ true = fault_is bytes (faults.Voters place) is in cc e
