-- The elements of a mirror's file in their order: the meaning of each after those before it, or its fault.
use Rattle.std.specs.Prelude.{◌<◌, IsOk, ℕ, ◌+◌, ◌-◌, ◌==◌, ◌&&◌, ◌||◌, nat_le, List, [], ◌∷◌, ◌++◌, length, Bool, true, false, Result, Ok, Err, if◌then◌else◌}
use Rattle.ksi_tlv.specs.Walking.{PlacedTlv}
use Rattle.ksi_aggtree.specs.declared.item.Item.{Item}
use Rattle.ksi_aggtree.specs.Rounds.{most_items}
use Rattle.ksi_tlv.specs.declared.order.fault.OrderFault.{OrderFault}
use Rattle.ksi_tlv.specs.declared.order.fault.OrderFault.TheVariants as orders
use Rattle.ksi_tlv.specs.Order.{Order, ◌>>=◌}
use Rattle.ksi_tlv.specs.Fields.{inside, field, done}
use Rattle.ksi_tlv.specs.Values.{number_at, time_at, imprint_at}
use Rattle.ksi_journal.specs.declared.fault.JournalFault.{JournalFault}
use Rattle.ksi_journal.specs.declared.fault.JournalFault.TheVariants as faults
use Rattle.ksi_journal.specs.Elements.{named, or_named, rises, item_in}
use Rattle.ksi_mirror.specs.declared.stage.MirrorStage.{MirrorStage}
use Rattle.ksi_mirror.specs.declared.stage.MirrorStage.TheVariants.{Start, Roots, Items, Lists, End}
use Rattle.ksi_mirror.specs.declared.sealed_list.SealedList.{SealedList}
use Rattle.ksi_mirror.specs.Mirrors.{MirrorState, highest_core}

-- The meaning of the elements so far: the place in the file at which they end, the content of the mirror then, the least
-- second of a root and of a list that may come next, the least core of a list of that second, and the list whose items
-- come, with how many are still to come.
pub record MirrorSaid : Type 0 where
  pub stage : MirrorStage
  pub mirror : MirrorState
  pub least_root : ℕ
  pub least_list : ℕ
  pub least_core : ℕ
  pub current : SealedList
  pub left : ℕ

-- the kinds that may come next: 1 start, 2 root, 9 list, 3 item, 7 item with a name, 6 end
abbrev pub kinds_next : MirrorStage → List ℕ
kinds_next Start = 1 ∷ []
kinds_next Roots = 2 ∷ 9 ∷ 6 ∷ []
kinds_next Items = 3 ∷ 7 ∷ []
kinds_next Lists = 9 ∷ 6 ∷ []
kinds_next End = []

abbrev pub is_end : MirrorStage → Bool
is_end End = true
is_end _ = false

-- ---- 1: the start, a time

abbrev pub no_list : SealedList
no_list = record { second = 0; core = 0; items = [] }

abbrev pub started : MirrorSaid → ℕ → MirrorSaid
started s t = record s { stage = Roots; mirror = record s.mirror { start = t }; least_root = t; least_list = t }

unfoldable pub start_at : MirrorSaid → PlacedTlv → Result MirrorSaid JournalFault
start_at s at = or_named (time_at at) >>= λ t. Ok (started s t)

-- ---- 2: a root: 1 its second, 2 the root

unfoldable pub root_said : ℕ → PlacedTlv → Result (ℕ × List ℕ) OrderFault
root_said least at =
    field 1 (inside at) >>= λ one. time_at one.0 >>= λ t. rises least t one.0.place >>= λ _.
    field 2 one.1 >>= λ two. imprint_at two.0 >>= λ root.
    done two.1 >>= λ _. Ok (t, root)

abbrev pub with_root : MirrorSaid → ℕ × List ℕ → MirrorSaid
with_root s one = record s { mirror = record s.mirror { roots = s.mirror.roots ++ one ∷ [] }; least_root = one.0 + 1 }

unfoldable pub root_at : MirrorSaid → PlacedTlv → Result MirrorSaid JournalFault
root_at s at = or_named (root_said s.least_root at) >>= λ one. Ok (with_root s one)

-- ---- 9: a list: 1 its second, 2 its core, 3 how many items it has

-- a core is at most 8
abbrev pub core_at : PlacedTlv → ℕ → Result ℕ OrderFault
core_at at core = if nat_le core highest_core then Ok core else Err (orders.Bound at.place)

-- the least core of a list of a second
abbrev pub core_from : (least_list least_core second : ℕ) → ℕ
core_from least_list least_core t = if t == least_list then least_core else 0

unfoldable pub list_said : (least_list least_core : ℕ) → PlacedTlv → Result (ℕ × ℕ × ℕ) OrderFault
list_said least_list least_core at =
    field 1 (inside at) >>= λ one. time_at one.0 >>= λ t. rises least_list t one.0.place >>= λ _.
    field 2 one.1 >>= λ two. number_at two.0 >>= λ n. core_at two.0 n >>= λ core. rises (core_from least_list least_core t) core two.0.place >>= λ _.
    field 3 two.1 >>= λ three. number_at three.0 >>= λ count.
    done three.1 >>= λ _. Ok (t, core, count)

-- a list has an item, and at most 65,536
abbrev pub counts : ℕ → Bool
counts n = nat_le 1 n && nat_le n most_items

abbrev pub opened : MirrorSaid → (second core count : ℕ) → MirrorSaid
opened s t core count = record s { stage = Items; current = record { second = t; core = core; items = [] }; left = count }

abbrev pub counted : MirrorSaid → (second core count : ℕ) → Result MirrorSaid JournalFault
counted s t core count = if counts count then Ok (opened s t core count) else Err (faults.Count t)

unfoldable pub list_at : MirrorSaid → PlacedTlv → Result MirrorSaid JournalFault
list_at s at = or_named (list_said s.least_list s.least_core at) >>= λ said. counted s said.0 said.1 said.2

-- ---- 3 and 7: an item, without and with a name, as in a journal

abbrev pub with_item : SealedList → Item → SealedList
with_item one item = record one { items = one.items ++ item ∷ [] }

-- a list all of whose items are there
abbrev pub closed : MirrorSaid → SealedList → MirrorSaid
closed s one = record s {
  stage = Lists;
  mirror = record s.mirror { lists = s.mirror.lists ++ one ∷ [] };
  least_list = one.second;
  least_core = one.core + 1;
  current = no_list;
  left = 0;
}

abbrev pub added : MirrorSaid → SealedList → ℕ → MirrorSaid
added s one left = if left == 0 then closed s one else record s { current = one; left = left }

unfoldable pub item_at : MirrorSaid → PlacedTlv → Result MirrorSaid JournalFault
item_at s at = item_in at >>= λ item. Ok (added s (with_item s.current item) (s.left - 1))

-- ---- 6: the end, of no content

unfoldable pub end_at : MirrorSaid → PlacedTlv → Result MirrorSaid JournalFault
end_at s at = if length at.element.body == 0 then Ok (record s { stage = End }) else Err (faults.Ends at.place)

-- ---- all

unfoldable pub element_read : MirrorSaid → PlacedTlv → Result MirrorSaid JournalFault
element_read s at =
    if at.element.kind == 1 then start_at s at
    else if at.element.kind == 2 then root_at s at
    else if at.element.kind == 9 then list_at s at
    else if at.element.kind == 3 || at.element.kind == 7 then item_at s at
    else end_at s at

-- the elements for which memory may run out: an element other than the start that has no fault
abbrev pub WantsFor : MirrorSaid → PlacedTlv → Type 0
WantsFor s at = (1 < at.element.kind) × IsOk (element_read s at)

abbrev pub mirror_order : Order MirrorSaid JournalFault
mirror_order = record {
  next = λ s. kinds_next s.stage;
  read = element_read;
  closed = λ s. is_end s.stage;
  whole = λ s. is_end s.stage;
  named = named;
}

abbrev pub nothing_yet : MirrorSaid
nothing_yet = record {
  stage = Start;
  mirror = record { start = 0; roots = []; lists = [] };
  least_root = 0;
  least_list = 0;
  least_core = 0;
  current = no_list;
  left = 0;
}
