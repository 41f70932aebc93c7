-- The elements of a journal in their order: the meaning of each after those before it, or its fault.
use Rattle.std.specs.Prelude.{◌<◌, IsOk, ℕ, ◌+◌, ◌-◌, ◌==◌, ◌&&◌, ◌||◌, nat_le, List, [], ◌∷◌, ◌++◌, length, take, drop, slice_index, Bool, true, false, Some, None, Result, Ok, Err, if◌then◌else◌}
use Rattle.std.specs.Str.{bytes_eq}
use Rattle.ksi_imprint.specs.declared.fault.ImprintFault.{ImprintFault}
use Rattle.ksi_imprint.specs.Imprints.{zero_imprint}
use Rattle.ksi_imprint.specs.Reading as imprints
use Rattle.ksi_tlv.specs.Walking.{PlacedTlv}
use Rattle.ksi_aggtree.specs.declared.item.Item.{Item}
use Rattle.ksi_aggtree.specs.Rounds.{most_items, highest_item, tree_of, with_name}
use Rattle.ksi_aggtree.specs.Names.{most_letters, are_name_bytes}
use Rattle.ksi_tlv.specs.declared.order.fault.OrderFault.{OrderFault}
use Rattle.ksi_tlv.specs.declared.order.fault.OrderFault.TheVariants as orders
use Rattle.ksi_tlv.specs.Order.{Order, ◌>>=◌}
use Rattle.ksi_tlv.specs.Fields.{Inside, inside, field, done}
use Rattle.ksi_tlv.specs.Values.{number_at, time_at, imprint_at}
use Rattle.ksi_tlv.specs.Format as formats
use Rattle.ksi_aggtree.specs.declared.second.Second.{Second}
use Rattle.ksi_journal.specs.declared.stage.Stage.{Stage}
use Rattle.ksi_journal.specs.declared.stage.Stage.TheVariants.{Start, Voters, Seconds, Items, Issued, Publications, End}
use Rattle.ksi_journal.specs.declared.version.Version.{Version}
use Rattle.ksi_journal.specs.declared.version.Version.TheVariants.{One, Two}
use Rattle.ksi_journal.specs.declared.fault.JournalFault.{JournalFault}
use Rattle.ksi_journal.specs.declared.fault.JournalFault.TheVariants as faults
use Rattle.ksi_synod.specs.declared.core_plan.VotersFrom.{VotersFrom}
use Rattle.ksi_journal.specs.Journal.{Contents}
use Rattle.ksi_journal.specs.Voters.{cores_in}

-- The meaning of the elements so far: the version of the file, the place in it at which they end, the content of the
-- journal then, the least second of voters, second, number and time that may come next, and the second whose items come,
-- with how many are still to come.
pub record Loaded : Type 0 where
  pub version : Version
  pub stage : Stage
  pub contents : Contents
  pub least_voters : ℕ
  pub least_second : ℕ
  pub least_number : ℕ
  pub least_time : ℕ
  pub current : Second
  pub left : ℕ

-- elements of version 2 only
abbrev pub in_two : Version → ℕ → List ℕ
in_two One kind = []
in_two Two kind = kind ∷ []

-- the kinds that may come next: 1 start, 2 second, 3 item, 4 issued signature, 5 publication, 6 end; and in version 2 7
-- item with a name, 8 voters
abbrev pub kinds_next : Version → Stage → List ℕ
kinds_next version Start = 1 ∷ []
kinds_next version Voters = 2 ∷ 4 ∷ 5 ∷ 6 ∷ in_two version 8
kinds_next version Seconds = 2 ∷ 4 ∷ 5 ∷ 6 ∷ []
kinds_next version Items = 3 ∷ in_two version 7
kinds_next version Issued = 4 ∷ 5 ∷ 6 ∷ []
kinds_next version Publications = 5 ∷ 6 ∷ []
kinds_next version End = []

abbrev pub is_end : Stage → Bool
is_end End = true
is_end _ = false

-- a fault of order by its name here
abbrev pub named : OrderFault → JournalFault
named (orders.Tlv place) = faults.Tlv place
named (orders.Order place) = faults.Order place
named (orders.Ends place) = faults.Ends place
named (orders.Bound place) = faults.Bound place
named (orders.Imprint place) = faults.Imprint place

abbrev pub or_named : {A : Type 0} → Result A OrderFault → Result A JournalFault
or_named r = formats.or_named named r

-- a value that rises
abbrev pub rises : ℕ → ℕ → ℕ → Result (Unit {0}) OrderFault
rises least n place = if nat_le least n then Ok tt else Err (orders.Order place)

-- ---- what several elements begin with

-- 1: a time that is at least the least, and what is then left
unfoldable pub rising : ℕ → Inside → Result (ℕ × Inside) OrderFault
rising least i = field 1 i >>= λ one. time_at one.0 >>= λ t. rises least t one.0.place >>= λ _. Ok (t, one.1)

-- after it 2: an imprint
unfoldable pub dated : ℕ → Inside → Result (ℕ × List ℕ × Inside) OrderFault
dated least i = rising least i >>= λ one. field 2 one.1 >>= λ two. imprint_at two.0 >>= λ root. Ok (one.0, root, two.1)

-- ---- 1: the start, a time

abbrev pub no_second : Second
no_second = record { second = 0; root = zero_imprint; items = [] }

abbrev pub started : Loaded → ℕ → Loaded
started s t = record s { stage = Voters; contents = record s.contents { start = t }; least_voters = t; least_second = t }

unfoldable pub start_at : Loaded → PlacedTlv → Result Loaded JournalFault
start_at s at = or_named (time_at at) >>= λ t. Ok (started s t)

-- ---- 8: voters: 1 the second from which on they vote, 2 their bits

-- one or more of the cores 0 to 8
abbrev pub voters_in : ℕ → ℕ → Result (List ℕ) JournalFault
voters_in bits place = if nat_le 1 bits && nat_le bits 511 then Ok (cores_in bits) else Err (faults.Voters place)

-- the second, the bits, their place, and the elements then left
unfoldable pub voting : ℕ → Inside → Result (ℕ × ℕ × ℕ × Inside) OrderFault
voting least i = rising least i >>= λ one. field 2 one.1 >>= λ two. number_at two.0 >>= λ bits. Ok (one.0, bits, two.0.place, two.1)

unfoldable pub voters_from : ℕ → PlacedTlv → Result VotersFrom JournalFault
voters_from least at =
    or_named (voting least (inside at)) >>= λ found. voters_in found.1 found.2 >>= λ voters.
    or_named (done found.3) >>= λ _. Ok (record { second = found.0; voters = voters })

abbrev pub with_voters : Loaded → VotersFrom → Loaded
with_voters s pair = record s {
  contents = record s.contents { voters = s.contents.voters ++ pair ∷ [] };
  least_voters = pair.second + 1;
}

unfoldable pub voters_at : Loaded → PlacedTlv → Result Loaded JournalFault
voters_at s at = voters_from s.least_voters at >>= λ pair. Ok (with_voters s pair)

-- ---- 2: a second: 1 its time, 2 its root, 3 how many items it has

-- the zero root alone has no items
abbrev pub counts : List ℕ → ℕ → Bool
counts root n = if bytes_eq root zero_imprint then n == 0 else nat_le 1 n && nat_le n most_items

-- a second all of whose items are there
abbrev pub closed : Loaded → Second → Loaded
closed s kept = record s {
  stage = Seconds;
  contents = record s.contents { seconds = s.contents.seconds ++ kept ∷ [] };
  least_second = kept.second + 1;
  current = no_second;
  left = 0;
}

-- a second of which this many items are to come
abbrev pub opened : Loaded → Second → ℕ → Loaded
opened s kept n = if n == 0 then closed s kept else record s { stage = Items; current = kept; left = n }

abbrev pub counted : Loaded → ℕ → List ℕ → ℕ → Result Loaded JournalFault
counted s t root n =
    if counts root n then Ok (opened s (record { second = t; root = root; items = [] }) n) else Err (faults.Count t)

-- what the elements inside say
unfoldable pub said_at : ℕ → PlacedTlv → Result (ℕ × List ℕ × ℕ) OrderFault
said_at least at =
    dated least (inside at) >>= λ found. field 3 found.2 >>= λ three. number_at three.0 >>= λ n.
    done three.1 >>= λ _. Ok (found.0, found.1, n)

unfoldable pub read_second : Loaded → PlacedTlv → Result Loaded JournalFault
read_second s at = or_named (said_at s.least_second at) >>= λ said. counted s said.0 said.1 said.2

-- ---- 3: an item: 34 bytes, an imprint and a level of at most 239; 7: an item with a name: 34 bytes, an imprint and a
-- level of at most 238, and then the name

abbrev pub highest_named : ℕ
highest_named = 238

abbrev pub item_of : (place most level : ℕ) → Result (List ℕ) ImprintFault → Result Item OrderFault
item_of place most level (Ok imprint) = if nat_le level most then Ok (record { imprint = imprint; level = level; name = None }) else Err (orders.Bound place)
item_of place most level (Err fault) = Err (orders.Imprint place)

-- the imprint and the level of the first 34 bytes
unfoldable pub head_in : (most : ℕ) → PlacedTlv → Result Item OrderFault
head_in most at = item_of at.place most (slice_index at.element.body 33) (imprints.imprint_at (take 33 at.element.body))

unfoldable pub plain_in : PlacedTlv → Result Item OrderFault
plain_in at = if length at.element.body == 34 then head_in highest_item at else Err (orders.Imprint at.place)

abbrev pub is_name : List ℕ → Bool
is_name bytes = nat_le 1 (length bytes) && nat_le (length bytes) most_letters && are_name_bytes bytes

abbrev pub called : (place : ℕ) → (name : List ℕ) → Item → Result Item JournalFault
called place name item = if is_name name then Ok (with_name (Some name) item) else Err (faults.Name place)

unfoldable pub named_in : PlacedTlv → Result Item JournalFault
named_in at =
    if nat_le 34 (length at.element.body)
    then or_named (head_in highest_named at) >>= called at.place (drop 34 at.element.body)
    else Err (faults.Imprint at.place)

unfoldable pub item_in : PlacedTlv → Result Item JournalFault
item_in at = if at.element.kind == 7 then named_in at else or_named (plain_in at)

abbrev pub with_item : Second → Item → Second
with_item kept item = record kept { items = kept.items ++ item ∷ [] }

-- the last item closes its second, where the tree has its root
abbrev pub finished : (List ℕ → List ℕ) → Loaded → Second → Result Loaded JournalFault
finished image s kept =
    if bytes_eq (tree_of image kept.items).imprint kept.root then Ok (closed s kept)
    else Err (faults.TreeRoot kept.second kept.root (tree_of image kept.items).imprint)

abbrev pub added : (List ℕ → List ℕ) → Loaded → Second → ℕ → Result Loaded JournalFault
added image s kept left = if left == 0 then finished image s kept else Ok (record s { current = kept; left = left })

unfoldable pub item_at : (List ℕ → List ℕ) → Loaded → PlacedTlv → Result Loaded JournalFault
item_at image s at = item_in at >>= λ item. added image s (with_item s.current item) (s.left - 1)

-- ---- 4: an issued signature: 1 the number of its request, 2 its bytes

abbrev pub short_at : PlacedTlv → Result (List ℕ) OrderFault
short_at at = if nat_le (length at.element.body) 60000 then Ok at.element.body else Err (orders.Bound at.place)

-- the number, which is at least the least, and what is then left
unfoldable pub numbered : ℕ → Inside → Result (ℕ × Inside) OrderFault
numbered least i = field 1 i >>= λ one. number_at one.0 >>= λ n. rises least n one.0.place >>= λ _. Ok (n, one.1)

unfoldable pub signature_at : ℕ → PlacedTlv → Result (ℕ × List ℕ) OrderFault
signature_at least at =
    numbered least (inside at) >>= λ one. field 2 one.1 >>= λ two. short_at two.0 >>= λ bytes.
    done two.1 >>= λ _. Ok (one.0, bytes)

abbrev pub with_issued : Loaded → ℕ × List ℕ → Loaded
with_issued s signature = record s {
  stage = Issued;
  contents = record s.contents { issued = s.contents.issued ++ signature ∷ [] };
  least_number = signature.0 + 1;
}

unfoldable pub issued_at : Loaded → PlacedTlv → Result Loaded JournalFault
issued_at s at = or_named (signature_at s.least_number at) >>= λ signature. Ok (with_issued s signature)

-- ---- 5: a publication: 1 its time, 2 the root that was published

unfoldable pub published_at : ℕ → PlacedTlv → Result (ℕ × List ℕ) OrderFault
published_at least at = dated least (inside at) >>= λ found. done found.2 >>= λ _. Ok (found.0, found.1)

abbrev pub with_publication : Loaded → ℕ × List ℕ → Loaded
with_publication s publication = record s {
  stage = Publications;
  contents = record s.contents { publications = s.contents.publications ++ publication ∷ [] };
  least_time = publication.0 + 1;
}

unfoldable pub publication_at : Loaded → PlacedTlv → Result Loaded JournalFault
publication_at s at = or_named (published_at s.least_time at) >>= λ publication. Ok (with_publication s publication)

-- ---- 6: the end, of no content

unfoldable pub end_at : Loaded → PlacedTlv → Result Loaded JournalFault
end_at s at = if length at.element.body == 0 then Ok (record s { stage = End }) else Err (faults.Ends at.place)

-- ---- all

unfoldable pub element_read : (List ℕ → List ℕ) → Loaded → PlacedTlv → Result Loaded JournalFault
element_read image s at =
    if at.element.kind == 1 then start_at s at
    else if at.element.kind == 2 then read_second s at
    else if at.element.kind == 3 || at.element.kind == 7 then item_at image s at
    else if at.element.kind == 4 then issued_at s at
    else if at.element.kind == 5 then publication_at s at
    else if at.element.kind == 8 then voters_at s at
    else end_at s at

-- the elements for which memory may run out: an element other than the start that has no fault
abbrev pub WantsFor : (List ℕ → List ℕ) → Loaded → PlacedTlv → Type 0
WantsFor image s at = (1 < at.element.kind) × IsOk (element_read image s at)

abbrev pub journal_order : (List ℕ → List ℕ) → Order Loaded JournalFault
journal_order image = record {
  next = λ s. kinds_next s.version s.stage;
  read = element_read image;
  closed = λ s. is_end s.stage;
  whole = λ s. is_end s.stage;
  named = named;
}

abbrev pub nothing_yet : Version → Loaded
nothing_yet version = record {
  version = version;
  stage = Start;
  contents = record { start = 0; voters = []; seconds = []; issued = []; publications = [] };
  least_voters = 0;
  least_second = 0;
  least_number = 0;
  least_time = 0;
  current = no_second;
  left = 0;
}
