-- What the element of an item says, and that the element of an item says that item.
use Rattle.std.proofs.Common.{◌≡◌, ◌⊎◌, inl, inr, ℕ, ◌+◌, ◌≤◌, true, false, cond, ◌&&◌, leb, eqb, List, [], ◌∷◌, ◌++◌, length, map, take, drop, get_or, Option, Some, None, Result, Ok, Err, refl, sym, ap, subst, ◌∙◌, arith, append_assoc, length-append}
use Rattle.std.specs.Prelude.{IfSome}
use Rattle.std.specs.List.{AllByRecursion}
use Rattle.std.proofs.lemmas.Bool.{leb-true, le-leb, eqb-true, eq-eqb, and_parts}
use Rattle.std.proofs.lemmas.List.{length-drop}
use Rattle.std.proofs.Math.Seq.{take-append_seam, drop-append_seam, get_or-append_seam}
use Rattle.ksi_imprint.specs.declared.fault.ImprintFault.{ImprintFault}
use Rattle.ksi_imprint.specs.Imprints.{IsImprint}
use Rattle.ksi_imprint.specs.Reading as imprints
use Rattle.ksi_tlv.specs.Spelling.{Tlv, FitsLong, plain}
use Rattle.ksi_tlv.specs.Walking.{PlacedTlv, placed_at}
use Rattle.ksi_aggtree.specs.declared.item.Item.{Item}
use Rattle.ksi_aggtree.specs.Rounds.{named_level, leaf_level, with_name}
use Rattle.ksi_aggtree.specs.Names.{IsName, are_name_bytes}
use Rattle.ksi_tlv.specs.declared.order.fault.OrderFault.TheVariants as orders
use Rattle.ksi_tlv.proofs.Again.{imprint_is}
use Rattle.ksi_tlv.proofs.Steps.{bind_ok, or_named_ok, if_ok, test_ok}
use Rattle.ksi_journal.specs.declared.fault.JournalFault.TheVariants as faults
use Rattle.ksi_journal.specs.Journal.{IsItem}
use Rattle.ksi_journal.specs.Elements.{named, or_named, item_of, head_in, plain_in, is_name, named_in, item_in}
use Rattle.ksi_journal.specs.Kinds.{item_kind}
use Rattle.ksi_journal.specs.Written.{element_with, item_element}
use Rattle.ksi_journal.proofs.Spelled.{Match, imprint_said}

-- the first 34 bytes of an item
record IsHead (most : ℕ) (item : Item) : Type 0 where
  imprint : IsImprint item.imprint
  low : item.level ≤ most
  unnamed : item.name ≡ None

item_of_ok : (place most level : ℕ) (bytes : List ℕ) (r : Result (List ℕ) ImprintFault) (item : Item) → imprints.imprint_at bytes ≡ r → item_of place most level r ≡ Ok item → IsHead most item
item_of_ok place most level bytes (Ok x) item e is =
    let t = test_ok (leb level most) (record { imprint = x; level = level; name = None }) (orders.Bound place) item is in
    subst (IsHead most) t.1 (record { imprint = (imprint_said bytes x e).0; low = leb-true level most t.0; unnamed = refl })
item_of_ok place most level bytes (Err fault) item e is = absurd cc

head_ok : (most : ℕ) (at : PlacedTlv) (item : Item) → head_in most at ≡ Ok item → IsHead most item
unfolding head_in
head_ok most at item e = item_of_ok at.place most (get_or at.element.body 33 0) (take 33 at.element.body) (imprints.imprint_at (take 33 at.element.body)) item refl e

-- the item is one, and its element holds no more
abbrev IsSaid : Item → PlacedTlv → Type 0
IsSaid item at = IsItem item × Match (item_element item) at

plain_item : (at : PlacedTlv) (item : Item) → length at.element.body ≡ 34 → at.element.kind ≡ 3 → IsHead 239 item → IsSaid item at
plain_item at item size kind head =
    let low = head.low in
    let imprint = head.imprint.size in
    let level : leaf_level item ≡ item.level = ap (named_level item.level) head.unnamed in (
      record { imprint = head.imprint; low = omega (arith, low, level); name = subst (λ name. IfSome name IsName) (sym head.unnamed) tt },
      subst (λ name. Match (element_with item name) at) (sym head.unnamed)
          (record { kind = sym kind; body = omega (arith, length-append item.imprint (item.level ∷ []), imprint, size) }),
    )

plain_said : (at : PlacedTlv) (item : Item) → plain_in at ≡ Ok item → at.element.kind ≡ 3 → IsSaid item at
unfolding plain_in
plain_said at item e kind =
    let t = if_ok (eqb (length at.element.body) 34) (head_in 239 at) (orders.Imprint at.place) item e in
    plain_item at item (eqb-true (length at.element.body) 34 t.0) kind (head_ok 239 at item t.1)

name_is : (name : List ℕ) → is_name name ≡ true → IsName name
name_is name e =
    let some = and_parts (leb 1 (length name) && leb (length name) 64) (are_name_bytes name) e in
    let size = and_parts (leb 1 (length name)) (leb (length name) 64) some.0 in
    record { some = leb-true 1 (length name) size.0; few = leb-true (length name) 64 size.1; each = some.1 }

named_item : (at : PlacedTlv) (head : Item) (name : List ℕ) → name ≡ drop 34 at.element.body → 34 ≤ length at.element.body → at.element.kind ≡ 7 → IsHead 238 head → IsName name → IsSaid (with_name (Some name) head) at
named_item at head name same long kind is name_is =
    let low = is.low in
    let imprint = is.imprint.size in
    let left = ap length same in (
      record { imprint = is.imprint; low = omega (arith, low); name = name_is },
      record { kind = sym kind; body = omega (arith, length-append head.imprint (head.level ∷ name), length-drop 34 at.element.body, left, imprint, long) },
    )

named_said : (at : PlacedTlv) (item : Item) → named_in at ≡ Ok item → at.element.kind ≡ 7 → IsSaid item at
unfolding named_in
named_said at item e kind =
    let long = if_ok (leb 34 (length at.element.body)) _ (faults.Imprint at.place) item e in
    let head = bind_ok (or_named (head_in 238 at)) _ item long.1 in
    let is = head_ok 238 at head.0 (or_named_ok named (head_in 238 at) head.0 head.1) in
    let t = test_ok (is_name (drop 34 at.element.body)) (with_name (Some (drop 34 at.element.body)) head.0) (faults.Name at.place) item head.2 in
    subst (λ (i : Item). IsSaid i at) t.1
    (named_item at head.0 (drop 34 at.element.body) refl (leb-true 34 (length at.element.body) long.0) kind is (name_is (drop 34 at.element.body) t.0))

pub item_said : (at : PlacedTlv) (item : Item) → item_in at ≡ Ok item → (at.element.kind ≡ 3) ⊎ (at.element.kind ≡ 7) → IsItem item × Match (item_element item) at
unfolding item_in
item_said at item e (inl three) =
    let other : eqb at.element.kind 7 ≡ false = rw three refl in
    let is : or_named (plain_in at) ≡ Ok item = subst (λ b. cond b (named_in at) (or_named (plain_in at)) ≡ Ok item) other e in
    plain_said at item (or_named_ok named (plain_in at) item is) three
item_said at item e (inr seven) =
    let same : eqb at.element.kind 7 ≡ true = rw seven refl in
    named_said at item (subst (λ b. cond b (named_in at) (or_named (plain_in at)) ≡ Ok item) same e) seven

pub item_same : (item : Item) (name : Option (List ℕ)) → item.name ≡ name → (element_with item name).kind ≡ item_kind item
item_same item None e = rw e refl
item_same item (Some name) e = rw e refl

-- ---- a written item

take_front : (x : List ℕ) (y : ℕ) (ys : List ℕ) (n : ℕ) → length x ≡ n → take n (x ++ y ∷ ys) ≡ x
take_front x y ys n is = subst (λ (n : ℕ). take n (x ++ y ∷ ys) ≡ x) is (take-append_seam x (y ∷ ys))

at_last : (x : List ℕ) (y : ℕ) (ys : List ℕ) (n : ℕ) → length x ≡ n → get_or (x ++ y ∷ ys) n 0 ≡ y
at_last x y ys n is = subst (λ (n : ℕ). get_or (x ++ y ∷ ys) n 0 ≡ y) is (get_or-append_seam x y ys 0)

drop_front : (x : List ℕ) (y : ℕ) (ys : List ℕ) (n : ℕ) → length x + 1 ≡ n → drop n (x ++ y ∷ ys) ≡ ys
drop_front x y ys n is =
    subst (λ (n : ℕ). drop n (x ++ y ∷ ys) ≡ ys) (length-append x (y ∷ []) ∙ is)
    (subst (λ (xs : List ℕ). drop (length (x ++ y ∷ [])) xs ≡ ys) (append_assoc x (y ∷ []) ys) (drop-append_seam (x ++ y ∷ []) ys))

-- the first 34 bytes
head_again : (most : ℕ) (item : Item) (ys : List ℕ) (kind place n : ℕ) → IsImprint item.imprint → item.level ≤ most
    → head_in most (placed_at place (plain kind (item.imprint ++ item.level ∷ ys)) n) ≡ Ok (record item { name = None })
unfolding head_in
head_again most item ys kind place n is low =
    rw (take_front item.imprint item.level ys 33 is.size, imprint_is item.imprint is, at_last item.imprint item.level ys 33 is.size, le-leb item.level most low) refl

plain_again : (item : Item) (place n : ℕ) → IsItem item → item.name ≡ None → item_in (placed_at place (element_with item None) n) ≡ Ok item
unfolding item_in plain_in
plain_again item place n is none =
    let size : length item.imprint ≡ 33 = is.imprint.size in
    let all : eqb (length (item.imprint ++ item.level ∷ [])) 34 ≡ true = eq-eqb _ _ (omega (arith, length-append item.imprint (item.level ∷ []), size)) in
    let low : item.level ≤ 239 = subst (λ (name : Option (List ℕ)). named_level item.level name ≤ 239) none is.low in
    rw (all, head_again 239 item [] 3 place n is.imprint low) (ap (λ (name : Option (List ℕ)). let made : Item = record item { name = name } in Ok made) (sym none))

name_test : (name : List ℕ) → IsName name → is_name name ≡ true
name_test name is =
    let some : leb 1 (length name) ≡ true = le-leb _ _ is.some in
    let few : leb (length name) 64 ≡ true = le-leb _ _ is.few in
    rw (some, few, is.each) refl

named_again : (item : Item) (name : List ℕ) (place n : ℕ) → IsItem item → item.name ≡ Some name → item_in (placed_at place (element_with item (Some name)) n) ≡ Ok item
unfolding item_in named_in
named_again item name place n is some =
    let size : length item.imprint ≡ 33 = is.imprint.size in
    let long : leb 34 (length (item.imprint ++ item.level ∷ name)) ≡ true = le-leb _ _ (omega (arith, length-append item.imprint (item.level ∷ name), size)) in
    let low : item.level ≤ 238 = (let leaf : item.level + 1 ≤ 239 = subst (λ (name : Option (List ℕ)). named_level item.level name ≤ 239) some is.low in omega (arith, leaf)) in
    let is_it : IsName name = subst (λ (name : Option (List ℕ)). IfSome name IsName) some is.name in
    rw (long, head_again 238 item name 7 place n is.imprint low, drop_front item.imprint item.level name 34 (omega (arith, size)), name_test name is_it)
    (ap (λ (name : Option (List ℕ)). let made : Item = record item { name = name } in Ok made) (sym some))

pub item_again : (item : Item) (name : Option (List ℕ)) (place n : ℕ) → IsItem item → item.name ≡ name → item_in (placed_at place (element_with item name) n) ≡ Ok item
item_again item None place n is same = plain_again item place n is same
item_again item (Some name) place n is same = named_again item name place n is same

-- ---- sizes

item_fits : (item : Item) (name : Option (List ℕ)) → IsItem item → item.name ≡ name → FitsLong (element_with item name)
item_fits item None is same = record { kind = omega arith; body = (let size = is.imprint.size in omega (arith, length-append item.imprint (item.level ∷ []), size)) }
item_fits item (Some name) is same = record {
  kind = omega arith;
  body = (let size = is.imprint.size in let is_it : IsName name = subst (λ (name : Option (List ℕ)). IfSome name IsName) same is.name in let few = is_it.few in omega (arith, length-append item.imprint (item.level ∷ name), size, few));
}

pub items_fit : (items : List Item) (more : List Tlv) → AllByRecursion IsItem items → AllByRecursion FitsLong more → AllByRecursion FitsLong (map item_element items ++ more)
items_fit [] more all rest = rest
items_fit (item ∷ items) more all rest =
    (item_fits item item.name all.0 refl, items_fit items more all.1 rest)
