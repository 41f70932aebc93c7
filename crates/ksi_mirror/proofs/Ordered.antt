-- The elements of a mirror's file stand for what it has, one for one and in its order, and that is a mirror.
use Rattle.std.proofs.Common.{◌≡◌, ℕ, zero, suc, ◌+◌, ◌-◌, ◌^◌, ◌<◌, ◌≤◌, Bool, true, false, cond, ◌||◌, leb, eqb, List, [], ◌∷◌, ◌++◌, length, map, Result, Ok, inl, inr, ◌⊎◌, refl, sym, ap, subst, ◌∙◌, arith, append_assoc, append-nil, length-append}
use Rattle.std.specs.List.{AllByRecursion}
use Rattle.std.proofs.lemmas.Bool.{leb-true, and_parts}
use Rattle.std.proofs.lemmas.List.{map-append}
use Rattle.ksi_tlv.specs.Walking.{PlacedTlv}
use Rattle.ksi_aggtree.specs.declared.item.Item.{Item}
use Rattle.ksi_tlv.specs.Order.{may_stand}
use Rattle.ksi_tlv.specs.Values.{time_at}
use Rattle.ksi_tlv.specs.Kinds.{kinds_of}
use Rattle.ksi_tlv.proofs.Steps.{Bounded, bind_ok, or_named_ok, ok_is, test_ok, any_kind, all_more, kinds_more, leads_keep, file_kinds}
use Rattle.ksi_journal.specs.declared.fault.JournalFault.{JournalFault}
use Rattle.ksi_journal.specs.declared.fault.JournalFault.TheVariants as faults
use Rattle.ksi_journal.specs.Journal.{IsItem}
use Rattle.ksi_journal.specs.Elements.{named, or_named, item_in}
use Rattle.ksi_journal.specs.Kinds.{item_kind}
use Rattle.ksi_journal.proofs.Rising.{Rises, rises_more}
use Rattle.ksi_journal.proofs.Items.{item_said, item_same}
use Rattle.ksi_mirror.specs.declared.stage.MirrorStage.{MirrorStage}
use Rattle.ksi_mirror.specs.declared.stage.MirrorStage.TheVariants as stages
use Rattle.ksi_mirror.specs.declared.sealed_list.SealedList.{SealedList}
use Rattle.ksi_mirror.specs.Mirrors.{MirrorState, rank_at, rank, IsRoot, IsList, IsMirror}
use Rattle.ksi_mirror.specs.Elements.{MirrorSaid, kinds_next, is_end, started, start_at, root_said, with_root, root_at, list_said, counts, opened, list_at, with_item, closed, added, item_at, end_at, element_read, mirror_order, nothing_yet}
use Rattle.ksi_mirror.specs.File.{mirror_format, IsMirrorFile}
use Rattle.ksi_mirror.specs.Kinds.{lists_kinds, mirror_kinds, IsInOrder}
use Rattle.ksi_mirror.proofs.Values.{root_ok, list_ok}

-- ---- what is told so far

-- the kinds of a mirror's start, roots and lists, and these behind them
abbrev front : MirrorState → List ℕ → List ℕ
front mirror rest = 1 ∷ (map (λ root. 2) mirror.roots ++ (lists_kinds mirror.lists ++ rest))

abbrev second_of_root : ℕ × List ℕ → ℕ
second_of_root one = one.0

-- what the mirror keeps, and behind what its next root and its next list stand
record IsSound (mirror : MirrorState) (least_root least_list least_core : ℕ) : Type 0 where
  start : mirror.start < 2 ^ 63
  roots : AllByRecursion IsRoot mirror.roots
  roots_rise : Rises second_of_root mirror.start mirror.roots least_root
  lists : AllByRecursion IsList mirror.lists
  lists_rise : Rises rank (rank_at mirror.start 0) mirror.lists (rank_at least_list least_core)
  cores : least_core ≤ 9

abbrev Sound : MirrorSaid → Type 0
Sound s = IsSound s.mirror s.least_root s.least_list s.least_core

-- what is known of a list whose items come
record IsOpen (s : MirrorSaid) : Type 0 where
  least : rank_at s.least_list s.least_core ≤ rank s.current
  early : s.current.second < 2 ^ 63
  core : s.current.core ≤ 8
  some : 0 < s.left
  few : length s.current.items + s.left ≤ 65536
  items : AllByRecursion IsItem s.current.items

abbrev Told : MirrorStage → MirrorSaid → List PlacedTlv → Type 0
Told stages.Start s es = (es ≡ []) × (s ≡ nothing_yet)
Told stages.Roots s es = (kinds_of es ≡ front s.mirror []) × Sound s × (s.mirror.lists ≡ [])
Told stages.Items s es = (kinds_of es ≡ front s.mirror (9 ∷ map item_kind s.current.items)) × Sound s × IsOpen s
Told stages.Lists s es = (kinds_of es ≡ front s.mirror []) × Sound s
Told stages.End s es = (kinds_of es ≡ mirror_kinds s.mirror) × Sound s

abbrev Holds : MirrorSaid → List PlacedTlv → Type 0
Holds s es = Told s.stage s es

-- ---- one kind more

front_more : (mirror : MirrorState) (rest more : List ℕ) → front mirror rest ++ more ≡ front mirror (rest ++ more)
front_more mirror rest more =
    ap (λ (ks : List ℕ). 1 ∷ ks)
    (append_assoc (map (λ root. 2) mirror.roots) (lists_kinds mirror.lists ++ rest) more
    ∙ ap (λ (ks : List ℕ). map (λ root. 2) mirror.roots ++ ks) (append_assoc (lists_kinds mirror.lists) rest more))

roots_more : (mirror : MirrorState) (one : ℕ × List ℕ) → mirror.lists ≡ [] → front mirror [] ++ 2 ∷ [] ≡ front (record mirror { roots = mirror.roots ++ one ∷ [] }) []
roots_more mirror one none =
    rw none (ap (λ (ks : List ℕ). 1 ∷ ks)
    (ap (λ (ks : List ℕ). ks ++ 2 ∷ []) (append-nil (map (λ root. 2) mirror.roots))
    ∙ sym (map-append (λ root. 2) mirror.roots (one ∷ []))
    ∙ sym (append-nil (map (λ root. 2) (mirror.roots ++ one ∷ [])))))

lists_more : (lists : List SealedList) (one : SealedList) → lists_kinds (lists ++ one ∷ []) ≡ lists_kinds lists ++ 9 ∷ map item_kind one.items
lists_more [] one = ap (λ (ks : List ℕ). 9 ∷ ks) (append-nil (map item_kind one.items))
lists_more (l ∷ lists) one =
    ap (λ (ks : List ℕ). 9 ∷ ks)
    (ap (λ (ks : List ℕ). map item_kind l.items ++ ks) (lists_more lists one)
    ∙ sym (append_assoc (map item_kind l.items) (lists_kinds lists) (9 ∷ map item_kind one.items)))

list_closed : (mirror : MirrorState) (one : SealedList) → front mirror (9 ∷ map item_kind one.items) ≡ front (record mirror { lists = mirror.lists ++ one ∷ [] }) []
list_closed mirror one =
    ap (λ (ks : List ℕ). 1 ∷ (map (λ root. 2) mirror.roots ++ ks))
    (sym (lists_more mirror.lists one) ∙ sym (append-nil (lists_kinds (mirror.lists ++ one ∷ []))))

item_more : (mirror : MirrorState) (items : List Item) (item : Item) → front mirror (9 ∷ map item_kind items) ++ item_kind item ∷ [] ≡ front mirror (9 ∷ map item_kind (items ++ item ∷ []))
item_more mirror items item =
    front_more mirror (9 ∷ map item_kind items) (item_kind item ∷ [])
    ∙ ap (λ (ks : List ℕ). front mirror (9 ∷ ks)) (sym (map-append item_kind items (item ∷ [])))

-- ---- one element more

start_step : (values : Bounded) (s u : MirrorSaid) (es : List PlacedTlv) (at : PlacedTlv) → Told stages.Start s es → at.element.kind ≡ 1 → start_at s at ≡ Ok u → Holds u (es ++ at ∷ [])
unfolding start_at
start_step values s u es at told kind e =
    let time = bind_ok (or_named (time_at at)) _ u e in
    subst (λ (u : MirrorSaid). Holds u (es ++ at ∷ [])) (ap (λ (s : MirrorSaid). started s time.0) (sym told.1) ∙ ok_is {F = JournalFault} (started s time.0) u time.2) (
      rw told.0 (ap (λ (k : ℕ). k ∷ []) kind),
      record {
        start = values.early at time.0 (or_named_ok named (time_at at) time.0 time.1);
        roots = tt;
        roots_rise = record { rise = tt; behind = omega arith };
        lists = tt;
        lists_rise = record { rise = tt; behind = omega arith };
        cores = omega arith;
      },
      refl,
    )

root_step : (values : Bounded) (s u : MirrorSaid) (es : List PlacedTlv) (at : PlacedTlv) → s.stage ≡ stages.Roots → Told stages.Roots s es → at.element.kind ≡ 2 → root_at s at ≡ Ok u → Holds u (es ++ at ∷ [])
unfolding root_at
root_step values s u es at stage told kind e =
    let one = bind_ok (or_named (root_said s.least_root at)) _ u e in
    let is = root_ok values s.least_root at one.0 (or_named_ok named (root_said s.least_root at) one.0 one.1) in
    let sound = told.1 in
    subst (λ (u : MirrorSaid). Holds u (es ++ at ∷ [])) (ok_is {F = JournalFault} (with_root s one.0) u one.2)
    (subst (λ (at_stage : MirrorStage). Told at_stage (with_root s one.0) (es ++ at ∷ [])) (sym stage) (
      kinds_more es at 2 (front s.mirror []) told.0 kind ∙ roots_more s.mirror one.0 told.2,
      record {
        start = sound.start;
        roots = all_more IsRoot s.mirror.roots one.0 sound.roots is.1;
        roots_rise = rises_more second_of_root s.mirror.start s.mirror.roots s.least_root one.0 sound.roots_rise is.0;
        lists = sound.lists;
        lists_rise = sound.lists_rise;
        cores = sound.cores;
      },
      told.2,
    ))

list_step : (values : Bounded) (s u : MirrorSaid) (es : List PlacedTlv) (at : PlacedTlv) → kinds_of es ≡ front s.mirror [] → Sound s → at.element.kind ≡ 9 → list_at s at ≡ Ok u → Holds u (es ++ at ∷ [])
unfolding list_at
list_step values s u es at told sound kind e =
    let said = bind_ok (or_named (list_said s.least_list s.least_core at)) _ u e in
    let is = list_ok values s.least_list s.least_core at said.0 sound.cores (or_named_ok named (list_said s.least_list s.least_core at) said.0 said.1) in
    let t = test_ok (counts said.0.2) (opened s said.0.0 said.0.1 said.0.2) (faults.Count said.0.0) u said.2 in
    let b = and_parts (leb 1 said.0.2) (leb said.0.2 65536) t.0 in
    let some = leb-true 1 said.0.2 b.0 in
    let few = leb-true said.0.2 65536 b.1 in
    subst (λ (u : MirrorSaid). Holds u (es ++ at ∷ [])) t.1 (
      kinds_more es at 9 (front s.mirror []) told kind ∙ front_more s.mirror [] (9 ∷ []),
      sound,
      record { least = is.rises; early = is.early; core = is.core; some = omega (arith, some); few = omega (arith, few); items = tt },
    )

closed_sound : (s : MirrorSaid) (one : SealedList) → Sound s → IsList one → rank_at s.least_list s.least_core ≤ rank one → Sound (closed s one)
closed_sound s one sound is le = record {
  start = sound.start;
  roots = sound.roots;
  roots_rise = sound.roots_rise;
  lists = all_more IsList s.mirror.lists one sound.lists is;
  lists_rise = subst (λ n. Rises rank (rank_at s.mirror.start 0) (s.mirror.lists ++ one ∷ []) n) next (rises_more rank (rank_at s.mirror.start 0) s.mirror.lists (rank_at s.least_list s.least_core) one sound.lists_rise le);
  cores = (let c = is.core in omega (arith, c));
}
  where
    next : rank one + 1 ≡ rank_at one.second (one.core + 1)
    next = omega arith

item_told : (s u : MirrorSaid) (es : List PlacedTlv) (item : Item) (none : Bool) → eqb (s.left - 1) 0 ≡ none → s.stage ≡ stages.Items → Sound s → IsOpen s → IsItem item
    → kinds_of es ≡ front s.mirror (9 ∷ map item_kind (with_item s.current item).items)
    → cond none (closed s (with_item s.current item)) (record s { current = with_item s.current item; left = s.left - 1 }) ≡ u → Holds u es
item_told s u es item true none stage sound waits is kinds e =
    let few = waits.few in
    let some = waits.some in
    subst (λ (u : MirrorSaid). Holds u es) e (
      kinds ∙ list_closed s.mirror (with_item s.current item),
      closed_sound s (with_item s.current item) sound (record {
        early = waits.early;
        core = waits.core;
        some = omega (arith, length-append s.current.items (item ∷ []));
        few = omega (arith, few, some, length-append s.current.items (item ∷ []));
        items = all_more IsItem s.current.items item waits.items is;
      }) waits.least,
    )
item_told s u es item false left stage sound waits is kinds e =
    let few = waits.few in
    let some : 0 < s.left - 1 = positive (s.left - 1) left in
    subst (λ (u : MirrorSaid). Holds u es) e
    (subst (λ (at_stage : MirrorStage). Told at_stage (record s { current = with_item s.current item; left = s.left - 1 }) es) (sym stage) (
      kinds,
      sound,
      record {
        least = waits.least;
        early = waits.early;
        core = waits.core;
        some = some;
        few = omega (arith, few, some, length-append s.current.items (item ∷ []));
        items = all_more IsItem s.current.items item waits.items is;
      },
    ))
  where
    positive : (n : ℕ) → eqb n 0 ≡ false → 0 < n
    positive zero e = absurd cc
    positive (suc n) e = omega arith

item_step : (s u : MirrorSaid) (es : List PlacedTlv) (at : PlacedTlv) → s.stage ≡ stages.Items → Told stages.Items s es → (at.element.kind ≡ 3) ⊎ (at.element.kind ≡ 7) → item_at s at ≡ Ok u → Holds u (es ++ at ∷ [])
unfolding item_at
item_step s u es at stage told kind e =
    let item = bind_ok (item_in at) _ u e in
    let said = item_said at item.0 item.1 kind in
    item_told s u (es ++ at ∷ []) item.0 (eqb (s.left - 1) 0) refl stage told.1 told.2 said.0
    (kinds_more es at (item_kind item.0) (front s.mirror (9 ∷ map item_kind s.current.items)) told.0 (sym said.1.kind ∙ item_same item.0 item.0.name refl) ∙ item_more s.mirror s.current.items item.0)
    (ok_is {F = JournalFault} (added s (with_item s.current item.0) (s.left - 1)) u item.2)

end_step : (s u : MirrorSaid) (es : List PlacedTlv) (at : PlacedTlv) → kinds_of es ≡ front s.mirror [] → Sound s → at.element.kind ≡ 6 → end_at s at ≡ Ok u → Holds u (es ++ at ∷ [])
unfolding end_at
end_step s u es at told sound kind e =
    let t = test_ok (eqb (length at.element.body) 0) (record s { stage = stages.End }) (faults.Ends at.place) u e in
    subst (λ (u : MirrorSaid). Holds u (es ++ at ∷ [])) t.1 (kinds_more es at 6 (front s.mirror []) told kind ∙ front_more s.mirror [] (6 ∷ []), sound)

-- ---- which element stands where

-- an element of a kind is read as that kind is
abbrev read_as : MirrorSaid → PlacedTlv → ℕ → Result MirrorSaid JournalFault
read_as s at kind = cond (eqb kind 1) (start_at s at) (cond (eqb kind 2) (root_at s at) (cond (eqb kind 9) (list_at s at) (cond (eqb kind 3 || eqb kind 7) (item_at s at) (end_at s at))))

by_kind : (s u : MirrorSaid) (at : PlacedTlv) (kind : ℕ) → at.element.kind ≡ kind → element_read s at ≡ Ok u → read_as s at kind ≡ Ok u
unfolding element_read
by_kind s u at kind is e = subst (λ (k : ℕ). read_as s at k ≡ Ok u) is e

read_step : (values : Bounded) (stage : MirrorStage) (s u : MirrorSaid) (es : List PlacedTlv) (at : PlacedTlv) → s.stage ≡ stage → Told stage s es → may_stand (kinds_next stage) at.element.kind ≡ true → element_read s at ≡ Ok u → Holds u (es ++ at ∷ [])
read_step values stages.Start s u es at is told may e =
    any_kind (λ k. at.element.kind ≡ k → Holds u (es ++ at ∷ [])) (1 ∷ []) at.element.kind may ((λ kind. start_step values s u es at told kind (by_kind s u at 1 kind e)), tt) refl
read_step values stages.Roots s u es at is told may e =
    any_kind (λ k. at.element.kind ≡ k → Holds u (es ++ at ∷ [])) (2 ∷ 9 ∷ 6 ∷ []) at.element.kind may (
      (λ kind. root_step values s u es at is told kind (by_kind s u at 2 kind e)),
      ((λ kind. list_step values s u es at told.0 told.1 kind (by_kind s u at 9 kind e)), ((λ kind. end_step s u es at told.0 told.1 kind (by_kind s u at 6 kind e)), tt)),
    ) refl
read_step values stages.Items s u es at is told may e =
    any_kind (λ k. at.element.kind ≡ k → Holds u (es ++ at ∷ [])) (3 ∷ 7 ∷ []) at.element.kind may (
      (λ kind. item_step s u es at is told (inl kind) (by_kind s u at 3 kind e)),
      ((λ kind. item_step s u es at is told (inr kind) (by_kind s u at 7 kind e)), tt),
    ) refl
read_step values stages.Lists s u es at is told may e =
    any_kind (λ k. at.element.kind ≡ k → Holds u (es ++ at ∷ [])) (9 ∷ 6 ∷ []) at.element.kind may (
      (λ kind. list_step values s u es at told.0 told.1 kind (by_kind s u at 9 kind e)),
      ((λ kind. end_step s u es at told.0 told.1 kind (by_kind s u at 6 kind e)), tt),
    ) refl
read_step values stages.End s u es at is told may e = absurd cc

whole_told : (stage : MirrorStage) (said : MirrorSaid) (es : List PlacedTlv) → is_end stage ≡ true → Told stage said es → (kinds_of es ≡ mirror_kinds said.mirror) × Sound said
whole_told stages.Start said es ends told = absurd cc
whole_told stages.Roots said es ends told = absurd cc
whole_told stages.Items said es ends told = absurd cc
whole_told stages.Lists said es ends told = absurd cc
whole_told stages.End said es ends told = told

module _ (values : Bounded) (bytes : List ℕ) (mirror : MirrorState) (file : IsMirrorFile bytes mirror) where
  all : (kinds_of file.whole.es ≡ mirror_kinds file.said.mirror) × Sound file.said
  unfolding mirror_format
  all = whole_told file.said.stage file.said file.whole.es file.whole.ends
      (leads_keep mirror_order Holds (λ s u es at told more may e. read_step values s.stage s u es at refl told may e) nothing_yet file.said [] file.whole.es (refl, refl) file.whole.leads)

  pub is_mirror : IsMirror mirror
  unfolding mirror_format
  is_mirror =
      let sound = all.1 in
      subst IsMirror (sym file.has) (record {
        start = sound.start;
        roots = sound.roots;
        roots_rise = sound.roots_rise.rise;
        lists = sound.lists;
        lists_rise = sound.lists_rise.rise;
      })

  pub in_order : IsInOrder bytes mirror
  unfolding mirror_format
  in_order = file_kinds mirror_format mirror_kinds bytes mirror file all.0
