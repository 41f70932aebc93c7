-- The elements of a journal file, one after the other, say what a journal keeps, and written it is no longer.
use Rattle.std.proofs.Common.{◌≡◌, ◌≢◌, ◌⊎◌, inl, inr, ℕ, zero, suc, ◌+◌, ◌-◌, ◌^◌, ◌<◌, ◌≤◌, Bool, true, false, cond, ◌&&◌, ◌||◌, leb, eqb, List, [], ◌∷◌, ◌++◌, length, map, Result, Ok, refl, sym, ap, subst, ◌∙◌, arith, append_assoc, append-nil, length-append}
use Rattle.std.specs.List.{AllByRecursion}
use Rattle.std.specs.Str.{bytes_eq}
use Rattle.std.proofs.lemmas.Bool.{leb-true, eqb-true, ne_eqb, and_parts}
use Rattle.std.proofs.lemmas.List.{map-append}
use Rattle.std.proofs.lemmas.Slice.Eq.{bytes_eq-Decides}
use Rattle.ksi_imprint.specs.Imprints.{IsImprint, zero_imprint}
use Rattle.ksi_tlv.specs.Spelling.{Tlv, AreBytes, plain}
use Rattle.ksi_tlv.specs.Walking.{PlacedTlv}
use Rattle.ksi_tlv.specs.Numerals.{numeral}
use Rattle.ksi_aggtree.specs.declared.item.Item.{Item}
use Rattle.ksi_aggtree.specs.declared.second.Second.{Second}
use Rattle.ksi_aggtree.specs.Rounds.{tree_of}
use Rattle.ksi_tlv.specs.Order.{may_stand}
use Rattle.ksi_tlv.specs.Sequence.{Leads}
use Rattle.ksi_tlv.specs.Values.{time_at}
use Rattle.ksi_tlv.proofs.Steps.{Bounded, each_of, or_named_ok, ok_is, test_ok, any_kind, all_more, all_less, leads_keep}
use Rattle.ksi_synod.specs.declared.core_plan.VotersFrom.{VotersFrom}
use Rattle.ksi_journal.specs.declared.stage.Stage.{Stage}
use Rattle.ksi_journal.specs.declared.stage.Stage.TheVariants as stages
use Rattle.ksi_journal.specs.declared.version.Version.{Version}
use Rattle.ksi_journal.specs.declared.version.Version.TheVariants.{One, Two}
use Rattle.ksi_journal.specs.declared.fault.JournalFault.{JournalFault}
use Rattle.ksi_journal.specs.declared.fault.JournalFault.TheVariants as faults
use Rattle.ksi_journal.specs.Journal.{Contents, IsVoters, IsItem, IsRootOf, IsSecond, IsIssued, IsPublication}
use Rattle.ksi_journal.specs.Written.{voters_element, item_element, kept_elements, seconds_elements, issued_element, publication_element, journal_elements}
use Rattle.ksi_journal.specs.Elements.{Loaded, in_two, kinds_next, is_end, named, or_named, started, start_at, voters_from, with_voters, voters_at, counts, closed, opened, said_at, read_second, item_in, with_item, finished, item_at, signature_at, with_issued, issued_at, published_at, with_publication, publication_at, end_at, element_read, journal_order, nothing_yet}
use Rattle.ksi_journal.proofs.Rising.{Keeps, keeps_more, keeps_none}
use Rattle.ksi_journal.proofs.Spelled.{Read, Match, Matches, matches_more, time_ok}
use Rattle.ksi_journal.proofs.Items.{item_said}
use Rattle.ksi_journal.proofs.Values.{head_with, IsSecondSaid, number_match, voters_said, second_said, issued_said, publication_said}

-- ---- what is told so far

-- the elements of what a journal holds, and these behind them
abbrev written : Contents → List Tlv → List Tlv
written j rest =
    plain 1 (numeral j.start) ∷ (map voters_element j.voters
    ++ (seconds_elements j.seconds
    ++ (map issued_element j.issued ++ (map publication_element j.publications ++ rest))))

abbrev second_of_voters : VotersFrom → ℕ
second_of_voters pair = pair.second

abbrev second_of : Second → ℕ
second_of kept = kept.second

abbrev first_of : ℕ × List ℕ → ℕ
first_of pair = pair.0

-- what is kept, and what may stand behind it
pub record IsSound (image : List ℕ → List ℕ) (j : Contents) (least_voters least_second least_number least_time : ℕ) : Type 0 where
  pub start : j.start < 2 ^ 63
  pub voters : Keeps IsVoters second_of_voters j.start j.voters least_voters
  pub seconds : Keeps (IsSecond image) second_of j.start j.seconds least_second
  pub issued : Keeps IsIssued first_of 0 j.issued least_number
  pub publications : Keeps IsPublication first_of 0 j.publications least_time

abbrev pub Sound : (List ℕ → List ℕ) → Loaded → Type 0
Sound image s = IsSound image s.contents s.least_voters s.least_second s.least_number s.least_time

-- whole seconds are told
record IsWritten (image : List ℕ → List ℕ) (s : Loaded) (es : List PlacedTlv) : Type 0 where
  matches : Matches (written s.contents []) es
  sound : Sound image s

-- a second and those of its items that are told
abbrev waiting : Loaded → List Tlv
waiting s = head_with s.current.second s.current.root (length s.current.items + s.left) ∷ map item_element s.current.items

-- items of a second are to come
record IsOpen (image : List ℕ → List ℕ) (s : Loaded) (es : List PlacedTlv) : Type 0 where
  matches : Matches (written s.contents (waiting s)) es
  sound : Sound image s
  least : s.least_second ≤ s.current.second
  early : s.current.second < 2 ^ 63
  imprint : IsImprint s.current.root
  other : s.current.root ≢ zero_imprint
  some : 0 < s.left
  few : length s.current.items + s.left ≤ 65536
  items : AllByRecursion IsItem s.current.items

abbrev Told : (List ℕ → List ℕ) → Stage → Loaded → List PlacedTlv → Type 0
Told image stages.Start s es = (es ≡ []) × (s ≡ nothing_yet s.version)
Told image stages.Voters s es = IsWritten image s es × (s.contents.seconds ≡ []) × (s.contents.issued ≡ []) × (s.contents.publications ≡ [])
Told image stages.Seconds s es = IsWritten image s es × (s.contents.issued ≡ []) × (s.contents.publications ≡ [])
Told image stages.Items s es = IsOpen image s es × (s.contents.issued ≡ []) × (s.contents.publications ≡ [])
Told image stages.Issued s es = IsWritten image s es × (s.contents.publications ≡ [])
Told image stages.Publications s es = IsWritten image s es
Told image stages.End s es = Matches (journal_elements s.contents) es × Sound image s

abbrev Holds : (List ℕ → List ℕ) → Loaded → List PlacedTlv → Type 0
Holds image s es = Told image s.stage s es

-- ---- one element more

grown : (ts us : List Tlv) (es : List PlacedTlv) (t : Tlv) (at : PlacedTlv) → ts ++ t ∷ [] ≡ us → Matches ts es → Match t at → Matches us (es ++ at ∷ [])
grown ts us es t at same all match = subst (λ (us : List Tlv). Matches us (es ++ at ∷ [])) same (matches_more ts es t at all match)

written_more : (j : Contents) (rest more : List Tlv) → written j rest ++ more ≡ written j (rest ++ more)
written_more j rest more =
    let vs : List Tlv = map voters_element j.voters in
    let ss : List Tlv = seconds_elements j.seconds in
    let is : List Tlv = map issued_element j.issued in
    let ps : List Tlv = map publication_element j.publications in
    ap (λ (ts : List Tlv). plain 1 (numeral j.start) ∷ ts)
    (append_assoc vs (ss ++ (is ++ (ps ++ rest))) more ∙ ap (λ (ts : List Tlv). vs ++ ts)
    (append_assoc ss (is ++ (ps ++ rest)) more ∙ ap (λ (ts : List Tlv). ss ++ ts)
    (append_assoc is (ps ++ rest) more ∙ ap (λ (ts : List Tlv). is ++ ts) (append_assoc ps rest more))))

map_one : {A : Type 0} (f : A → Tlv) (xs : List A) (x : A) → map f xs ++ f x ∷ [] ≡ map f (xs ++ x ∷ []) ++ []
map_one f xs x = sym (append-nil (map f (xs ++ x ∷ [])) ∙ map-append f xs (x ∷ []))

voters_more : (j : Contents) (pair : VotersFrom) → j.seconds ≡ [] → j.issued ≡ [] → j.publications ≡ []
    → written j [] ++ voters_element pair ∷ [] ≡ written (record j { voters = j.voters ++ pair ∷ [] }) []
voters_more j pair a b c =
    written_more j [] (voters_element pair ∷ []) ∙ rw (a, b, c) (ap (λ (ts : List Tlv). plain 1 (numeral j.start) ∷ ts) (map_one voters_element j.voters pair))

seconds_one : (ss : List Second) (kept : Second) → seconds_elements (ss ++ kept ∷ []) ≡ seconds_elements ss ++ kept_elements kept
seconds_one [] kept = append-nil (kept_elements kept)
seconds_one (s ∷ ss) kept =
    ap (λ (ts : List Tlv). kept_elements s ++ ts) (seconds_one ss kept) ∙ sym (append_assoc (kept_elements s) (seconds_elements ss) (kept_elements kept))

second_closed : (j : Contents) (kept : Second) → j.issued ≡ [] → j.publications ≡ [] → written j (kept_elements kept) ≡ written (record j { seconds = j.seconds ++ kept ∷ [] }) []
second_closed j kept a b =
    rw (a, b) (ap (λ (ts : List Tlv). plain 1 (numeral j.start) ∷ (map voters_element j.voters ++ ts))
    (sym (append-nil (seconds_elements (j.seconds ++ kept ∷ [])) ∙ seconds_one j.seconds kept)))

issued_more : (j : Contents) (x : ℕ × List ℕ) → j.publications ≡ [] → written j [] ++ issued_element x ∷ [] ≡ written (record j { issued = j.issued ++ x ∷ [] }) []
issued_more j x a =
    written_more j [] (issued_element x ∷ [])
    ∙ rw a (ap (λ (ts : List Tlv). plain 1 (numeral j.start) ∷ (map voters_element j.voters ++ (seconds_elements j.seconds ++ ts))) (map_one issued_element j.issued x))

published_more : (j : Contents) (x : ℕ × List ℕ) → written j [] ++ publication_element x ∷ [] ≡ written (record j { publications = j.publications ++ x ∷ [] }) []
published_more j x =
    written_more j [] (publication_element x ∷ [])
    ∙ ap (λ (ts : List Tlv). plain 1 (numeral j.start) ∷ (map voters_element j.voters ++ (seconds_elements j.seconds ++ (map issued_element j.issued ++ ts))))
    (map_one publication_element j.publications x)

item_more : (j : Contents) (t : ℕ) (root : List ℕ) (n m : ℕ) (items : List Item) (item : Item) → n ≡ m
    → written j (head_with t root n ∷ map item_element items) ++ item_element item ∷ [] ≡ written j (head_with t root m ∷ map item_element (items ++ item ∷ []))
item_more j t root n m items item same =
    written_more j (head_with t root n ∷ map item_element items) (item_element item ∷ [])
    ∙ ap (λ (ts : List Tlv). written j (head_with t root n ∷ ts)) (sym (map-append item_element items (item ∷ [])))
    ∙ ap (λ (k : ℕ). written j (head_with t root k ∷ map item_element (items ++ item ∷ []))) same

-- ---- how many items a second has

abbrev Counted : List ℕ → ℕ → Type 0
Counted root n = ((n ≡ 0) × (root ≡ zero_imprint)) ⊎ ((root ≢ zero_imprint) × (1 ≤ n) × (n ≤ 65536))

counts_by : (root : List ℕ) (n : ℕ) (missed : Bool) → bytes_eq root zero_imprint ≡ missed → cond missed (eqb n 0) (leb 1 n && leb n 65536) ≡ true → Counted root n
counts_by root n true is e = inl (eqb-true n 0 e, (bytes_eq-Decides root zero_imprint).0 is)
counts_by root n false is e =
    let both = and_parts (leb 1 n) (leb n 65536) e in
    inr ((λ same. absurd (let yes = (bytes_eq-Decides root zero_imprint).1 same in cc)), leb-true 1 n both.0, leb-true n 65536 both.1)

root_more : (image : List ℕ → List ℕ) (items : List Item) (item : Item) (root : List ℕ) → root ≢ zero_imprint → (tree_of image (items ++ item ∷ [])).imprint ≡ root → IsRootOf image (items ++ item ∷ []) root
root_more image [] item root other e = (other, e)
root_more image (first ∷ items) item root other e = (other, e)

-- ---- each element

module _ (laws : Read) (bounded : Bounded) (image : List ℕ → List ℕ) where
  start_step : (s u : Loaded) (es : List PlacedTlv) (at : PlacedTlv) → Told image stages.Start s es → at.element.kind ≡ 1 → AreBytes at.element.body → start_at s at ≡ Ok u → Holds image u (es ++ at ∷ [])
  unfolding start_at
  start_step s u es at told kind are e =
      each_of (or_named (time_at at)) e (λ t is_time e.
      let time = or_named_ok named (time_at at) t is_time in
      subst (λ (u : Loaded). Holds image u (es ++ at ∷ [])) (ap (λ (s : Loaded). started s t) (sym told.1) ∙ ok_is {F = JournalFault} (started s t) u e) (
        record {
          matches = rw told.0 (number_match laws bounded at 1 t (sym kind) (time_ok at t time) are, tt);
          sound = record {
            start = bounded.early at t time;
            voters = keeps_none IsVoters second_of_voters t;
            seconds = keeps_none (IsSecond image) second_of t;
            issued = keeps_none IsIssued first_of 0;
            publications = keeps_none IsPublication first_of 0;
          };
        },
        refl,
        refl,
        refl,
      ))

  voters_step : (s u : Loaded) (es : List PlacedTlv) (at : PlacedTlv) → s.stage ≡ stages.Voters → Told image stages.Voters s es → at.element.kind ≡ 8 → AreBytes at.element.body → voters_at s at ≡ Ok u → Holds image u (es ++ at ∷ [])
  unfolding voters_at
  voters_step s u es at stage told kind are e =
      each_of (voters_from s.least_voters at) e (λ pair is_pair e.
      let is = voters_said laws bounded s.least_voters at pair is_pair kind are in
      let sound = told.0.sound in
      subst (λ (u : Loaded). Holds image u (es ++ at ∷ [])) (ok_is {F = JournalFault} (with_voters s pair) u e)
      (subst (λ (stage : Stage). Told image stage (with_voters s pair) (es ++ at ∷ [])) (sym stage) (
        record {
          matches = grown (written s.contents []) _ es (voters_element pair) at (voters_more s.contents pair told.1 told.2 told.3) told.0.matches is.2;
          sound = record {
            start = sound.start;
            voters = keeps_more IsVoters second_of_voters s.contents.start s.contents.voters s.least_voters pair sound.voters is.1 is.0;
            seconds = sound.seconds;
            issued = sound.issued;
            publications = sound.publications;
          };
        },
        told.1,
        told.2,
        told.3,
      )))

  closed_told : (s : Loaded) (kept : Second) (es : List PlacedTlv) → Sound image s → s.contents.issued ≡ [] → s.contents.publications ≡ [] → IsSecond image kept → s.least_second ≤ kept.second
      → Matches (written s.contents (kept_elements kept)) es → Told image stages.Seconds (closed s kept) es
  closed_told s kept es sound a b is le matches = (
    record {
      matches = subst (λ (ts : List Tlv). Matches ts es) (second_closed s.contents kept a b) matches;
      sound = record {
        start = sound.start;
        voters = sound.voters;
        seconds = keeps_more (IsSecond image) second_of s.contents.start s.contents.seconds s.least_second kept sound.seconds is le;
        issued = sound.issued;
        publications = sound.publications;
      };
    },
    a,
    b,
  )

  opened_told : (s u : Loaded) (es : List PlacedTlv) (at : PlacedTlv) (t : ℕ) (root : List ℕ) (n : ℕ) → IsWritten image s es → s.contents.issued ≡ [] → s.contents.publications ≡ [] → IsSecondSaid s.least_second at (t, root, n)
      → Counted root n → opened s (record { second = t; root = root; items = [] }) n ≡ u → Holds image u (es ++ at ∷ [])
  opened_told s u es at t root n before a b is (inl none) e =
      let kept : Second = record { second = t; root = root; items = [] } in
      let same : opened s kept n ≡ closed s kept = rw none.0 refl in
      let head : head_with t root n ≡ head_with t root 0 = ap (head_with t root) none.0 in
      subst (λ (u : Loaded). Holds image u (es ++ at ∷ [])) (sym same ∙ e)
      (closed_told s (record { second = t; root = root; items = [] }) (es ++ at ∷ []) before.sound a b
      (record { early = is.early; imprint = is.imprint; few = omega arith; items = tt; tree = none.1 }) is.rises
      (grown (written s.contents []) _ es (head_with t root n) at (written_more s.contents [] (head_with t root n ∷ []) ∙ ap (λ (e : Tlv). written s.contents (e ∷ [])) head) before.matches is.match))
  opened_told s u es at t root n before a b is (inr some) e =
      let one = some.1 in
      let other : eqb n 0 ≡ false = ne_eqb n 0 (λ e. absurd (omega (arith, e, one))) in
      let kept : Second = record { second = t; root = root; items = [] } in
      let same : opened s kept n ≡ record s { stage = stages.Items; current = kept; left = n } = rw other refl in
      let count : n ≡ 0 + n = omega arith in
      subst (λ (u : Loaded). Holds image u (es ++ at ∷ [])) (sym same ∙ e) (
        record {
          matches = grown (written s.contents []) _ es (head_with t root n) at (written_more s.contents [] (head_with t root n ∷ []) ∙ ap (λ (k : ℕ). written s.contents (head_with t root k ∷ [])) count) before.matches is.match;
          sound = before.sound;
          least = is.rises;
          early = is.early;
          imprint = is.imprint;
          other = some.0;
          some = omega (arith, one);
          few = (let few = some.2 in omega (arith, few));
          items = tt;
        },
        a,
        b,
      )

  second_step : (s u : Loaded) (es : List PlacedTlv) (at : PlacedTlv) → IsWritten image s es → s.contents.issued ≡ [] → s.contents.publications ≡ [] → at.element.kind ≡ 2 → AreBytes at.element.body → read_second s at ≡ Ok u → Holds image u (es ++ at ∷ [])
  unfolding read_second
  second_step s u es at before a b kind are e =
      each_of (or_named (said_at s.least_second at)) e (λ said is_said e.
      let is = second_said laws bounded s.least_second at said (or_named_ok named (said_at s.least_second at) said is_said) kind are in
      let t = test_ok (counts said.1 said.2) (opened s (record { second = said.0; root = said.1; items = [] }) said.2) (faults.Count said.0) u e in
      opened_told s u es at said.0 said.1 said.2 before a b is (counts_by said.1 said.2 (bytes_eq said.1 zero_imprint) refl t.0) t.1)

  item_told : (s u : Loaded) (es : List PlacedTlv) (at : PlacedTlv) (item : Item) (none : Bool) → eqb (s.left - 1) 0 ≡ none → s.stage ≡ stages.Items → Told image stages.Items s es → IsItem item → Match (item_element item) at
      → cond none (finished image s (with_item s.current item)) (Ok (record s { current = with_item s.current item; left = s.left - 1 })) ≡ Ok u → Holds image u (es ++ at ∷ [])
  item_told s u es at item true none stage told is match e =
      let waits = told.0 in
      let few = waits.few in
      let some = waits.some in
      let last : s.left - 1 ≡ 0 = eqb-true (s.left - 1) 0 none in
      let count : length s.current.items + s.left ≡ length (s.current.items ++ item ∷ []) = omega (arith, some, last, length-append s.current.items (item ∷ [])) in
      let t = test_ok (bytes_eq (tree_of image (s.current.items ++ item ∷ [])).imprint s.current.root) (closed s (with_item s.current item)) _ u e in
      let root = (bytes_eq-Decides (tree_of image (s.current.items ++ item ∷ [])).imprint s.current.root).0 t.0 in
      subst (λ (u : Loaded). Holds image u (es ++ at ∷ [])) t.1
      (closed_told s (with_item s.current item) (es ++ at ∷ []) waits.sound told.1 told.2
      (record {
        early = waits.early;
        imprint = waits.imprint;
        few = omega (arith, few, count);
        items = all_more IsItem s.current.items item waits.items is;
        tree = root_more image s.current.items item s.current.root waits.other root;
      }) waits.least
      (grown (written s.contents (waiting s)) _ es (item_element item) at (item_more s.contents s.current.second s.current.root (length s.current.items + s.left) (length (s.current.items ++ item ∷ [])) s.current.items item count) waits.matches match))
  item_told s u es at item false left stage told is match e =
      let waits = told.0 in
      let few = waits.few in
      let some = waits.some in
      let more : 0 < s.left - 1 = positive (s.left - 1) left in
      let count : length s.current.items + s.left ≡ length (s.current.items ++ item ∷ []) + (s.left - 1) = omega (arith, some, length-append s.current.items (item ∷ [])) in
      subst (λ (u : Loaded). Holds image u (es ++ at ∷ [])) (ok_is {F = JournalFault} (record s { current = with_item s.current item; left = s.left - 1 }) u e)
      (subst (λ (stage : Stage). Told image stage (record s { current = with_item s.current item; left = s.left - 1 }) (es ++ at ∷ [])) (sym stage) (
        record {
          matches = grown (written s.contents (waiting s)) _ es (item_element item) at (item_more s.contents s.current.second s.current.root (length s.current.items + s.left) (length (s.current.items ++ item ∷ []) + (s.left - 1)) s.current.items item count) waits.matches match;
          sound = waits.sound;
          least = waits.least;
          early = waits.early;
          imprint = waits.imprint;
          other = waits.other;
          some = more;
          few = omega (arith, few, count);
          items = all_more IsItem s.current.items item waits.items is;
        },
        told.1,
        told.2,
      ))
    where
      positive : (n : ℕ) → eqb n 0 ≡ false → 0 < n
      positive zero e = absurd cc
      positive (suc n) e = omega arith

  item_step : (s u : Loaded) (es : List PlacedTlv) (at : PlacedTlv) → s.stage ≡ stages.Items → Told image stages.Items s es → (at.element.kind ≡ 3) ⊎ (at.element.kind ≡ 7) → item_at image s at ≡ Ok u → Holds image u (es ++ at ∷ [])
  unfolding item_at
  item_step s u es at stage told kind e =
      each_of (item_in at) e (λ item is_item e.
      let said = item_said at item is_item kind in
      item_told s u es at item (eqb (s.left - 1) 0) refl stage told said.0 said.1 e)

  issued_step : (s u : Loaded) (es : List PlacedTlv) (at : PlacedTlv) → IsWritten image s es → s.contents.publications ≡ [] → at.element.kind ≡ 4 → AreBytes at.element.body → issued_at s at ≡ Ok u → Holds image u (es ++ at ∷ [])
  unfolding issued_at
  issued_step s u es at before none kind are e =
      each_of (or_named (signature_at s.least_number at)) e (λ x is_x e.
      let is = issued_said laws bounded s.least_number at x (or_named_ok named (signature_at s.least_number at) x is_x) kind are in
      let sound = before.sound in
      subst (λ (u : Loaded). Holds image u (es ++ at ∷ [])) (ok_is {F = JournalFault} (with_issued s x) u e) (
        record {
          matches = grown (written s.contents []) _ es (issued_element x) at (issued_more s.contents x none) before.matches is.2;
          sound = record {
            start = sound.start;
            voters = sound.voters;
            seconds = sound.seconds;
            issued = keeps_more IsIssued first_of 0 s.contents.issued s.least_number x sound.issued is.1 is.0;
            publications = sound.publications;
          };
        },
        none,
      ))

  publication_step : (s u : Loaded) (es : List PlacedTlv) (at : PlacedTlv) → IsWritten image s es → at.element.kind ≡ 5 → AreBytes at.element.body → publication_at s at ≡ Ok u → Holds image u (es ++ at ∷ [])
  unfolding publication_at
  publication_step s u es at before kind are e =
      each_of (or_named (published_at s.least_time at)) e (λ x is_x e.
      let is = publication_said laws bounded s.least_time at x (or_named_ok named (published_at s.least_time at) x is_x) kind are in
      let sound = before.sound in
      subst (λ (u : Loaded). Holds image u (es ++ at ∷ [])) (ok_is {F = JournalFault} (with_publication s x) u e) (record {
        matches = grown (written s.contents []) _ es (publication_element x) at (published_more s.contents x) before.matches is.2;
        sound = record {
          start = sound.start;
          voters = sound.voters;
          seconds = sound.seconds;
          issued = sound.issued;
          publications = keeps_more IsPublication first_of 0 s.contents.publications s.least_time x sound.publications is.1 is.0;
        };
      }))

  end_step : (s u : Loaded) (es : List PlacedTlv) (at : PlacedTlv) → IsWritten image s es → at.element.kind ≡ 6 → end_at s at ≡ Ok u → Holds image u (es ++ at ∷ [])
  unfolding end_at
  end_step s u es at before kind e =
      let t = test_ok (eqb (length at.element.body) 0) (record s { stage = stages.End }) (faults.Ends at.place) u e in
      subst (λ (u : Loaded). Holds image u (es ++ at ∷ [])) t.1 (
        grown (written s.contents []) _ es (plain 6 []) at (written_more s.contents [] (plain 6 [] ∷ [])) before.matches (record { kind = sym kind; body = omega arith }),
        before.sound,
      )

  -- ---- which element stands where

  -- an element of a kind is read as that kind is
  abbrev read_as : Loaded → PlacedTlv → ℕ → Result Loaded JournalFault
  read_as s at kind =
      cond (eqb kind 1) (start_at s at) (cond (eqb kind 2) (read_second s at) (cond (eqb kind 3 || eqb kind 7) (item_at image s at)
      (cond (eqb kind 4) (issued_at s at) (cond (eqb kind 5) (publication_at s at) (cond (eqb kind 8) (voters_at s at) (end_at s at))))))

  by_kind : (s u : Loaded) (at : PlacedTlv) (kind : ℕ) → at.element.kind ≡ kind → element_read image s at ≡ Ok u → read_as s at kind ≡ Ok u
  unfolding element_read
  by_kind s u at kind is e = subst (λ (k : ℕ). read_as s at k ≡ Ok u) is e

  all_two : (P : ℕ → Type 0) (version : Version) (kind : ℕ) → P kind → AllByRecursion P (in_two version kind)
  all_two P One kind p = tt
  all_two P Two kind p = (p, tt)

  read_step : (version : Version) (stage : Stage) (s u : Loaded) (es : List PlacedTlv) (at : PlacedTlv) → s.stage ≡ stage → Told image stage s es → AreBytes at.element.body → may_stand (kinds_next version stage) at.element.kind ≡ true
      → element_read image s at ≡ Ok u → Holds image u (es ++ at ∷ [])
  read_step version stages.Start s u es at is told are may e =
      any_kind (λ k. at.element.kind ≡ k → Holds image u (es ++ at ∷ [])) (1 ∷ []) at.element.kind may ((λ kind. start_step s u es at told kind are (by_kind s u at 1 kind e)), tt) refl
  read_step version stages.Voters s u es at is told are may e =
      any_kind (λ k. at.element.kind ≡ k → Holds image u (es ++ at ∷ [])) (2 ∷ 4 ∷ 5 ∷ 6 ∷ in_two version 8) at.element.kind may (
        (λ kind. second_step s u es at told.0 told.2 told.3 kind are (by_kind s u at 2 kind e)),
        (
          (λ kind. issued_step s u es at told.0 told.3 kind are (by_kind s u at 4 kind e)),
          (
            (λ kind. publication_step s u es at told.0 kind are (by_kind s u at 5 kind e)),
            (
              (λ kind. end_step s u es at told.0 kind (by_kind s u at 6 kind e)),
              all_two (λ k. at.element.kind ≡ k → Holds image u (es ++ at ∷ [])) version 8 (λ kind. voters_step s u es at is told kind are (by_kind s u at 8 kind e)),
            ),
          ),
        ),
      ) refl
  read_step version stages.Seconds s u es at is told are may e =
      any_kind (λ k. at.element.kind ≡ k → Holds image u (es ++ at ∷ [])) (2 ∷ 4 ∷ 5 ∷ 6 ∷ []) at.element.kind may (
        (λ kind. second_step s u es at told.0 told.1 told.2 kind are (by_kind s u at 2 kind e)),
        (
          (λ kind. issued_step s u es at told.0 told.2 kind are (by_kind s u at 4 kind e)),
          ((λ kind. publication_step s u es at told.0 kind are (by_kind s u at 5 kind e)), ((λ kind. end_step s u es at told.0 kind (by_kind s u at 6 kind e)), tt)),
        ),
      ) refl
  read_step version stages.Items s u es at is told are may e =
      any_kind (λ k. at.element.kind ≡ k → Holds image u (es ++ at ∷ [])) (3 ∷ in_two version 7) at.element.kind may (
        (λ kind. item_step s u es at is told (inl kind) (by_kind s u at 3 kind e)),
        all_two (λ k. at.element.kind ≡ k → Holds image u (es ++ at ∷ [])) version 7 (λ kind. item_step s u es at is told (inr kind) (by_kind s u at 7 kind e)),
      ) refl
  read_step version stages.Issued s u es at is told are may e =
      any_kind (λ k. at.element.kind ≡ k → Holds image u (es ++ at ∷ [])) (4 ∷ 5 ∷ 6 ∷ []) at.element.kind may (
        (λ kind. issued_step s u es at told.0 told.1 kind are (by_kind s u at 4 kind e)),
        ((λ kind. publication_step s u es at told.0 kind are (by_kind s u at 5 kind e)), ((λ kind. end_step s u es at told.0 kind (by_kind s u at 6 kind e)), tt)),
      ) refl
  read_step version stages.Publications s u es at is told are may e =
      any_kind (λ k. at.element.kind ≡ k → Holds image u (es ++ at ∷ [])) (5 ∷ 6 ∷ []) at.element.kind may (
        (λ kind. publication_step s u es at told kind are (by_kind s u at 5 kind e)),
        ((λ kind. end_step s u es at told kind (by_kind s u at 6 kind e)), tt),
      ) refl
  read_step version stages.End s u es at is told are may e = absurd cc

  whole_told : (stage : Stage) (said : Loaded) (es : List PlacedTlv) → is_end stage ≡ true → Told image stage said es → Matches (journal_elements said.contents) es × Sound image said
  whole_told stages.Start said es ends told = absurd cc
  whole_told stages.Voters said es ends told = absurd cc
  whole_told stages.Seconds said es ends told = absurd cc
  whole_told stages.Items said es ends told = absurd cc
  whole_told stages.Issued said es ends told = absurd cc
  whole_told stages.Publications said es ends told = absurd cc
  whole_told stages.End said es ends told = told

  abbrev of_bytes : List PlacedTlv → Type 0
  of_bytes es = AllByRecursion (λ (at : PlacedTlv). AreBytes at.element.body) es

  -- elements of bytes that lead to the end
  pub walked_told : (version : Version) (es : List PlacedTlv) (said : Loaded) → Leads (journal_order image) (nothing_yet version) es said → is_end said.stage ≡ true → of_bytes es
      → Matches (journal_elements said.contents) es × Sound image said
  walked_told version es said leads ends bytes =
      whole_told said.stage said es ends
      (leads_keep (journal_order image) (λ s es. of_bytes es → Holds image s es)
      (λ s u es at told more may e bytes. let less = all_less (λ (at : PlacedTlv). AreBytes at.element.body) es at bytes in read_step s.version s.stage s u es at refl (told less.0) less.1 may e)
      (nothing_yet version) said [] es (λ none. (refl, refl)) leads bytes)
