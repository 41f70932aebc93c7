-- What an element holds is accepted, and says the same, wherever the element stands.
use Rattle.std.proofs.Common.{◌≡◌, ◌⊎◌, inl, inr, ℕ, ◌+◌, ◌-◌, ◌^◌, ◌<◌, Bool, true, false, cond, eqb, ltb, List, [], ◌∷◌, ◌++◌, length, map, Option, Some, None, Result, Ok, Err, refl, sym, ap, subst, ◌∙◌}
use Rattle.std.specs.Prelude.{◌||◌, option_map}
use Rattle.std.specs.List.{AllByRecursion}
use Rattle.std.proofs.lemmas.Bool.{eqb-true}
use Rattle.std.proofs.lemmas.List.{append-nil, drop_at, take_at}
use Rattle.std.proofs.lemmas.List.Elements.{All-drop, All-take}
use Rattle.ksi_imprint.specs.declared.fault.ImprintFault.{ImprintFault}
use Rattle.ksi_imprint.specs.Reading.{imprint_at}
use Rattle.ksi_split.specs.declared.side.Side.{Side}
use Rattle.ksi_aggtree.specs.declared.chains.link.Link.{Link}
use Rattle.ksi_aggtree.specs.declared.chains.link.Sibling.{Sibling}
use Rattle.ksi_aggtree.specs.declared.chains.link.Sibling.TheVariants as siblings
use Rattle.ksi_tlv.specs.Spelling.{Tlv, AreBytes}
use Rattle.ksi_tlv.specs.Walking.{PlacedTlv, placed_at, elements, joined, laid, items_of}
use Rattle.ksi_tlv.specs.Numerals.{number_of}
use Rattle.ksi_tlv.specs.declared.grammar.fault.ElementFault.{ElementFault}
use Rattle.ksi_tlv.specs.declared.grammar.fault.ElementFault.TheVariants as faults
use Rattle.ksi_tlv.specs.Table.{Verdict, Slot, Table, is_among, slot_of, count, is_table}
use Rattle.ksi_tlv.specs.Containing.{◌>>=◌, container_verdict, inner_verdict}
use Rattle.ksi_tlv.specs.Valid.{MayStandAs, MayStand, AtMost, AtLeast, AreWithin, AreEnough, IsContainer}
use Rattle.ksi_tlv.specs.Contents.{passes, number_in, time_in, level_in, algorithm_in, imprint_or, imprint_in, raw_in}
use Rattle.ksi_tlv.specs.Inside.{whole, inner_elements, first_of}
use Rattle.ksi_tlv.specs.Published.{number_or_zero, imprint_or_zero}
use Rattle.ksi_signature.specs.Tables.{link_table, link_content, chain_table, chain_content}
use Rattle.ksi_signature.specs.Values.{Aggregation}
use Rattle.ksi_signature.specs.Contents.{bodies_of, sibling_among, link_in, links_among, chain_in}
use Rattle.ksi_signature.proofs.Whole.{Laws, found_in}
use Rattle.ksi_signature.proofs.Standing.{Reading, AreSpelled, body_last, all_read}

-- ---- what a body says

number_if : (b : Bool) (f g : ElementFault) (m : ℕ) → passes (cond b (Err f) (Ok m)) ≡ Ok tt → passes (cond b (Err g) (Ok m)) ≡ Ok tt
number_if true f g m e = absurd cc
number_if false f g m e = refl

pass_at : (c : Bool) (m : ℕ) (f : ElementFault) → passes (cond c (Ok m) (Err f)) ≡ Ok tt → c ≡ true
pass_at true m f e = refl
pass_at false m f e = absurd cc

then_if : (b : Bool) (f h : ElementFault) (g k : ℕ → ElementFault) (m : ℕ) (test : ℕ → Bool)
    → passes (cond b (Err f) (Ok m) >>= λ n. cond (test n) (Ok n) (Err (g n))) ≡ Ok tt → passes (cond b (Err h) (Ok m) >>= λ n. cond (test n) (Ok n) (Err (k n))) ≡ Ok tt
then_if true f h g k m test e = absurd cc
then_if false f h g k m test e = let yes = pass_at (test m) m (g m) e in rw yes refl

imprint_if : (p q : ℕ) (r : Result (List ℕ) ImprintFault) → passes (imprint_or p r) ≡ Ok tt → passes (imprint_or q r) ≡ Ok tt
imprint_if p q (Ok imprint) e = refl
imprint_if p q (Err fault) e = absurd cc

raw_if : (b : Bool) (f g : ElementFault) → cond {A = Verdict} b (Ok tt) (Err f) ≡ Ok tt → cond {A = Verdict} b (Ok tt) (Err g) ≡ Ok tt
raw_if true f g e = refl
raw_if false f g e = absurd cc

-- a test of contents does not depend on the place
abbrev pub Moves : (PlacedTlv → Verdict) → Type 0
Moves content = (e : Tlv) (p q n : ℕ) → AreBytes e.body → content (placed_at p e n) ≡ Ok tt → content (placed_at q e n) ≡ Ok tt

number_moves : Moves (λ at. passes (number_in at))
number_moves e p q n bytes ok = number_if (ltb 8 (length e.body)) (faults.Number p) (faults.Number q) (number_of e.body) ok

time_moves : Moves (λ at. passes (time_in at))
unfolding time_in
time_moves e p q n bytes ok = then_if (ltb 8 (length e.body)) (faults.Number p) (faults.Number q) (λ n. faults.Time p) (λ n. faults.Time q) (number_of e.body) (λ n. ltb n (2 ^ 63)) ok

level_moves : Moves (λ at. passes (level_in at))
unfolding level_in
level_moves e p q n bytes ok = then_if (ltb 8 (length e.body)) (faults.Number p) (faults.Number q) (λ n. faults.Number p) (λ n. faults.Number q) (number_of e.body) (λ n. ltb n 256) ok

algorithm_moves : Moves (λ at. passes (algorithm_in at))
unfolding algorithm_in
algorithm_moves e p q n bytes ok = then_if (ltb 8 (length e.body)) (faults.Number p) (faults.Number q) (λ n. faults.Algorithm n) (λ n. faults.Algorithm n) (number_of e.body) (λ n. eqb n 1) ok

imprint_moves : Moves (λ at. passes (imprint_in at))
unfolding imprint_in
imprint_moves e p q n bytes ok = imprint_if p q (imprint_at e.body) ok

raw_moves : Moves raw_in
unfolding raw_in
raw_moves e p q n bytes ok = raw_if _ (faults.Sibling p) (faults.Sibling q) ok

either : (b : Bool) (x y v w : Verdict) → (x ≡ Ok tt → v ≡ Ok tt) → (y ≡ Ok tt → w ≡ Ok tt) → cond b x y ≡ Ok tt → cond b v w ≡ Ok tt
either true x y v w f g e = f e
either false x y v w f g e = g e

link_content_moves : Moves link_content
link_content_moves e p q n bytes ok =
    either (eqb e.kind 1) _ _ _ _ (level_moves e p q n bytes) (either (eqb e.kind 2) _ _ _ _ (imprint_moves e p q n bytes) (raw_moves e p q n bytes)) ok

-- ---- containers

-- elements with their texts, one after the other, that are a container's
pub record Inner (inside : ℕ) (body : List ℕ) : Type 0 where
  pub parts : List (Tlv × List ℕ)
  pub spelled : AreSpelled parts
  pub joins : body ≡ joined parts
  pub bytes : AllByRecursion (λ part. AreBytes part.0.body) parts
  pub found : whole (elements inside body) ≡ laid inside parts

pub bytes_inside : (parts : List (Tlv × List ℕ)) → AreSpelled parts → AreBytes (joined parts) → AllByRecursion (λ part. AreBytes part.0.body) parts
bytes_inside [] spelled bytes = tt
bytes_inside (part ∷ parts) spelled bytes =
    let text : AreBytes part.1 = subst AreBytes (take_at part.1 (joined parts) (length part.1) refl) (All-take (λ b. b < 256) (length part.1) (part.1 ++ joined parts) bytes) in
    let rest : AreBytes (joined parts) = subst AreBytes (drop_at part.1 (joined parts) (length part.1) refl) (All-drop (λ b. b < 256) (length part.1) (part.1 ++ joined parts) bytes) in
    (subst AreBytes (body_last part.0 part.1 spelled.0) (All-drop (λ b. b < 256) (length part.1 - length part.0.body) part.1 text), bytes_inside parts spelled.1 rest)

pub inner_of : Reading → (t : Table) (inside : ℕ) (body : List ℕ) (es : List PlacedTlv) → AreBytes body → IsContainer t inside body es → (i : Inner inside body) × (es ≡ laid inside i.parts)
inner_of reading t inside body es bytes c =
    let r = (reading inside body (elements inside body) bytes).0 refl in
    let all = all_read es (laid inside r.parts) (inside + length (joined r.parts)) r.left (sym c.split ∙ r.placed) in
    let joins : body ≡ joined r.parts = r.split ∙ ap (λ (left : List ℕ). joined r.parts ++ left) all.0 ∙ append-nil (joined r.parts) in (
      record {
        parts = r.parts;
        spelled = r.spelled;
        joins = joins;
        bytes = bytes_inside r.parts r.spelled (subst AreBytes joins bytes);
        found = sym (found_in t inside body es c) ∙ all.1;
      },
      all.1,
    )

abbrev pub Joins : Type 0
Joins = (place : ℕ) (parts : List (Tlv × List ℕ)) → AreSpelled parts → elements place (joined parts) ≡ items_of (laid place parts)

fits_at : (t : Table) → Moves t.content → (slot : Option Slot) (e : Tlv) (p q n : ℕ) → AreBytes e.body → MayStandAs t (placed_at p e n) slot → MayStandAs t (placed_at q e n) slot
fits_at t moves None e p q n bytes fits = fits
fits_at t moves (Some slot) e p q n bytes fits = moves e p q n bytes fits

pub stands_moved : (t : Table) → Moves t.content → (e : Tlv) (p q n : ℕ) → AreBytes e.body → MayStand t (placed_at p e n) → MayStand t (placed_at q e n)
stands_moved t moves e p q n bytes may = record { named = may.named; fits = fits_at t moves (slot_of t.slots e.kind) e p q n bytes may.fits }

pub each_moved : (t : Table) → Moves t.content → (p q : ℕ) (parts : List (Tlv × List ℕ)) → AllByRecursion (λ part. AreBytes part.0.body) parts → AllByRecursion (MayStand t) (laid p parts) → AllByRecursion (MayStand t) (laid q parts)
each_moved t moves p q [] bytes may = tt
each_moved t moves p q (part ∷ parts) bytes may =
    (stands_moved t moves part.0 p q (length part.1) bytes.0 may.0, each_moved t moves (p + length part.1) (q + length part.1) parts bytes.1 may.1)

pub count_moved : (kinds : List ℕ) (p q : ℕ) (parts : List (Tlv × List ℕ)) → count kinds (laid p parts) ≡ count kinds (laid q parts)
count_moved kinds p q [] = refl
count_moved kinds p q (part ∷ parts) = ap (λ (n : ℕ). cond (is_among part.0.kind kinds) 1 0 + n) (count_moved kinds (p + length part.1) (q + length part.1) parts)

within_same : (slots : List Slot) (es fs : List PlacedTlv) → ((kinds : List ℕ) → count kinds es ≡ count kinds fs) → AreWithin slots es → AreWithin slots fs
within_same [] es fs same w = tt
within_same (slot ∷ slots) es fs same w = (subst (AtMost slot.most) (same slot.kinds) w.0, within_same slots es fs same w.1)

enough_same : (slots : List Slot) (es fs : List PlacedTlv) → ((kinds : List ℕ) → count kinds es ≡ count kinds fs) → AreEnough slots es → AreEnough slots fs
enough_same [] es fs same w = tt
enough_same (slot ∷ slots) es fs same w = (subst (AtLeast slot.lack) (same slot.kinds) w.0, enough_same slots es fs same w.1)

pub container_moved : Laws → Reading → Joins → (t : Table) → is_table t ≡ true → Moves t.content → (p q inside to : ℕ) (body : List ℕ) → AreBytes body → container_verdict t p inside body ≡ Ok tt → container_verdict t q to body ≡ Ok tt
container_moved laws reading joins t table moves p q inside to body bytes ok =
    let s = (laws.whole t p inside body table).0 ok in
    let i = inner_of reading t inside body s.0 bytes s.1 in
    let each : AllByRecursion (MayStand t) (laid inside i.0.parts) = subst (AllByRecursion (MayStand t)) i.1 s.1.each in
    let within : AreWithin t.slots (laid inside i.0.parts) = subst (AreWithin t.slots) i.1 s.1.within in
    let enough : AreEnough t.slots (laid inside i.0.parts) = subst (AreEnough t.slots) i.1 s.1.enough in
    (laws.whole t q to body table).1 (
      laid to i.0.parts,
      record {
        split = ap (elements to) i.0.joins ∙ joins to i.0.parts i.0.spelled;
        each = each_moved t moves inside to i.0.parts i.0.bytes each;
        within = within_same t.slots (laid inside i.0.parts) (laid to i.0.parts) (λ kinds. count_moved kinds inside to i.0.parts) within;
        enough = enough_same t.slots (laid inside i.0.parts) (laid to i.0.parts) (λ kinds. count_moved kinds inside to i.0.parts) enough;
      },
    )

abbrev pub inside_of : ℕ → Tlv → ℕ → ℕ
inside_of p e n = p + (n - length e.body)

link_moves : Laws → Reading → Joins → Moves (inner_verdict link_table)
link_moves laws reading joins e p q n bytes ok = container_moved laws reading joins link_table refl link_content_moves p q (inside_of p e n) (inside_of q e n) e.body bytes ok

chain_content_moves : Laws → Reading → Joins → Moves chain_content
chain_content_moves laws reading joins e p q n bytes ok =
    either (eqb e.kind 2) _ _ _ _ (time_moves e p q n bytes) (either (eqb e.kind 3) _ _ _ _ (number_moves e p q n bytes) (either (eqb e.kind 4) _ _ _ _ (λ ok. refl)
    (either (eqb e.kind 5) _ _ _ _ (imprint_moves e p q n bytes) (either (eqb e.kind 6) _ _ _ _ (algorithm_moves e p q n bytes) (link_moves laws reading joins e p q n bytes))))) ok

pub chain_moves : Laws → Reading → Joins → Moves (inner_verdict chain_table)
chain_moves laws reading joins e p q n bytes ok = container_moved laws reading joins chain_table refl (chain_content_moves laws reading joins) p q (inside_of p e n) (inside_of q e n) e.body bytes ok

-- ---- what is said

first_if : {A : Type 0} (b : Bool) (g : Option PlacedTlv → A) (at bt : PlacedTlv) (one other : Option PlacedTlv) → g (Some at) ≡ g (Some bt) → g one ≡ g other → g (cond b (Some at) one) ≡ g (cond b (Some bt) other)
first_if true g at bt one other same rest = same
first_if false g at bt one other same rest = rest

-- what is read off the first element of a kind
first_moved : {A : Type 0} (g : Option PlacedTlv → A) (kind p q : ℕ) (parts : List (Tlv × List ℕ)) → ((e : Tlv) (p q n : ℕ) → g (Some (placed_at p e n)) ≡ g (Some (placed_at q e n)))
    → g (first_of kind (laid p parts)) ≡ g (first_of kind (laid q parts))
first_moved g kind p q [] same = refl
first_moved g kind p q (part ∷ parts) same =
    first_if (eqb part.0.kind kind) g (placed_at p part.0 (length part.1)) (placed_at q part.0 (length part.1)) (first_of kind (laid (p + length part.1) parts)) (first_of kind (laid (q + length part.1) parts))
    (same part.0 p q (length part.1)) (first_moved g kind (p + length part.1) (q + length part.1) parts same)

bodies_if : (b : Bool) (body : List ℕ) (one other : List (List ℕ)) → one ≡ other → cond b (body ∷ one) one ≡ cond b (body ∷ other) other
bodies_if b body one other same = ap (λ (rest : List (List ℕ)). cond b (body ∷ rest) rest) same

bodies_moved : (kind p q : ℕ) (parts : List (Tlv × List ℕ)) → bodies_of kind (laid p parts) ≡ bodies_of kind (laid q parts)
bodies_moved kind p q [] = refl
bodies_moved kind p q (part ∷ parts) =
    bodies_if (eqb part.0.kind kind) part.0.body _ _ (bodies_moved kind (p + length part.1) (q + length part.1) parts)

sibling_moved : (p q : ℕ) (parts : List (Tlv × List ℕ)) → sibling_among (laid p parts) ≡ sibling_among (laid q parts)
sibling_moved p q [] = refl
sibling_moved p q (part ∷ parts) =
    ap (λ (rest : Sibling). cond (eqb part.0.kind 2) (siblings.Imprint part.0.body) (cond (eqb part.0.kind 3) (siblings.Legacy part.0.body) (cond (eqb part.0.kind 4) (siblings.Metadata part.0.body) rest)))
    (sibling_moved (p + length part.1) (q + length part.1) parts)

-- the elements inside an accepted one, at two places
pub record Both (t : Table) (p q : ℕ) (e : Tlv) (n : ℕ) : Type 0 where
  pub parts : List (Tlv × List ℕ)
  pub bytes : AllByRecursion (λ part. AreBytes part.0.body) parts
  pub each : AllByRecursion (MayStand t) (laid (inside_of p e n) parts)
  pub here : inner_elements (placed_at p e n) ≡ laid (inside_of p e n) parts
  pub there : inner_elements (placed_at q e n) ≡ laid (inside_of q e n) parts

whole_items : (es : List PlacedTlv) → whole (items_of es) ≡ es
whole_items [] = refl
whole_items (at ∷ es) = ap (λ (es : List PlacedTlv). at ∷ es) (whole_items es)

both_of : Laws → Reading → Joins → (t : Table) → is_table t ≡ true → (e : Tlv) (p q n : ℕ) → AreBytes e.body → inner_verdict t (placed_at p e n) ≡ Ok tt → Both t p q e n
both_of laws reading joins t table e p q n bytes ok =
    let s = (laws.whole t p (inside_of p e n) e.body table).0 ok in
    let i = inner_of reading t (inside_of p e n) e.body s.0 bytes s.1 in
    record {
      parts = i.0.parts;
      bytes = i.0.bytes;
      each = subst (AllByRecursion (MayStand t)) i.1 s.1.each;
      here = i.0.found;
      there =
          ap (λ (body : List ℕ). whole (elements (inside_of q e n) body)) i.0.joins ∙ ap whole (joins (inside_of q e n) i.0.parts i.0.spelled)
          ∙ whole_items (laid (inside_of q e n) i.0.parts);
    }

made_link : (side : Side) (correction : ℕ) (sibling : Sibling) (other : Link) → side ≡ other.side → correction ≡ other.correction → sibling ≡ other.sibling → record { side = side; correction = correction; sibling = sibling } ≡ other
made_link side correction sibling other one two three = rw (one, two, three) refl

link_moved : Laws → Reading → Joins → (e : Tlv) (p q n : ℕ) → AreBytes e.body → inner_verdict link_table (placed_at p e n) ≡ Ok tt → link_in (placed_at p e n) ≡ link_in (placed_at q e n)
unfolding link_in
link_moved laws reading joins e p q n bytes ok =
    let b = both_of laws reading joins link_table refl e p q n bytes ok in
    made_link _ _ _ _ refl
    (ap (λ (es : List PlacedTlv). number_or_zero (first_of 1 es)) b.here ∙ first_moved number_or_zero 1 (inside_of p e n) (inside_of q e n) b.parts (λ e p q n. refl) ∙ sym (ap (λ (es : List PlacedTlv). number_or_zero (first_of 1 es)) b.there))
    (ap sibling_among b.here ∙ sibling_moved (inside_of p e n) (inside_of q e n) b.parts ∙ sym (ap sibling_among b.there))

link_stands : (at : PlacedTlv) → (at.element.kind ≡ 7) ⊎ (at.element.kind ≡ 8) → MayStand chain_table at → inner_verdict link_table at ≡ Ok tt
link_stands at (inl is) may = let fits : MayStandAs chain_table at (slot_of chain_table.slots at.element.kind) = may.fits in rw is at fits
link_stands at (inr is) may = let fits : MayStandAs chain_table at (slot_of chain_table.slots at.element.kind) = may.fits in rw is at fits

links_if : (b c : Bool) (one other : Link) (rest more : List Link) → (b ≡ true → one ≡ other) → (c ≡ true → one ≡ other) → rest ≡ more → cond (b || c) (one ∷ rest) rest ≡ cond (b || c) (other ∷ more) more
links_if true c one other rest more left right same = rw (left refl, same) refl
links_if false true one other rest more left right same = rw (right refl, same) refl
links_if false false one other rest more left right same = same

links_moved : Laws → Reading → Joins → (p q : ℕ) (parts : List (Tlv × List ℕ)) → AllByRecursion (λ part. AreBytes part.0.body) parts → AllByRecursion (MayStand chain_table) (laid p parts) → links_among (laid p parts) ≡ links_among (laid q parts)
links_moved laws reading joins p q [] bytes may = refl
links_moved laws reading joins p q (part ∷ parts) bytes may =
    let n = length part.1 in
    links_if (eqb part.0.kind 7) (eqb part.0.kind 8) (link_in (placed_at p part.0 n)) (link_in (placed_at q part.0 n)) (links_among (laid (p + n) parts)) (links_among (laid (q + n) parts))
    (λ is. link_moved laws reading joins part.0 p q n bytes.0 (link_stands (placed_at p part.0 n) (inl (eqb-true _ _ is)) may.0))
    (λ is. link_moved laws reading joins part.0 p q n bytes.0 (link_stands (placed_at p part.0 n) (inr (eqb-true _ _ is)) may.0))
    (links_moved laws reading joins (p + n) (q + n) parts bytes.1 may.1)

made_chain : (time : ℕ) (index : List ℕ) (input_body : Option (List ℕ)) (input : List ℕ) (links : List Link) (other : Aggregation) → time ≡ other.time → index ≡ other.index → input_body ≡ other.input_body → input ≡ other.input → links ≡ other.links
    → record { time = time; index = index; input_body = input_body; input = input; links = links } ≡ other
made_chain time index input_body input links other one two three four five = rw (one, two, three, four, five) refl

pub chain_moved : Laws → Reading → Joins → (e : Tlv) (p q n : ℕ) → AreBytes e.body → inner_verdict chain_table (placed_at p e n) ≡ Ok tt → chain_in (placed_at p e n) ≡ chain_in (placed_at q e n)
unfolding chain_in
chain_moved laws reading joins e p q n bytes ok =
    let b = both_of laws reading joins chain_table refl e p q n bytes ok in
    let i = inside_of p e n in
    let j = inside_of q e n in
    made_chain _ _ _ _ _ _
    (ap (λ (es : List PlacedTlv). number_or_zero (first_of 2 es)) b.here ∙ first_moved number_or_zero 2 i j b.parts (λ e p q n. refl) ∙ sym (ap (λ (es : List PlacedTlv). number_or_zero (first_of 2 es)) b.there))
    (ap (λ (es : List PlacedTlv). map number_of (bodies_of 3 es)) b.here ∙ ap (map number_of) (bodies_moved 3 i j b.parts) ∙ sym (ap (λ (es : List PlacedTlv). map number_of (bodies_of 3 es)) b.there))
    (ap (λ (es : List PlacedTlv). option_map (λ (part : PlacedTlv). part.element.body) (first_of 4 es)) b.here ∙ first_moved (option_map (λ (part : PlacedTlv). part.element.body)) 4 i j b.parts (λ e p q n. refl) ∙ sym (ap (λ (es : List PlacedTlv). option_map (λ (part : PlacedTlv). part.element.body) (first_of 4 es)) b.there))
    (ap (λ (es : List PlacedTlv). imprint_or_zero (first_of 5 es)) b.here ∙ first_moved imprint_or_zero 5 i j b.parts (λ e p q n. refl) ∙ sym (ap (λ (es : List PlacedTlv). imprint_or_zero (first_of 5 es)) b.there))
    (ap links_among b.here ∙ links_moved laws reading joins i j b.parts b.bytes b.each ∙ sym (ap links_among b.there))
