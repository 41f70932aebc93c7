-- A signature with another calendar chain and publication record is the signature with these.
use Rattle.std.proofs.Common.{◌≡◌, ℕ, ◌+◌, ◌-◌, ◌<◌, ◌≤◌, Bool, true, false, cond, eqb, List, [], ◌∷◌, ◌++◌, length, take, drop, map, Option, Some, None, Ok, refl, sym, ap, subst, ◌∙◌, arith}
use Rattle.std.specs.Prelude.{◌||◌, ◌&&◌, not, option_map}
use Rattle.std.specs.List.{AllByRecursion}
use Rattle.std.proofs.lemmas.Bool.{eqb-true}
use Rattle.std.proofs.lemmas.List.{append_assoc, length-append, take_at}
use Rattle.std.proofs.lemmas.List.Elements.{All-drop}
use Rattle.ksi_tlv.specs.Spelling.{Tlv, plain, canonical, FitsLong, Spells, AreBytes}
use Rattle.ksi_tlv.specs.Walking.{PlacedTlv, placed_at, elements, joined, laid, items_of}
use Rattle.ksi_tlv.specs.Writing.{written, texts}
use Rattle.ksi_tlv.specs.Table.{Slot, slot_of, count}
use Rattle.ksi_tlv.specs.Containing.{inner_verdict}
use Rattle.ksi_tlv.specs.Valid.{MayStandAs, MayStand}
use Rattle.ksi_tlv.specs.Inside.{first_of}
use Rattle.ksi_signature.specs.declared.signature.Signature.{Signature}
use Rattle.ksi_signature.specs.Tables.{chain_table, chains, signature_table, signature_content}
use Rattle.ksi_signature.specs.Values.{Aggregation, Calendar, Publishing}
use Rattle.ksi_signature.specs.Kept.{IsCalendar, IsPublishing}
use Rattle.ksi_signature.specs.Contents.{chain_in, calendar_in, publishing_in, put_chain, chains_behind, signature_of}
use Rattle.ksi_signature.specs.File.{IsSignature}
use Rattle.ksi_tlv.specs.Published.{published_elements}
use Rattle.ksi_signature.specs.Written.{calendar_element, publishing_elements, publishing_element}
use Rattle.ksi_signature.specs.Reading.{elements_in}
use Rattle.ksi_signature.specs.Extended.{is_retained, text_in, retained_texts, content_with, extended_content, extended_text, renewed}
use Rattle.ksi_signature.proofs.Whole.{Laws}
use Rattle.ksi_signature.proofs.Standing.{Reading, AreSpelled, body_within, text_at, behind, parts_of, elements_of}
use Rattle.ksi_signature.proofs.Moved.{Joins, bytes_inside, chain_moves, chain_moved}
use Rattle.ksi_signature.proofs.Capped.{size-canonical, length-joined}
use Rattle.ksi_signature.proofs.Skips.{all_both}
use Rattle.ksi_signature.proofs.Again.{Written}
use Rattle.ksi_signature.proofs.CalendarAgain.{calendar_again, length-calendar}
use Rattle.ksi_signature.proofs.RecordAgain.{AreShort, publishing_again}

-- ---- the texts that are retained

abbrev pub retained_parts : List (Tlv × List ℕ) → List (Tlv × List ℕ)
retained_parts [] = []
retained_parts (part ∷ parts) = cond (is_retained part.0) (part ∷ retained_parts parts) (retained_parts parts)

texts_if : (b : Bool) (text rest : List ℕ) (part : Tlv × List ℕ) (parts : List (Tlv × List ℕ)) → text ≡ part.1 → rest ≡ joined parts → cond b (text ++ rest) rest ≡ joined (cond b (part ∷ parts) parts)
texts_if true text rest part parts one other = rw (one, other) refl
texts_if false text rest part parts one other = other

pub retained_joined : (bytes : List ℕ) (place : ℕ) (parts : List (Tlv × List ℕ)) → AreSpelled parts → drop place bytes ≡ joined parts → retained_texts bytes (laid place parts) ≡ joined (retained_parts parts)
retained_joined bytes place [] spelled is = refl
retained_joined bytes place (part ∷ parts) spelled is =
    let n = length part.1 in
    let within = body_within part.0 part.1 spelled.0 in
    texts_if (is_retained part.0) (text_in bytes (placed_at place part.0 n)) (retained_texts bytes (laid (place + n) parts)) part (retained_parts parts)
    (text_at bytes place n part.0 (omega (arith, within)) ∙ ap (take n) is ∙ take_at part.1 (joined parts) n refl)
    (retained_joined bytes (place + n) parts spelled.1 (behind bytes part.1 (joined parts) place is))

joined-append : (xs ys : List (Tlv × List ℕ)) → joined (xs ++ ys) ≡ joined xs ++ joined ys
joined-append [] ys = refl
joined-append (x ∷ xs) ys = ap (λ (rest : List ℕ). x.1 ++ rest) (joined-append xs ys) ∙ sym (append_assoc x.1 (joined xs) (joined ys))

laid-append : (p : ℕ) (xs ys : List (Tlv × List ℕ)) → (q : ℕ) × (laid p (xs ++ ys) ≡ laid p xs ++ laid q ys)
laid-append p [] ys = (p, refl)
laid-append p (x ∷ xs) ys = let rest = laid-append (p + length x.1) xs ys in (rest.0, ap (λ (es : List PlacedTlv). placed_at p x.0 (length x.1) ∷ es) rest.1)

all_filter : (P : Tlv × List ℕ → Type 0) (b : Bool) (part : Tlv × List ℕ) (parts : List (Tlv × List ℕ)) → P part → AllByRecursion P parts → AllByRecursion P (cond b (part ∷ parts) parts)
all_filter P true part parts one rest = (one, rest)
all_filter P false part parts one rest = rest

all_retained : (P : Tlv × List ℕ → Type 0) (parts : List (Tlv × List ℕ)) → AllByRecursion P parts → AllByRecursion P (retained_parts parts)
all_retained P [] all = tt
all_retained P (part ∷ parts) all = all_filter P (is_retained part.0) part (retained_parts parts) all.0 (all_retained P parts all.1)

-- ---- they may stand

abbrev retains : Bool → Bool → Bool → Bool → Bool
retains a b c flags = a || (not ((a || false) || ((b || false) || ((c || false) || false))) && flags)

abbrev slot_with : Bool → Bool → Bool → Option Slot
slot_with a b c = cond (a || false) (slot_of signature_table.slots 2049) (cond (b || false) (slot_of signature_table.slots 2050) (cond (c || false) (slot_of signature_table.slots 2051) None))

module _ (laws : Laws) (reading : Reading) (joins : Joins) where
  chain_stands : (e : Tlv) (p q n : ℕ) → AreBytes e.body → e.kind ≡ 2049 → signature_content (placed_at p e n) ≡ Ok tt → signature_content (placed_at q e n) ≡ Ok tt
  chain_stands e p q n bytes is ok = let here : inner_verdict chain_table (placed_at p e n) ≡ Ok tt = rw is at ok in let there = chain_moves laws reading joins e p q n bytes here in rw is there

  fits_retained : (a b c : Bool) (e : Tlv) (p q n : ℕ) → AreBytes e.body → eqb e.kind 2049 ≡ a → retains a b c (e.non_critical && e.forward) ≡ true
      → MayStandAs signature_table (placed_at p e n) (slot_with a b c) → MayStandAs signature_table (placed_at q e n) (slot_with a b c)
  fits_retained true b c e p q n bytes is keeps fits = chain_stands e p q n bytes (eqb-true _ _ is) fits
  fits_retained false true c e p q n bytes is keeps fits = absurd cc
  fits_retained false false true e p q n bytes is keeps fits = absurd cc
  fits_retained false false false e p q n bytes is keeps fits = fits

  stands : (e : Tlv) (p q n : ℕ) → AreBytes e.body → is_retained e ≡ true → MayStand signature_table (placed_at p e n) → MayStand signature_table (placed_at q e n)
  stands e p q n bytes keeps may = record {
    named = may.named;
    fits = fits_retained (eqb e.kind 2049) (eqb e.kind 2050) (eqb e.kind 2051) e p q n bytes refl keeps may.fits;
  }

  each_if : (b : Bool) (part : Tlv × List ℕ) (p q : ℕ) (parts : List (Tlv × List ℕ)) → is_retained part.0 ≡ b → AreBytes part.0.body → MayStand signature_table (placed_at p part.0 (length part.1))
      → ((q : ℕ) → AllByRecursion (MayStand signature_table) (laid q parts)) → AllByRecursion (MayStand signature_table) (laid q (cond b (part ∷ parts) parts))
  each_if true part p q parts keeps bytes may rest = (stands part.0 p q (length part.1) bytes keeps may, rest (q + length part.1))
  each_if false part p q parts keeps bytes may rest = rest q

  pub each_retained : (p q : ℕ) (parts : List (Tlv × List ℕ)) → AllByRecursion (λ part. AreBytes part.0.body) parts → AllByRecursion (MayStand signature_table) (laid p parts) → AllByRecursion (MayStand signature_table) (laid q (retained_parts parts))
  each_retained p q [] bytes may = tt
  each_retained p q (part ∷ parts) bytes may =
      each_if (is_retained part.0) part p q (retained_parts parts) refl bytes.0 may.0 (λ q. each_retained (p + length part.1) q parts bytes.1 may.1)

  chain_value : (e : Tlv) (p q n : ℕ) → AreBytes e.body → e.kind ≡ 2049 → MayStand signature_table (placed_at p e n) → chain_in (placed_at p e n) ≡ chain_in (placed_at q e n)
  chain_value e p q n bytes is may =
      let fits : MayStandAs signature_table (placed_at p e n) (slot_of signature_table.slots e.kind) = may.fits in
      chain_moved laws reading joins e p q n bytes (rw is at fits)

  -- ---- the chains that they say

  chains_if : (a b c : Bool) (flags : Bool) (acc : List Aggregation) (part : Tlv × List ℕ) (p q : ℕ) (parts : List (Tlv × List ℕ)) (es : List PlacedTlv) (last : List PlacedTlv)
      → eqb part.0.kind 2049 ≡ a → (a ≡ true → chain_in (placed_at p part.0 (length part.1)) ≡ chain_in (placed_at q part.0 (length part.1)))
      → ((q : ℕ) (acc : List Aggregation) → chains_behind acc (laid q parts ++ last) ≡ chains_behind acc es)
      → chains_behind acc (laid q (cond (retains a b c flags) (part ∷ parts) parts) ++ last) ≡ cond a (chains_behind (put_chain (chain_in (placed_at p part.0 (length part.1))) acc) es) (chains_behind acc es)
  chains_if true b c flags acc part p q parts es last is value rest =
      rw is (ap (λ (chain : Aggregation). chains_behind (put_chain chain acc) (laid (q + length part.1) parts ++ last)) (sym (value refl)) ∙ rest (q + length part.1) (put_chain (chain_in (placed_at p part.0 (length part.1))) acc))
  chains_if false true c flags acc part p q parts es last is value rest = rest q acc
  chains_if false false true flags acc part p q parts es last is value rest = rest q acc
  chains_if false false false true acc part p q parts es last is value rest = rw is (rest (q + length part.1) acc)
  chains_if false false false false acc part p q parts es last is value rest = rest q acc

  pub chains_retained : (acc : List Aggregation) (p q : ℕ) (parts : List (Tlv × List ℕ)) (last : List PlacedTlv) → AllByRecursion (λ part. AreBytes part.0.body) parts → AllByRecursion (MayStand signature_table) (laid p parts)
      → ((acc : List Aggregation) → chains_behind acc last ≡ acc) → chains_behind acc (laid q (retained_parts parts) ++ last) ≡ chains_behind acc (laid p parts)
  chains_retained acc p q [] last bytes may none = none acc
  chains_retained acc p q (part ∷ parts) last bytes may none =
      chains_if (eqb part.0.kind 2049) (eqb part.0.kind 2050) (eqb part.0.kind 2051) (part.0.non_critical && part.0.forward) acc part p q (retained_parts parts) (laid (p + length part.1) parts) last refl
      (λ is. chain_value part.0 p q (length part.1) bytes.0 (eqb-true _ _ is) may.0)
      (λ q acc. chains_retained acc (p + length part.1) q parts last bytes.1 may.1 none)

-- ---- what they have none of

abbrev NoneOf : ℕ → List (Tlv × List ℕ) → Type 0
NoneOf kind parts = AllByRecursion (λ part. eqb part.0.kind kind ≡ false) parts

not_calendar : (a b c flags : Bool) (kind : ℕ) → eqb kind 2049 ≡ a → eqb kind 2050 ≡ b → retains a b c flags ≡ true → b ≡ false
not_calendar true true c flags kind is_a is_b keeps = let one : kind ≡ 2049 = eqb-true _ _ is_a in let other : kind ≡ 2050 = eqb-true _ _ is_b in absurd (omega arith)
not_calendar true false c flags kind is_a is_b keeps = refl
not_calendar false true c flags kind is_a is_b keeps = absurd cc
not_calendar false false c flags kind is_a is_b keeps = refl

not_record : (a b c flags : Bool) (kind : ℕ) → eqb kind 2049 ≡ a → eqb kind 2051 ≡ c → retains a b c flags ≡ true → c ≡ false
not_record true b true flags kind is_a is_c keeps = let one : kind ≡ 2049 = eqb-true _ _ is_a in let other : kind ≡ 2051 = eqb-true _ _ is_c in absurd (omega arith)
not_record true b false flags kind is_a is_c keeps = refl
not_record false true true flags kind is_a is_c keeps = absurd cc
not_record false false true flags kind is_a is_c keeps = absurd cc
not_record false b false flags kind is_a is_c keeps = refl

none_if : (kind : ℕ) (b : Bool) (part : Tlv × List ℕ) (parts : List (Tlv × List ℕ)) → (b ≡ true → eqb part.0.kind kind ≡ false) → NoneOf kind parts → NoneOf kind (cond b (part ∷ parts) parts)
none_if kind true part parts here rest = (here refl, rest)
none_if kind false part parts here rest = rest

no_calendars : (parts : List (Tlv × List ℕ)) → NoneOf 2050 (retained_parts parts)
no_calendars [] = tt
no_calendars (part ∷ parts) =
    none_if 2050 (is_retained part.0) part (retained_parts parts)
    (λ keeps. not_calendar (eqb part.0.kind 2049) (eqb part.0.kind 2050) (eqb part.0.kind 2051) (part.0.non_critical && part.0.forward) part.0.kind refl refl keeps) (no_calendars parts)

no_records : (parts : List (Tlv × List ℕ)) → NoneOf 2051 (retained_parts parts)
no_records [] = tt
no_records (part ∷ parts) =
    none_if 2051 (is_retained part.0) part (retained_parts parts)
    (λ keeps. not_record (eqb part.0.kind 2049) (eqb part.0.kind 2050) (eqb part.0.kind 2051) (part.0.non_critical && part.0.forward) part.0.kind refl refl keeps) (no_records parts)

count_skip : (b : Bool) (n m : ℕ) → b ≡ false → n ≡ m → cond (b || false) 1 0 + n ≡ m
count_skip true n m is same = absurd cc
count_skip false n m is same = omega (arith, same)

count_none : (kind q : ℕ) (parts : List (Tlv × List ℕ)) (last : List PlacedTlv) → NoneOf kind parts → count (kind ∷ []) (laid q parts ++ last) ≡ count (kind ∷ []) last
count_none kind q [] last none = refl
count_none kind q (part ∷ parts) last none = count_skip (eqb part.0.kind kind) _ _ none.0 (count_none kind (q + length part.1) parts last none.1)

first_skip : (b : Bool) (at : PlacedTlv) (one other : Option PlacedTlv) → b ≡ false → one ≡ other → cond b (Some at) one ≡ other
first_skip true at one other is same = absurd cc
first_skip false at one other is same = same

first_none : (kind q : ℕ) (parts : List (Tlv × List ℕ)) (last : List PlacedTlv) → NoneOf kind parts → first_of kind (laid q parts ++ last) ≡ first_of kind last
first_none kind q [] last none = refl
first_none kind q (part ∷ parts) last none = first_skip (eqb part.0.kind kind) _ _ _ none.0 (first_none kind (q + length part.1) parts last none.1)

count_if : (a b c flags : Bool) (part : Tlv × List ℕ) (q n : ℕ) (parts : List (Tlv × List ℕ)) (last : List PlacedTlv) → eqb part.0.kind 2049 ≡ a → ((q : ℕ) → count (2049 ∷ []) (laid q parts ++ last) ≡ n)
    → count (2049 ∷ []) (laid q (cond (retains a b c flags) (part ∷ parts) parts) ++ last) ≡ cond (a || false) 1 0 + n
count_if true b c flags part q n parts last is rest = rw is (ap (λ (n : ℕ). 1 + n) (rest (q + length part.1)))
count_if false true c flags part q n parts last is rest = omega (arith, rest q)
count_if false false true flags part q n parts last is rest = omega (arith, rest q)
count_if false false false true part q n parts last is rest = rw is (ap (λ (n : ℕ). 0 + n) (rest (q + length part.1)))
count_if false false false false part q n parts last is rest = omega (arith, rest q)

count_retained : (p q : ℕ) (parts : List (Tlv × List ℕ)) (last : List PlacedTlv) → count (2049 ∷ []) last ≡ 0 → count (2049 ∷ []) (laid q (retained_parts parts) ++ last) ≡ count (2049 ∷ []) (laid p parts)
count_retained p q [] last none = none
count_retained p q (part ∷ parts) last none =
    count_if (eqb part.0.kind 2049) (eqb part.0.kind 2050) (eqb part.0.kind 2051) (part.0.non_critical && part.0.forward) part q (count (2049 ∷ []) (laid (p + length part.1) parts)) (retained_parts parts) last refl
    (λ q. count_retained (p + length part.1) q parts last none)

-- ---- what is not too long

bodies_short : (kind most : ℕ) (bodies : List (List ℕ)) → length (texts (map (plain kind) bodies)) ≤ most → most ≤ 65535 → AreShort bodies
bodies_short kind most [] short le = tt
bodies_short kind most (body ∷ bodies) short le =
    let size = length-append (canonical (plain kind body)) (texts (map (plain kind) bodies)) in
    let all : length (texts (map (plain kind) (body ∷ bodies))) ≤ most = short in
    (omega (arith, size, all, le, length-body kind body), bodies_short kind most bodies (omega (arith, size, all)) le)
  where
    length-body : (kind : ℕ) (body : List ℕ) → length body ≤ length (canonical (plain kind body))
    length-body kind body = grind (arith, size-canonical (plain kind body))

pub record IsShortRecord (p : Publishing) : Type 0 where
  pub references : AreShort p.references
  pub repositories : AreShort p.repositories
  pub all : length (texts (publishing_elements p)) ≤ 65535

record_short : (p : Publishing) → length (texts (publishing_elements p)) ≤ 65535 → IsShortRecord p
record_short p all =
    let front = canonical (plain 16 (texts (published_elements p.time p.hash))) in
    let whole = length-append front (texts (map (plain 9) p.references ++ map (plain 10) p.repositories)) in
    let both = length-joined (map (plain 9) p.references) (map (plain 10) p.repositories) in
    record {
      references = bodies_short 9 65535 p.references (omega (arith, whole, both, all)) (omega arith);
      repositories = bodies_short 10 65535 p.repositories (omega (arith, whole, both, all)) (omega arith);
      all = all;
    }

content_short : (front : List ℕ) (c : Calendar) (p : Publishing) → length (front ++ texts (calendar_element c ∷ publishing_element p ∷ [])) ≤ 65535 → length (texts (publishing_elements p)) ≤ 65535
content_short front c p short =
    let one = length-append front (texts (calendar_element c ∷ publishing_element p ∷ [])) in
    let two = length-append (canonical (calendar_element c)) (texts (publishing_element p ∷ [])) in
    let three = length-append (canonical (publishing_element p)) [] in
    grind (arith, one, two, three, short, size-canonical (publishing_element p))

-- ---- the new signature

made : (chains : List Aggregation) (calendar : Option Calendar) (published : Option Publishing) (s : Signature) → chains ≡ s.chains → calendar ≡ s.calendar → published ≡ s.publication → record { chains = chains; calendar = calendar; publication = published } ≡ s
made chains calendar published s one two three = rw (one, two, three) refl

pub extended_again : (laws : Laws) (reading : Reading) (joins : Joins) (w : Written) (bytes : List ℕ) (s : Signature) (c : Calendar) (p : Publishing)
    → AreBytes bytes → IsSignature bytes s → IsCalendar c → IsPublishing p → length (extended_content bytes c p) ≤ 65535 → IsSignature (extended_text bytes c p) (renewed s c p)
unfolding extended_text extended_content signature_of
extended_again laws reading joins w bytes s c p fits is kept_c kept_p short =
    let o = parts_of laws reading bytes s fits is in
    let rs = retained_parts o.parts in
    let ws = written (calendar_element c ∷ publishing_element p ∷ []) in
    let content : List ℕ = content_with bytes (elements_in bytes) c p in
    let small = record_short p (content_short (retained_texts bytes (elements_in bytes)) c p short) in
    let fits_c : FitsLong (calendar_element c) = record { kind = omega arith; body = omega (arith, length-calendar w c kept_c) } in
    let fits_p : FitsLong (publishing_element p) = record { kind = omega arith; body = omega (arith, small.all) } in
    let joins_is : content ≡ joined (rs ++ ws) =
    ap (λ (es : List PlacedTlv). retained_texts bytes es ++ joined ws) o.laid_in
    ∙ ap (λ (front : List ℕ). front ++ joined ws) (retained_joined bytes o.place o.parts o.spelled o.body) ∙ sym (joined-append rs ws) in
    let element : Tlv = plain 2048 content in
    let to = length (canonical element) - length content in
    let l = laid-append to rs ws in
    let last = laid l.0 ws in
    let same : is.elements ≡ laid o.place o.parts = sym (elements_of laws bytes s is) ∙ o.laid_in in
    let may : AllByRecursion (MayStand signature_table) (laid o.place o.parts) = subst (AllByRecursion (MayStand signature_table)) same is.content.each in
    let inner : AllByRecursion (λ part. AreBytes part.0.body) o.parts = bytes_inside o.parts o.spelled (subst AreBytes o.body (All-drop (λ b. b < 256) o.place bytes fits)) in
    let n = length (canonical (calendar_element c)) in
    let m = length (canonical (publishing_element p)) in
    let cal = calendar_again w l.0 n c kept_c in
    let pub_at = publishing_again w (l.0 + n) m p kept_p small.references small.repositories in
    let chains_here = count_retained o.place to o.parts last (omega arith) in
    let chains_there : count (2049 ∷ []) is.elements ≡ count (2049 ∷ []) (laid o.place o.parts) = ap (count (2049 ∷ [])) same in
    let few : count (2049 ∷ []) is.elements ≤ 16 = is.content.within.0 in
    let some : 0 < count (2049 ∷ []) is.elements = is.content.enough.0 in
    record {
      element = element;
      spelled = w.spells element (record { kind = omega arith; body = omega (arith, short) });
      kind = refl;
      elements = laid to rs ++ last;
      content = record {
        split = ap (elements to) joins_is ∙ joins to (rs ++ ws) (all_both (λ part. Spells part.0 part.1) rs ws (all_retained (λ part. Spells part.0 part.1) o.parts o.spelled) (w.spells (calendar_element c) fits_c, (w.spells (publishing_element p) fits_p, tt))) ∙ ap items_of l.1;
        each = all_both (MayStand signature_table) (laid to rs) last (each_retained laws reading joins o.place to o.parts inner may) (record { named = refl; fits = cal.0 }, (record { named = refl; fits = pub_at.0 }, tt));
        within = (omega (arith, chains_here, chains_there, few), (omega (arith, count_none 2050 to rs last (no_calendars o.parts)), (omega (arith, count_none 2051 to rs last (no_records o.parts)), tt)));
        enough = (omega (arith, chains_here, chains_there, some), (tt, (tt, tt)));
      };
      value = sym (made _ _ _ _
          (chains_retained laws reading joins [] o.place to o.parts last inner may (λ acc. refl) ∙ sym (ap (λ (s : Signature). s.chains) is.value ∙ ap (chains_behind []) same))
          (ap (option_map calendar_in) (first_none 2050 to rs last (no_calendars o.parts)) ∙ ap (λ (c : Calendar). Some c) cal.1)
          (ap (option_map publishing_in) (first_none 2051 to rs last (no_records o.parts)) ∙ ap (λ (p : Publishing). Some p) pub_at.1));
    }
