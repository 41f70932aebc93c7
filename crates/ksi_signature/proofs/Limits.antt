-- What accepted containers hold is within the limits.
use Rattle.std.proofs.Common.{◌≡◌, ℕ, suc, ◌+◌, ◌<◌, ◌≤◌, ◌^◌, Bool, true, false, cond, eqb, ltb, leb, List, [], ◌∷◌, length, map, Some, Ok, Err, refl, ap, subst, arith}
use Rattle.std.specs.Prelude.{◌||◌, ◌&&◌}
use Rattle.std.specs.List.{AllByRecursion}
use Rattle.std.proofs.lemmas.Bool.{eqb-true, ltb-true, ltb-false, leb-true}
use Rattle.std.proofs.lemmas.List.{length-map}
use Rattle.ksi_split.specs.declared.tree_link.TreeLink.{TreeLink}
use Rattle.ksi_aggtree.specs.declared.chains.link.Link.{Link}
use Rattle.ksi_aggtree.specs.declared.chains.link.Sibling.TheVariants as siblings
use Rattle.ksi_tlv.specs.Walking.{PlacedTlv, elements}
use Rattle.ksi_tlv.specs.Numerals.{number_of}
use Rattle.ksi_tlv.specs.declared.grammar.fault.ElementFault.{ElementFault}
use Rattle.ksi_tlv.specs.declared.grammar.fault.ElementFault.TheVariants as faults
use Rattle.ksi_tlv.specs.Table.{Verdict, Table, slot_of, count, is_table}
use Rattle.ksi_tlv.specs.Containing.{container_verdict, inner_verdict}
use Rattle.ksi_tlv.specs.Valid.{MayStandAs, MayStand, IsContainer}
use Rattle.ksi_tlv.specs.Contents.{time_in, raw_in}
use Rattle.ksi_tlv.specs.Inside.{whole, inner_elements, first_of}
use Rattle.ksi_tlv.specs.Published.{published_table, record_table, number_or_zero, published_in, published_or_zero, recorded_in}
use Rattle.ksi_signature.specs.Tables.{link_table, chain_table, calendar_table, signature_table}
use Rattle.ksi_signature.specs.Values.{Aggregation, HasSize, AreLinks, FallFrom, Fall, AreChains}
use Rattle.ksi_signature.specs.Contents.{bodies_of, sibling_among, link_in, links_among, calendar_links_among, chain_in, put_chain, chains_behind}
use Rattle.ksi_signature.proofs.Says.{passed, time_says}

-- the law of what is held
abbrev pub IsHeld : Type 0
IsHeld = (t : Table) (place inside : ℕ) (body : List ℕ) → is_table t ≡ true → container_verdict t place inside body ≡ Ok tt → IsContainer t inside body (whole (elements inside body))

-- ---- counts

links_at : (b c : Bool) (at : PlacedTlv) (es : List PlacedTlv) → length (links_among es) ≡ count (7 ∷ 8 ∷ []) es → length (cond (b || c) (link_in at ∷ links_among es) (links_among es)) ≡ cond (b || (c || false)) 1 0 + count (7 ∷ 8 ∷ []) es
links_at true c at es e = omega (arith, e)
links_at false true at es e = omega (arith, e)
links_at false false at es e = omega (arith, e)

length-links : (es : List PlacedTlv) → length (links_among es) ≡ count (7 ∷ 8 ∷ []) es
length-links [] = refl
length-links (at ∷ es) = links_at (eqb at.element.kind 7) (eqb at.element.kind 8) at es (length-links es)

calendar_links_at : (b c : Bool) (link : TreeLink (List ℕ)) (es : List PlacedTlv) → length (calendar_links_among es) ≡ count (7 ∷ 8 ∷ []) es → length (cond (b || c) (link ∷ calendar_links_among es) (calendar_links_among es)) ≡ cond (b || (c || false)) 1 0 + count (7 ∷ 8 ∷ []) es
calendar_links_at true c link es e = omega (arith, e)
calendar_links_at false true link es e = omega (arith, e)
calendar_links_at false false link es e = omega (arith, e)

length-calendar_links : (es : List PlacedTlv) → length (calendar_links_among es) ≡ count (7 ∷ 8 ∷ []) es
length-calendar_links [] = refl
length-calendar_links (at ∷ es) = calendar_links_at (eqb at.element.kind 7) (eqb at.element.kind 8) _ es (length-calendar_links es)

bodies_at : (b : Bool) (kind : ℕ) (body : List ℕ) (es : List PlacedTlv) → length (bodies_of kind es) ≡ count (kind ∷ []) es → length (cond b (body ∷ bodies_of kind es) (bodies_of kind es)) ≡ cond (b || false) 1 0 + count (kind ∷ []) es
bodies_at true kind body es e = omega (arith, e)
bodies_at false kind body es e = omega (arith, e)

pub length-bodies : (kind : ℕ) (es : List PlacedTlv) → length (bodies_of kind es) ≡ count (kind ∷ []) es
length-bodies kind [] = refl
length-bodies kind (at ∷ es) = bodies_at (eqb at.element.kind kind) kind at.element.body es (length-bodies kind es)

-- ---- links

pub few_calendar_links : IsHeld → (at : PlacedTlv) → inner_verdict calendar_table at ≡ Ok tt → length (calendar_links_among (inner_elements at)) ≤ 63
few_calendar_links held at ok =
    let c = held calendar_table at.place at.inside at.element.body refl ok in
    let few : count (7 ∷ 8 ∷ []) (inner_elements at) ≤ 63 = c.within.1.1.1.0 in
    omega (arith, few, length-calendar_links (inner_elements at))

abbrev passes_if : Bool → ElementFault → Verdict
passes_if b fault = cond b (Ok tt) (Err fault)

both_true : (b c : Bool) (fault : ElementFault) → passes_if (b && c) fault ≡ Ok tt → (b ≡ true) × (c ≡ true)
both_true true true fault e = (refl, refl)
both_true true false fault e = absurd cc
both_true false c fault e = absurd cc

raw_says : (at : PlacedTlv) → raw_in at ≡ Ok tt → (0 < length at.element.body) × (length at.element.body ≤ 4096)
unfolding raw_in
raw_says at e =
    let b = both_true (ltb 0 (length at.element.body)) (leb (length at.element.body) 4096) (faults.Sibling at.place) e in
    (ltb-true _ _ b.0, leb-true _ _ b.1)

legacy_stands : (at : PlacedTlv) → at.element.kind ≡ 3 → MayStand link_table at → raw_in at ≡ Ok tt
unfolding raw_in
legacy_stands at is may = let fits : MayStandAs link_table at (slot_of link_table.slots at.element.kind) = may.fits in rw is at fits

metadata_stands : (at : PlacedTlv) → at.element.kind ≡ 4 → MayStand link_table at → raw_in at ≡ Ok tt
unfolding raw_in
metadata_stands at is may = let fits : MayStandAs link_table at (slot_of link_table.slots at.element.kind) = may.fits in rw is at fits

sibling_at : (b c d : Bool) (at : PlacedTlv) (es : List PlacedTlv) → eqb at.element.kind 3 ≡ c → eqb at.element.kind 4 ≡ d → MayStand link_table at → HasSize (sibling_among es)
    → HasSize (cond b (siblings.Imprint at.element.body) (cond c (siblings.Legacy at.element.body) (cond d (siblings.Metadata at.element.body) (sibling_among es))))
sibling_at true c d at es is_legacy is_metadata may rest = tt
sibling_at false true d at es is_legacy is_metadata may rest = raw_says at (legacy_stands at (eqb-true _ _ is_legacy) may)
sibling_at false false true at es is_legacy is_metadata may rest = raw_says at (metadata_stands at (eqb-true _ _ is_metadata) may)
sibling_at false false false at es is_legacy is_metadata may rest = rest

sibling_fits : (es : List PlacedTlv) → AllByRecursion (MayStand link_table) es → HasSize (sibling_among es)
sibling_fits [] all = tt
sibling_fits (at ∷ es) all = sibling_at (eqb at.element.kind 2) (eqb at.element.kind 3) (eqb at.element.kind 4) at es refl refl all.0 (sibling_fits es all.1)

pub left_stands : (at : PlacedTlv) → at.element.kind ≡ 7 → MayStand chain_table at → inner_verdict link_table at ≡ Ok tt
left_stands at is may = let fits : MayStandAs chain_table at (slot_of chain_table.slots at.element.kind) = may.fits in rw is at fits

pub right_stands : (at : PlacedTlv) → at.element.kind ≡ 8 → MayStand chain_table at → inner_verdict link_table at ≡ Ok tt
right_stands at is may = let fits : MayStandAs chain_table at (slot_of chain_table.slots at.element.kind) = may.fits in rw is at fits

link_fits : IsHeld → (at : PlacedTlv) → inner_verdict link_table at ≡ Ok tt → HasSize (link_in at).sibling
unfolding link_in
link_fits held at ok = sibling_fits (inner_elements at) (held link_table at.place at.inside at.element.body refl ok).each

abbrev HaveSizes : List Link → Type 0
HaveSizes links = AllByRecursion (λ link. HasSize link.sibling) links

sizes_at : (b c : Bool) (at : PlacedTlv) (es : List PlacedTlv) → IsHeld → eqb at.element.kind 7 ≡ b → eqb at.element.kind 8 ≡ c → MayStand chain_table at → HaveSizes (links_among es) → HaveSizes (cond (b || c) (link_in at ∷ links_among es) (links_among es))
sizes_at true c at es held is_left is_right may rest = (link_fits held at (left_stands at (eqb-true _ _ is_left) may), rest)
sizes_at false true at es held is_left is_right may rest = (link_fits held at (right_stands at (eqb-true _ _ is_right) may), rest)
sizes_at false false at es held is_left is_right may rest = rest

sizes : IsHeld → (es : List PlacedTlv) → AllByRecursion (MayStand chain_table) es → HaveSizes (links_among es)
sizes held [] all = tt
sizes held (at ∷ es) all = sizes_at (eqb at.element.kind 7) (eqb at.element.kind 8) at es held refl refl all.0 (sizes held es all.1)

pub are_links : IsHeld → (at : PlacedTlv) → inner_verdict chain_table at ≡ Ok tt → AreLinks (links_among (inner_elements at))
are_links held at ok =
    let c = held chain_table at.place at.inside at.element.body refl ok in
    let few : count (7 ∷ 8 ∷ []) (inner_elements at) ≤ 63 = c.within.1.1.1.1.1.0 in
    record { count = omega (arith, few, length-links (inner_elements at)); sizes = sizes held (inner_elements at) c.each }

-- ---- index parts

pub some_index : IsHeld → (at : PlacedTlv) → inner_verdict chain_table at ≡ Ok tt → 0 < length (map number_of (bodies_of 3 (inner_elements at)))
some_index held at ok =
    let c = held chain_table at.place at.inside at.element.body refl ok in
    let some : 0 < count (3 ∷ []) (inner_elements at) = c.enough.1.0 in
    omega (arith, some, length-bodies 3 (inner_elements at), length-map (bodies_of 3 (inner_elements at)) number_of)

-- ---- chains

put_length : (b : Bool) (chain other : Aggregation) (chains : List Aggregation) → length (put_chain chain chains) ≡ suc (length chains) → length (cond b (chain ∷ other ∷ chains) (other ∷ put_chain chain chains)) ≡ suc (suc (length chains))
put_length true chain other chains e = refl
put_length false chain other chains e = omega (arith, e)

length-put_chain : (chain : Aggregation) (chains : List Aggregation) → length (put_chain chain chains) ≡ suc (length chains)
length-put_chain chain [] = refl
length-put_chain chain (other ∷ chains) = put_length (ltb (length other.index) (length chain.index)) chain other chains (length-put_chain chain chains)

fall_at : (b : Bool) (most : ℕ) (chain other : Aggregation) (chains : List Aggregation) → ltb (length other.index) (length chain.index) ≡ b → length chain.index ≤ most → FallFrom most (other ∷ chains)
    → (length chain.index ≤ length other.index → FallFrom (length other.index) (put_chain chain chains)) → FallFrom most (cond b (chain ∷ other ∷ chains) (other ∷ put_chain chain chains))
fall_at true most chain other chains test le fall rest = let more = ltb-true _ _ test in (le, (omega (arith, more), fall.1))
fall_at false most chain other chains test le fall rest = (fall.0, rest (ltb-false _ _ test))

fall_from : (most : ℕ) (chain : Aggregation) (chains : List Aggregation) → length chain.index ≤ most → FallFrom most chains → FallFrom most (put_chain chain chains)
fall_from most chain [] le fall = (le, tt)
fall_from most chain (other ∷ chains) le fall =
    fall_at (ltb (length other.index) (length chain.index)) most chain other chains refl le fall (λ less. fall_from (length other.index) chain chains less fall.1)

first_fall : (b : Bool) (chain other : Aggregation) (chains : List Aggregation) → ltb (length other.index) (length chain.index) ≡ b → Fall (other ∷ chains) → Fall (cond b (chain ∷ other ∷ chains) (other ∷ put_chain chain chains))
first_fall true chain other chains test fall = let more = ltb-true _ _ test in (omega (arith, more), fall)
first_fall false chain other chains test fall = fall_from (length other.index) chain chains (ltb-false _ _ test) fall

pub fall_put : (chain : Aggregation) (chains : List Aggregation) → Fall chains → Fall (put_chain chain chains)
fall_put chain [] fall = tt
fall_put chain (other ∷ chains) fall = first_fall (ltb (length other.index) (length chain.index)) chain other chains refl fall

fall_behind_at : (b : Bool) (chains : List Aggregation) (chain : Aggregation) (es : List PlacedTlv) → Fall (chains_behind (put_chain chain chains) es) → Fall (chains_behind chains es) → Fall (cond b (chains_behind (put_chain chain chains) es) (chains_behind chains es))
fall_behind_at true chains chain es put others = put
fall_behind_at false chains chain es put others = others

pub fall_behind : (chains : List Aggregation) (es : List PlacedTlv) → Fall chains → Fall (chains_behind chains es)
fall_behind chains [] fall = fall
fall_behind chains (at ∷ es) fall =
    fall_behind_at (eqb at.element.kind 2049) chains (chain_in at) es (fall_behind (put_chain (chain_in at) chains) es (fall_put (chain_in at) chains fall)) (fall_behind chains es fall)

count_at : (b : Bool) (chains : List Aggregation) (chain : Aggregation) (es : List PlacedTlv) → length (chains_behind (put_chain chain chains) es) ≡ length (put_chain chain chains) + count (2049 ∷ []) es → length (chains_behind chains es) ≡ length chains + count (2049 ∷ []) es
    → length (cond b (chains_behind (put_chain chain chains) es) (chains_behind chains es)) ≡ length chains + (cond (b || false) 1 0 + count (2049 ∷ []) es)
count_at true chains chain es put others = omega (arith, put, length-put_chain chain chains)
count_at false chains chain es put others = omega (arith, others)

length-behind : (chains : List Aggregation) (es : List PlacedTlv) → length (chains_behind chains es) ≡ length chains + count (2049 ∷ []) es
length-behind chains [] = omega arith
length-behind chains (at ∷ es) =
    count_at (eqb at.element.kind 2049) chains (chain_in at) es (length-behind (put_chain (chain_in at) chains) es) (length-behind chains es)

pub are_chains : IsHeld → (at : PlacedTlv) → inner_verdict signature_table at ≡ Ok tt → AreChains (chains_behind [] (inner_elements at))
are_chains held at ok =
    let c = held signature_table at.place at.inside at.element.body refl ok in
    let few : count (2049 ∷ []) (inner_elements at) ≤ 16 = c.within.0 in
    let some : 0 < count (2049 ∷ []) (inner_elements at) = c.enough.0 in
    record {
      some = omega (arith, some, length-behind [] (inner_elements at));
      count = omega (arith, few, length-behind [] (inner_elements at));
      fall = fall_behind [] (inner_elements at) tt;
    }

-- ---- published times

time_stands : (at : PlacedTlv) → at.element.kind ≡ 2 → MayStand published_table at → number_of at.element.body < 2 ^ 63
unfolding time_in
time_stands at is may =
    let fits : MayStandAs published_table at (slot_of published_table.slots at.element.kind) = may.fits in
    let time = passed (time_in at) (rw is at fits) in
    let says = time_says at time.0 time.1 in
    subst (λ (n : ℕ). n < 2 ^ 63) says.0 says.1

first_time : (b : Bool) (at : PlacedTlv) (es : List PlacedTlv) → eqb at.element.kind 2 ≡ b → MayStand published_table at → number_or_zero (first_of 2 es) < 2 ^ 63 → number_or_zero (cond b (Some at) (first_of 2 es)) < 2 ^ 63
first_time true at es is may rest = time_stands at (eqb-true _ _ is) may
first_time false at es is may rest = rest

times : (es : List PlacedTlv) → AllByRecursion (MayStand published_table) es → number_or_zero (first_of 2 es) < 2 ^ 63
times [] all = omega arith
times (at ∷ es) all = first_time (eqb at.element.kind 2) at es refl all.0 (times es all.1)

published_below : IsHeld → (at : PlacedTlv) → inner_verdict published_table at ≡ Ok tt → (published_in at).0 < 2 ^ 63
unfolding published_in
published_below held at ok = times (inner_elements at) (held published_table at.place at.inside at.element.body refl ok).each

data_stands : (at : PlacedTlv) → at.element.kind ≡ 16 → MayStand record_table at → inner_verdict published_table at ≡ Ok tt
data_stands at is may = let fits : MayStandAs record_table at (slot_of record_table.slots at.element.kind) = may.fits in rw is at fits

first_data : (b : Bool) (at : PlacedTlv) (es : List PlacedTlv) → IsHeld → eqb at.element.kind 16 ≡ b → MayStand record_table at → (published_or_zero (first_of 16 es)).0 < 2 ^ 63 → (published_or_zero (cond b (Some at) (first_of 16 es))).0 < 2 ^ 63
first_data true at es held is may rest = published_below held at (data_stands at (eqb-true _ _ is) may)
first_data false at es held is may rest = rest

datas : IsHeld → (es : List PlacedTlv) → AllByRecursion (MayStand record_table) es → (published_or_zero (first_of 16 es)).0 < 2 ^ 63
datas held [] all = omega arith
datas held (at ∷ es) all = first_data (eqb at.element.kind 16) at es held refl all.0 (datas held es all.1)

pub recorded_below : IsHeld → (at : PlacedTlv) → inner_verdict record_table at ≡ Ok tt → (recorded_in at).0 < 2 ^ 63
unfolding recorded_in
recorded_below held at ok = datas held (inner_elements at) (held record_table at.place at.inside at.element.body refl ok).each

-- one more chain has its place
one_more : (at : PlacedTlv) (es : List PlacedTlv) → at.element.kind ≡ 2049 → count (2049 ∷ []) (at ∷ es) ≡ suc (count (2049 ∷ []) es)
one_more at es is = rw is (omega arith)

pub room : (chains all : List Aggregation) (at : PlacedTlv) (es : List PlacedTlv) → at.element.kind ≡ 2049 → chains_behind chains (at ∷ es) ≡ all → length all ≤ 16 → length chains < 16
room chains all at es is e few =
    let n = length-behind chains (at ∷ es) in
    let one = one_more at es is in
    let same = ap (λ (chains : List Aggregation). length chains) e in
    omega (arith, n, one, same, few)
