-- Aggregation chains as they are written.
use Rattle.std.proofs.Common.{◌≡◌, ℕ, zero, suc, ◌^◌, ◌+◌, ◌<◌, ◌≤◌, Bool, true, false, cond, List, [], ◌∷◌, ◌++◌, length, map, Option, Some, None, Ok, refl, ap, ◌∙◌, arith}
use Rattle.std.specs.Prelude.{option_map}
use Rattle.std.specs.List.{AllByRecursion}
use Rattle.ksi_split.specs.declared.side.Side.{Side}
use Rattle.ksi_split.specs.declared.side.Side.TheVariants.{Left, Right}
use Rattle.ksi_aggtree.specs.declared.chains.link.Link.{Link}
use Rattle.ksi_aggtree.specs.declared.chains.link.Sibling.{Sibling}
use Rattle.ksi_aggtree.specs.declared.chains.link.Sibling.TheVariants as siblings
use Rattle.ksi_tlv.specs.Spelling.{Tlv, plain, canonical}
use Rattle.ksi_tlv.specs.Walking.{PlacedTlv, placed_at}
use Rattle.ksi_tlv.specs.Numerals.{number_of, numeral}
use Rattle.ksi_tlv.specs.Writing.{texts, placed}
use Rattle.ksi_tlv.specs.Table.{is_among, count}
use Rattle.ksi_tlv.specs.Containing.{inner_verdict}
use Rattle.ksi_tlv.specs.Inside.{first_of}
use Rattle.ksi_tlv.specs.Written.{MayStandAnywhere, MayBeWritten}
use Rattle.ksi_tlv.specs.Published.{number_or_zero, imprint_or_zero}
use Rattle.ksi_signature.specs.Tables.{chain_table}
use Rattle.ksi_signature.specs.Values.{Aggregation, HasSize}
use Rattle.ksi_signature.specs.Kept.{HasImprint, IsLink, IsAggregation}
use Rattle.ksi_signature.specs.Contents.{bodies_of, link_in, links_among, chain_in}
use Rattle.ksi_signature.specs.Written.{side_kind, sibling_element, correction_elements, link_elements, link_element, part_element, body_element, body_sizes, chain_elements, chain_element}
use Rattle.std.proofs.lemmas.List.{length-append, append-nil}
use Rattle.ksi_signature.proofs.Sizes.{length-canonical}
use Rattle.ksi_signature.proofs.Skips.{all_both, all_map, each_map, pass, pass_all, NoneAmong, count_passes, first_passes, bodies_pass, links_pass, count_map, count_all, bodies_map}
use Rattle.ksi_signature.proofs.Again.{Written, number_again, time_again, algorithm_again, imprint_again, link_may, link_again}

-- ---- elements of a chain

part_may : Written → (n : ℕ) → n < 2 ^ 64 → MayStandAnywhere chain_table (part_element n)
part_may laws n lt = record {
  spelled = record { kind = omega arith; body = omega (arith, laws.size n) };
  stands = λ place size. record { named = refl; fits = rw (number_again laws place size 3 n lt) refl };
}

body_may : (body : Option (List ℕ)) → AllByRecursion (λ size. size ≤ 65535) (body_sizes body) → AllByRecursion (MayStandAnywhere chain_table) (body_element body)
body_may None short = tt
body_may (Some body) short = (
  record {
    spelled = record { kind = omega arith; body = omega (arith, short.0) };
    stands = λ place size. record { named = refl; fits = refl };
  },
  tt,
)

abbrev Fits : Link → Type 0
Fits link = HasSize link.sibling × IsLink link

length-sibling : (sibling : Sibling) → HasSize sibling → HasImprint sibling → length (sibling_element sibling).body ≤ 4096
length-sibling (siblings.Imprint bytes) has is = omega (arith, is.size)
length-sibling (siblings.Legacy bytes) has is = has.1
length-sibling (siblings.Metadata bytes) has is = has.1

length-both : Written → (n : ℕ) (sibling : Sibling) → HasSize sibling → HasImprint sibling → length (texts (correction_elements n ++ (sibling_element sibling ∷ []))) ≤ 65535
length-both laws zero sibling has is =
    rw (length-append (canonical (sibling_element sibling)) []) (omega (arith, length-canonical (sibling_element sibling), length-sibling sibling has is))
length-both laws (suc n) sibling has is =
    rw (length-append (canonical (plain 1 (numeral (suc n)))) (canonical (sibling_element sibling) ++ []), length-append (canonical (sibling_element sibling)) [])
    (omega (arith, length-canonical (plain 1 (numeral (suc n))), length-canonical (sibling_element sibling), length-sibling sibling has is, laws.size (suc n)))

length-link : Written → (link : Link) → Fits link → length (texts (link_elements link)) ≤ 65535
length-link laws link fits = length-both laws link.correction link.sibling fits.0 fits.1.sibling

side_may : Written → (side : Side) (link : Link) → side ≡ link.side → Fits link → MayStandAnywhere chain_table (plain (side_kind side) (texts (link_elements link)))
side_may laws Left link is fits = record {
  spelled = record { kind = omega arith; body = omega (arith, length-link laws link fits) };
  stands = λ place size. record { named = refl; fits = (laws.again _ place _ (link_elements link) (link_may laws link fits.0 fits.1)).0 };
}
side_may laws Right link is fits = record {
  spelled = record { kind = omega arith; body = omega (arith, length-link laws link fits) };
  stands = λ place size. record { named = refl; fits = (laws.again _ place _ (link_elements link) (link_may laws link fits.0 fits.1)).0 };
}

abbrev last_elements : Aggregation → List Tlv
last_elements c = plain 5 c.input ∷ plain 6 (numeral 1) ∷ map link_element c.links

both_links : (links : List Link) → AllByRecursion (λ link. HasSize link.sibling) links → AllByRecursion IsLink links → AllByRecursion Fits links
both_links [] sizes are = tt
both_links (link ∷ links) sizes are = ((sizes.0, are.0), both_links links sizes.1 are.1)

last_may : Written → (c : Aggregation) → IsAggregation c → AllByRecursion (MayStandAnywhere chain_table) (last_elements c)
last_may laws c is = (
  record {
    spelled = record { kind = omega arith; body = omega (arith, is.input.size) };
    stands = λ place size. record { named = refl; fits = rw (imprint_again place size 5 c.input is.input) refl };
  },
  (
    record {
      spelled = record { kind = omega arith; body = omega (arith, laws.size 1) };
      stands = λ place size. record { named = refl; fits = rw (algorithm_again laws place size 6) refl };
    },
    all_map Fits (MayStandAnywhere chain_table) link_element c.links (λ link fits. side_may laws link.side link refl fits) (both_links c.links is.limits.sizes is.links),
  ),
)

each_may : Written → (c : Aggregation) → IsAggregation c → AllByRecursion (λ size. size ≤ 65535) (body_sizes c.input_body) → AllByRecursion (MayStandAnywhere chain_table) (chain_elements c)
each_may laws c is short = (
  record {
    spelled = record { kind = omega arith; body = omega (arith, laws.size c.time) };
    stands = λ place size. record { named = refl; fits = rw (time_again laws place size 2 c.time is.time) refl };
  },
  all_both (MayStandAnywhere chain_table) (map part_element c.index) (body_element c.input_body ++ last_elements c) (all_map (λ part. part < 2 ^ 64) (MayStandAnywhere chain_table) part_element c.index (part_may laws) is.index)
      (all_both (MayStandAnywhere chain_table) (body_element c.input_body) (last_elements c) (body_may c.input_body short) (last_may laws c is)),
)

-- ---- how many there are

no_parts : (kinds : List ℕ) → is_among 3 kinds ≡ false → (index : List ℕ) → NoneAmong kinds (map part_element index)
no_parts kinds other index = each_map (λ (e : Tlv). is_among e.kind kinds ≡ false) part_element index (λ part. other)

no_body : (kinds : List ℕ) → is_among 4 kinds ≡ false → (body : Option (List ℕ)) → NoneAmong kinds (body_element body)
no_body kinds other None = tt
no_body kinds other (Some body) = (other, tt)

pub side_among : (kinds : List ℕ) (b : Bool) (side : Side) → is_among 7 kinds ≡ b → is_among 8 kinds ≡ b → is_among (side_kind side) kinds ≡ b
side_among kinds b Left left right = left
side_among kinds b Right left right = right

no_links : (kinds : List ℕ) → is_among 7 kinds ≡ false → is_among 8 kinds ≡ false → (links : List Link) → NoneAmong kinds (map link_element links)
no_links kinds left right links = each_map (λ (e : Tlv). is_among e.kind kinds ≡ false) link_element links (λ link. side_among kinds false link.side left right)

-- what follows the parts and the input data
pub behind_body : {A : Type 0} (f : List PlacedTlv → A) (kinds : List ℕ) → is_among 3 kinds ≡ false → is_among 4 kinds ≡ false → ((at : PlacedTlv) (es : List PlacedTlv) → is_among at.element.kind kinds ≡ false → f (at ∷ es) ≡ f es)
    → (place : ℕ) (c : Aggregation) → (other : ℕ) × (f (placed place (map part_element c.index ++ (body_element c.input_body ++ last_elements c))) ≡ f (placed other (last_elements c)))
behind_body {A} f kinds part body over place c =
    let one = pass f kinds over place (map part_element c.index) (body_element c.input_body ++ last_elements c) (no_parts kinds part c.index) in
    let two = pass f kinds over one.0 (body_element c.input_body) (last_elements c) (no_body kinds body c.input_body) in
    (two.0, one.1 ∙ two.1)

-- the input hash, the algorithm and the links, where no link is counted
last_count : (kinds : List ℕ) → is_among 7 kinds ≡ false → is_among 8 kinds ≡ false → (place : ℕ) (c : Aggregation) → count kinds (placed place (last_elements c)) ≡ cond (is_among 5 kinds) 1 0 + cond (is_among 6 kinds) 1 0
last_count kinds left right place c =
    let next = place + length (canonical (plain 5 c.input)) + length (canonical (plain 6 (numeral 1))) in
    let none = pass_all (count kinds) kinds (count_passes kinds) next (map link_element c.links) (no_links kinds left right c.links) in
    omega (arith, none)

others_count : (kinds : List ℕ) → is_among 3 kinds ≡ false → is_among 4 kinds ≡ false → is_among 7 kinds ≡ false → is_among 8 kinds ≡ false → (c : Aggregation) → count kinds (placed 0 (chain_elements c)) ≡ cond (is_among 2 kinds) 1 0 + (cond (is_among 5 kinds) 1 0 + cond (is_among 6 kinds) 1 0)
others_count kinds part body left right c =
    let behind = behind_body (count kinds) kinds part body (count_passes kinds) (0 + length (canonical (plain 2 (numeral c.time)))) c in
    let last = last_count kinds left right behind.0 c in
    omega (arith, behind.1, last)

parts_count : (c : Aggregation) → length c.index ≤ count (3 ∷ []) (placed 0 (chain_elements c))
parts_count c =
    let parts = count_map (3 ∷ []) part_element (λ part. refl) (0 + length (canonical (plain 2 (numeral c.time)))) c.index (body_element c.input_body ++ last_elements c) in
    omega (arith, parts.1)

body_at : (place : ℕ) (body : Option (List ℕ)) (c : Aggregation) → count (4 ∷ []) (placed place (body_element body ++ last_elements c)) ≤ 1
body_at place None c = let last = last_count (4 ∷ []) refl refl place c in omega (arith, last)
body_at place (Some body) c = let last = last_count (4 ∷ []) refl refl (place + length (canonical (plain 4 body))) c in omega (arith, last)

body_count : (c : Aggregation) → count (4 ∷ []) (placed 0 (chain_elements c)) ≤ 1
body_count c =
    let parts = pass (count (4 ∷ [])) (4 ∷ []) (count_passes (4 ∷ [])) (0 + length (canonical (plain 2 (numeral c.time)))) (map part_element c.index) (body_element c.input_body ++ last_elements c) (no_parts (4 ∷ []) refl c.index) in
    omega (arith, parts.1, body_at parts.0 c.input_body c)

links_count : (c : Aggregation) → count (7 ∷ 8 ∷ []) (placed 0 (chain_elements c)) ≡ length c.links
links_count c =
    let behind = behind_body (count (7 ∷ 8 ∷ [])) (7 ∷ 8 ∷ []) refl refl (count_passes (7 ∷ 8 ∷ [])) (0 + length (canonical (plain 2 (numeral c.time)))) c in
    let next = behind.0 + length (canonical (plain 5 c.input)) + length (canonical (plain 6 (numeral 1))) in
    let all = count_all (7 ∷ 8 ∷ []) link_element (λ link. side_among (7 ∷ 8 ∷ []) true link.side refl refl) next c.links in
    omega (arith, behind.1, all)

pub chain_may : Written → (c : Aggregation) → IsAggregation c → AllByRecursion (λ size. size ≤ 65535) (body_sizes c.input_body) → MayBeWritten chain_table (chain_elements c)
chain_may laws c is short = record {
  each = each_may laws c is short;
  within = (
    omega (arith, others_count (2 ∷ []) refl refl refl refl c),
    (tt, (body_count c, (omega (arith, others_count (5 ∷ []) refl refl refl refl c), (omega (arith, others_count (6 ∷ []) refl refl refl refl c), (omega (arith, links_count c, is.limits.count), tt))))),
  );
  enough = (
    omega (arith, others_count (2 ∷ []) refl refl refl refl c),
    (omega (arith, parts_count c, is.some), (tt, (omega (arith, others_count (5 ∷ []) refl refl refl refl c), (omega (arith, others_count (6 ∷ []) refl refl refl refl c), (tt, tt))))),
  );
}

-- ---- what a chain says

abbrev pub read_back : ℕ → Aggregation → List PlacedTlv
read_back place c = placed place (chain_elements c)

time_read : Written → (place : ℕ) (c : Aggregation) → c.time < 2 ^ 63 → number_or_zero (first_of 2 (read_back place c)) ≡ c.time
time_read laws place c lt = laws.value c.time (omega (arith, lt))

numbers_again : Written → (index : List ℕ) → AllByRecursion (λ part. part < 2 ^ 64) index → map number_of (map (λ part. (part_element part).body) index) ≡ index
numbers_again laws [] all = refl
numbers_again laws (part ∷ index) all = rw (laws.value part all.0) (ap (λ (others : List ℕ). part ∷ others) (numbers_again laws index all.1))

index_read : Written → (place : ℕ) (c : Aggregation) → AllByRecursion (λ part. part < 2 ^ 64) c.index → map number_of (bodies_of 3 (read_back place c)) ≡ c.index
index_read laws place c all =
    let parts = bodies_map 3 part_element (λ part. refl) (place + length (canonical (plain 2 (numeral c.time)))) c.index (body_element c.input_body ++ last_elements c) in
    let body = pass (bodies_of 3) (3 ∷ []) (bodies_pass 3) parts.0 (body_element c.input_body) (last_elements c) (no_body (3 ∷ []) refl c.input_body) in
    let next = body.0 + length (canonical (plain 5 c.input)) + length (canonical (plain 6 (numeral 1))) in
    let none = pass_all (bodies_of 3) (3 ∷ []) (bodies_pass 3) next (map link_element c.links) (no_links (3 ∷ []) refl refl c.links) in
    let bodies = map (λ part. (part_element part).body) c.index in
    ap (map number_of) (parts.1 ∙ ap (λ (others : List (List ℕ)). bodies ++ others) (body.1 ∙ none) ∙ append-nil bodies) ∙ numbers_again laws c.index all

body_at_front : (place : ℕ) (body : Option (List ℕ)) (c : Aggregation) → option_map (λ (part : PlacedTlv). part.element.body) (first_of 4 (placed place (body_element body ++ last_elements c))) ≡ body
body_at_front place None c =
    let next = place + length (canonical (plain 5 c.input)) + length (canonical (plain 6 (numeral 1))) in
    ap (option_map (λ (part : PlacedTlv). part.element.body)) (pass_all (first_of 4) (4 ∷ []) (first_passes 4) next (map link_element c.links) (no_links (4 ∷ []) refl refl c.links))
body_at_front place (Some body) c = refl

body_read : (place : ℕ) (c : Aggregation) → option_map (λ (part : PlacedTlv). part.element.body) (first_of 4 (read_back place c)) ≡ c.input_body
body_read place c =
    let parts = pass (first_of 4) (4 ∷ []) (first_passes 4) (place + length (canonical (plain 2 (numeral c.time)))) (map part_element c.index) (body_element c.input_body ++ last_elements c) (no_parts (4 ∷ []) refl c.index) in
    ap (option_map (λ (part : PlacedTlv). part.element.body)) parts.1 ∙ body_at_front parts.0 c.input_body c

input_read : (place : ℕ) (c : Aggregation) → imprint_or_zero (first_of 5 (read_back place c)) ≡ c.input
input_read place c =
    let behind = behind_body (first_of 5) (5 ∷ []) refl refl (first_passes 5) (place + length (canonical (plain 2 (numeral c.time)))) c in
    ap imprint_or_zero behind.1

left_or_right : (side : Side) (at : PlacedTlv) (es : List PlacedTlv) → at.element.kind ≡ side_kind side → links_among (at ∷ es) ≡ link_in at ∷ links_among es
left_or_right Left at es is = rw is refl
left_or_right Right at es is = rw is refl

links_again : Written → (place : ℕ) (links : List Link) → AllByRecursion Fits links → links_among (placed place (map link_element links)) ≡ links
links_again laws place [] all = refl
links_again laws place (link ∷ links) all =
    let next = place + length (canonical (link_element link)) in
    let at = placed_at place (link_element link) (length (canonical (link_element link))) in
    left_or_right link.side at (placed next (map link_element links)) refl
    ∙ ap (λ (here : Link). here ∷ links_among (placed next (map link_element links))) (link_again laws place (length (canonical (link_element link))) link all.0.0 all.0.1).1
    ∙ ap (λ (others : List Link). link ∷ others) (links_again laws next links all.1)

links_read : Written → (place : ℕ) (c : Aggregation) → IsAggregation c → links_among (read_back place c) ≡ c.links
links_read laws place c is =
    let behind = behind_body links_among (7 ∷ 8 ∷ []) refl refl links_pass (place + length (canonical (plain 2 (numeral c.time)))) c in
    let next = behind.0 + length (canonical (plain 5 c.input)) + length (canonical (plain 6 (numeral 1))) in
    behind.1 ∙ links_again laws next c.links (both_links c.links is.limits.sizes is.links)

made : (time : ℕ) (index : List ℕ) (body : Option (List ℕ)) (input : List ℕ) (links : List Link) (c : Aggregation) → time ≡ c.time → index ≡ c.index → body ≡ c.input_body → input ≡ c.input → links ≡ c.links → record { time = time; index = index; input_body = body; input = input; links = links } ≡ c
made time index body input links c one two three four five = rw (one, two, three, four, five) refl

pub chain_again : Written → (place size : ℕ) (c : Aggregation) → IsAggregation c → AllByRecursion (λ size. size ≤ 65535) (body_sizes c.input_body) → (inner_verdict chain_table (placed_at place (chain_element c) size) ≡ Ok tt) × (chain_in (placed_at place (chain_element c) size) ≡ c)
unfolding chain_in
chain_again laws place size c is short =
    let at = placed_at place (chain_element c) size in
    let w = laws.again chain_table at.place at.inside (chain_elements c) (chain_may laws c is short) in (
      w.0,
      made _ _ _ _ _ c (ap (λ (es : List PlacedTlv). number_or_zero (first_of 2 es)) w.1 ∙ time_read laws at.inside c is.time)
          (ap (λ (es : List PlacedTlv). map number_of (bodies_of 3 es)) w.1 ∙ index_read laws at.inside c is.index)
          (ap (λ (es : List PlacedTlv). option_map (λ (part : PlacedTlv). part.element.body) (first_of 4 es)) w.1 ∙ body_read at.inside c)
          (ap (λ (es : List PlacedTlv). imprint_or_zero (first_of 5 es)) w.1 ∙ input_read at.inside c)
          (ap links_among w.1 ∙ links_read laws at.inside c is),
    )
