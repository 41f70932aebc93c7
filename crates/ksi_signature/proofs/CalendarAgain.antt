-- Calendar chains as they are written.
use Rattle.std.proofs.Common.{◌≡◌, ℕ, ◌^◌, ◌+◌, ◌*◌, ◌<◌, ◌≤◌, true, false, cond, List, [], ◌∷◌, ◌++◌, length, map, Ok, refl, ap, ◌∙◌, arith}
use Rattle.std.specs.List.{AllByRecursion}
use Rattle.std.proofs.lemmas.List.{length-append}
use Rattle.ksi_imprint.specs.Imprints.{IsImprint}
use Rattle.ksi_split.specs.declared.side.Side.{Side}
use Rattle.ksi_split.specs.declared.side.Side.TheVariants.{Left, Right}
use Rattle.ksi_split.specs.declared.tree_link.TreeLink.{TreeLink}
use Rattle.ksi_tlv.specs.Spelling.{Tlv, plain, canonical}
use Rattle.ksi_tlv.specs.Walking.{PlacedTlv, placed_at}
use Rattle.ksi_tlv.specs.Numerals.{numeral}
use Rattle.ksi_tlv.specs.Writing.{texts, placed}
use Rattle.ksi_tlv.specs.Table.{is_among, count}
use Rattle.ksi_tlv.specs.Containing.{inner_verdict}
use Rattle.ksi_tlv.specs.Inside.{first_of}
use Rattle.ksi_tlv.specs.Written.{MayStandAnywhere, MayBeWritten}
use Rattle.ksi_tlv.specs.Published.{number_or_zero, imprint_or_zero}
use Rattle.ksi_signature.specs.Tables.{calendar_table}
use Rattle.ksi_signature.specs.Values.{Calendar}
use Rattle.ksi_signature.specs.Kept.{IsCalendar}
use Rattle.ksi_signature.specs.Contents.{side_in, calendar_links_among, number_or, calendar_in}
use Rattle.ksi_signature.specs.Written.{side_kind, calendar_link_element, calendar_elements, calendar_element}
use Rattle.ksi_signature.proofs.Sizes.{length-canonical}
use Rattle.ksi_signature.proofs.Skips.{all_map, each_map, pass_all, NoneAmong, count_passes, count_all}
use Rattle.ksi_signature.proofs.Again.{Written, time_again, imprint_again, side_again}
use Rattle.ksi_signature.proofs.ChainAgain.{side_among}

side_may : (side : Side) (imprint : List ℕ) → IsImprint imprint → MayStandAnywhere calendar_table (plain (side_kind side) imprint)
side_may Left imprint is = record {
  spelled = record { kind = omega arith; body = omega (arith, is.size) };
  stands = λ place size. record { named = refl; fits = rw (imprint_again place size 7 imprint is) refl };
}
side_may Right imprint is = record {
  spelled = record { kind = omega arith; body = omega (arith, is.size) };
  stands = λ place size. record { named = refl; fits = rw (imprint_again place size 8 imprint is) refl };
}

time_may : Written → (time : ℕ) → time < 2 ^ 63 → MayStandAnywhere calendar_table (plain 1 (numeral time)) × MayStandAnywhere calendar_table (plain 2 (numeral time))
time_may laws time lt = (
  record {
    spelled = record { kind = omega arith; body = omega (arith, laws.size time) };
    stands = λ place size. record { named = refl; fits = rw (time_again laws place size 1 time lt) refl };
  },
  record {
    spelled = record { kind = omega arith; body = omega (arith, laws.size time) };
    stands = λ place size. record { named = refl; fits = rw (time_again laws place size 2 time lt) refl };
  },
)

each_may : Written → (c : Calendar) → IsCalendar c → AllByRecursion (MayStandAnywhere calendar_table) (calendar_elements c)
each_may laws c is = (
  (time_may laws c.publication is.publication).0,
  (
    (time_may laws c.time is.time).1,
    (
      record {
        spelled = record { kind = omega arith; body = omega (arith, is.input.size) };
        stands = λ place size. record { named = refl; fits = rw (imprint_again place size 5 c.input is.input) refl };
      },
      all_map (λ link. IsImprint link.sibling) (MayStandAnywhere calendar_table) calendar_link_element c.links (λ link imprint. side_may link.side link.sibling imprint) is.links,
    ),
  ),
)

no_links : (kinds : List ℕ) → is_among 7 kinds ≡ false → is_among 8 kinds ≡ false → (links : List (TreeLink (List ℕ))) → NoneAmong kinds (map calendar_link_element links)
no_links kinds left right links = each_map (λ (e : Tlv). is_among e.kind kinds ≡ false) calendar_link_element links (λ link. side_among kinds false link.side left right)

-- where the links stand
abbrev links_at : Calendar → ℕ → ℕ
links_at c place = place + length (canonical (plain 1 (numeral c.publication))) + length (canonical (plain 2 (numeral c.time))) + length (canonical (plain 5 c.input))

others_count : (kinds : List ℕ) → is_among 7 kinds ≡ false → is_among 8 kinds ≡ false → (c : Calendar) → count kinds (placed 0 (calendar_elements c)) ≡ cond (is_among 1 kinds) 1 0 + (cond (is_among 2 kinds) 1 0 + cond (is_among 5 kinds) 1 0)
others_count kinds left right c =
    let none = pass_all (count kinds) kinds (count_passes kinds) (links_at c 0) (map calendar_link_element c.links) (no_links kinds left right c.links) in
    omega (arith, none)

links_count : (c : Calendar) → count (7 ∷ 8 ∷ []) (placed 0 (calendar_elements c)) ≡ length c.links
links_count c =
    let all = count_all (7 ∷ 8 ∷ []) calendar_link_element (λ link. side_among (7 ∷ 8 ∷ []) true link.side refl refl) (links_at c 0) c.links in
    omega (arith, all)

pub calendar_may : Written → (c : Calendar) → IsCalendar c → MayBeWritten calendar_table (calendar_elements c)
calendar_may laws c is = record {
  each = each_may laws c is;
  within = (
    omega (arith, others_count (1 ∷ []) refl refl c),
    (omega (arith, others_count (2 ∷ []) refl refl c), (omega (arith, others_count (5 ∷ []) refl refl c), (omega (arith, links_count c, is.count), tt))),
  );
  enough = (omega (arith, others_count (1 ∷ []) refl refl c), (tt, (omega (arith, others_count (5 ∷ []) refl refl c), (tt, tt))));
}

-- ---- its length

length-links : (links : List (TreeLink (List ℕ))) → AllByRecursion (λ link. IsImprint link.sibling) links → length (texts (map calendar_link_element links)) ≤ 37 * length links
length-links [] all = omega arith
length-links (link ∷ links) all =
    rw (length-append (canonical (calendar_link_element link)) (texts (map calendar_link_element links)))
    (omega (arith, length-canonical (calendar_link_element link), all.0.size, length-links links all.1))

pub calendar_small : ((n : ℕ) → length (numeral n) ≤ 8) → (c : Calendar) → IsCalendar c → length (texts (calendar_elements c)) ≤ 2392
calendar_small short c is =
    let links = texts (map calendar_link_element c.links) in
    rw (length-append (canonical (plain 1 (numeral c.publication))) (canonical (plain 2 (numeral c.time)) ++ (canonical (plain 5 c.input) ++ links)), length-append (canonical (plain 2 (numeral c.time))) (canonical (plain 5 c.input) ++ links), length-append (canonical (plain 5 c.input)) links)
    (omega (arith, length-canonical (plain 1 (numeral c.publication)), length-canonical (plain 2 (numeral c.time)), length-canonical (plain 5 c.input), short c.publication, short c.time, is.input.size, is.count, length-links c.links is.links))

pub length-calendar : Written → (c : Calendar) → IsCalendar c → length (texts (calendar_elements c)) ≤ 65535
length-calendar laws c is = omega (arith, calendar_small laws.size c is)

-- ---- what it says

left_or_right : (side : Side) (at : PlacedTlv) (es : List PlacedTlv) → at.element.kind ≡ side_kind side → calendar_links_among (at ∷ es) ≡ record { side = side_in at; sibling = at.element.body } ∷ calendar_links_among es
left_or_right Left at es is = rw is refl
left_or_right Right at es is = rw is refl

same_link : (side : Side) (link : TreeLink (List ℕ)) → side ≡ link.side → record { side = side; sibling = link.sibling } ≡ link
same_link side link is = rw is refl

links_again : (place : ℕ) (links : List (TreeLink (List ℕ))) → calendar_links_among (placed place (map calendar_link_element links)) ≡ links
links_again place [] = refl
links_again place (link ∷ links) =
    let next = place + length (canonical (calendar_link_element link)) in
    let at = placed_at place (calendar_link_element link) (length (canonical (calendar_link_element link))) in
    left_or_right link.side at (placed next (map calendar_link_element links)) refl
    ∙ ap (λ (here : TreeLink (List ℕ)). here ∷ calendar_links_among (placed next (map calendar_link_element links))) (same_link (side_in at) link (side_again place (length (canonical (calendar_link_element link))) link.side link.sibling))
    ∙ ap (λ (others : List (TreeLink (List ℕ))). link ∷ others) (links_again next links)

made : (publication time : ℕ) (input : List ℕ) (links : List (TreeLink (List ℕ))) (c : Calendar) → publication ≡ c.publication → time ≡ c.time → input ≡ c.input → links ≡ c.links → record { publication = publication; time = time; input = input; links = links } ≡ c
made publication time input links c one two three four = rw (one, two, three, four) refl

pub calendar_again : Written → (place size : ℕ) (c : Calendar) → IsCalendar c → (inner_verdict calendar_table (placed_at place (calendar_element c) size) ≡ Ok tt) × (calendar_in (placed_at place (calendar_element c) size) ≡ c)
unfolding calendar_in
calendar_again laws place size c is =
    let at = placed_at place (calendar_element c) size in
    let w = laws.again calendar_table at.place at.inside (calendar_elements c) (calendar_may laws c is) in (
      w.0,
      made _ _ _ _ c (ap (λ (es : List PlacedTlv). number_or_zero (first_of 1 es)) w.1 ∙ laws.value c.publication (omega (arith, is.publication)))
          (ap (λ (es : List PlacedTlv). number_or (number_or_zero (first_of 1 es)) (first_of 2 es)) w.1 ∙ laws.value c.time (omega (arith, is.time)))
          (ap (λ (es : List PlacedTlv). imprint_or_zero (first_of 5 es)) w.1)
          (ap calendar_links_among w.1 ∙ links_again (links_at c at.inside) c.links),
    )
