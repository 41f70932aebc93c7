-- A signature as it is written is that signature.
use Rattle.std.proofs.Common.{◌≡◌, ℕ, ◌+◌, ◌-◌, ◌≤◌, false, ltb, List, [], ◌∷◌, ◌++◌, length, map, Option, Some, None, refl, sym, ap, ◌∙◌, arith, append_assoc}
use Rattle.std.specs.Prelude.{option_map, flat_map, IfSome}
use Rattle.std.specs.List.{AllByRecursion}
use Rattle.std.proofs.lemmas.Bool.{le-ltb}
use Rattle.std.proofs.lemmas.List.{append-nil}
use Rattle.ksi_tlv.specs.Spelling.{Tlv, plain, canonical}
use Rattle.ksi_tlv.specs.Walking.{elements}
use Rattle.ksi_tlv.specs.Writing.{texts, placed}
use Rattle.ksi_tlv.specs.Table.{is_among, count}
use Rattle.ksi_tlv.specs.Inside.{whole, first_of}
use Rattle.ksi_tlv.specs.Written.{MayStandAnywhere, MayBeWritten}
use Rattle.ksi_signature.specs.declared.signature.Signature.{Signature}
use Rattle.ksi_signature.specs.Tables.{signature_table}
use Rattle.ksi_signature.specs.Values.{Aggregation, Calendar, Publishing, FallFrom, Fall}
use Rattle.ksi_signature.specs.Kept.{IsAggregation, IsCalendar, IsPublishing, IsLimited}
use Rattle.ksi_signature.specs.Contents.{calendar_in, publishing_in, put_chain, chains_behind, signature_of}
use Rattle.ksi_signature.specs.File.{IsSignature}
use Rattle.ksi_signature.specs.Written.{chain_elements, chain_element, calendar_element, publishing_elements, publishing_element, optional_element, signature_elements, signature_text, body_sizes, chain_sizes, publishing_sizes, optional_sizes, sizes_of, first_long}
use Rattle.ksi_signature.proofs.Skips.{all_both, all_front, all_back, all_map, each_map, all_short, pass, pass_all, NoneAmong, count_passes, first_passes, chains_pass, count_map}
use Rattle.ksi_signature.proofs.Again.{Written}
use Rattle.ksi_signature.proofs.ChainAgain.{chain_again}
use Rattle.ksi_signature.proofs.CalendarAgain.{calendar_again, length-calendar}
use Rattle.ksi_signature.proofs.RecordAgain.{AreShort, publishing_again}

-- ---- what is not too long

abbrev Short : ℕ → Type 0
Short size = size ≤ 65535

abbrev pub FitsChain : Aggregation → Type 0
FitsChain c = IsAggregation c × AllByRecursion Short (chain_sizes c)

chains_fit : (chains : List Aggregation) → AllByRecursion IsAggregation chains → AllByRecursion Short (flat_map chain_sizes chains) → AllByRecursion FitsChain chains
chains_fit [] are short = tt
chains_fit (c ∷ chains) are short = (
  (are.0, all_front Short (chain_sizes c) (flat_map chain_sizes chains) short),
  chains_fit chains are.1 (all_back Short (chain_sizes c) (flat_map chain_sizes chains) short),
)

bodies_short : (bodies : List (List ℕ)) → AllByRecursion Short (map length bodies) → AreShort bodies
bodies_short [] all = tt
bodies_short (body ∷ bodies) all = (all.0, bodies_short bodies all.1)

pub record FitsPublishing (p : Publishing) : Type 0 where
  pub is : IsPublishing p
  pub references : AreShort p.references
  pub repositories : AreShort p.repositories
  pub all : length (texts (publishing_elements p)) ≤ 65535

publishing_fits : (p : Publishing) → IsPublishing p → AllByRecursion Short (publishing_sizes p) → FitsPublishing p
publishing_fits p is short =
    let inner = map length p.references ++ map length p.repositories in
    let outer = length (texts (publishing_elements p)) ∷ [] in
    let bodies = all_front Short inner outer short in
    record {
      is = is;
      references = bodies_short p.references (all_front Short (map length p.references) (map length p.repositories) bodies);
      repositories = bodies_short p.repositories (all_back Short (map length p.references) (map length p.repositories) bodies);
      all = (all_back Short inner outer short).0;
    }

publication_fits : (published : Option Publishing) → IfSome published IsPublishing → AllByRecursion Short (optional_sizes published) → IfSome published FitsPublishing
publication_fits None is short = tt
publication_fits (Some p) is short = publishing_fits p is short

-- ---- the elements of a signature

chain_may : Written → (c : Aggregation) → FitsChain c → MayStandAnywhere signature_table (chain_element c)
chain_may laws c fits = record {
  spelled = record { kind = omega arith; body = omega (arith, (all_back Short (body_sizes c.input_body) (length (texts (chain_elements c)) ∷ []) fits.1).0) };
  stands = λ place size. record { named = refl; fits = (chain_again laws place size c fits.0 (all_front Short (body_sizes c.input_body) (length (texts (chain_elements c)) ∷ []) fits.1)).0 };
}

calendar_may : Written → (calendar : Option Calendar) → IfSome calendar IsCalendar → AllByRecursion (MayStandAnywhere signature_table) (optional_element calendar_element calendar)
calendar_may laws None is = tt
calendar_may laws (Some c) is = (
  record {
    spelled = record { kind = omega arith; body = omega (arith, length-calendar laws c is) };
    stands = λ place size. record { named = refl; fits = (calendar_again laws place size c is).0 };
  },
  tt,
)

publication_may : Written → (published : Option Publishing) → IfSome published FitsPublishing → AllByRecursion (MayStandAnywhere signature_table) (optional_element publishing_element published)
publication_may laws None fits = tt
publication_may laws (Some p) fits = (
  record {
    spelled = record { kind = omega arith; body = omega (arith, fits.all) };
    stands = λ place size. record { named = refl; fits = (publishing_again laws place size p fits.is fits.references fits.repositories).0 };
  },
  tt,
)

-- what stands behind the chains
abbrev last_elements : Option Calendar → Option Publishing → List Tlv
last_elements calendar published = optional_element calendar_element calendar ++ optional_element publishing_element published

last_counts : (place : ℕ) (calendar : Option Calendar) (published : Option Publishing) → (count (2049 ∷ []) (placed place (last_elements calendar published)) ≡ 0) × (count (2050 ∷ []) (placed place (last_elements calendar published)) ≤ 1) × (count (2051 ∷ []) (placed place (last_elements calendar published)) ≤ 1)
last_counts place None None = (omega arith, omega arith, omega arith)
last_counts place None (Some p) = (omega arith, omega arith, omega arith)
last_counts place (Some c) None = (omega arith, omega arith, omega arith)
last_counts place (Some c) (Some p) = (omega arith, omega arith, omega arith)

no_chains : (kinds : List ℕ) → is_among 2049 kinds ≡ false → (chains : List Aggregation) → NoneAmong kinds (map chain_element chains)
no_chains kinds other chains = each_map (λ (e : Tlv). is_among e.kind kinds ≡ false) chain_element chains (λ chain. other)

chains_count : (s : Signature) → count (2049 ∷ []) (placed 0 (signature_elements s)) ≡ length s.chains
chains_count s =
    let chains = count_map (2049 ∷ []) chain_element (λ chain. refl) 0 s.chains (last_elements s.calendar s.publication) in
    omega (arith, chains.1, (last_counts chains.0 s.calendar s.publication).0)

calendar_count : (s : Signature) → count (2050 ∷ []) (placed 0 (signature_elements s)) ≤ 1
calendar_count s =
    let behind = pass (count (2050 ∷ [])) (2050 ∷ []) (count_passes (2050 ∷ [])) 0 (map chain_element s.chains) (last_elements s.calendar s.publication) (no_chains (2050 ∷ []) refl s.chains) in
    omega (arith, behind.1, (last_counts behind.0 s.calendar s.publication).1)

publication_count : (s : Signature) → count (2051 ∷ []) (placed 0 (signature_elements s)) ≤ 1
publication_count s =
    let behind = pass (count (2051 ∷ [])) (2051 ∷ []) (count_passes (2051 ∷ [])) 0 (map chain_element s.chains) (last_elements s.calendar s.publication) (no_chains (2051 ∷ []) refl s.chains) in
    omega (arith, behind.1, (last_counts behind.0 s.calendar s.publication).2)

pub record FitsSignature (s : Signature) : Type 0 where
  pub kept : IsLimited s
  pub chains : AllByRecursion FitsChain s.chains
  pub publication : IfSome s.publication FitsPublishing
  pub all : length (texts (signature_elements s)) ≤ 65535

signature_fits : (s : Signature) → IsLimited s → first_long (sizes_of s) ≡ None → FitsSignature s
signature_fits s kept none =
    let short = all_short (sizes_of s) none in
    let inner = flat_map chain_sizes s.chains ++ optional_sizes s.publication in
    let outer = length (texts (signature_elements s)) ∷ [] in
    let bodies = all_front Short inner outer short in
    record {
      kept = kept;
      chains = chains_fit s.chains kept.chains (all_front Short (flat_map chain_sizes s.chains) (optional_sizes s.publication) bodies);
      publication = publication_fits s.publication kept.publication (all_back Short (flat_map chain_sizes s.chains) (optional_sizes s.publication) bodies);
      all = (all_back Short inner outer short).0;
    }

signature_may : Written → (s : Signature) → FitsSignature s → MayBeWritten signature_table (signature_elements s)
signature_may laws s fits = record {
  each = all_both (MayStandAnywhere signature_table) (map chain_element s.chains) (last_elements s.calendar s.publication) (all_map FitsChain (MayStandAnywhere signature_table) chain_element s.chains (chain_may laws) fits.chains)
      (all_both (MayStandAnywhere signature_table) (optional_element calendar_element s.calendar) (optional_element publishing_element s.publication) (calendar_may laws s.calendar fits.kept.calendar) (publication_may laws s.publication fits.publication));
  within = (omega (arith, chains_count s, fits.kept.limits.count), (calendar_count s, (publication_count s, tt)));
  enough = (omega (arith, chains_count s, fits.kept.limits.some), (tt, (tt, tt)));
}

-- ---- what it says

-- each has so many index parts or more
abbrev AtLeast : ℕ → List Aggregation → Type 0
AtLeast least chains = AllByRecursion (λ chain. least ≤ length chain.index) chains

fewer : (least less : ℕ) (chains : List Aggregation) → less ≤ least → AtLeast least chains → AtLeast less chains
fewer least less [] le all = tt
fewer least less (chain ∷ chains) le all = (omega (arith, le, all.0), fewer least less chains le all.1)

put_last : (chain : Aggregation) (before : List Aggregation) → AtLeast (length chain.index) before → put_chain chain before ≡ before ++ (chain ∷ [])
put_last chain [] all = refl
put_last chain (other ∷ before) all =
    let test : ltb (length other.index) (length chain.index) ≡ false = le-ltb _ _ all.0 in
    rw test (ap (λ (others : List Aggregation). other ∷ others) (put_last chain before all.1))

chains_read : Written → (place most : ℕ) (before chains : List Aggregation) (fs : List Tlv) → AtLeast most before → FallFrom most chains → AllByRecursion FitsChain chains
    → (other : ℕ) × (chains_behind before (placed place (map chain_element chains ++ fs)) ≡ chains_behind (before ++ chains) (placed other fs))
chains_read laws place most before [] fs least fall fits = (place, ap (λ (chains : List Aggregation). chains_behind chains (placed place fs)) (sym (append-nil before)))
chains_read laws place most before (chain ∷ chains) fs least fall fits =
    let next = place + length (canonical (chain_element chain)) in
    let parts = length chain.index in
    let others = fewer most parts before fall.0 least in
    let here = (chain_again laws place (length (canonical (chain_element chain))) chain fits.0.0 (all_front Short (body_sizes chain.input_body) (length (texts (chain_elements chain)) ∷ []) fits.0.1)).1 in
    let itself : parts ≤ parts = omega arith in
    let rest = chains_read laws next parts (before ++ (chain ∷ [])) chains fs (all_both (λ (chain : Aggregation). parts ≤ length chain.index) before (chain ∷ []) others (itself, tt)) fall.1 fits.1 in (
      rest.0,
      ap (λ (here : Aggregation). chains_behind (put_chain here before) (placed next (map chain_element chains ++ fs))) here
          ∙ ap (λ (all : List Aggregation). chains_behind all (placed next (map chain_element chains ++ fs))) (put_last chain before others)
          ∙ rest.1 ∙ ap (λ (all : List Aggregation). chains_behind all (placed rest.0 fs)) (append_assoc before (chain ∷ []) chains),
    )

fall_from : (chains : List Aggregation) → Fall chains → (most : ℕ) × FallFrom most chains
fall_from [] fall = (0, tt)
fall_from (chain ∷ chains) fall = (length chain.index, (omega arith, fall))

chains_none : (kinds : List ℕ) → is_among 2050 kinds ≡ false → is_among 2051 kinds ≡ false → (calendar : Option Calendar) (published : Option Publishing) → NoneAmong kinds (last_elements calendar published)
chains_none kinds one two None None = tt
chains_none kinds one two None (Some p) = (two, tt)
chains_none kinds one two (Some c) None = (one, tt)
chains_none kinds one two (Some c) (Some p) = (one, (two, tt))

chains_again : Written → (place : ℕ) (s : Signature) → FitsSignature s → chains_behind [] (placed place (signature_elements s)) ≡ s.chains
chains_again laws place s fits =
    let fall = fall_from s.chains fits.kept.limits.fall in
    let chains = chains_read laws place fall.0 [] s.chains (last_elements s.calendar s.publication) tt fall.1 fits.chains in
    chains.1 ∙ pass_all (chains_behind s.chains) (2049 ∷ []) (chains_pass s.chains) chains.0 (last_elements s.calendar s.publication) (chains_none (2049 ∷ []) refl refl s.calendar s.publication)

calendar_at : Written → (place : ℕ) (calendar : Option Calendar) (published : Option Publishing) → IfSome calendar IsCalendar → option_map calendar_in (first_of 2050 (placed place (last_elements calendar published))) ≡ calendar
calendar_at laws place None None is = refl
calendar_at laws place None (Some p) is = refl
calendar_at laws place (Some c) published is = ap (λ (c : Calendar). Some c) (calendar_again laws place (length (canonical (calendar_element c))) c is).1

publication_at : Written → (place : ℕ) (calendar : Option Calendar) (published : Option Publishing) → IfSome published FitsPublishing → option_map publishing_in (first_of 2051 (placed place (last_elements calendar published))) ≡ published
publication_at laws place None None fits = refl
publication_at laws place (Some c) None fits = refl
publication_at laws place None (Some p) fits =
    ap (λ (p : Publishing). Some p) (publishing_again laws place (length (canonical (publishing_element p))) p fits.is fits.references fits.repositories).1
publication_at laws place (Some c) (Some p) fits =
    ap (λ (p : Publishing). Some p) (publishing_again laws (place + length (canonical (calendar_element c))) (length (canonical (publishing_element p))) p fits.is fits.references fits.repositories).1

made : (chains : List Aggregation) (calendar : Option Calendar) (published : Option Publishing) (s : Signature) → chains ≡ s.chains → calendar ≡ s.calendar → published ≡ s.publication → record { chains = chains; calendar = calendar; publication = published } ≡ s
made chains calendar published s one two three = rw (one, two, three) refl

signature_read : Written → (place : ℕ) (s : Signature) → FitsSignature s → signature_of (placed place (signature_elements s)) ≡ s
unfolding signature_of
signature_read laws place s fits =
    let calendar = pass (first_of 2050) (2050 ∷ []) (first_passes 2050) place (map chain_element s.chains) (last_elements s.calendar s.publication) (no_chains (2050 ∷ []) refl s.chains) in
    let publication = pass (first_of 2051) (2051 ∷ []) (first_passes 2051) place (map chain_element s.chains) (last_elements s.calendar s.publication) (no_chains (2051 ∷ []) refl s.chains) in
    made _ _ _ s (chains_again laws place s fits)
    (ap (option_map calendar_in) calendar.1 ∙ calendar_at laws calendar.0 s.calendar s.publication fits.kept.calendar)
    (ap (option_map publishing_in) publication.1 ∙ publication_at laws publication.0 s.calendar s.publication fits.publication)

pub signature_again : Written → (s : Signature) → IsLimited s → first_long (sizes_of s) ≡ None → IsSignature (signature_text s) s
unfolding signature_text
signature_again laws s kept none =
    let fits = signature_fits s kept none in
    let body = texts (signature_elements s) in
    let element = plain 2048 body in
    let inside = length (canonical element) - length body in
    let w = laws.again signature_table 0 inside (signature_elements s) (signature_may laws s fits) in
    record {
      element = element;
      spelled = laws.spells element (record { kind = omega arith; body = omega (arith, fits.all) });
      kind = refl;
      elements = whole (elements inside body);
      content = laws.held signature_table 0 inside body refl w.0;
      value = sym (ap signature_of w.1 ∙ signature_read laws inside s fits);
    }
