-- What holds of the zero imprint, of each hash and of what each request asks for holds of all that is kept and published.
use Rattle.std.proofs.Common.{◌≡◌, ℕ, suc, ◌^◌, ◌<◌, ◌≤◌, length, arith, replicate, Bool, true, false, cond, List, [], ◌∷◌, refl, sym, subst, Option, Some, None}
use Rattle.std.specs.Prelude.{slice_get, option_map, unwrap_or}
use Rattle.std.specs.List.{AllByRecursion}
use Rattle.std.specs.Str.{bytes_eq}
use Rattle.std.proofs.lemmas.Bool.{cond_both}
use Rattle.std.proofs.lemmas.List.Elements.{All-cons, All-replicate}
use Rattle.ksi_imprint.specs.Imprints.{IsImprint, zero_imprint}
use Rattle.ksi_tlv.specs.Spelling.{AreBytes}
use Rattle.ksi_split.specs.declared.tree_link.TreeLink.{TreeLink}
use Rattle.ksi_aggtree.specs.declared.chains.node.Node.{Node}
use Rattle.ksi_aggtree.specs.Climbing.{Climbs, level_after}
use Rattle.ksi_aggtree.specs.Links.{PlainLink}
use Rattle.ksi_aggtree.specs.Paths.{chain_of}
use Rattle.ksi_aggtree.specs.declared.item.Item.{Item}
use Rattle.ksi_aggtree.specs.declared.chains.link.Link.{Link}
use Rattle.ksi_aggtree.specs.declared.chains.link.Sibling.{Sibling}
use Rattle.ksi_aggtree.specs.declared.chains.link.Sibling.TheVariants as siblings
use Rattle.ksi_aggtree.specs.declared.entries.Entry.{Entry}
use Rattle.ksi_aggtree.specs.Entries.{items_of, candidate_of}
use Rattle.ksi_signature.specs.declared.above.Above.{Above}
use Rattle.ksi_signature.specs.declared.above.AboveChain.{AboveChain}
use Rattle.ksi_signature.specs.Kept.{HasImprint, IsLink}
use Rattle.ksi_signature.specs.Carried.{IsAboveChain, MayBeIssued, SiblingOfBytes, LinksOfBytes, ChainOfBytes, IsOfBytes}
use Rattle.ksi_schedule.specs.declared.event.Event.{Event}
use Rattle.ksi_schedule.specs.declared.event.Event.TheVariants as events
use Rattle.ksi_schedule.specs.Plans.{PlanState, IsPlan}
use Rattle.ksi_schedule.specs.Events.{AreEvents, AsksForImprint, AskForImprints, AsksForBytes, AskForBytes}
use Rattle.ksi_aggtree.specs.declared.second.Second.{Second}
use Rattle.ksi_world.specs.Histories.{after}
use Rattle.ksi_world.specs.Records.{lowest, kept_root, kept_with, kept_items, kept_at, kept_seconds, sealed_as}
use Rattle.ksi_world.specs.Validity.{EachKept}
use Rattle.ksi_world.proofs.Carrying.{RoundLaws, AsksFor, AskFor, AllOf, after_all}
use Rattle.ksi_world.proofs.Deciding.{StepsAgree, StepsValid}
use Rattle.ksi_world.proofs.Sending.{TreeRises}
use Rattle.ksi_world.proofs.Joining.{ItemClimbs}
use Rattle.ksi_world.proofs.Imprinted.{zero_is, IsNameMeta, NameLaws, OfItem, OfEntries, OfSibling, OfLink, OfChain, EachSibling, root_is}
use Rattle.ksi_world.proofs.IssuedCarried.{CalendarShort, IsIssuedOf, kept_is}
use Rattle.ksi_world.proofs.Lowest.{lowest_some}
use Rattle.ksi_world.proofs.Rooted.{root_kept, after_roots}
use Rattle.ksi_world.proofs.Skipping.{among_each}

module _ (P : List ℕ → Type 0) where
  pub entries_items : (entries : List Entry) → OfEntries P entries → AllByRecursion (OfItem P) (items_of entries)
  entries_items [] of = tt
  entries_items (entry ∷ entries) of = (of.0, entries_items entries of.1)

  sealed_items : (image : List ℕ → List ℕ) (root : List ℕ) (sealed : Option (List Entry)) (items : List Item) → sealed_as image root sealed ≡ Some items
      → ((entries : List Entry) → sealed ≡ Some entries → OfEntries P entries) → AllByRecursion (OfItem P) items
  sealed_items image root None items at of = absurd (cc at)
  sealed_items image root (Some entries) items at of = by (bytes_eq (candidate_of image entries) root) at
    where
      by : (same : Bool) → cond same (Some (items_of entries)) None ≡ Some items → AllByRecursion (OfItem P) items
      by true found = let same : items_of entries ≡ items = cc found in subst (AllByRecursion (OfItem P)) same (entries_items entries (of entries refl))
      by false found = absurd (cc found)

  all_roots : (xs : List (ℕ × List ℕ)) → ((k p : ℕ) (root : List ℕ) → slice_get xs k ≡ Some (p, root) → P root) → AllByRecursion (λ x. P x.1) xs
  all_roots [] each = tt
  all_roots (x ∷ xs) each = (each 0 x.0 x.1 refl, all_roots xs (λ k. each (suc k)))

  -- a kept second of such imprints
  abbrev pub OfKept : Second → Type 0
  OfKept kept = P kept.root × AllByRecursion (OfItem P) kept.items

  pub roots_of : (kept : List Second) → EachKept OfKept kept → EachKept (λ one. P one.root) kept
  roots_of [] of = tt
  roots_of (one ∷ kept) of = (of.0.0, roots_of kept of.1)

  module _ (image : List ℕ → List ℕ) (plan : PlanState) (is : IsPlan plan) (laws : RoundLaws P image) (agree : StepsAgree) (valid : StepsValid) (short : CalendarShort image)
      (es : List Event) (are : AreEvents plan es) (ask : AskFor P es) where
    all : AllOf P (after image plan es)
    all = after_all P image plan is laws es are ask

    items_are : (t : ℕ) (root : List ℕ) → AllByRecursion (OfItem P) (kept_items image plan (after image plan es) t root)
    items_are t root =
        cond_both (bytes_eq root zero_imprint) [] (unwrap_or (lowest of_core 0 plan.cores) []) (AllByRecursion (OfItem P)) (λ missed. tt) (λ real. by (lowest of_core 0 plan.cores) refl)
      where
        of_core : ℕ → Option (List Item)
        of_core core = sealed_as image root ((after image plan es).seconds core t).sealed

        by : (o : Option (List Item)) → lowest of_core 0 plan.cores ≡ o → AllByRecursion (OfItem P) (unwrap_or o [])
        by None none = tt
        by (Some items) some =
            let core = lowest_some of_core 0 plan.cores items some in
            sealed_items image root ((after image plan es).seconds core.0 t).sealed items core.3 (λ entries at. (all.seconds core.0 t).sealed entries at)

    one_kept : (t : ℕ) (one : Second) → kept_at image plan (after image plan es) t ≡ Some one → OfKept one
    one_kept t one at = by (kept_root plan (after image plan es) t) refl at
      where
        by : (o : Option (List ℕ)) → kept_root plan (after image plan es) t ≡ o → option_map (λ root. kept_with t root (kept_items image plan (after image plan es) t root)) o ≡ Some one → OfKept one
        by None is at = absurd (cc at)
        by (Some root) holds at =
            let same : kept_with t root (kept_items image plan (after image plan es) t root) ≡ one = cc at in
            subst OfKept same (kept_is P image plan is laws agree valid short es are ask t root holds, items_are t root)

    pub kept_each : EachKept OfKept (kept_seconds image plan (after image plan es))
    unfolding kept_seconds
    kept_each = among_each (kept_at image plan (after image plan es)) OfKept plan.start (2 ^ 24) (λ t one le lt at. one_kept t one at)

    pub published_each : AllByRecursion (λ (x : ℕ × List ℕ). P x.1) (after image plan es).published
    published_each = all_roots (after image plan es).published (λ k p root at.
        let r = root_kept image plan is agree es are p root (after_roots image plan es are k p root at) in
        subst P (sym r.root_is) (root_is P laws.zero_too image laws.images (kept_root plan (after image plan es)) (kept_is P image plan is laws agree valid short es are ask) plan.start p))

-- IMPRINTS

-- the laws of rounds, where what is hashed are imprints
pub imprint_laws : (image : List ℕ → List ℕ) → ((bytes : List ℕ) → IsImprint (image bytes)) → TreeRises image → ItemClimbs image
    → ((items : List Item) (k : ℕ) → length items ≤ 65536 → length (chain_of image items k) ≤ 17)
    → ((start top : Node) (links : List PlainLink) → Climbs image start links top → top.level ≡ level_after start.level links) → NameLaws → RoundLaws IsImprint image
imprint_laws image images rises climb few sum names = record { zero_too = zero_is; images = images; rises = rises; climb = climb; few = few; sum = sum; names = names }

links_imprinted : (links : List Link) → AllByRecursion (OfLink IsImprint) links → AllByRecursion IsLink links
links_imprinted [] of = tt
links_imprinted (link ∷ links) of = (record { correction = of.0.0; sibling = sibling link.sibling of.0.1 }, links_imprinted links of.1)
  where
    sibling : (s : Sibling) → OfSibling IsImprint s → HasImprint s
    sibling (siblings.Imprint imprint) of = of
    sibling (siblings.Legacy bytes) of = tt
    sibling (siblings.Metadata bytes) of = tt

chains_imprinted : (chains : List AboveChain) → AllByRecursion (OfChain IsImprint) chains → AllByRecursion IsAboveChain chains
chains_imprinted [] of = tt
chains_imprinted (chain ∷ chains) of = (record { input = of.0.input; limits = of.0.limits; links = links_imprinted chain.links of.0.links }, chains_imprinted chains of.1)

pub may_be_issued : (second : ℕ) (input : List ℕ) (links : List Link) (above : Above) → IsIssuedOf IsImprint second input links above → MayBeIssued second input links above
may_be_issued second input links above of = record {
  early = of.early;
  imprint = of.imprint;
  limits = of.limits;
  are = links_imprinted links of.are;
  kept = record { root = of.root; count = of.count; chains = chains_imprinted above.chains of.chains; few = of.few; calendar = of.calendar };
}

pub ask_for_imprints : (es : List Event) → AskForImprints es → AskFor IsImprint es
ask_for_imprints [] ask = tt
ask_for_imprints (e ∷ es) ask = (one e ask.0, ask_for_imprints es ask.1)
  where
    one : (e : Event) → AsksForImprint e → AsksFor IsImprint e
    one (events.Request k t imprint name) asks = asks
    one other asks = tt

-- BYTES

meta_bytes : NameLaws → (bytes : List ℕ) → IsNameMeta bytes → AreBytes bytes
meta_bytes names bytes of = subst AreBytes (sym of.text) (names.bytes of.name of.named)

links_of_bytes : NameLaws → (links : List Link) → AllByRecursion (OfLink AreBytes) links → LinksOfBytes links
links_of_bytes names [] of = tt
links_of_bytes names (link ∷ links) of = (sibling link.sibling of.0.1, links_of_bytes names links of.1)
  where
    sibling : (s : Sibling) → OfSibling AreBytes s → SiblingOfBytes s
    sibling (siblings.Imprint imprint) of = of
    sibling (siblings.Legacy bytes) of = of
    sibling (siblings.Metadata bytes) of = meta_bytes names bytes of

chains_of_bytes : NameLaws → (chains : List AboveChain) → AllByRecursion (OfChain AreBytes) chains → AllByRecursion ChainOfBytes chains
chains_of_bytes names [] of = tt
chains_of_bytes names (chain ∷ chains) of = ((of.0.input, links_of_bytes names chain.links of.0.links), chains_of_bytes names chains of.1)

pub is_of_bytes : NameLaws → (second : ℕ) (input : List ℕ) (links : List Link) (above : Above) → IsIssuedOf AreBytes second input links above → IsOfBytes input links above
is_of_bytes names second input links above of = record {
  imprint = of.imprint;
  own = links_of_bytes names links of.are;
  root = of.root;
  chains = chains_of_bytes names above.chains of.chains;
  calendar = of.calendar;
}

pub ask_for_bytes : (es : List Event) → AskForBytes es → AskFor AreBytes es
ask_for_bytes [] ask = tt
ask_for_bytes (e ∷ es) ask = (one e ask.0, ask_for_bytes es ask.1)
  where
    one : (e : Event) → AsksForBytes e → AsksFor AreBytes e
    one (events.Request k t imprint name) asks = asks
    one other asks = tt

pub zero_bytes : AreBytes zero_imprint
zero_bytes = All-cons (λ b. b < 256) 1 (replicate 32 0) (omega arith) (All-replicate (λ b. b < 256) 32 0 (omega arith))

-- IMPRINTS OF BYTES

abbrev pub Both : List ℕ → Type 0
Both imprint = IsImprint imprint × AreBytes imprint

pub ask_for_both : (es : List Event) → AskForImprints es → AskForBytes es → AskFor Both es
ask_for_both [] ask bytes = tt
ask_for_both (e ∷ es) ask bytes = (one e ask.0 bytes.0, ask_for_both es ask.1 bytes.1)
  where
    one : (e : Event) → AsksForImprint e → AsksForBytes e → AsksFor Both e
    one (events.Request k t imprint name) asks bytes = (asks, bytes)
    one other asks bytes = tt

-- what holds of such imprints, where they are so
module _ (P : List ℕ → Type 0) (part : (imprint : List ℕ) → Both imprint → P imprint) where
  links_part : (links : List Link) → AllByRecursion (OfLink Both) links → AllByRecursion (OfLink P) links
  links_part [] of = tt
  links_part (link ∷ links) of = ((of.0.0, sibling link.sibling of.0.1), links_part links of.1)
    where
      sibling : (s : Sibling) → OfSibling Both s → OfSibling P s
      sibling (siblings.Imprint imprint) of = part imprint of
      sibling (siblings.Legacy bytes) of = part bytes of
      sibling (siblings.Metadata bytes) of = of

  chains_part : (chains : List AboveChain) → AllByRecursion (OfChain Both) chains → AllByRecursion (OfChain P) chains
  chains_part [] of = tt
  chains_part (chain ∷ chains) of = (record { input = part chain.input of.0.input; limits = of.0.limits; links = links_part chain.links of.0.links }, chains_part chains of.1)

  calendar_part : (links : List (TreeLink (List ℕ))) → EachSibling Both links → EachSibling P links
  calendar_part [] of = tt
  calendar_part (link ∷ links) of = (part link.sibling of.0, calendar_part links of.1)

  issued_part : (second : ℕ) (input : List ℕ) (links : List Link) (above : Above) → IsIssuedOf Both second input links above → IsIssuedOf P second input links above
  issued_part second input links above of = record {
    early = of.early;
    imprint = part input of.imprint;
    limits = of.limits;
    are = links_part links of.are;
    root = part above.root of.root;
    count = of.count;
    chains = chains_part above.chains of.chains;
    few = of.few;
    calendar = calendar_part above.calendar of.calendar;
  }

pub issued_imprints : (second : ℕ) (input : List ℕ) (links : List Link) (above : Above) → IsIssuedOf Both second input links above → IsIssuedOf IsImprint second input links above
issued_imprints = issued_part IsImprint (λ imprint of. of.0)

pub issued_bytes : (second : ℕ) (input : List ℕ) (links : List Link) (above : Above) → IsIssuedOf Both second input links above → IsIssuedOf AreBytes second input links above
issued_bytes = issued_part AreBytes (λ imprint of. of.1)
