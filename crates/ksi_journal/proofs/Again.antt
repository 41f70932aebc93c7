-- What is written is loaded again.
use Rattle.std.proofs.Common.{◌≡◌, ℕ, suc, ◌+◌, ◌-◌, ◌^◌, ◌<◌, ◌≤◌, Bool, true, false, cond, ◌&&◌, leb, eqb, List, [], ◌∷◌, ◌++◌, ◌||◌, length, map, Option, Some, None, Ok, ◌⊎◌, inl, inr, refl, sym, ap, subst, ◌∙◌, arith, append_assoc, append-nil}
use Rattle.std.specs.List.{AllByRecursion, list_any}
use Rattle.std.specs.Option.{is_some}
use Rattle.std.specs.Str.{bytes_eq}
use Rattle.std.proofs.lemmas.Bool.{le-leb, ne_eqb, eq-eqb}
use Rattle.std.proofs.lemmas.Slice.Eq.{bytes_eq-Decides}
use Rattle.ksi_imprint.specs.Imprints.{IsImprint, zero_imprint}
use Rattle.ksi_tlv.specs.Spelling.{Tlv, FitsLong, plain, canonical}
use Rattle.ksi_tlv.specs.Walking.{PlacedTlv, placed_at, elements}
use Rattle.ksi_tlv.specs.Numerals.{numeral}
use Rattle.ksi_tlv.specs.Writing.{placed}
use Rattle.ksi_tlv.specs.Contents.{time_in, imprint_in}
use Rattle.ksi_aggtree.specs.declared.item.Item.{Item}
use Rattle.ksi_aggtree.specs.Rounds.{tree_of}
use Rattle.ksi_synod.specs.declared.core_plan.VotersFrom.{VotersFrom}
use Rattle.ksi_journal.specs.declared.version.Version.{Version}
use Rattle.ksi_journal.specs.declared.version.Version.TheVariants as versions
use Rattle.ksi_journal.specs.Voters.{bits_of, cores_in}
use Rattle.ksi_journal.proofs.Bits.{Listed, cores_again, bits_small}
use Rattle.ksi_journal.proofs.Items.{item_again, items_fit}
use Rattle.ksi_tlv.specs.Order.{may_stand}
use Rattle.ksi_tlv.specs.Sequence.{Leads}
use Rattle.ksi_tlv.specs.Fields.{field, done}
use Rattle.ksi_tlv.specs.Values.{number_at, time_at, imprint_at}
use Rattle.ksi_tlv.proofs.Again.{Written, number_again, time_again, imprint_again, fits_number, fits_imprint, length-two, length-three, file_again}
use Rattle.ksi_aggtree.specs.declared.second.Second.{Second}
use Rattle.ksi_journal.specs.declared.stage.Stage.TheVariants as stages
use Rattle.ksi_journal.specs.Journal.{Contents, RiseFrom, IsVoters, IsItem, IsRootOf, IsSecond, IsIssued, IsPublication, IsJournal}
use Rattle.ksi_journal.specs.Elements.{Loaded, rising, dated, started, start_at, voting, voters_from, with_voters, voters_at, counts, closed, opened, said_at, read_second, with_item, added, item_at, numbered, signature_at, with_issued, issued_at, published_at, with_publication, publication_at, end_at, element_read, journal_order, nothing_yet, is_end, kinds_next}
use Rattle.ksi_journal.specs.File.{magic, journal_format, IsJournalFile}
use Rattle.ksi_journal.specs.Written.{voter_elements, voters_element, element_with, has_name, has_some, needs_two, Allows, version_of, text_in, head_elements, second_element, item_element, kept_elements, seconds_elements, pair_elements, issued_element, publication_element, journal_elements}

-- ---- the states that elements lead to

abbrev after_voters : Loaded → List VotersFrom → Loaded
after_voters s [] = s
after_voters s (pair ∷ others) = after_voters (with_voters s pair) others

-- what voters leave as it was
record IsBehind (s u : Loaded) : Type 0 where
  version : u.version ≡ s.version
  stage : u.stage ≡ s.stage
  second : u.least_second ≡ s.least_second
  number : u.least_number ≡ s.least_number
  time : u.least_time ≡ s.least_time

behind_voters : (s : Loaded) (pairs : List VotersFrom) → IsBehind s (after_voters s pairs)
behind_voters s [] = record { version = refl; stage = refl; second = refl; number = refl; time = refl }
behind_voters s (pair ∷ others) =
    let on = behind_voters (with_voters s pair) others in
    record { version = on.version; stage = on.stage; second = on.second; number = on.number; time = on.time }

voters_after : (s : Loaded) (pairs : List VotersFrom) → (after_voters s pairs).contents ≡ record s.contents { voters = s.contents.voters ++ pairs }
voters_after s [] = ap (λ (xs : List VotersFrom). record s.contents { voters = xs }) (sym (append-nil s.contents.voters))
voters_after s (pair ∷ others) = voters_after (with_voters s pair) others ∙ ap (λ (xs : List VotersFrom). record s.contents { voters = xs }) (append_assoc s.contents.voters (pair ∷ []) others)

abbrev after_seconds : Loaded → List Second → Loaded
after_seconds s [] = s
after_seconds s (kept ∷ others) = after_seconds (closed s kept) others

contents_after : (s : Loaded) (seconds : List Second) → (after_seconds s seconds).contents ≡ record s.contents { seconds = s.contents.seconds ++ seconds }
contents_after s [] = ap (λ (xs : List Second). record s.contents { seconds = xs }) (sym (append-nil s.contents.seconds))
contents_after s (kept ∷ others) = contents_after (closed s kept) others ∙ ap (λ (xs : List Second). record s.contents { seconds = xs }) (append_assoc s.contents.seconds (kept ∷ []) others)

number_after : (s : Loaded) (seconds : List Second) → ((after_seconds s seconds).least_number ≡ s.least_number) × ((after_seconds s seconds).least_time ≡ s.least_time)
number_after s [] = (refl, refl)
number_after s (kept ∷ others) = number_after (closed s kept) others

record MayPublish (s : Loaded) : Type 0 where
  more : is_end s.stage ≡ false
  five : may_stand (kinds_next s.version s.stage) 5 ≡ true
  six : may_stand (kinds_next s.version s.stage) 6 ≡ true

record MayIssue (s : Loaded) : Type 0 where
  four : may_stand (kinds_next s.version s.stage) 4 ≡ true
  publish : MayPublish s

record MayKeep (s : Loaded) : Type 0 where
  two : may_stand (kinds_next s.version s.stage) 2 ≡ true
  issue : MayIssue s

may_keep : (s : Loaded) → s.stage ≡ stages.Voters → MayKeep s
may_keep s at = record { two = rw at refl; issue = record { four = rw at refl; publish = record { more = rw at refl; five = rw at refl; six = rw at refl } } }

-- behind a second
keep_on : (s : Loaded) (kept : Second) → MayKeep (closed s kept)
keep_on s kept = record { two = refl; issue = record { four = refl; publish = record { more = refl; five = refl; six = refl } } }

issue_after : (s : Loaded) (seconds : List Second) → MayIssue s → MayIssue (after_seconds s seconds)
issue_after s [] may = may
issue_after s (kept ∷ others) may = issue_after (closed s kept) others (keep_on s kept).issue

abbrev after_issued : Loaded → List (ℕ × List ℕ) → Loaded
after_issued s [] = s
after_issued s (x ∷ others) = after_issued (with_issued s x) others

publish_after : (s : Loaded) (xs : List (ℕ × List ℕ)) → MayPublish s → MayPublish (after_issued s xs)
publish_after s [] may = may
publish_after s (x ∷ others) may = publish_after (with_issued s x) others (record { more = refl; five = refl; six = refl })

issued_contents : (s : Loaded) (xs : List (ℕ × List ℕ)) → ((after_issued s xs).contents ≡ record s.contents { issued = s.contents.issued ++ xs }) × ((after_issued s xs).least_time ≡ s.least_time)
issued_contents s [] = (ap (λ (xs : List (ℕ × List ℕ)). record s.contents { issued = xs }) (sym (append-nil s.contents.issued)), refl)
issued_contents s (x ∷ others) = let on = issued_contents (with_issued s x) others in (on.0 ∙ ap (λ (xs : List (ℕ × List ℕ)). record s.contents { issued = xs }) (append_assoc s.contents.issued (x ∷ []) others), on.1)

abbrev after_published : Loaded → List (ℕ × List ℕ) → Loaded
after_published s [] = s
after_published s (x ∷ others) = after_published (with_publication s x) others

end_after : (s : Loaded) (xs : List (ℕ × List ℕ)) → MayPublish s → MayPublish (after_published s xs)
end_after s [] may = may
end_after s (x ∷ others) may = end_after (with_publication s x) others (record { more = refl; five = refl; six = refl })

published_contents : (s : Loaded) (xs : List (ℕ × List ℕ)) → (after_published s xs).contents ≡ record s.contents { publications = s.contents.publications ++ xs }
published_contents s [] = ap (λ (xs : List (ℕ × List ℕ)). record s.contents { publications = xs }) (sym (append-nil s.contents.publications))
published_contents s (x ∷ others) = published_contents (with_publication s x) others ∙ ap (λ (xs : List (ℕ × List ℕ)). record s.contents { publications = xs }) (append_assoc s.contents.publications (x ∷ []) others)

module _ (laws : Written) (listed : Listed) where
  -- ---- what stands inside

  said_from : (least : ℕ) (at a b c : PlacedTlv) (t n : ℕ) (root : List ℕ) → elements at.inside at.element.body ≡ Ok a ∷ Ok b ∷ Ok c ∷ []
      → a.element.kind ≡ 1 → b.element.kind ≡ 2 → c.element.kind ≡ 3 → time_at a ≡ Ok t → leb least t ≡ true → imprint_at b ≡ Ok root → number_at c ≡ Ok n → said_at least at ≡ Ok (t, root, n)
  unfolding said_at dated rising field done time_at time_in imprint_at imprint_in number_at
  said_from least at a b c t n root split ka kb kc ta rises ib nc = rw (split, ka, ta, rises, kb, ib, kc, nc) refl

  said_again : (least : ℕ) (kept : Second) (place n : ℕ) → kept.second < 2 ^ 63 → least ≤ kept.second → IsImprint kept.root → length kept.items ≤ 65536
      → said_at least (placed_at place (second_element kept) n) ≡ Ok (kept.second, kept.root, length kept.items)
  said_again least kept place n early rises root few =
      let at : PlacedTlv = placed_at place (second_element kept) n in
      let one : Tlv = plain 1 (numeral kept.second) in
      let two : Tlv = plain 2 kept.root in
      let three : Tlv = plain 3 (numeral (length kept.items)) in
      let fits : AllByRecursion FitsLong (head_elements kept) = (fits_number laws 1 kept.second (omega arith), (fits_imprint 2 kept.root (omega arith) root, (fits_number laws 3 (length kept.items) (omega arith), tt))) in
      said_from least (placed_at place (second_element kept) n) _ _ _ kept.second (length kept.items) kept.root
      (laws.texts at.inside (head_elements kept) fits) refl refl refl
      (time_again laws (placed_at at.inside one (length (canonical one))) kept.second refl early) (le-leb least kept.second rises)
      (imprint_again (placed_at (at.inside + length (canonical one)) two (length (canonical two))) root)
      (number_again laws (placed_at (at.inside + length (canonical one) + length (canonical two)) three (length (canonical three))) (length kept.items) refl (omega (arith, few)))

  voters_made : (least : ℕ) (at a b : PlacedTlv) (t bits : ℕ) → elements at.inside at.element.body ≡ Ok a ∷ Ok b ∷ []
      → a.element.kind ≡ 1 → b.element.kind ≡ 2 → time_at a ≡ Ok t → leb least t ≡ true → number_at b ≡ Ok bits → leb 1 bits ≡ true → leb bits 511 ≡ true
      → voters_from least at ≡ Ok (record { second = t; voters = cores_in bits })
  unfolding voters_from voting rising field done time_at time_in number_at
  voters_made least at a b t bits split ka kb ta rises nb some few = rw (split, ka, ta, rises, kb, nb, some, few) refl

  voters_again : (least : ℕ) (pair : VotersFrom) (place n : ℕ) → IsVoters pair → least ≤ pair.second
      → voters_from least (placed_at place (voters_element pair) n) ≡ Ok pair
  voters_again least pair place n is rises =
      let at : PlacedTlv = placed_at place (voters_element pair) n in
      let one : Tlv = plain 1 (numeral pair.second) in
      let two : Tlv = plain 2 (numeral (bits_of pair.voters)) in
      let early = is.early in
      let small = bits_small listed pair.voters is.cores in
      let fits : AllByRecursion FitsLong (voter_elements pair) = (fits_number laws 1 pair.second (omega arith), (fits_number laws 2 (bits_of pair.voters) (omega arith), tt)) in
      voters_made least (placed_at place (voters_element pair) n) _ _ pair.second (bits_of pair.voters)
      (laws.texts at.inside (voter_elements pair) fits) refl refl
      (time_again laws (placed_at at.inside one (length (canonical one))) pair.second refl early) (le-leb least pair.second rises)
      (number_again laws (placed_at (at.inside + length (canonical one)) two (length (canonical two))) (bits_of pair.voters) refl (omega (arith, small.1)))
      (le-leb 1 (bits_of pair.voters) small.0) (le-leb (bits_of pair.voters) 511 small.1)
      ∙ ap (λ (voters : List ℕ). let made : VotersFrom = record { second = pair.second; voters = voters } in Ok made) (cores_again listed pair.voters is.cores)

  signature_from : (least : ℕ) (at a b : PlacedTlv) (n : ℕ) → elements at.inside at.element.body ≡ Ok a ∷ Ok b ∷ []
      → a.element.kind ≡ 1 → b.element.kind ≡ 2 → number_at a ≡ Ok n → leb least n ≡ true → leb (length b.element.body) 60000 ≡ true → signature_at least at ≡ Ok (n, b.element.body)
  unfolding signature_at numbered field done number_at
  signature_from least at a b n split ka kb na rises short = rw (split, ka, na, rises, kb, short) refl

  signature_again : (least : ℕ) (signature : ℕ × List ℕ) (place n : ℕ) → IsIssued signature → least ≤ signature.0
      → signature_at least (placed_at place (issued_element signature) n) ≡ Ok (signature.0, signature.1)
  signature_again least signature place n is rises =
      let at : PlacedTlv = placed_at place (issued_element signature) n in
      let one : Tlv = plain 1 (numeral signature.0) in
      let two : Tlv = plain 2 signature.1 in
      let short = is.short in
      let fits : AllByRecursion FitsLong (pair_elements signature) = (fits_number laws 1 signature.0 (omega arith), (record { kind = omega arith; body = omega arith }, tt)) in
      signature_from least (placed_at place (issued_element signature) n) _ _ signature.0
      (laws.texts at.inside (pair_elements signature) fits) refl refl
      (number_again laws (placed_at at.inside one (length (canonical one))) signature.0 refl is.number) (le-leb least signature.0 rises) (le-leb (length signature.1) 60000 short)

  published_from : (least : ℕ) (at a b : PlacedTlv) (t : ℕ) (root : List ℕ) → elements at.inside at.element.body ≡ Ok a ∷ Ok b ∷ []
      → a.element.kind ≡ 1 → b.element.kind ≡ 2 → time_at a ≡ Ok t → leb least t ≡ true → imprint_at b ≡ Ok root → published_at least at ≡ Ok (t, root)
  unfolding published_at dated rising field done time_at time_in imprint_at imprint_in
  published_from least at a b t root split ka kb ta rises ib = rw (split, ka, ta, rises, kb, ib) refl

  published_again : (least : ℕ) (publication : ℕ × List ℕ) (place n : ℕ) → IsPublication publication → least ≤ publication.0
      → published_at least (placed_at place (publication_element publication) n) ≡ Ok (publication.0, publication.1)
  published_again least publication place n is rises =
      let at : PlacedTlv = placed_at place (publication_element publication) n in
      let one : Tlv = plain 1 (numeral publication.0) in
      let two : Tlv = plain 2 publication.1 in
      let fits : AllByRecursion FitsLong (pair_elements publication) = (fits_number laws 1 publication.0 (omega arith), (fits_imprint 2 publication.1 (omega arith) is.imprint, tt)) in
      published_from least (placed_at place (publication_element publication) n) _ _ publication.0 publication.1
      (laws.texts at.inside (pair_elements publication) fits) refl refl
      (time_again laws (placed_at at.inside one (length (canonical one))) publication.0 refl is.early) (le-leb least publication.0 rises)
      (imprint_again (placed_at (at.inside + length (canonical one)) two (length (canonical two))) is.imprint)

  -- ---- one element after the other

  module _ (image : List ℕ → List ℕ) (t : Loaded) where
    -- elements lead from a state to the last one, wherever they stand
    abbrev Goes : Loaded → List Tlv → Type 0
    Goes s es = (place : ℕ) → Leads (journal_order image) s (placed place es) t

    record Step (s : Loaded) (e : Tlv) (u : Loaded) : Type 0 where
      more : is_end s.stage ≡ false
      may : may_stand (kinds_next s.version s.stage) e.kind ≡ true
      read : (place n : ℕ) → element_read image s (placed_at place e n) ≡ Ok u

    goes_on : (s u : Loaded) (e : Tlv) (es : List Tlv) → Step s e u → Goes u es → Goes s (e ∷ es)
    goes_on s u e es step rest place = (step.more, step.may, (u, step.read place (length (canonical e)), rest (place + length (canonical e))))

    start_step : (version : Version) (start : ℕ) → start < 2 ^ 63 → Step (nothing_yet version) (plain 1 (numeral start)) (started (nothing_yet version) start)
    unfolding element_read start_at
    start_step version start lt = record { more = refl; may = refl; read = λ place n. rw (time_again laws (placed_at place (plain 1 (numeral start)) n) start refl lt) refl }

    end_step : (s : Loaded) → is_end s.stage ≡ false → may_stand (kinds_next s.version s.stage) 6 ≡ true → Step s (plain 6 []) (record s { stage = stages.End })
    unfolding element_read end_at
    end_step s more may = record { more = more; may = may; read = λ place n. refl }

    voters_step : (s : Loaded) (pair : VotersFrom) → s.stage ≡ stages.Voters → s.version ≡ versions.Two → IsVoters pair → s.least_voters ≤ pair.second
        → Step s (voters_element pair) (with_voters s pair)
    unfolding element_read voters_at
    voters_step s pair at two is rises = record {
      more = rw at refl;
      may = rw (at, two) refl;
      read = λ place n. rw (voters_again s.least_voters pair place n is rises) refl;
    }

    issued_step : (s : Loaded) (signature : ℕ × List ℕ) → is_end s.stage ≡ false → may_stand (kinds_next s.version s.stage) 4 ≡ true → IsIssued signature → s.least_number ≤ signature.0
        → Step s (issued_element signature) (with_issued s signature)
    unfolding element_read issued_at
    issued_step s signature more may is rises = record { more = more; may = may; read = λ place n. rw (signature_again s.least_number signature place n is rises) refl }

    publication_step : (s : Loaded) (publication : ℕ × List ℕ) → is_end s.stage ≡ false → may_stand (kinds_next s.version s.stage) 5 ≡ true → IsPublication publication → s.least_time ≤ publication.0
        → Step s (publication_element publication) (with_publication s publication)
    unfolding element_read publication_at
    publication_step s publication more may is rises = record { more = more; may = may; read = λ place n. rw (published_again s.least_time publication place n is rises) refl }

    bare : Second → Second
    bare kept = record kept { items = [] }

    counts_again : (items : List Item) (root : List ℕ) → IsRootOf image items root → length items ≤ 65536 → counts root (length items) ≡ true
    counts_again [] root is few = rw ((bytes_eq-Decides root zero_imprint).1 is) refl
    counts_again (item ∷ items) root is few = by (bytes_eq root zero_imprint) refl
      where
        by : (missed : Bool) → bytes_eq root zero_imprint ≡ missed → cond missed (eqb (length (item ∷ items)) 0) (leb 1 (length (item ∷ items)) && leb (length (item ∷ items)) 65536) ≡ true
        by true e = absurd (is.0 ((bytes_eq-Decides root zero_imprint).0 e))
        by false e = let one : leb 1 (length (item ∷ items)) ≡ true = le-leb _ _ (omega arith) in let most : leb (length (item ∷ items)) 65536 ≡ true = le-leb _ _ few in rw (one, most) refl

    second_step : (s : Loaded) (kept : Second) → MayKeep s → IsSecond image kept → s.least_second ≤ kept.second
        → Step s (second_element kept) (opened s (record kept { items = [] }) (length kept.items))
    unfolding element_read read_second
    second_step s kept may is rises = record {
      more = may.issue.publish.more;
      may = may.two;
      read = λ place n. rw (said_again s.least_second kept place n is.early rises is.imprint is.few, counts_again kept.items kept.root is.tree is.few) refl;
    }

    -- ---- the items of a second

    abbrev filled : Second → List Item → Second
    filled kept items = record kept { items = kept.items ++ items }

    -- an item may stand in its second
    abbrev Stands : Version → Item → Type 0
    Stands version item = may_stand (kinds_next version stages.Items) (item_element item).kind ≡ true

    item_read : (s : Loaded) (item : Item) (name : Option (List ℕ)) (place n : ℕ) → IsItem item → item.name ≡ name
        → element_read image s (placed_at place (element_with item name) n) ≡ added image s (with_item s.current item) (s.left - 1)
    unfolding element_read item_at
    item_read s item None place n is same = rw (item_again item None place n is same) refl
    item_read s item (Some name) place n is same = rw (item_again item (Some name) place n is same) refl

    item_more : (s : Loaded) (item : Item) → s.stage ≡ stages.Items → Stands s.version item → IsItem item → eqb (s.left - 1) 0 ≡ false
        → Step s (item_element item) (record s { current = with_item s.current item; left = s.left - 1 })
    item_more s item at stands is left = record {
      more = rw at refl;
      may = rw at stands;
      read = λ place n. item_read s item item.name place n is refl ∙ rw left refl;
    }

    item_last : (s : Loaded) (item : Item) → s.stage ≡ stages.Items → Stands s.version item → IsItem item → eqb (s.left - 1) 0 ≡ true → bytes_eq (tree_of image (s.current.items ++ item ∷ [])).imprint s.current.root ≡ true
        → Step s (item_element item) (closed s (with_item s.current item))
    item_last s item at stands is left root = record {
      more = rw at refl;
      may = rw at stands;
      read = λ place n. item_read s item item.name place n is refl ∙ rw (left, root) refl;
    }

    items_again : (s : Loaded) (item : Item) (items : List Item) (more : List Tlv) → s.stage ≡ stages.Items → s.left ≡ suc (length items) → AllByRecursion (Stands s.version) (item ∷ items) → AllByRecursion IsItem (item ∷ items)
        → (tree_of image (s.current.items ++ item ∷ items)).imprint ≡ s.current.root
        → Goes (closed s (filled s.current (item ∷ items))) more → Goes s (map item_element (item ∷ items) ++ more)
    items_again s item [] more at left stands all root rest =
        goes_on s (closed s (with_item s.current item)) (item_element item) more
        (item_last s item at stands.0 all.0 (eq-eqb (s.left - 1) 0 (omega arith)) ((bytes_eq-Decides (tree_of image (s.current.items ++ item ∷ [])).imprint s.current.root).1 root)) rest
    items_again s item (next ∷ items) more at left stands all root rest =
        let joined : (s.current.items ++ item ∷ []) ++ (next ∷ items) ≡ s.current.items ++ (item ∷ next ∷ items) = append_assoc s.current.items (item ∷ []) (next ∷ items) in
        let u : Loaded = record s { current = with_item s.current item; left = s.left - 1 } in
        goes_on s (record s { current = with_item s.current item; left = s.left - 1 }) (item_element item) (map item_element (next ∷ items) ++ more)
        (item_more s item at stands.0 all.0 (ne_eqb (s.left - 1) 0 (λ e. absurd (omega arith))))
        (items_again (record s { current = with_item s.current item; left = s.left - 1 }) next items more at (omega arith) stands.1 all.1
        (ap (λ (xs : List Item). (tree_of image xs).imprint) joined ∙ root)
        (subst (λ (xs : List Item). Goes (closed s (record s.current { items = xs })) more) (sym joined) rest))

    -- ---- the seconds

    opened_more : (s : Loaded) (kept : Second) (n : ℕ) → eqb n 0 ≡ false → opened s kept n ≡ record s { stage = stages.Items; current = kept; left = n }
    opened_more s kept n some = rw some refl

    second_again : (s : Loaded) (kept : Second) (items : List Item) (more : List Tlv) → kept.items ≡ items → MayKeep s → AllByRecursion (Stands s.version) kept.items → IsSecond image kept → s.least_second ≤ kept.second
        → Goes (closed s kept) more → Goes s (kept_elements kept ++ more)
    second_again s kept [] more is may stands kept_is rises rest =
        goes_on s (opened s (record kept { items = [] }) (length kept.items)) (second_element kept) (map item_element kept.items ++ more) (second_step s kept may kept_is rises)
        (subst (λ (xs : List Item). Goes (opened s (record kept { items = [] }) (length xs)) (map item_element xs ++ more)) (sym is) (subst (λ (xs : List Item). Goes (closed s (record kept { items = xs })) more) is rest))
    second_again s kept (item ∷ items) more is may stands kept_is rises rest =
        let all = subst (λ (xs : List Item). AllByRecursion IsItem xs) is kept_is.items in
        let tree = subst (λ (xs : List Item). IsRootOf image xs kept.root) is kept_is.tree in
        goes_on s (opened s (record kept { items = [] }) (length kept.items)) (second_element kept) (map item_element kept.items ++ more) (second_step s kept may kept_is rises)
        (subst (λ (xs : List Item). Goes (opened s (record kept { items = [] }) (length xs)) (map item_element xs ++ more)) (sym is)
        (subst (λ (u : Loaded). Goes u (map item_element (item ∷ items) ++ more)) (sym (opened_more s (record kept { items = [] }) (suc (length items)) (ne_eqb (suc (length items)) 0 (λ e. absurd (omega arith)))))
        (items_again (record s { stage = stages.Items; current = record kept { items = [] }; left = suc (length items) }) item items more refl refl (subst (AllByRecursion (Stands s.version)) is stands) all tree.1
        (subst (λ (xs : List Item). Goes (closed s (record kept { items = xs })) more) is rest))))

    seconds_again : (s : Loaded) (seconds : List Second) (more : List Tlv) → MayKeep s → AllByRecursion (λ (kept : Second). AllByRecursion (Stands s.version) kept.items) seconds → AllByRecursion (IsSecond image) seconds → RiseFrom s.least_second (map (λ (kept : Second). kept.second) seconds)
        → Goes (after_seconds s seconds) more → Goes s (seconds_elements seconds ++ more)
    seconds_again s [] more may stands all rise rest = rest
    seconds_again s (kept ∷ others) more may stands all rise rest =
        subst (λ (es : List Tlv). Goes s es) (sym (append_assoc (kept_elements kept) (seconds_elements others) more))
        (second_again s kept kept.items (seconds_elements others ++ more) refl may stands.0 all.0 rise.0 (seconds_again (closed s kept) others more (keep_on s kept) stands.1 all.1 rise.1 rest))

    -- ---- voters

    all_voters_again : (s : Loaded) (pairs : List VotersFrom) (more : List Tlv) → s.stage ≡ stages.Voters → (s.version ≡ versions.Two) ⊎ (pairs ≡ []) → AllByRecursion IsVoters pairs
        → RiseFrom s.least_voters (map (λ (pair : VotersFrom). pair.second) pairs) → Goes (after_voters s pairs) more → Goes s (map voters_element pairs ++ more)
    all_voters_again s [] more at two all rise rest = rest
    all_voters_again s (pair ∷ others) more at (inr none) all rise rest = absurd cc
    all_voters_again s (pair ∷ others) more at (inl two) all rise rest =
        goes_on s (with_voters s pair) (voters_element pair) (map voters_element others ++ more) (voters_step s pair at two all.0 rise.0)
        (all_voters_again (with_voters s pair) others more at (inl two) all.1 rise.1 rest)

    -- ---- issued signatures and publications

    issued_again : (s : Loaded) (xs : List (ℕ × List ℕ)) (more : List Tlv) → MayIssue s → AllByRecursion IsIssued xs → RiseFrom s.least_number (map (λ (x : ℕ × List ℕ). x.0) xs)
        → Goes (after_issued s xs) more → Goes s (map issued_element xs ++ more)
    issued_again s [] more may all rise rest = rest
    issued_again s (x ∷ others) more may all rise rest =
        goes_on s (with_issued s x) (issued_element x) (map issued_element others ++ more) (issued_step s x may.publish.more may.four all.0 rise.0)
        (issued_again (with_issued s x) others more (record { four = refl; publish = record { more = refl; five = refl; six = refl } }) all.1 rise.1 rest)

    published_all : (s : Loaded) (xs : List (ℕ × List ℕ)) (more : List Tlv) → MayPublish s → AllByRecursion IsPublication xs → RiseFrom s.least_time (map (λ (x : ℕ × List ℕ). x.0) xs)
        → Goes (after_published s xs) more → Goes s (map publication_element xs ++ more)
    published_all s [] more may all rise rest = rest
    published_all s (x ∷ others) more may all rise rest =
        goes_on s (with_publication s x) (publication_element x) (map publication_element others ++ more) (publication_step s x may.more may.five all.0 rise.0)
        (published_all (with_publication s x) others more (record { more = refl; five = refl; six = refl }) all.1 rise.1 rest)

  -- ---- sizes

  second_fits : (image : List ℕ → List ℕ) (kept : Second) → IsSecond image kept → FitsLong (second_element kept)
  second_fits image kept is = record {
    kind = omega arith;
    body = (let size = is.imprint.size in omega (arith, length-three (plain 1 (numeral kept.second)) (plain 2 kept.root) (plain 3 (numeral (length kept.items))), laws.size kept.second, laws.size (length kept.items), size));
  }

  voters_fit : (pairs : List VotersFrom) (more : List Tlv) → AllByRecursion FitsLong more → AllByRecursion FitsLong (map voters_element pairs ++ more)
  voters_fit [] more rest = rest
  voters_fit (pair ∷ others) more rest =
      (record { kind = omega arith; body = omega (arith, length-two (plain 1 (numeral pair.second)) (plain 2 (numeral (bits_of pair.voters))), laws.size pair.second, laws.size (bits_of pair.voters)) }, voters_fit others more rest)

  seconds_fit : (image : List ℕ → List ℕ) (seconds : List Second) (more : List Tlv) → AllByRecursion (IsSecond image) seconds → AllByRecursion FitsLong more → AllByRecursion FitsLong (seconds_elements seconds ++ more)
  seconds_fit image [] more all rest = rest
  seconds_fit image (kept ∷ others) more all rest =
      subst (AllByRecursion FitsLong) (sym (append_assoc (kept_elements kept) (seconds_elements others) more))
      (second_fits image kept all.0, items_fit kept.items (seconds_elements others ++ more) all.0.items (seconds_fit image others more all.1 rest))

  issued_fit : (xs : List (ℕ × List ℕ)) (more : List Tlv) → AllByRecursion IsIssued xs → AllByRecursion FitsLong more → AllByRecursion FitsLong (map issued_element xs ++ more)
  issued_fit [] more all rest = rest
  issued_fit (x ∷ others) more all rest =
      (record { kind = omega arith; body = (let short = all.0.short in omega (arith, length-two (plain 1 (numeral x.0)) (plain 2 x.1), laws.size x.0, short)) }, issued_fit others more all.1 rest)

  published_fit : (xs : List (ℕ × List ℕ)) (more : List Tlv) → AllByRecursion IsPublication xs → AllByRecursion FitsLong more → AllByRecursion FitsLong (map publication_element xs ++ more)
  published_fit [] more all rest = rest
  published_fit (x ∷ others) more all rest =
      (record { kind = omega arith; body = (let size = all.0.imprint.size in omega (arith, length-two (plain 1 (numeral x.0)) (plain 2 x.1), laws.size x.0, size)) }, published_fit others more all.1 rest)

  -- ---- the version

  neither : (b c : Bool) → (b || c) ≡ false → (b ≡ false) × (c ≡ false)
  neither true c e = absurd cc
  neither false c e = (refl, e)

  stands_in_two : (image : List ℕ → List ℕ) (t : Loaded) (item : Item) (name : Option (List ℕ)) → item.name ≡ name → Stands image t versions.Two item
  stands_in_two image t item None same = rw same refl
  stands_in_two image t item (Some name) same = rw same refl

  all_in_two : (image : List ℕ → List ℕ) (t : Loaded) (items : List Item) → AllByRecursion (Stands image t versions.Two) items
  all_in_two image t [] = tt
  all_in_two image t (item ∷ items) = (stands_in_two image t item item.name refl, all_in_two image t items)

  stands_in_one : (image : List ℕ → List ℕ) (t : Loaded) (item : Item) (name : Option (List ℕ)) → item.name ≡ name → is_some name ≡ false → Stands image t versions.One item
  stands_in_one image t item None same none = rw same refl
  stands_in_one image t item (Some name) same none = absurd cc

  all_in_one : (image : List ℕ → List ℕ) (t : Loaded) (items : List Item) → list_any (λ (item : Item). is_some item.name) items ≡ false → AllByRecursion (Stands image t versions.One) items
  all_in_one image t [] none = tt
  all_in_one image t (item ∷ items) none =
      let both = neither (is_some item.name) (list_any (λ (item : Item). is_some item.name) items) none in
      (stands_in_one image t item item.name refl both.0, all_in_one image t items both.1)

  seconds_in : (image : List ℕ → List ℕ) (t : Loaded) (version : Version) (seconds : List Second) → (version ≡ versions.Two) ⊎ ((version ≡ versions.One) × (list_any has_name seconds ≡ false))
      → AllByRecursion (λ (kept : Second). AllByRecursion (Stands image t version) kept.items) seconds
  seconds_in image t version [] may = tt
  seconds_in image t version (kept ∷ others) (inl two) =
      (subst (λ version. AllByRecursion (Stands image t version) kept.items) (sym two) (all_in_two image t kept.items), seconds_in image t version others (inl two))
  seconds_in image t version (kept ∷ others) (inr one) =
      let both = neither (has_name kept) (list_any has_name others) one.1 in
      (subst (λ version. AllByRecursion (Stands image t version) kept.items) (sym one.0) (all_in_one image t kept.items both.0), seconds_in image t version others (inr (one.0, both.1)))

  record MayHold (version : Version) (journal : Contents) : Type 0 where
    voters : (version ≡ versions.Two) ⊎ (journal.voters ≡ [])
    names : (version ≡ versions.Two) ⊎ ((version ≡ versions.One) × (list_any has_name journal.seconds ≡ false))

  allowed : (version : Version) (journal : Contents) → Allows version journal → MayHold version journal
  allowed versions.Two journal allows = record { voters = inl refl; names = inl refl }
  allowed versions.One journal allows =
      let both = neither (has_some journal.voters) (list_any has_name journal.seconds) allows in
      record { voters = inr (no_voters journal.voters both.0); names = inr (refl, both.1) }
    where
      no_voters : (pairs : List VotersFrom) → has_some pairs ≡ false → pairs ≡ []
      no_voters [] none = refl
      no_voters (pair ∷ pairs) none = absurd cc

  -- ---- the whole file

  pub journal_again : (image : List ℕ → List ℕ) (version : Version) (journal : Contents) → IsJournal image journal → Allows version journal → IsJournalFile image (text_in version journal) journal
  unfolding journal_format
  journal_again image version journal is allows =
      let hold = allowed version journal allows in
      let none : Loaded = nothing_yet version in
      let a : Loaded = started none journal.start in
      let v : Loaded = after_voters a journal.voters in
      let b : Loaded = after_seconds v journal.seconds in
      let c : Loaded = after_issued b journal.issued in
      let d : Loaded = after_published c journal.publications in
      let t : Loaded = record d { stage = stages.End } in
      let behind = behind_voters a journal.voters in
      let less = number_after v journal.seconds in
      let may_v = may_keep v behind.stage in
      let may_b = issue_after v journal.seconds may_v.issue in
      let may_c = publish_after b journal.issued may_b.publish in
      let may_d = end_after c journal.publications may_c in
      let over_c = issued_contents b journal.issued in
      let time_c : c.least_time ≡ 0 = over_c.1 ∙ less.1 ∙ behind.time in
      let number_b : b.least_number ≡ 0 = less.0 ∙ behind.number in
      let last : List Tlv = plain 6 [] ∷ [] in
      let from_pubs : List Tlv = map publication_element journal.publications ++ plain 6 [] ∷ [] in
      let from_signs : List Tlv = map issued_element journal.issued ++ (map publication_element journal.publications ++ plain 6 [] ∷ []) in
      let from_seconds : List Tlv = seconds_elements journal.seconds ++ (map issued_element journal.issued ++ (map publication_element journal.publications ++ plain 6 [] ∷ [])) in
      let end : Goes image t d (plain 6 [] ∷ []) = goes_on image t d t (plain 6 []) [] (end_step image t d may_d.more may_d.six) (λ place. refl) in
      let pubs : Goes image t c (map publication_element journal.publications ++ plain 6 [] ∷ []) = published_all image t c journal.publications (plain 6 [] ∷ []) may_c is.publications (subst (λ (n : ℕ). RiseFrom n (map (λ (x : ℕ × List ℕ). x.0) journal.publications)) (sym time_c) is.times_rise) end in
      let signs : Goes image t b from_signs = issued_again image t b journal.issued from_pubs may_b is.issued (subst (λ (n : ℕ). RiseFrom n (map (λ (x : ℕ × List ℕ). x.0) journal.issued)) (sym number_b) is.numbers_rise) pubs in
      let seconds : Goes image t v from_seconds = seconds_again image t v journal.seconds from_signs may_v
      (subst (λ version. AllByRecursion (λ (kept : Second). AllByRecursion (Stands image t version) kept.items) journal.seconds) (sym behind.version) (seconds_in image t version journal.seconds hold.names))
      is.seconds (subst (λ (n : ℕ). RiseFrom n (map (λ (kept : Second). kept.second) journal.seconds)) (sym behind.second) is.seconds_rise) signs in
      let voters = all_voters_again image t a journal.voters from_seconds refl hold.voters is.voters is.voters_rise seconds in
      let all = goes_on image t none a (plain 1 (numeral journal.start)) (map voters_element journal.voters ++ from_seconds) (start_step image t version journal.start is.start) voters in
      let fits : AllByRecursion FitsLong (journal_elements journal) = (
        fits_number laws 1 journal.start (omega arith),
        voters_fit journal.voters from_seconds
            (seconds_fit image journal.seconds from_signs is.seconds
            (issued_fit journal.issued from_pubs is.issued
            (published_fit journal.publications last is.publications (record { kind = omega arith; body = omega arith }, tt)))),
      ) in
      let contents_v = voters_after a journal.voters in
      let contents_b = contents_after v journal.seconds ∙ ap (λ (x : Contents). record x { seconds = x.seconds ++ journal.seconds }) contents_v in
      let contents_c = over_c.0 ∙ ap (λ (x : Contents). record x { issued = x.issued ++ journal.issued }) contents_b in
      let contents_d = published_contents c journal.publications ∙ ap (λ (x : Contents). record x { publications = x.publications ++ journal.publications }) contents_c in
      record { version = version; file = file_again laws (journal_format image version) (journal_elements journal) journal t fits (goes_in version none t (journal_elements journal) all) refl (sym contents_d) }
    where
      goes_in : (version : Version) (s t : Loaded) (es : List Tlv) → ((place : ℕ) → Leads (journal_order image) s (placed place es) t) → Leads (journal_order image) s (placed (length (magic version)) es) t
      goes_in versions.One s t es goes = goes 8
      goes_in versions.Two s t es goes = goes 8

-- the version that a journal is written in allows it
pub version_allows : (journal : Contents) → Allows (version_of journal) journal
version_allows journal = by (needs_two journal) refl
  where
    by : (needs : Bool) → needs_two journal ≡ needs → Allows (cond needs versions.Two versions.One) journal
    by true is = tt
    by false is = is
