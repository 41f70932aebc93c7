-- What a record comes to so far, and with one entry more.
use Rattle.std.proofs.Common.{◌≡◌, ◌<◌, ◌^◌, ℕ, List, [], ◌∷◌, ◌++◌, length, Option, Some, None, IfSome, inl, inr, refl, sym, ◌∙◌, ap, subst, append_assoc}
use Rattle.std.proofs.lemmas.List.{append-nil}
use Rattle.std.specs.List.{AllByRecursion}
use Rattle.std.specs.Io.KnownBytes.{Appends}
use Rattle.ksi_schedule.specs.Pieces.{Text}
use Rattle.ksi_schedule.specs.Plans.{PlanState}
use Rattle.ksi_schedule.specs.Events.{AreEvents}
use Rattle.ksi_schedule.specs.declared.event.Event.{Event}
use Rattle.ksi_records.specs.declared.fault.RecordFault.{RecordFault}
use Rattle.ksi_records.specs.declared.head.Head.{Head}
use Rattle.ksi_records.specs.declared.head.Head.TheVariants as heads
use Rattle.ksi_records.specs.declared.sum.Sum.{Sum}
use Rattle.ksi_records.specs.declared.verdict.Counts.{Counts}
use Rattle.ksi_records.specs.declared.blocks.place.Place.{Place}
use Rattle.ksi_records.specs.declared.verdict.Retraced.{Retraced}
use Rattle.ksi_records.specs.declared.verdict.Retraced.TheVariants as retraced
use Rattle.ksi_records.specs.declared.version.Version.{Version}
use Rattle.ksi_records.specs.Entries.{Entry, entry_text, record_text}
use Rattle.ksi_records.specs.Steps.{IsHeld, IsShown, IsWhole}
use Rattle.ksi_records.specs.Sums.{sum_of, sum_with, counts_in}
use Rattle.ksi_records.specs.Told.{with_head, IsTold, AreTold}
use Rattle.ksi_records.specs.Verdicts.{place_behind, AreEntries, IsEntry, Refused, StandsIn, shown, shown_from, shown_of}
use Rattle.ksi_records.proofs.SumLemmas.{sum_more}

record_more : (version : Version) (entries : List Entry) (entry : Entry) (rest : Text) → record_text version (entries ++ entry ∷ []) ++ rest ≡ record_text version entries ++ (entry_text version entry ++ rest)
record_more version [] entry rest = ap (λ (text : Text). text ++ rest) (append-nil (entry_text version entry))
record_more version (x ∷ entries) entry rest =
    append_assoc (entry_text version x) (record_text version (entries ++ entry ∷ [])) rest ∙ ap (λ (text : Text). entry_text version x ++ text) (record_more version entries entry rest)
    ∙ sym (append_assoc (entry_text version x) (record_text version entries) (entry_text version entry ++ rest))

are_more : (plan : PlanState) (version : Version) (entries : List Entry) (entry : Entry) → AllByRecursion (IsEntry plan version) entries → IsEntry plan version entry
    → AllByRecursion (IsEntry plan version) (entries ++ entry ∷ [])
are_more plan version [] entry are is = (is, tt)
are_more plan version (x ∷ entries) entry are is = (are.0, are_more plan version entries entry are.1 is)

pub appends_more : (old mid new : Option Text) (one two : Text) → Appends old mid one → Appends mid new two → Appends old new (one ++ two)
appends_more None mid new one two is are = tt
appends_more (Some text) None new one two is are = absurd is
appends_more (Some text) (Some more) None one two is are = absurd are
appends_more (Some text) (Some more) (Some all) one two is are = are ∙ ap (λ (more : Text). more ++ two) is ∙ append_assoc text one two

pub appends_nothing : (known : Option Text) → Appends known known []
appends_nothing None = tt
appends_nothing (Some text) = sym (append-nil text)

module _ (image : List ℕ → List ℕ) (plan : PlanState) where
  told_more : (version : Version) (es mid : List Event) (entries : List Entry) (entry : Entry) → AreTold image plan version es entries mid → IsTold image plan version mid entry.head entry.came entry.block
      → AreTold image plan version es (entries ++ entry ∷ []) (with_head image plan mid entry.head)
  told_more version es mid [] entry are is =
      (subst (λ (so_far : List Event). IsTold image plan version so_far entry.head entry.came entry.block) (sym are) is, ap (λ (so_far : List Event). with_head image plan so_far entry.head) are)
  told_more version es mid (x ∷ entries) entry are is = (are.0, told_more version (with_head image plan es x.head) mid entries entry are.1 is)

  shown_more : (version : Version) (before : List Entry) (es mid : List Event) (entries : List Entry) (entry : Entry) → AreTold image plan version es entries mid
      → shown_from image plan before es (entries ++ entry ∷ []) ≡ shown_from image plan before es entries ++ shown_of image plan (before ++ entries) mid entry.head
  shown_more version before es mid [] entry are =
      append-nil (shown_of image plan before es entry.head) ∙ ap (λ (so_far : List Entry). shown_of image plan so_far es entry.head) (sym (append-nil before))
      ∙ ap (λ (es : List Event). shown_of image plan (before ++ []) es entry.head) are
  shown_more version before es mid (x ∷ entries) entry are =
      ap (λ (text : Text). shown_of image plan before es x.head ++ text) (shown_more version (before ++ x ∷ []) (with_head image plan es x.head) mid entries entry are.1)
      ∙ sym (append_assoc (shown_of image plan before es x.head) (shown_from image plan (before ++ x ∷ []) (with_head image plan es x.head) entries) _)
      ∙ ap (λ (so_far : List Entry). shown_from image plan before es (x ∷ entries) ++ shown_of image plan so_far mid entry.head) (append_assoc before (x ∷ []) entries)

  shown_is : (before : List Entry) (es : List Event) (head : Head) (old new : Option Text) → IsShown image plan es (place_behind before) head old new → Appends old new (shown_of image plan before es head)
  shown_is before es (heads.Said it) old new is = is
  shown_is before es (heads.Unsaid it) old new is = is
  shown_is before es (heads.Restarted actor) old new is = is
  shown_is before es (heads.Sign step) old new is = is

module _ (image : List ℕ → List ℕ) (plan : PlanState) (version : Version) where
  -- what was taken is entries that agree, what is left is known, and what was to be shown is
  pub record IsSoFar (text : Text) (now old new : Option Text) (es : List Event) (sum : Sum) : Type 0 where
    pub entries : List Entry
    pub rest : Text
    pub left : now ≡ Some rest
    pub spelled : text ≡ record_text version entries ++ rest
    pub entries_are : AllByRecursion (IsEntry plan version) entries
    pub told : AreTold image plan version [] entries es
    pub sums : sum ≡ sum_of entries
    pub writes : Appends old new (shown image plan entries)

  pub starts : (known out : Option Text) (sum : Sum) → sum ≡ sum_of [] → IfSome known (λ text. IsSoFar text known out out [] sum)
  starts None out sum is = tt
  starts (Some text) out sum is = record {
    entries = [];
    rest = text;
    left = refl;
    spelled = refl;
    entries_are = tt;
    told = refl;
    sums = is;
    writes = appends_nothing out;
  }

  -- one entry more
  pub goes_on : (first now later old mid new : Option Text) (es : List Event) (sum : Sum) (head : Head) (came block : Text) → IfSome first (λ text. IsSoFar text now old mid es sum)
      → IfSome now (λ bytes. IsWhole plan version bytes later head came block) → IsHeld image plan version es sum.place head came block mid new None
      → IfSome first (λ text. IsSoFar text later old new (with_head image plan es head) (sum_with sum head block))
  goes_on None now later old mid new es sum head came block was is held = tt
  goes_on (Some text) now later old mid new es sum head came block was is held = by later (subst (λ (now : Option Text). IfSome now (λ bytes. IsWhole plan version bytes later head came block)) was.left is)
    where
      by : (later : Option Text) → IsWhole plan version was.rest later head came block → IsSoFar text later old new (with_head image plan es head) (sum_with sum head block)
      by None is = absurd is
      by (Some more) is =
          let entry : Entry = record { head = head; came = came; block = block } in
          let at = subst (λ (sum : Sum). IsShown image plan es sum.place head mid new) was.sums held.1 in
          record {
            entries = was.entries ++ entry ∷ [];
            rest = more;
            left = refl;
            spelled = was.spelled ∙ ap (λ (rest : Text). record_text version was.entries ++ rest) is.0 ∙ sym (record_more version was.entries entry more);
            entries_are = are_more plan version was.entries entry was.entries_are is.1;
            told = told_more image plan version [] es was.entries entry was.told held.0;
            sums = ap (λ (sum : Sum). sum_with sum head block) was.sums ∙ sym (sum_more was.entries entry);
            writes = subst (λ (text : Text). Appends old new text) (sym (shown_more image plan version [] [] es was.entries entry was.told))
                (appends_more old mid new (shown image plan was.entries) (shown_of image plan was.entries es head) was.writes (shown_is image plan was.entries es head mid new at));
          }

  -- the verdict belongs to some entries of the first text, and exactly these were shown
  abbrev pub Found : (first old new : Option Text) → Retraced → Type 0
  Found first old new verdict = IfSome first (λ text. (entries : List Entry) × AreEntries image plan version text entries verdict × Appends old new (shown image plan entries))

  pub agrees : (first now old new : Option Text) (es : List Event) (sum : Sum) (steps : ℕ) (counts : Counts) → AreEvents plan es → length es < 2 ^ 64 → IfSome first (λ text. IsSoFar text now old new es sum)
      → IfSome now (λ bytes. bytes ≡ []) → steps ≡ length es → counts ≡ counts_in version steps sum → Found first old new (retraced.Agrees counts)
  agrees None now old new es sum steps counts are few was end count is = tt
  agrees (Some text) now old new es sum steps counts are few was end count is =
      let none = subst (λ (now : Option Text). IfSome now (λ bytes. bytes ≡ [])) was.left end in (
        was.entries,
        record {
          events = es;
          rest = was.rest;
          spelled = was.spelled;
          entries_are = was.entries_are;
          told = was.told;
          allowed = are;
          few = few;
          ends = (none, is ∙ (λ i. counts_in version (count i) (was.sums i)));
        },
        was.writes,
      )

  pub refuses : (first now old new : Option Text) (es : List Event) (sum : Sum) (fault : RecordFault) (place : Place) → AreEvents plan es → length es < 2 ^ 64 → IfSome first (λ text. IsSoFar text now old new es sum)
      → IfSome now (λ bytes. StandsIn plan version bytes (Refused fault)) → place ≡ sum.place → Found first old new (retraced.Refused fault place)
  refuses None now old new es sum fault place are few was is at = tt
  refuses (Some text) now old new es sum fault place are few was is at =
      let stands = subst (λ (now : Option Text). IfSome now (λ bytes. StandsIn plan version bytes (Refused fault))) was.left is in (
        was.entries,
        record {
          events = es;
          rest = was.rest;
          spelled = was.spelled;
          entries_are = was.entries_are;
          told = was.told;
          allowed = are;
          few = few;
          ends = (inl stands, at ∙ ap (λ (sum : Sum). sum.place) was.sums);
        },
        was.writes,
      )

  pub ends : (first now later old mid new : Option Text) (es : List Event) (sum : Sum) (head : Head) (came block : Text) (verdict : Retraced) → AreEvents plan es → length es < 2 ^ 64
      → IfSome first (λ text. IsSoFar text now old mid es sum) → IfSome now (λ bytes. IsWhole plan version bytes later head came block)
      → IsHeld image plan version es sum.place head came block mid new (Some verdict) → Found first old new verdict
  ends None now later old mid new es sum head came block verdict are few was is held = tt
  ends (Some text) now later old mid new es sum head came block verdict are few was is held =
      by later verdict (subst (λ (now : Option Text). IfSome now (λ bytes. IsWhole plan version bytes later head came block)) was.left is) held
    where
      writes : Appends mid new [] → Appends old new (shown image plan was.entries)
      writes is = subst (λ (text : Text). Appends old new text) (append-nil (shown image plan was.entries)) (appends_more old mid new (shown image plan was.entries) [] was.writes is)

      by : (later : Option Text) (verdict : Retraced) → IsWhole plan version was.rest later head came block → IsHeld image plan version es sum.place head came block mid new (Some verdict) → Found (Some text) old new verdict
      by None verdict is held = absurd is
      by (Some more) (retraced.Agrees counts) is held = absurd held
      by (Some more) (retraced.Differs place) is held = (
        was.entries,
        record {
          events = es;
          rest = was.rest;
          spelled = was.spelled;
          entries_are = was.entries_are;
          told = was.told;
          allowed = are;
          few = few;
          ends = (record { head = head; came = came; block = block }, more, is, held.1, held.2, held.0 ∙ ap (λ (sum : Sum). sum.place) was.sums);
        },
        writes held.3,
      )
      by (Some more) (retraced.Refused fault place) is held = (
        was.entries,
        record {
          events = es;
          rest = was.rest;
          spelled = was.spelled;
          entries_are = was.entries_are;
          told = was.told;
          allowed = are;
          few = few;
          ends = (inr (record { head = head; came = came; block = block }, more, is, held.1), held.0 ∙ ap (λ (sum : Sum). sum.place) was.sums);
        },
        writes held.2,
      )
