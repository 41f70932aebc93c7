-- The signatures that a record hands out are issued in its history until its end.
use Rattle.std.proofs.Common.{◌≡◌, ℕ, ◌+◌, ◌<◌, get_or, true, false, List, [], ◌∷◌, ◌++◌, length, refl, sym, ap, subst, ◌∙◌, Option, Some, None, append_assoc}
use Rattle.std.specs.Prelude.{slice_get, take, drop}
use Rattle.std.specs.List.{AllByRecursion}
use Rattle.std.proofs.lemmas.List.{append-nil, take-append-drop, take_more}
use Rattle.std.proofs.lemmas.Option.{slice_get-get_or}
use Rattle.ksi_schedule.specs.Events.{History}
use Rattle.ksi_schedule.specs.Pieces.{Text}
use Rattle.ksi_schedule.specs.Plans.{PlanState}
use Rattle.ksi_schedule.specs.Schedules.{IsHistory}
use Rattle.ksi_schedule.specs.declared.event.Event.{Event}
use Rattle.ksi_schedule.specs.declared.event.Event.TheVariants as events
use Rattle.ksi_world.specs.declared.outcome.Asked.{Asked}
use Rattle.ksi_world.specs.Histories.{WorldState, after, happens}
use Rattle.ksi_world.specs.Records.{issued_of}
use Rattle.ksi_records.specs.declared.head.Head.{Head}
use Rattle.ksi_records.specs.declared.head.Head.TheVariants as heads
use Rattle.ksi_records.specs.declared.verdict.Counts.{Counts}
use Rattle.ksi_records.specs.declared.verdict.Retraced.TheVariants.{Agrees}
use Rattle.ksi_records.specs.declared.version.Version.{Version}
use Rattle.ksi_records.specs.Entries.{Entry, restart_of}
use Rattle.ksi_records.specs.Histories.{HasHistory}
use Rattle.ksi_records.specs.Told.{accepted_before, event_of, signature_block, with_head, AreTold, IsAccepted, IsTold}
use Rattle.ksi_records.specs.Verdicts.{is_signature}
use Rattle.ksi_replay.specs.HoldsOver.{HoldsOver}
use Rattle.ksi_replay.specs.Joined.{Lasts}
use Rattle.ksi_replay.specs.Journals.{journal_of}
use Rattle.ksi_laws_records.specs.Recorded.{IsHandedOut, RecordHolds}
use Rattle.ksi_laws_records.proofs.Staying.{after_asked, after_one, event_accepts, get_front, get_last}

-- the event at a place, and those before it
taken : (es : List Event) (k : ℕ) → k < length es → (e : Event) × (slice_get es k ≡ Some e) × (take (k + 1) es ≡ take k es ++ e ∷ [])
taken es k less = (get_or es k (events.Deliver 0), slice_get-get_or es k (events.Deliver 0) less, take_more es k (events.Deliver 0) less)

module _ (image : List ℕ → List ℕ) (plan : PlanState) where
  -- ---- the request that a step accepted

  -- the step is a request, accepted under the count of those before it, and stays so
  record WasAsked (es all : List Event) (step : ℕ) : Type 0 where
    asked : Asked
    name : Option (List ℕ)
    event : slice_get all step ≡ Some (events.Request asked.aggregator asked.second asked.imprint name)
    request : slice_get (after image plan all).requests (accepted_before image plan es step) ≡ Some asked

  was_asked : (es later : List Event) (step : ℕ) → IsAccepted image plan es step → WasAsked es (es ++ later) step
  was_asked es later step is =
      let at = taken es step is.0 in
      let w = after image plan (take step es) in
      let next : after image plan (take (step + 1) es) ≡ (happens image plan w at.0).world = ap (λ (es : List Event). after image plan es) at.2 ∙ after_one image plan (take step es) at.0 in
      let less : length w.requests < length (happens image plan w at.0).world.requests = subst (λ (w' : WorldState). length w.requests < length w'.requests) next is.1 in
      let accepts = event_accepts image plan w at.0 less in
      let new : slice_get (after image plan (take (step + 1) es)).requests (length w.requests) ≡ Some accepts.asked =
      ap (λ (w' : WorldState). slice_get w'.requests (length w.requests)) next ∙ ap (λ (requests : List Asked). slice_get requests (length w.requests)) accepts.requests ∙ get_last w.requests accepts.asked in
      let parts : es ++ later ≡ take (step + 1) es ++ (drop (step + 1) es ++ later) = ap (λ (front : List Event). front ++ later) (sym (take-append-drop (step + 1) es)) ∙ append_assoc (take (step + 1) es) (drop (step + 1) es) later in
      record {
        asked = accepts.asked;
        name = accepts.name;
        event = get_front es later step at.0 at.1 ∙ ap (λ (e : Event). Some e) accepts.event;
        request = ap (λ (all : List Event). slice_get (after image plan all).requests (length w.requests)) parts
            ∙ after_asked image plan (take (step + 1) es) (drop (step + 1) es ++ later) (length w.requests) accepts.asked new;
      }

  -- ---- entries

  module _ (version : Version) where
    -- the events of a record begin with those before an entry
    head_begins : (es : List Event) (head : Head) → (more : List Event) × (with_head image plan es head ≡ es ++ more)
    head_begins es (heads.Said it) = (event_of image plan es it ∷ [], refl)
    head_begins es (heads.Unsaid it) = (event_of image plan es it ∷ [], refl)
    head_begins es (heads.Restarted actor) = (restart_of actor ∷ [], refl)
    head_begins es (heads.Sign step) = ([], sym (append-nil es))

    told_begins : (es all : List Event) (entries : List Entry) → AreTold image plan version es entries all → (later : List Event) × (all ≡ es ++ later)
    told_begins es all [] are = ([], sym are ∙ sym (append-nil es))
    told_begins es all (entry ∷ entries) are =
        let one = head_begins es entry.head in
        let rest = told_begins (with_head image plan es entry.head) all entries are.1 in
        (one.0 ++ rest.0, rest.1 ∙ ap (λ (es : List Event). es ++ rest.0) one.1 ∙ append_assoc es one.0 rest.0)

    module _ (all : List Event) where
      abbrev whole : History
      whole = record { plan = plan; events = all }

      -- what a signature of the history becomes
      abbrev Last : Type 0
      Last = (number : ℕ) (text : List ℕ) → issued_of image (after image plan all) number ≡ Some text → Lasts image whole (journal_of image whole) number text

      abbrev Stay : Type 0
      Stay = (before later : List Event) (number : ℕ) (text : List ℕ) → issued_of image (after image plan before) number ≡ Some text → issued_of image (after image plan (before ++ later)) number ≡ Some text

      abbrev HandsOut : Entry → Type 0
      HandsOut entry = is_signature entry.head entry.block ≡ true → IsHandedOut image whole entry

      same_asked : (one other : Asked) (found : Option Asked) → found ≡ Some one → found ≡ Some other → one ≡ other
      same_asked one other found is too = cc

      sign_hands : Stay → Last → (es later : List Event) (entry : Entry) (step : ℕ) → all ≡ es ++ later → entry.head ≡ heads.Sign step → IsAccepted image plan es step
          → entry.block ≡ signature_block (issued_of image (after image plan es) (accepted_before image plan es step)) → is_signature (heads.Sign step) entry.block ≡ true → IsHandedOut image whole entry
      sign_hands stay last es later entry step parts asks accepted block signs =
          by (issued_of image (after image plan es) (accepted_before image plan es step)) refl
        where
          number : ℕ
          number = accepted_before image plan es step

          by : (found : Option (List ℕ)) → issued_of image (after image plan es) number ≡ found → IsHandedOut image whole entry
          by None is =
              let none : entry.block ≡ signature_block None = block ∙ ap signature_block is in
              let none_signed : is_signature (heads.Sign step) (signature_block None) ≡ false = refl in
              absurd (cc (sym (ap (is_signature (heads.Sign step)) none ∙ none_signed) ∙ signs))
          by (Some text) is =
              let asked : WasAsked es all step = subst (λ (all : List Event). WasAsked es all step) (sym parts) (was_asked es later step accepted) in
              let lasts = last number text (subst (λ (all : List Event). issued_of image (after image plan all) number ≡ Some text) (sym parts) (stay es later number text is)) in
              let same = same_asked asked.asked lasts.asked (slice_get (after image plan all).requests number) asked.request lasts.accepted in
              record {
                step = step;
                asks = asks;
                text = text;
                block = block ∙ ap signature_block is;
                number = number;
                lasts = lasts;
                name = asked.name;
                request = asked.event ∙ ap (λ (one : Asked). Some (events.Request one.aggregator one.second one.imprint asked.name)) same;
              }

      entry_hands : Stay → Last → (es later : List Event) (head : Head) (came block : Text) → all ≡ es ++ later → IsTold image plan version es head came block → HandsOut (record { head = head; came = came; block = block })
      entry_hands stay last es later (heads.Said it) came block parts told signs = absurd (cc signs)
      entry_hands stay last es later (heads.Unsaid it) came block parts told signs = absurd (cc signs)
      entry_hands stay last es later (heads.Restarted actor) came block parts told signs = absurd (cc signs)
      entry_hands stay last es later (heads.Sign step) came block parts told signs =
          sign_hands stay last es later (record { head = heads.Sign step; came = came; block = block }) step parts refl told.0 told.1 signs

      pub all_hand : Stay → Last → (es : List Event) (entries : List Entry) → AreTold image plan version es entries all → AllByRecursion HandsOut entries
      all_hand stay last es [] are = tt
      all_hand stay last es (entry ∷ entries) are =
          let begins = told_begins es all (entry ∷ entries) are in
          (entry_hands stay last es begins.0 entry.head entry.came entry.block begins.1 are.0, all_hand stay last (with_head image plan es entry.head) entries are.1)

-- ---- a record

pub record_holds : (image : List ℕ → List ℕ) (plan : PlanState) (text : Text) (counts : Counts) → ((history : History) → IsHistory history → HoldsOver image history)
    → ((plan : PlanState) (before later : List Event) (number : ℕ) (text : List ℕ) → issued_of image (after image plan before) number ≡ Some text → issued_of image (after image plan (before ++ later)) number ≡ Some text)
    → HasHistory image plan text (Agrees counts) → RecordHolds image plan text counts
record_holds image plan text counts all_hold stay has =
    let history = has.0 in
    let is = has.3 in
    let holds = all_hold history is.follows in
    record {
      history = history;
      of_plan = has.1;
      steps = has.2;
      is = is;
      holds = holds;
      signatures = all_hand image history.plan counts.version history.events (stay history.plan) holds.lasts [] is.entries is.told;
    }
