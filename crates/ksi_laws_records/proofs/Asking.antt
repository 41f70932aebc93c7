-- What the logs of nodes ask to sign are imprints, of bytes.
use Rattle.std.proofs.Common.{◌≡◌, ℕ, ◌<◌, Bool, true, false, cond, List, [], ◌∷◌, codes, Option, Some, None, Result, Ok, Err, refl, sym, ap, subst, ◌∙◌}
use Rattle.std.specs.Prelude.{All}
use Rattle.std.specs.List.{AllByRecursion}
use Rattle.std.specs.Str.{bytes_eq}
use Rattle.ksi_imprint.specs.Imprints.{IsImprint}
use Rattle.ksi_imprint.specs.Reading.{hex_at}
use Rattle.ksi_imprint.specs.declared.fault.HexFault.{HexFault}
use Rattle.ksi_aggregator.specs.declared.event.RoundEvent.TheVariants as round_events
use Rattle.ksi_corenode.specs.declared.event.CoreEvent.{CoreEvent}
use Rattle.ksi_schedule.specs.Pieces.{Text, words}
use Rattle.ksi_schedule.specs.Plans.{PlanState}
use Rattle.ksi_schedule.specs.Printed.{actor_word}
use Rattle.ksi_schedule.specs.Words as schedule
use Rattle.ksi_schedule.specs.declared.actor.Actor.{Actor}
use Rattle.ksi_schedule.specs.declared.actor.Actor.TheVariants as actors
use Rattle.ksi_schedule.proofs.Digests.{read_bytes, read_imprint}
use Rattle.ksi_wire.specs.declared.fault.WireFault.{WireFault}
use Rattle.ksi_wire.specs.declared.event.AggregatorLine.{AggregatorLine}
use Rattle.ksi_wire.specs.declared.event.AggregatorLine.TheVariants as lines
use Rattle.ksi_wire.specs.RoundLines.{asked_words, short}
use Rattle.ksi_wire.specs.Asked.{Got, ◌>>=◌, core_event_of, if_spelled, imprint_in, item_in, lower_in, name_in, number_in, or_hash, second_in, short_in, word_in}
use Rattle.ksi_wire.specs.AskedAbove.{above_said}
use Rattle.ksi_wire.specs.AskedRounds.{aggregator_line_of, asked_in, or_fault}
use Rattle.ksi_records.specs.Heads.{Read}
use Rattle.ksi_records.specs.Logs.{Deed, Said}
use Rattle.ksi_records.specs.declared.node.head.Given.{Given}
use Rattle.ksi_records.specs.declared.node.head.Given.TheVariants as given
use Rattle.ksi_records.specs.declared.node.head.Head.{Head}
use Rattle.ksi_records.specs.declared.node.head.Head.TheVariants as heads
use Rattle.ksi_records.specs.Node.Entries.{Entry}
use Rattle.ksi_records.specs.Node.Heads.{any_head_at, as_said, as_unsaid, behind, given_at, head_at, line_behind, line_to, rest_behind, step_at, to_aggregator, to_core}
use Rattle.ksi_records.specs.Node.Runs.{AreWritten, IsWritten, deed_with, start_of}
use Rattle.ksi_records.specs.Node.Verdicts.{IsEntry}
use Rattle.ksi_laws_records.specs.Logged.{DeedRequestsImprint, RequestsImprint}

abbrev AsksInLine : AggregatorLine → Type 0
AsksInLine (lines.Event event) = RequestsImprint event
AsksInLine (lines.Sign number) = Unit {0}

abbrev AsksIfGiven : Given → Type 0
AsksIfGiven (given.ToCore j event) = Unit {0}
AsksIfGiven (given.ToAggregator k event) = RequestsImprint event

abbrev AsksInHead : Head → Type 0
AsksInHead (heads.Said it) = AsksIfGiven it
AsksInHead (heads.Unsaid it) = AsksIfGiven it
AsksInHead heads.Restarted = Unit {0}

-- ---- results

abbrev fine : {A : Type 0} → A → Result A WireFault
fine x = Ok x

same_fine : {A : Type 0} (x y : A) → fine x ≡ fine y → x ≡ y
same_fine x y is = cc

-- what was read and the words left
abbrev was_read : {A : Type 0} → A → List Text → Got A
was_read x more = Ok (x, more)

left_same : {A : Type 0} (x y : A) (more rest : List Text) → was_read x more ≡ was_read y rest → x ≡ y
left_same {A = A} x y more rest is = ap (λ (p : A × List Text). p.0) (same_fine {A = A × List Text} (x, more) (y, rest) is)

bound : {A B : Type 0} (x : Got A) (next : A → List Text → Got B) (y : B × List Text) → (x >>= next) ≡ Ok y → (a : A) × (rest : List Text) × (x ≡ Ok (a, rest)) × (next a rest ≡ Ok y)
bound (Ok x) next y is = (x.0, x.1, refl, is)
bound (Err fault) next y is = absurd cc

-- one of two
picked : {A P : Type 0} (b : Bool) (x y : Result A WireFault) (z : A) → cond b x y ≡ Ok z → (x ≡ Ok z → P) → (y ≡ Ok z → P) → P
picked true x y z is one other = one is
picked false x y z is one other = other is

-- ---- a line to an aggregator

imprint_good : (ws rest : List Text) (imprint : List ℕ) → imprint_in ws ≡ Ok (imprint, rest) → IsImprint imprint × All (λ b. b < 256) imprint
imprint_good ws rest imprint is =
    let word = bound (word_in ws) (λ word more. or_hash (hex_at word) more) (imprint, rest) is in
    by word.0 word.1 (hex_at word.0) refl word.3
  where
    by : (word : Text) (more : List Text) (r : Result Text HexFault) → hex_at word ≡ r → or_hash r more ≡ Ok (imprint, rest) → IsImprint imprint × All (λ b. b < 256) imprint
    by word more (Ok found) at is =
        let same : found ≡ imprint = left_same found imprint more rest is in
        let read = ap schedule.or_hash at ∙ ap (λ (found : Text). schedule.or_hash (Ok found)) same in
        (read_imprint word imprint read, read_bytes word imprint read)
    by word more (Err fault) at is = absurd (cc is)

module _ (plan : PlanState) where
  event_good : (me : ℕ) (kind : Text) (ws rest : List Text) (asked : AggregatorLine) → (short_in plan me kind ws >>= λ event rest. Ok (lines.Event (short event), rest)) ≡ Ok (asked, rest) → AsksInLine asked
  event_good me kind ws rest asked is =
      let found = bound (short_in plan me kind ws) (λ event rest. Ok (lines.Event (short event), rest)) (asked, rest) is in
      subst AsksInLine (left_same (lines.Event (short found.0)) asked found.1 rest found.3)
      (picked (bytes_eq kind (codes "request")) _ _ (found.0, found.1) found.2
      (λ request.
      let number = bound (number_in ws) _ (found.0, found.1) request in
      let second = bound (second_in plan number.1) _ (found.0, found.1) number.3 in
      let imprint = bound (imprint_in second.1) _ (found.0, found.1) second.3 in
      let name = bound (name_in imprint.1) _ (found.0, found.1) imprint.3 in
      subst (λ event. RequestsImprint (short event)) (left_same _ found.0 name.1 found.1 name.3) (imprint_good second.1 imprint.1 imprint.0 imprint.2))
      (λ other. picked (bytes_eq kind (codes "submission")) _ _ (found.0, found.1) other
      (λ submission.
      let from = bound (lower_in plan (actors.Aggregator me) ws) _ (found.0, found.1) submission in
      let second = bound (second_in plan from.1) _ (found.0, found.1) from.3 in
      let item = bound (item_in plan from.0 second.1) _ (found.0, found.1) second.3 in
      subst (λ event. RequestsImprint (short event)) (left_same _ found.0 item.1 found.1 item.3) tt)
      (λ other. picked (bytes_eq kind (codes "close")) _ _ (found.0, found.1) other
      (λ close.
      let second = bound (second_in plan ws) _ (found.0, found.1) close in
      subst (λ event. RequestsImprint (short event)) (left_same _ found.0 second.1 found.1 second.3) tt)
      (λ wrong. absurd (cc wrong)))))

  asked_good : (me : ℕ) (ws rest : List Text) (asked : AggregatorLine) → asked_in plan me ws ≡ Ok (asked, rest) → AsksInLine asked
  asked_good me ws rest asked is =
      let kind = bound (word_in ws) _ (asked, rest) is in
      picked (bytes_eq kind.0 (codes "sign")) _ _ (asked, rest) kind.3
      (λ sign.
      let number = bound (number_in kind.1) _ (asked, rest) sign in
      subst AsksInLine (left_same (lines.Sign number.0) asked number.1 rest number.3) tt)
      (λ other. picked (bytes_eq kind.0 (codes "response")) _ _ (asked, rest) other
      (λ response.
      let second = bound (second_in plan kind.1) _ (asked, rest) response in
      let word = bound (word_in second.1) _ (asked, rest) second.3 in
      let above = bound (or_fault (above_said word.0) word.1) _ (asked, rest) word.3 in
      subst AsksInLine (left_same (lines.Event (round_events.Response second.0 above.0)) asked above.1 rest above.3) tt)
      (λ event. event_good me kind.0 kind.1 rest asked event))

  line_good : (me : ℕ) (line : Text) (asked : AggregatorLine) → aggregator_line_of plan me line ≡ Ok asked → AsksInLine asked
  unfolding aggregator_line_of
  line_good me line asked is = by (asked_in plan me (words line)) refl is
    where
      by : (r : Got AggregatorLine) → asked_in plan me (words line) ≡ r → if_spelled asked_words line r ≡ Ok asked → AsksInLine asked
      by (Ok x) at spelled = picked (bytes_eq _ line) _ _ asked spelled
          (λ same. subst AsksInLine (same_fine x.0 asked same) (asked_good me (words line) x.1 x.0 at))
          (λ wrong. absurd (cc wrong))
      by (Err fault) at spelled = absurd (cc spelled)

  -- ---- the first line of an entry

  to_core_good : (j : ℕ) (r : Read CoreEvent) (it : Given) → to_core j r ≡ Ok it → AsksIfGiven it
  to_core_good j (Ok event) it is = subst AsksIfGiven (same_fine (given.ToCore j event) it is) tt
  to_core_good j (Err fault) it is = absurd (cc is)

  to_aggregator_good : (k : ℕ) (line : Text) (r : Read AggregatorLine) (it : Given) → aggregator_line_of plan k line ≡ r → to_aggregator k r ≡ Ok it → AsksIfGiven it
  to_aggregator_good k line (Ok (lines.Event event)) it at is = subst AsksIfGiven (same_fine (given.ToAggregator k event) it is) (line_good k line (lines.Event event) at)
  to_aggregator_good k line (Ok (lines.Sign number)) it at is = absurd (cc is)
  to_aggregator_good k line (Err fault) it at is = absurd (cc is)

  line_to_good : (me : Actor) (line : Text) (it : Given) → line_to plan me line ≡ Ok it → AsksIfGiven it
  line_to_good (actors.Core j) line it is = to_core_good j (core_event_of plan j line) it is
  line_to_good (actors.Aggregator k) line it is = to_aggregator_good k line (aggregator_line_of plan k line) it refl is

  line_behind_good : (me : Actor) (line : Option Text) (it : Given) → line_behind plan me line ≡ Ok it → AsksIfGiven it
  line_behind_good me (Some line) it is = line_to_good me line it is
  line_behind_good me None it is = absurd (cc is)

  rest_behind_good : (me : Actor) (rest : Option Text) (it : Given) → rest_behind plan me rest ≡ Ok it → AsksIfGiven it
  rest_behind_good me (Some rest) it is = line_behind_good me (behind (codes " ") rest) it is
  rest_behind_good me None it is = absurd (cc is)

  said_good : (me : Actor) (line : Text) (r : Read Given) (head : Head) → given_at plan me line ≡ r → as_said r ≡ Ok head → AsksInHead head
  said_good me line (Ok it) head at is = subst AsksInHead (same_fine (heads.Said it) head is) (rest_behind_good me (behind (actor_word me) line) it at)
  said_good me line (Err fault) head at is = absurd (cc is)

  unsaid_good : (me : Actor) (line : Text) (r : Read Given) (head : Head) → given_at plan me line ≡ r → as_unsaid r ≡ Ok head → AsksInHead head
  unsaid_good me line (Ok it) head at is = subst AsksInHead (same_fine (heads.Unsaid it) head is) (rest_behind_good me (behind (actor_word me) line) it at)
  unsaid_good me line (Err fault) head at is = absurd (cc is)

  step_good : (me : Actor) (line : Text) (unsaid : Option Text) (head : Head) → step_at plan me line unsaid ≡ Ok head → AsksInHead head
  step_good me line None head is = said_good me line (given_at plan me line) head refl is
  step_good me line (Some rest) head is = unsaid_good me rest (given_at plan me rest) head refl is

  any_good : (me : Actor) (line : Text) (restart : Option Text) (head : Head) → any_head_at plan me line restart ≡ Ok head → AsksInHead head
  any_good me line None head is = step_good me line (behind (codes "unsaid ") line) head is
  any_good me line (Some word) head is = picked (bytes_eq word (actor_word me)) _ _ head is (λ same. subst AsksInHead (same_fine heads.Restarted head same) tt) (λ wrong. absurd (cc wrong))

  head_good : (me : Actor) (line : Text) (head : Head) → head_at plan me line ≡ Ok head → AsksInHead head
  head_good me line head is = any_good me line (behind (codes "restart ") line) head is

  -- ---- entries

  given_asks : (it : Given) (said : Said) → AsksIfGiven it → DeedRequestsImprint (deed_with it said)
  given_asks (given.ToCore j event) said good = tt
  given_asks (given.ToAggregator k event) said good = good

  start_asks : (me : Actor) → DeedRequestsImprint (start_of me)
  start_asks (actors.Core j) = tt
  start_asks (actors.Aggregator k) = tt

  deed_asks : (me : Actor) (head : Head) (block : Text) (deed : Deed) → IsWritten me head block deed → AsksInHead head → DeedRequestsImprint deed
  deed_asks me (heads.Said it) block deed is good = subst DeedRequestsImprint (sym is.2) (given_asks it is.0 good)
  deed_asks me (heads.Unsaid it) block deed is good = subst DeedRequestsImprint (sym is.1) (given_asks it is.0 good)
  deed_asks me heads.Restarted block deed is good = subst DeedRequestsImprint (sym is) (start_asks me)

  pub log_asks : (me : Actor) (entries : List Entry) (deeds : List Deed) → AllByRecursion (IsEntry plan me) entries → AreWritten me entries deeds → AllByRecursion DeedRequestsImprint deeds
  log_asks me [] [] are written = tt
  log_asks me [] (deed ∷ deeds) are written = absurd written
  log_asks me (entry ∷ entries) [] are written = absurd written
  log_asks me (entry ∷ entries) (deed ∷ deeds) are written =
      (deed_asks me entry.head entry.block deed written.0 (head_good me entry.line entry.head are.0.taken), log_asks me entries deeds are.1 written.1)
