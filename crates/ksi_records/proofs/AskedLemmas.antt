-- What the entries of a record ask to sign are imprints, of bytes.
use Rattle.std.proofs.Common.{◌≡◌, ℕ, Bool, true, false, cond, List, [], ◌∷◌, ◌++◌, codes, Option, Result, Ok, Err, refl, ap, subst, ◌∙◌}
use Rattle.std.specs.List.{AllByRecursion}
use Rattle.std.specs.Str.{bytes_eq}
use Rattle.ksi_imprint.specs.Reading.{hex_at}
use Rattle.ksi_imprint.specs.declared.fault.HexFault.{HexFault}
use Rattle.ksi_schedule.specs.Pieces.{Text}
use Rattle.ksi_schedule.specs.Plans.{PlanState}
use Rattle.ksi_schedule.specs.Words as schedule
use Rattle.ksi_schedule.specs.Events.{AskForBytes, AskForImprints, AsksForBytes, AsksForImprint}
use Rattle.ksi_schedule.specs.declared.actor.Actor.{Actor}
use Rattle.ksi_schedule.specs.declared.actor.Actor.TheVariants as actors
use Rattle.ksi_schedule.specs.declared.event.Event.{Event}
use Rattle.ksi_schedule.specs.declared.event.Event.TheVariants as events
use Rattle.ksi_schedule.proofs.Digests.{read_bytes, read_imprint}
use Rattle.ksi_records.specs.declared.head.Given.{Given}
use Rattle.ksi_records.specs.declared.head.Given.TheVariants as given
use Rattle.ksi_records.specs.declared.head.Head.{Head}
use Rattle.ksi_records.specs.declared.head.Head.TheVariants as heads
use Rattle.ksi_records.specs.declared.version.Version.{Version}
use Rattle.ksi_records.specs.Entries.{Entry, first_line, restart_of}
use Rattle.ksi_records.specs.Heads.{Read, ◌>>=◌, aggregator_line_at, any_head_at, asked_at, came_in, core_event, core_line_at, given_at, head_at, imprint_at, is_core_word, line_to, message_at, name_at, node_at, number_at, or_hash, place_word, request_at, rest_of, second_at, word_of}
use Rattle.ksi_records.specs.Told.{AreTold, with_head}
use Rattle.ksi_records.specs.Verdicts.{IsEntry}

-- a request is for an imprint, of bytes
abbrev Good : Event → Type 0
Good event = AsksForImprint event × AsksForBytes event

abbrev GoodGiven : Given → Type 0
GoodGiven (given.Line number event) = Good event
GoodGiven (given.Message step place) = Unit {0}

abbrev GoodHead : Head → Type 0
GoodHead (heads.Said it) = GoodGiven it
GoodHead (heads.Unsaid it) = GoodGiven it
GoodHead (heads.Restarted actor) = Unit {0}
GoodHead (heads.Sign step) = Unit {0}

-- ---- what is read

abbrev ok_given : Given → Read Given
ok_given it = Ok it

abbrev ok_head : Head → Read Head
ok_head it = Ok it

same_given : {x y : Given} → ok_given x ≡ ok_given y → x ≡ y
same_given is = cc

same_head : {x y : Head} → ok_head x ≡ ok_head y → x ≡ y
same_head is = cc

bound : {A B : Type 0} (x : Read A) (next : A → Read B) (y : B) → (x >>= next) ≡ Ok y → (a : A) × (x ≡ Ok a) × (next a ≡ Ok y)
bound (Ok a) next y is = (a, refl, is)
bound (Err fault) next y is = absurd cc

-- one of two
picked : {A P : Type 0} (b : Bool) (x y : Read A) (z : A) → cond b x y ≡ Ok z → (x ≡ Ok z → P) → (y ≡ Ok z → P) → P
picked true x y z is one other = one is
picked false x y z is one other = other is

imprint_good : (k number t : ℕ) (word imprint : Text) (name : Option Text) → imprint_at word ≡ Ok imprint → Good (events.Request k t imprint name)
imprint_good k number t word imprint name is = by (hex_at word) refl is
  where
    by : (r : Result Text HexFault) → hex_at word ≡ r → or_hash r ≡ Ok imprint → Good (events.Request k t imprint name)
    by (Ok found) at is =
        let same : found ≡ imprint = cc in
        let read = ap schedule.or_hash at ∙ ap (λ (found : Text). schedule.or_hash (Ok found)) same in
        (read_imprint word imprint read, read_bytes word imprint read)
    by (Err fault) at is = absurd (cc is)

good_or : (b : Bool) (x y : Event) → Good x → Good y → Good (cond b x y)
good_or true x y one other = one
good_or false x y one other = other

good_core : (word : Text) (j t : ℕ) → Good (core_event word j t)
good_core word j t =
    good_or (bytes_eq word (codes "seal")) (events.Seal j t) _ (tt, tt)
    (good_or (bytes_eq word (codes "ballot")) (events.Ballot j t) _ (tt, tt)
    (good_or (bytes_eq word (codes "tell")) (events.Tell j t) _ (tt, tt)
    (good_or (bytes_eq word (codes "respond")) (events.Respond j t) (events.Publish j t) (tt, tt) (tt, tt))))

good_restart : (actor : Actor) → Good (restart_of actor)
good_restart (actors.Core j) = (tt, tt)
good_restart (actors.Aggregator k) = (tt, tt)

module _ (plan : PlanState) (version : Version) where
  good_asked : (k number t : ℕ) (line : Text) (it : Given) → asked_at k number t line ≡ Ok it → GoodGiven it
  good_asked k number t line it is =
      let imprint = bound (imprint_at (word_of line)) _ it is in
      let name = bound (name_at (rest_of line)) _ it imprint.2 in
      subst GoodGiven (same_given name.2) (imprint_good k number t (word_of line) imprint.0 name.0 imprint.1)

  good_request : (k : ℕ) (line : Text) (it : Given) → request_at plan k line ≡ Ok it → GoodGiven it
  good_request k line it is =
      let number = bound (number_at (word_of line)) _ it is in
      let second = bound (second_at plan (word_of (rest_of line))) _ it number.2 in
      good_asked k number.0 second.0 (rest_of (rest_of line)) it second.2

  good_to_aggregator : (k : ℕ) (line : Text) (it : Given) → aggregator_line_at plan k line ≡ Ok it → GoodGiven it
  good_to_aggregator k line it is =
      picked (bytes_eq (word_of line) (codes "request")) _ _ it is (λ request. good_request k (rest_of line) it request)
      (λ other. picked (bytes_eq (word_of line) (codes "close")) _ _ it other
      (λ close. let second = bound (second_at plan (rest_of line)) _ it close in subst GoodGiven (same_given second.2) (tt, tt))
      (λ wrong. absurd (cc wrong)))

  good_to_core : (j : ℕ) (line : Text) (it : Given) → core_line_at plan j line ≡ Ok it → GoodGiven it
  good_to_core j line it is =
      picked (is_core_word (word_of line)) _ _ it is
      (λ word. let second = bound (second_at plan (rest_of line)) _ it word in subst GoodGiven (same_given second.2) (good_core (word_of line) j second.0))
      (λ wrong. absurd (cc wrong))

  good_line : (actor : Actor) (line : Text) (it : Given) → line_to plan actor line ≡ Ok it → GoodGiven it
  good_line (actors.Core j) line it is = good_to_core j line it is
  good_line (actors.Aggregator k) line it is = good_to_aggregator k line it is

  good_message : (line : Text) (it : Given) → message_at version line ≡ Ok it → GoodGiven it
  good_message line it is =
      let step = bound (number_at (word_of line)) _ it is in
      let place = bound (number_at (place_word version (rest_of line))) _ it step.2 in
      subst GoodGiven (same_given place.2) tt

  good_given : (line : Text) (it : Given) → given_at plan version line ≡ Ok it → GoodGiven it
  good_given line it is =
      picked (bytes_eq (word_of line) (codes "deliver")) _ _ it is (λ message. good_message (rest_of line) it message)
      (λ other. let node = bound (node_at plan (word_of line)) _ it other in good_line node.0 (rest_of line) it node.2)

  good_any : (line : Text) (head : Head) → any_head_at plan version line ≡ Ok head → GoodHead head
  good_any line head is =
      picked (bytes_eq (word_of line) (codes "unsaid")) _ _ head is
      (λ unsaid. let it = bound (given_at plan version (rest_of line)) _ head unsaid in subst GoodHead (same_head it.2) (good_given (rest_of line) it.0 it.1))
      (λ other. picked (bytes_eq (word_of line) (codes "restart")) _ _ head other
      (λ restart. let node = bound (node_at plan (rest_of line)) _ head restart in subst GoodHead (same_head node.2) tt)
      (λ other. picked (bytes_eq (word_of line) (codes "sign")) _ _ head other
      (λ sign. let step = bound (number_at (rest_of line)) _ head sign in subst GoodHead (same_head step.2) tt)
      (λ said. let it = bound (given_at plan version line) _ head said in subst GoodHead (same_head it.2) (good_given line it.0 it.1))))

  good_head : (line : Text) (head : Head) → head_at plan version line ≡ Ok head → GoodHead head
  unfolding head_at
  good_head line head is =
      let any = bound (any_head_at plan version line) _ head is in
      picked (bytes_eq (first_line version any.0 (came_in version line)) line) _ _ head any.2
      (λ same. subst GoodHead (same_head same) (good_any line any.0 any.1))
      (λ wrong. absurd (cc wrong))

-- ---- the events of entries

goes_on : (es : List Event) (event : Event) → AllByRecursion Good es → Good event → AllByRecursion Good (es ++ event ∷ [])
goes_on [] event are is = (is, tt)
goes_on (e ∷ es) event are is = (are.0, goes_on es event are.1 is)

module _ (image : List ℕ → List ℕ) (plan : PlanState) (version : Version) where
  head_goes_on : (es : List Event) (head : Head) → AllByRecursion Good es → GoodHead head → AllByRecursion Good (with_head image plan es head)
  head_goes_on es (heads.Said (given.Line number event)) are is = goes_on es event are is
  head_goes_on es (heads.Said (given.Message step place)) are is = goes_on es _ are (tt, tt)
  head_goes_on es (heads.Unsaid (given.Line number event)) are is = goes_on es event are is
  head_goes_on es (heads.Unsaid (given.Message step place)) are is = goes_on es _ are (tt, tt)
  head_goes_on es (heads.Restarted actor) are is = goes_on es (restart_of actor) are (good_restart actor)
  head_goes_on es (heads.Sign step) are is = are

  all_good : (es all : List Event) (entries : List Entry) → AllByRecursion (IsEntry plan version) entries → AreTold image plan version es entries all → AllByRecursion Good es → AllByRecursion Good all
  all_good es all [] are told good = subst (λ (es : List Event). AllByRecursion Good es) told good
  all_good es all (entry ∷ entries) are told good =
      all_good (with_head image plan es entry.head) all entries are.1 told.1
      (head_goes_on es entry.head good (good_head plan version (first_line version entry.head entry.came) entry.head are.0.taken))

  apart : (es : List Event) → AllByRecursion Good es → AskForImprints es × AskForBytes es
  apart [] are = (tt, tt)
  apart (e ∷ es) are = let rest = apart es are.1 in ((are.0.0, rest.0), (are.0.1, rest.1))

  -- all events of a record are of requests for imprints of bytes
  pub entries_ask : (entries : List Entry) (all : List Event) → AllByRecursion (IsEntry plan version) entries → AreTold image plan version [] entries all → AskForImprints all × AskForBytes all
  entries_ask entries all are told = apart all (all_good [] all entries are told tt)
