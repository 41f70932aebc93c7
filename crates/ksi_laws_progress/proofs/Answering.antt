-- A core that holds its own candidate answers, and the signatures of its aggregators' requests are issued.
use Rattle.std.proofs.Common.{◌≡◌, ◌≢◌, ℕ, zero, suc, ◌+◌, ◌<◌, ◌≤◌, Bool, true, false, not, ◌&&◌, ◌||◌, cond, List, [], ◌∷◌, ◌++◌, length, map, refl, sym, ap, subst, ◌∙◌, length-append, arith, Option, Some, None}
use Rattle.std.specs.Prelude.{slice_get, option_map, slice_index_or, unwrap_or}
use Rattle.std.specs.Str.{bytes_eq}
use Rattle.std.specs.List.{list_any}
use Rattle.std.proofs.lemmas.Bool.{cond-true, eqb-true}
use Rattle.std.proofs.lemmas.Option.{slice_get-map, unwrap_or-slice_get, get_or_from_slice_get}
use Rattle.std.proofs.lemmas.Slice.Eq.{bytes_eq-Decides}
use Rattle.ksi_imprint.specs.Imprints.{zero_imprint}
use Rattle.ksi_aggtree.specs.declared.item.Item.{Item}
use Rattle.ksi_aggtree.specs.declared.entries.Entry.{Entry}
use Rattle.ksi_aggtree.specs.declared.entries.Origin.{Origin}
use Rattle.ksi_aggtree.specs.declared.entries.Origin.TheVariants as origins
use Rattle.ksi_aggtree.specs.Entries.{items_of, candidate_of, has_from, is_from}
use Rattle.ksi_signature.specs.declared.above.Above.{Above}
use Rattle.ksi_signature.specs.declared.answer.Answer.TheVariants as answers
use Rattle.ksi_calendar.specs.Covered.{first_missing, covered_seconds}
use Rattle.ksi_corenode.specs.declared.step.Send.TheVariants as core_sends
use Rattle.ksi_corenode.specs.Turns.{still}
use Rattle.ksi_corenode.specs.Rows.{respond_row, respond_where, is_mine, responded, above_item}
use Rattle.ksi_corenode.specs.Rows as core_rows
use Rattle.ksi_aggregator.specs.declared.step.Send.TheVariants as round_sends
use Rattle.ksi_aggregator.specs.Responses.{below, responses}
use Rattle.ksi_aggregator.specs.Responses as round_rows
use Rattle.ksi_aggregator.specs.Issuing.{issued_text}
use Rattle.ksi_aggregator.specs.Rows.{RoundState, round_response, response_where, answered_now}
use Rattle.ksi_schedule.specs.declared.actor.Actor.{Actor}
use Rattle.ksi_schedule.specs.declared.actor.Actor.TheVariants as actors
use Rattle.ksi_schedule.specs.declared.parent.Parent.{Parent}
use Rattle.ksi_schedule.specs.declared.event.Event.TheVariants as events
use Rattle.ksi_schedule.specs.Plans.{PlanState, IsPlan, IsParent, parent_of, no_parent}
use Rattle.ksi_world.specs.declared.outcome.Asked.{Asked}
use Rattle.ksi_world.specs.declared.message.Content.TheVariants as contents
use Rattle.ksi_world.specs.declared.message.Message.{Message}
use Rattle.ksi_world.specs.Histories.{WorldState, held_in, message_of, core_message, round_message, at_core, at_round, delivered, happens, run}
use Rattle.ksi_world.specs.Records.{is_request, placed_from, issued_where, issued_for, issued_of}
use Rattle.ksi_laws_progress.specs.Issuing.{has_request, HasItemOf, CoreHasItemOf, IsJoinedAbove}
use Rattle.ksi_laws_progress.proofs.Lists.{get_behind}
use Rattle.ksi_laws_progress.proofs.Worlds.{put_mine, put_other}

-- A RESPONSE AMONG OTHERS

is_aggregator : (k : ℕ) (o : Origin) → is_from k o ≡ true → o ≡ origins.Aggregator k
is_aggregator k (origins.Request number) is = absurd (cc is)
is_aggregator k (origins.Aggregator from) is = ap origins.Aggregator (eqb-true from k is)

behind : {A : Type 0} (xs ys : List A) (i : ℕ) (y : A) → slice_get ys i ≡ Some y → (n : ℕ) × (slice_get (xs ++ ys) n ≡ Some y)
behind xs ys i y at = (length xs + i, get_behind xs ys (length xs) i refl ∙ at)

core_response : (above : ℕ → Above) (k c : ℕ) (entries : List Entry) → has_from k entries ≡ true →
    (x : Above) × ((n : ℕ) × (slice_get (core_rows.responses_from above c entries) n ≡ Some (core_sends.Response k x)))
core_response above k c [] there = absurd (cc there)
core_response above k c (entry ∷ entries) there = by (is_from k entry.origin) refl there (core_response above k (suc c) entries)
  where
    Found : Type 0
    Found = (x : Above) × ((n : ℕ) × (slice_get (core_rows.response_to entry.origin (above c) ++ core_rows.responses_from above (suc c) entries) n ≡ Some (core_sends.Response k x)))

    by : (b : Bool) → is_from k entry.origin ≡ b → (b || has_from k entries) ≡ true →
        (has_from k entries ≡ true → (x : Above) × ((n : ℕ) × (slice_get (core_rows.responses_from above (suc c) entries) n ≡ Some (core_sends.Response k x)))) → Found
    by true is so rest = (above c, (0, ap (λ o. slice_get (core_rows.response_to o (above c) ++ core_rows.responses_from above (suc c) entries) 0) (is_aggregator k entry.origin is)))
    by false is so rest = let r = rest so in (r.0, behind (core_rows.response_to entry.origin (above c)) (core_rows.responses_from above (suc c) entries) r.1.0 _ r.1.1)

module _ (image : List ℕ → List ℕ) where
  round_response_at : (above : Above) (items : List Item) (k c : ℕ) (entries : List Entry) → has_from k entries ≡ true →
      (x : Above) × ((n : ℕ) × (slice_get (round_rows.responses_from image c above items entries) n ≡ Some (round_sends.Response k x)))
  round_response_at above items k c [] there = absurd (cc there)
  round_response_at above items k c (entry ∷ entries) there = by (is_from k entry.origin) refl there (round_response_at above items k (suc c) entries)
    where
      one : Above
      one = below image above items c

      Found : Type 0
      Found = (x : Above) × ((n : ℕ) × (slice_get (round_rows.told_to entry.origin (below image above items c) ++ round_rows.responses_from image (suc c) above items entries) n ≡ Some (round_sends.Response k x)))

      by : (b : Bool) → is_from k entry.origin ≡ b → (b || has_from k entries) ≡ true →
          (has_from k entries ≡ true → (x : Above) × ((n : ℕ) × (slice_get (round_rows.responses_from image (suc c) above items entries) n ≡ Some (round_sends.Response k x)))) → Found
      by true is so rest = (below image above items c, (0, ap (λ o. slice_get (round_rows.told_to o (below image above items c) ++ round_rows.responses_from image (suc c) above items entries) 0) (is_aggregator k entry.origin is)))
      by false is so rest = let r = rest so in (r.0, behind (round_rows.told_to entry.origin (below image above items c)) (round_rows.responses_from image (suc c) above items entries) r.1.0 _ r.1.1)

-- it is sent
sent_at : {A : Type 0} (f : A → Message) (w : List Message) (xs : List A) (n : ℕ) (x : A) → slice_get xs n ≡ Some x → (m : ℕ) × (slice_get (w ++ map f xs) m ≡ Some (f x))
sent_at f w xs n x at = behind w (map f xs) n (f x) (slice_get-map f xs n ∙ ap (option_map f) at)

-- a parent that is an aggregator has a smaller number
pub parent_less : (plan : PlanState) → IsPlan plan → (k p : ℕ) → parent_of plan k ≡ actors.Aggregator p → p < k
parent_less plan is k p same = by (slice_get plan.parents k) refl
  where
    smaller : (actor : Actor) → IsParent plan.cores k actor → actor ≡ actors.Aggregator p → p < k
    smaller (actors.Core i) may at = absurd (cc at)
    smaller (actors.Aggregator i) may at = omega (arith, may, aggregator_is i at)
      where
        number_of : Actor → ℕ
        number_of (actors.Core i) = 0
        number_of (actors.Aggregator i) = i

        aggregator_is : (i : ℕ) → actors.Aggregator i ≡ actors.Aggregator p → i ≡ p
        aggregator_is i at = ap number_of at

    by : (o : Option Parent) → slice_get plan.parents k ≡ o → p < k
    by None at = absurd (core_0 (sym (ap (λ (parent : Parent). parent.actor) (get_or_past_is at)) ∙ same))
      where
        get_or_past_is : slice_get plan.parents k ≡ None → slice_index_or plan.parents k no_parent ≡ no_parent
        get_or_past_is at = sym (unwrap_or-slice_get plan.parents k no_parent) ∙ ap (λ o. unwrap_or o no_parent) at

        core_0 : actors.Core 0 ≡ actors.Aggregator p → ⊥
        core_0 at = cc at
    by (Some parent) at = smaller parent.actor (is.parents k parent at) (ap (λ (parent : Parent). parent.actor) (sym (get_or_from_slice_get plan.parents k parent no_parent at)) ∙ same)

some_there : {A : Type 0} (p : A → Bool) (xs : List A) → list_any p xs ≡ true → 0 < length xs
some_there p [] there = absurd (cc there)
some_there p (x ∷ xs) there = omega arith

module _ (image : List ℕ → List ℕ) (plan : PlanState) (is : IsPlan plan) (t : ℕ) where
  -- A ROUND TAKES ITS RESPONSE
  response_is : (above : Above) (r : RoundState) (entries : List Entry) → r.closed ≡ Some entries → r.answered ≡ None → 0 < length entries → round_response image above r ≡ answered_now image above entries r
  unfolding round_response
  response_is above r entries closed unanswered there =
      ap (λ c. response_where image above c r.answered r) closed ∙ ap (λ a. response_where image above (Some entries) a r) unanswered ∙ by entries there
    where
      by : (entries : List Entry) → 0 < length entries → response_where image above (Some entries) None r ≡ answered_now image above entries r
      by [] none = absurd (omega arith)
      by (entry ∷ entries) some = refl

  -- a Response to the aggregator is on the wire
  record IsSentTo (k : ℕ) (w : WorldState) : Type 0 where
    sender : Actor
    above : Above
    number : ℕ
    at : slice_get w.wire number ≡ Some (message_of sender (actors.Aggregator k) t (contents.Response above))

  taken_is : (w : WorldState) (sender : Actor) (k : ℕ) (above : Above) →
      delivered image plan w (Some (message_of sender (actors.Aggregator k) t (contents.Response above))) ≡ at_round plan w k t (round_response image above (w.rounds k t))
  taken_is w (actors.Core from) k above = refl
  taken_is w (actors.Aggregator from) k above = refl

  deliver_is : (w : WorldState) (k : ℕ) (to : IsSentTo k w) (entries : List Entry) → (w.rounds k t).closed ≡ Some entries → (w.rounds k t).answered ≡ None → 0 < length entries →
      happens image plan w (events.Deliver to.number) ≡ at_round plan w k t (answered_now image to.above entries (w.rounds k t))
  unfolding happens
  deliver_is w k to entries closed unanswered there =
      ap (delivered image plan w) to.at ∙ taken_is w to.sender k to.above ∙ ap (at_round plan w k t) (response_is to.above (w.rounds k t) entries closed unanswered there)

  -- DOWN FROM THE CORE
  module _ (w : WorldState) (j : ℕ) (entries : List Entry) (sealed : (w.seconds j t).sealed ≡ Some entries) (held : held_in w j t ≡ Some (candidate_of image entries))
      (real : candidate_of image entries ≢ zero_imprint) (covered : first_missing (held_in w j) plan.start t ≡ None) where
    abbrev pub w0 : WorldState
    w0 = (happens image plan w (events.Respond j t)).world

    abbrev root : List ℕ
    root = candidate_of image entries

    mine : is_mine image entries root ≡ true
    mine = both (bytes_eq root root) (bytes_eq root zero_imprint) ((bytes_eq-Decides root root).1 refl) other
      where
        both : (a b : Bool) → a ≡ true → b ≡ false → (a && not b) ≡ true
        both true false is none = refl
        both true true is none = absurd (cc none)
        both false b is none = absurd (cc is)

        other : bytes_eq root zero_imprint ≡ false
        other = by (bytes_eq root zero_imprint) refl
          where
            by : (b : Bool) → bytes_eq root zero_imprint ≡ b → b ≡ false
            by true same = absurd (real ((bytes_eq-Decides root zero_imprint).0 same))
            by false same = refl

    turn_is : respond_row image (held_in w j) plan.start t (w.seconds j t) ≡ responded image (held_in w j) plan.start t entries root (w.seconds j t)
    unfolding respond_row
    turn_is =
        let s = w.seconds j t in
        ap (λ o. respond_where image (held_in w j) plan.start t o (first_missing (held_in w j) plan.start t) (held_in w j t) s) sealed
        ∙ ap (λ o. respond_where image (held_in w j) plan.start t (Some entries) o (held_in w j t) s) covered
        ∙ ap (λ o. respond_where image (held_in w j) plan.start t (Some entries) None o s) held
        ∙ cond-true (is_mine image entries root) (responded image (held_in w j) plan.start t entries root s) (still s answers.NotMine) mine

    w0_is : happens image plan w (events.Respond j t) ≡ at_core w j t (responded image (held_in w j) plan.start t entries root (w.seconds j t))
    unfolding happens
    w0_is = ap (at_core w j t) turn_is

    -- the Response is on its way, and the rounds from this one on are as they were
    record IsReached (k : ℕ) (w' : WorldState) : Type 0 where
      to : IsSentTo k w'
      rounds : (u : ℕ) → k ≤ u → w'.rounds u t ≡ w.rounds u t
      requests : w'.requests ≡ w.requests

    first_reached : (k : ℕ) → has_from k entries ≡ true → IsReached k w0
    first_reached k there =
        let r = core_response (above_item image (covered_seconds (held_in w j) plan.start t) t root (items_of entries)) k 0 entries there in
        let sent = sent_at (core_message j t) w.wire (core_rows.responses_from (above_item image (covered_seconds (held_in w j) plan.start t) t root (items_of entries)) 0 entries) r.1.0 (core_sends.Response k r.0) r.1.1 in
        let h = ap (λ h. h.world) w0_is in
        record {
          to = record { sender = actors.Core j; above = r.0; number = sent.0; at = ap (λ (w : WorldState). slice_get w.wire sent.0) h ∙ sent.1 };
          rounds = λ u le. ap (λ (w : WorldState). w.rounds u t) h;
          requests = ap (λ (w : WorldState). w.requests) h;
        }

    run_one : (ns : List ℕ) (w : WorldState) (n : ℕ) → run image plan w (map events.Deliver (ns ++ n ∷ [])) ≡ (happens image plan (run image plan w (map events.Deliver ns)) (events.Deliver n)).world
    run_one [] w n = refl
    run_one (m ∷ ns) w n = run_one ns (happens image plan w (events.Deliver m)).world n

    abbrev Down : (n k : ℕ) → Type 0
    Down n k = (ns : List ℕ) × (length ns ≤ n) × IsReached k (run image plan w0 (map events.Deliver ns))

    found_in : (k : ℕ) (above : Above) (entries : List Entry) → has_from k entries ≡ true → (x : Above) × ((n : ℕ) × (slice_get (responses image above entries) n ≡ Some (round_sends.Response k x)))
    unfolding responses
    found_in k above entries there = round_response_at image above (items_of entries) k 0 entries there

    one_down : (n k p : ℕ) → p < k → HasItemOf k (w.rounds p t) → Down n p → Down (suc n) k
    one_down n k p less has above =
        let ns = above.0 in
        let w1 = run image plan w0 (map events.Deliver ns) in
        let r = above.2 in
        let to = r.to in
        let same = r.rounds p (omega arith) in
        let step = deliver_is w1 p to has.entries (ap (λ (r : RoundState). r.closed) same ∙ has.closed) (ap (λ (r : RoundState). r.answered) same ∙ has.unanswered) (some_there _ has.entries has.there) in
        let turn = answered_now image to.above has.entries (w1.rounds p t) in
        let w2 = (at_round plan w1 p t turn).world in
        let is_w2 = run_one ns w0 to.number ∙ ap (λ h. h.world) step in
        let found = found_in k to.above has.entries has.there in
        let sent = sent_at (round_message plan p t) w1.wire turn.sends found.1.0 (round_sends.Response k found.0) found.1.1 in (
          ns ++ to.number ∷ [],
          omega (arith, length-append ns (to.number ∷ []), above.1),
          record {
            to = record { sender = actors.Aggregator p; above = found.0; number = sent.0; at = ap (λ (w : WorldState). slice_get w.wire sent.0) is_w2 ∙ sent.1 };
            rounds = λ u le. ap (λ (w : WorldState). w.rounds u t) is_w2 ∙ put_other w1.rounds p t turn.after u t (λ same. omega arith) ∙ r.rounds u (omega arith);
            requests = ap (λ (w : WorldState). w.requests) is_w2 ∙ r.requests;
          },
        )

    core_down : (n k i : ℕ) → i ≡ j → CoreHasItemOf k (w.seconds i t) → Down n k
    core_down n k i same has =
        let at : Some has.entries ≡ Some entries = sym has.sealed ∙ subst (λ i. (w.seconds i t).sealed ≡ Some entries) (sym same) sealed in
        let there : has_from k entries ≡ true = subst (λ o. has_from k (unwrap_or o []) ≡ true) at has.there in
        ([], omega arith, first_reached k there)

    down : (n k : ℕ) (parent : Actor) → parent_of plan k ≡ parent → IsJoinedAbove plan w j t n k parent → Down n k
    down n k (actors.Core i) at joined = core_down n k j refl joined.1
    down zero k (actors.Aggregator p) at joined = absurd joined
    down (suc n) k (actors.Aggregator p) at joined = one_down n k p (parent_less plan is k p at) joined.0 (down n p (parent_of plan p) refl joined.1)

    -- THE SIGNATURE
    placed : (number c : ℕ) (entries : List Entry) → has_request number entries ≡ true → (x : ℕ × Item) × (placed_from number c entries ≡ Some x)
    placed number c [] there = absurd (cc there)
    placed number c (entry ∷ entries) there = by (is_request number entry.origin) there (placed number (suc c) entries)
      where
        by : (b : Bool) → (b || has_request number entries) ≡ true → (has_request number entries ≡ true → (x : ℕ × Item) × (placed_from number (suc c) entries ≡ Some x)) →
            (x : ℕ × Item) × (cond b (Some (c, entry.item)) (placed_from number (suc c) entries) ≡ Some x)
        by true so rest = ((c, entry.item), refl)
        by false so rest = rest so

    pub record StandsIn (number : ℕ) (asked : Asked) : Type 0 where
      pub accepted : slice_get w.requests number ≡ Some asked
      pub second : asked.second ≡ t
      pub items : List Entry
      pub closed : (w.rounds asked.aggregator t).closed ≡ Some items
      pub unanswered : (w.rounds asked.aggregator t).answered ≡ None
      pub there : has_request number items ≡ true

    abbrev Issues : (n number : ℕ) → Type 0
    Issues n number = (ns : List ℕ) × (length ns ≤ suc n) × ((text : List ℕ) × (issued_of image (run image plan w0 (map events.Deliver ns)) number ≡ Some text))

    pub issues : (n number : ℕ) (asked : Asked) → StandsIn number asked → IsJoinedAbove plan w j t n asked.aggregator (parent_of plan asked.aggregator) → Issues n number
    unfolding issued_of
    issues n number asked stands joined =
        let k = asked.aggregator in
        let d = down n k (parent_of plan k) refl joined in
        let ns = d.0 in
        let w1 = run image plan w0 (map events.Deliver ns) in
        let r = d.2 in
        let same = r.rounds k (omega arith) in
        let closed1 : (w1.rounds k t).closed ≡ Some stands.items = ap (λ (r : RoundState). r.closed) same ∙ stands.closed in
        let step = deliver_is w1 k r.to stands.items closed1 (ap (λ (r : RoundState). r.answered) same ∙ stands.unanswered) (some_there _ stands.items stands.there) in
        let turn = answered_now image r.to.above stands.items (w1.rounds k t) in
        let w2 = (at_round plan w1 k t turn).world in
        let is_w2 = run_one ns w0 r.to.number ∙ ap (λ h. h.world) step in
        let place = placed number 0 stands.items stands.there in
        let round : w2.rounds k t ≡ turn.after = put_mine w1.rounds k t turn.after in
        let text = issued_text image t stands.items place.0.0 place.0.1 r.to.above in (
          ns ++ r.to.number ∷ [],
          omega (arith, length-append ns (r.to.number ∷ []), d.1),
          (
            text,
            ap (λ w. issued_of image w number) is_w2
                ∙ ap (issued_for image w2 number) (ap (λ requests. slice_get requests number) r.requests ∙ stands.accepted)
                ∙ ap (λ t. issued_where image t number (w2.rounds k t).closed (w2.rounds k t).answered) stands.second
                ∙ ap (λ (r : RoundState). issued_where image t number r.closed r.answered) round
                ∙ ap (λ c. issued_where image t number c (Some r.to.above)) closed1
                ∙ ap (option_map (λ (placed : ℕ × Item). issued_text image t stands.items placed.0 placed.1 r.to.above)) place.1,
          ),
        )
