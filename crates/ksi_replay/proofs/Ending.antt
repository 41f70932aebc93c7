-- All deliveries end because no message is left: each takes its message's weight from what is left, and what it sends
-- weighs less.
use Rattle.std.proofs.Common.{◌≡◌, ℕ, zero, suc, ◌+◌, ◌*◌, ◌<◌, ◌≤◌, nat_lt, Bool, true, false, List, [], ◌∷◌, ◌++◌, length, drop, Some, refl, sym, ap, subst, ◌∙◌, arith, slice_get, append_assoc, append-nil, suc-mul, mul-le-mul_right}
use Rattle.std.proofs.lemmas.List.{drop-append-le}
use Rattle.std.proofs.Math.Seq.{drop-append_seam}
use Rattle.ksi_imprint.specs.Imprints.{imprint_of}
use Rattle.ksi_schedule.specs.declared.event.Event.{Event}
use Rattle.ksi_schedule.specs.declared.event.Event.TheVariants as events
use Rattle.ksi_schedule.specs.Plans.{PlanState}
use Rattle.ksi_schedule.specs.Events.{IsEvent, AreEvents}
use Rattle.ksi_world.specs.declared.message.Message.{Message}
use Rattle.ksi_world.specs.Histories.{WorldState, happens, run, after, first_world, world_of}
use Rattle.ksi_replay.specs.declared.manner.Manner.{Manner}
use Rattle.ksi_replay.specs.declared.manner.Manner.TheVariants.{Once, Drawn}
use Rattle.ksi_replay.specs.Making.{Making, happen, messages, draw, when, times, each_message}
use Rattle.ksi_replay.specs.Generate.{header, copies, delivered, delivers, enough, DeliversAll, none_left, one_more}
use Rattle.ksi_replay.proofs.Weights.{led_by, weight, heavy, heavy_both}
use Rattle.ksi_replay.proofs.Leading.{IsThinWorld, Goes, IsThere, led_by_event, led_by_found, led_few, happens_goes, first_thin}
use Rattle.ksi_replay.proofs.Few.{copies_few}
use borrow.Author.Tests.{ltb-true, ltb-false}

-- ---- the world of a making

abbrev pub world : Making → WorldState
world m = world_of imprint_of m.history

pub record IsFine (m : Making) : Type 0 where
  pub plan : m.history.plan ≡ header
  pub thin : IsThinWorld (world m)

run_more : (image : List ℕ → List ℕ) (plan : PlanState) (w : WorldState) (es : List Event) (e : Event) → run image plan w (es ++ e ∷ []) ≡ (happens image plan (run image plan w es) e).world
run_more image plan w [] e = refl
run_more image plan w (x ∷ es) e = run_more image plan (happens image plan w x).world es e

after_more : (image : List ℕ → List ℕ) (plan : PlanState) (es : List Event) (e : Event) → after image plan (es ++ e ∷ []) ≡ (happens image plan (after image plan es) e).world
unfolding after
after_more image plan es e = run_more image plan (first_world plan) es e

-- from one making to the next, and what was sent is not heavier
pub record Sends (most : ℕ) (m next : Making) : Type 0 where
  pub fine : IsFine next
  pub sent : List Message
  pub wire : (world next).wire ≡ (world m).wire ++ sent
  pub light : heavy sent ≤ most

pub happen_sends : (m : Making) (e : Event) → IsThere e → IsFine m → Sends (led_by_event (world m) e) m (happen e m).1
happen_sends m e there fine =
    let here : world (happen e m).1 ≡ (happens imprint_of header (world m) e).world = after_more imprint_of m.history.plan m.history.events e ∙ ap (λ plan. (happens imprint_of plan (world m) e).world) fine.plan in
    let goes : Goes (led_by_event (world m) e) (world m) (happens imprint_of header (world m) e).world = happens_goes imprint_of (world m) e there fine.thin in
    record {
      fine = record { plan = fine.plan; thin = subst (λ w. IsThinWorld w) (sym here) goes.thin };
      sent = goes.sent;
      wire = ap (λ (w : WorldState). w.wire) here ∙ goes.wire;
      light = goes.light;
    }

-- one after the other
both_send : (a b : ℕ) (m next last : Making) → Sends a m next → Sends b next last → Sends (a + b) m last
both_send a b m next last first second = record {
  fine = second.fine;
  sent = first.sent ++ second.sent;
  wire = second.wire ∙ ap (λ wire. wire ++ second.sent) first.wire ∙ append_assoc (world m).wire first.sent second.sent;
  light = omega (arith, heavy_both first.sent second.sent, first.light, second.light);
}

none_sent : (m : Making) → IsFine m → Sends 0 m m
none_sent m fine = record { fine = fine; sent = []; wire = sym (append-nil (world m).wire); light = omega arith }

lighter : (a b : ℕ) (m next : Making) → a ≤ b → Sends a m next → Sends b m next
lighter a b m next le sends = record { fine = sends.fine; sent = sends.sent; wire = sends.wire; light = omega (arith, le, sends.light) }

-- ---- one message

there_yet : (xs ys : List Message) (k : ℕ) (x : Message) → slice_get xs k ≡ Some x → slice_get (xs ++ ys) k ≡ Some x
there_yet [] ys k x at = absurd (cc at)
there_yet (z ∷ xs) ys zero x at = at
there_yet (z ∷ xs) ys (suc k) x at = there_yet xs ys k x at

deliver_sends : (m : Making) (number : ℕ) (x : Message) → slice_get (world m).wire number ≡ Some x → IsFine m → Sends (led_by x.addressee x.content) m (happen (events.Deliver number) m).1
deliver_sends m number x at fine = subst (λ found. Sends (led_by_found found) m (happen (events.Deliver number) m).1) at (happen_sends m (events.Deliver number) tt fine)

times_send : (n : ℕ) (m : Making) (number : ℕ) (x : Message) → slice_get (world m).wire number ≡ Some x → IsFine m → Sends (n * led_by x.addressee x.content) m (times n (happen (events.Deliver number)) m).1
times_send zero m number x at fine = lighter 0 (0 * led_by x.addressee x.content) m m (omega arith) (none_sent m fine)
times_send (suc n) m number x at fine =
    let led = led_by x.addressee x.content in
    let next = (happen (events.Deliver number) m).1 in
    let first : Sends led m next = deliver_sends m number x at fine in
    let there : slice_get (world next).wire number ≡ Some x = subst (λ wire. slice_get wire number ≡ Some x) (sym first.wire) (there_yet (world m).wire first.sent number x at) in
    let last = (times n (happen (events.Deliver number)) next).1 in
    lighter (led + n * led) (suc n * led) m last (omega (arith, suc-mul n led)) (both_send led (n * led) m next last first (times_send n next number x there first.fine))

delivered_sends : (manner : Manner) (m : Making) (number : ℕ) (x : Message) → slice_get (world m).wire number ≡ Some x → IsFine m → Sends (2 * led_by x.addressee x.content) m (delivered manner number m).1
unfolding draw
delivered_sends Once m number x at fine =
    lighter (led_by x.addressee x.content) (2 * led_by x.addressee x.content) m (delivered Once number m).1 (omega arith) (deliver_sends m number x at fine)
delivered_sends Drawn m number x at fine =
    let k = (draw 8 m).0 in
    let next = (draw 8 m).1 in
    let sends : Sends (copies k * led_by x.addressee x.content) next (delivered Drawn number m).1 = times_send (copies k) next number x at (record { plan = fine.plan; thin = fine.thin }) in
    record { fine = sends.fine; sent = sends.sent; wire = sends.wire; light = omega (arith, mul-le-mul_right (led_by x.addressee x.content) (copies_few k), sends.light) }

-- ---- all messages

-- what is left from a number on
abbrev pub left : (first : ℕ) → Making → ℕ
left first m = heavy (drop first (world m).wire)

-- the next message is there, and the others are left
next_left : (xs : List Message) (k : ℕ) → k < length xs → (x : Message) × (slice_get xs k ≡ Some x) × (heavy (drop k xs) ≡ weight x + heavy (drop (suc k) xs))
next_left [] k lt = absurd (omega (arith, lt))
next_left (x ∷ xs) zero lt = (x, refl, refl)
next_left (y ∷ xs) (suc k) lt = next_left xs k (omega (arith, lt))

pub end_left : (xs : List Message) (k : ℕ) → heavy (drop k xs) ≤ 0 → length xs ≤ k
end_left [] k none = omega arith
end_left (x ∷ xs) zero none = absurd (omega (arith, none))
end_left (x ∷ xs) (suc k) none = omega (arith, end_left xs k none)

pub one_left_less : (manner : Manner) (first : ℕ) (m : Making) → first < length (world m).wire → IsFine m → IsFine (delivered manner first m).1 × (left (suc first) (delivered manner first m).1 < left first m)
one_left_less manner first m lt fine =
    let next = next_left (world m).wire first lt in
    let sends : Sends (2 * led_by next.0.addressee next.0.content) m (delivered manner first m).1 = delivered_sends manner m first next.0 next.1 fine in
    let parts : drop (suc first) ((world m).wire ++ sends.sent) ≡ drop (suc first) (world m).wire ++ sends.sent = drop-append-le (suc first) (world m).wire sends.sent lt in
    let same : left (suc first) (delivered manner first m).1 ≡ heavy (drop (suc first) (world m).wire ++ sends.sent) = ap (λ wire. heavy (drop (suc first) wire)) sends.wire ∙ ap heavy parts in
    (sends.fine, omega (arith, same, heavy_both (drop (suc first) (world m).wire) sends.sent, sends.light, next.2))

-- after an event no more is left than it leads to
pub left_after : (led : ℕ) (m next : Making) → Sends led m next → left (length (world m).wire) next ≤ led
left_after led m next sends =
    let new : left (length (world m).wire) next ≡ heavy sends.sent = ap (λ wire. heavy (drop (length (world m).wire) wire)) sends.wire ∙ ap heavy (drop-append_seam (world m).wire sends.sent) in
    omega (arith, new, sends.light)

-- where no more is left than may be looked at, no message is left at the end
none_is_left : (most : ℕ) (manner : Manner) (first : ℕ) (m : Making) → IsFine m → left first m ≤ most → DeliversAll manner first m (each_message most first (delivered manner) m).1
none_is_left zero manner first m fine few = none_left first m (end_left (world m).wire first few)
none_is_left (suc most) manner first m fine few = by (nat_lt first (length (world m).wire)) refl (none_is_left most manner (suc first) (delivered manner first m).1)
  where
    next : Making
    next = (delivered manner first m).1

    by : (b : Bool) → b ≡ nat_lt first (length (world m).wire) → (IsFine next → left (suc first) next ≤ most → DeliversAll manner (suc first) next (each_message most (suc first) (delivered manner) next).1) →
        DeliversAll manner first m (when b (λ m. each_message most (suc first) (delivered manner) (delivered manner first m).1) m).1
    by true is rest =
        let there : first < length (world m).wire = omega (arith, ltb-true first (length (world m).wire) (sym is)) in
        let less = one_left_less manner first m there fine in
        one_more first m (each_message most (suc first) (delivered manner) next).1 there (rest less.0 (omega (arith, less.1, few)))
    by false is rest = none_left first m (omega (arith, ltb-false first (length (world m).wire) (sym is)))

-- ---- every history of this plan

there_of : (e : Event) → IsEvent header e → IsThere e
there_of (events.Request k t imprint name) is = tt
there_of (events.Close k t) is = omega (arith, is.0)
there_of (events.Seal j t) is = tt
there_of (events.Ballot j t) is = tt
there_of (events.Deliver number) is = tt
there_of (events.Tell j t) is = tt
there_of (events.Respond j t) is = tt
there_of (events.Publish j p) is = tt
there_of (events.RestartCore j) is = tt
there_of (events.RestartAggregator k) is = tt

thin_run : (w : WorldState) (es : List Event) → AreEvents header es → IsThinWorld w → IsThinWorld (run imprint_of header w es)
thin_run w [] are thin = thin
thin_run w (e ∷ es) are thin = thin_run (happens imprint_of header w e).world es are.1 (happens_goes imprint_of w e (there_of e are.0) thin).thin

fine_history : (m : Making) → m.history.plan ≡ header → AreEvents header m.history.events → IsFine m
unfolding after
fine_history m plan are = record {
  plan = plan;
  thin = subst (λ plan. IsThinWorld (after imprint_of plan m.history.events)) (sym plan) (thin_run (first_world header) m.history.events are first_thin);
}

pub all_delivered : (m : Making) (e : Event) (manner : Manner) → m.history.plan ≡ header → AreEvents header m.history.events → IsEvent header e →
    DeliversAll manner (messages m).0 (happen e m).1 (delivers enough manner (messages m).0 (happen e m).1).1
unfolding delivers
all_delivered m e manner plan are is =
    let fine : IsFine m = fine_history m plan are in
    let sends : Sends (led_by_event (world m) e) m (happen e m).1 = happen_sends m e (there_of e is) fine in
    none_is_left 549 manner (length (world m).wire) (happen e m).1 sends.fine (omega (arith, left_after (led_by_event (world m) e) m (happen e m).1 sends, led_few (world m) e))
