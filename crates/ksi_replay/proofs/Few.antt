-- No schedule has more than a million events: each second adds at most 3,875.
use Rattle.std.proofs.Common.{ℕ, zero, suc, ◌+◌, ◌*◌, ◌%◌, ◌^◌, ◌<◌, ◌≤◌, ◌==◌, nat_lt, not, Bool, true, false, if◌then◌else◌, [], ◌∷◌, None, length, length-append, arith}
use Rattle.std.proofs.Math.Nat.{mul-suc, mod-lt}
use Rattle.std.specs.Int.{w64, from_be_bytes}
use Rattle.ksi_schedule.specs.declared.event.Event.{Event}
use Rattle.ksi_schedule.specs.declared.event.Event.TheVariants as events
use Rattle.ksi_imprint.specs.Imprints.{imprint_of}
use Rattle.ksi_world.specs.Histories.{world_of}
use Rattle.ksi_replay.specs.declared.manner.Manner.{Manner}
use Rattle.ksi_replay.specs.declared.manner.Manner.TheVariants.{Once, Drawn}
use Rattle.ksi_replay.specs.Stream.{stream}
use Rattle.ksi_replay.specs.Making.{Making, Steps, done, ◌>>=◌, ◌>>◌, draw, digest, happen, messages, holds, when, times, each_message}
use Rattle.ksi_replay.specs.Generate.{copies, delivered, delivers, happen_and_deliver, request, requests, close, closes, seals, first_ballot, core_restarts, core_may_restart, second_ballot, responses, aggregator_restarts, aggregator_may_restart, publishes, may_publish, steps_of, seconds_made, all_seconds, first_making}

-- the steps add at most so many events
record AtMost {A : Type 0} (n : ℕ) (steps : Steps A) : Type 0 where
  each : (m : Making) → length (steps m).1.history.events ≤ length m.history.events + n

-- ---- how steps join

both : {A B : Type 0} {a b : ℕ} {first : Steps A} {next : Steps B} → AtMost a first → AtMost b next → AtMost (a + b) (first >> next)
both {A} {B} {a} {b} {first} {next} p q = record { each = λ m. omega (arith, p.each m, q.each (first m).1) }

found : {A B : Type 0} {a b : ℕ} {first : Steps A} {next : A → Steps B} → AtMost a first → ((x : A) → AtMost b (next x)) → AtMost (a + b) (first >>= next)
found {A} {B} {a} {b} {first} {next} p q = record { each = λ m. omega (arith, p.each m, (q (first m).0).each (first m).1) }

none : {A : Type 0} (found : A) → AtMost 0 (done found)
none found = record { each = λ m. omega arith }

at_when : (b : Bool) {a : ℕ} {steps : Steps (Unit {0})} → AtMost a steps → AtMost a (when b steps)
at_when true p = p
at_when false {a} p = record { each = λ m. omega arith }

at_times : (n a : ℕ) (steps : Steps (Unit {0})) → AtMost a steps → AtMost (a * n) (times n steps)
at_times zero a steps p = record { each = λ m. omega arith }
at_times (suc n) a steps p = record { each = λ m. omega (arith, mul-suc a n, p.each m, (at_times n a steps p).each (steps m).1) }

at_each : (n a first : ℕ) (steps : ℕ → Steps (Unit {0})) → ((k : ℕ) → AtMost a (steps k)) → AtMost (a * n) (each_message n first steps)
at_each zero a first steps p = record { each = λ m. omega arith }
at_each (suc n) a first steps p = record { each = λ m. omega (arith, mul-suc a n, (at_when (nat_lt first (length (world_of imprint_of m.history).wire)) (both (p first) (at_each n a (suc first) steps p))).each m) }

-- ---- single steps

at_happen : (event : Event) → AtMost 1 (happen event)
at_happen event = record { each = λ m. omega (arith, length-append m.history.events (event ∷ [])) }

at_draw : (modulo : ℕ) → AtMost 0 (draw modulo)
unfolding draw
at_draw modulo = record { each = λ m. omega arith }

at_digest : AtMost 0 digest
unfolding digest
at_digest = record { each = λ m. omega arith }

at_messages : AtMost 0 messages
at_messages = record { each = λ m. omega arith }

at_holds : (core second : ℕ) → AtMost 0 (holds core second)
at_holds core second = record { each = λ m. omega arith }

-- ---- deliveries

pub copies_few : (k : ℕ) → copies k ≤ 2
copies_few zero = omega arith
copies_few (suc zero) = omega arith
copies_few (suc (suc k)) = by (suc (suc k) == 0) (suc (suc k) == 1)
  where
    by : (a b : Bool) → (if a then 0 else if b then 2 else 1) ≤ 2
    by true b = omega arith
    by false true = omega arith
    by false false = omega arith

at_delivered : (manner : Manner) (number : ℕ) → AtMost 2 (delivered manner number)
at_delivered Once number = record { each = λ m. omega (arith, (at_happen (events.Deliver number)).each m) }
at_delivered Drawn number = found {b = 2} {next = λ k. times (copies k) (happen (events.Deliver number))} (at_draw 8) (λ k. record { each = λ m. omega (arith, copies_few k, (at_times (copies k) 1 (happen (events.Deliver number)) (at_happen (events.Deliver number))).each m) })

at_delivers : (manner : Manner) (first : ℕ) → AtMost 1098 (delivers 549 manner first)
unfolding delivers
at_delivers manner first = at_each 549 2 first (delivered manner) (at_delivered manner)

at_once : (first : ℕ) → AtMost 549 (delivers 549 Once first)
unfolding delivers
at_once first = at_each 549 1 first (delivered Once) (λ number. at_happen (events.Deliver number))

at_all : (event : Event) → AtMost 550 (happen_and_deliver 549 event)
unfolding happen_and_deliver
at_all event = found at_messages (λ first. both (at_happen event) (at_once first))

-- ---- the ten steps of a second

at_request : (second : ℕ) → AtMost 1 (request second)
unfolding request
at_request second = found (at_draw 6) (λ aggregator. found at_digest (λ imprint. at_happen (events.Request aggregator second imprint None)))

pub drawn_few : (modulo : ℕ) (m : Making) → 0 < modulo → (draw modulo m).0 < modulo
unfolding draw
drawn_few modulo m some = mod-lt (from_be_bytes w64 (stream m.place 8)) some

at_requests : (second : ℕ) → AtMost 8 (requests second)
unfolding requests
at_requests second = record {
  each = λ m.
      omega (arith, drawn_few 9 m (omega arith), (at_draw 9).each m, (at_times (draw 9 m).0 1 (request second) (at_request second)).each (draw 9 m).1);
}

at_close : (aggregator second : ℕ) → AtMost 2 (close aggregator second)
unfolding close
at_close aggregator second = found at_messages (λ first. both (at_happen (events.Close aggregator second)) (found at_messages (λ sent. at_when (nat_lt first sent) (at_happen (events.Deliver first)))))

at_closes : (second : ℕ) → AtMost 12 (closes second)
unfolding closes
at_closes second = both (at_close 5 second) (both (at_close 3 second) (both (at_close 4 second) (both (at_close 0 second) (both (at_close 1 second) (at_close 2 second)))))

at_seals : (second : ℕ) → AtMost 3 (seals second)
unfolding seals
at_seals second = both (at_happen (events.Seal 0 second)) (both (at_happen (events.Seal 1 second)) (at_happen (events.Seal 2 second)))

at_first_ballot : (second : ℕ) → AtMost 1099 (first_ballot 549 second)
unfolding first_ballot
at_first_ballot second = found (at_draw 3) (λ core. found at_messages (λ first. both (at_happen (events.Ballot core second)) (both (at_delivers Drawn first) (none core))))

at_core : AtMost 1 core_may_restart
unfolding core_may_restart core_restarts
at_core = found (at_draw 4) (λ k. at_when (k == 0) (found (at_draw 3) (λ core. at_happen (events.RestartCore core))))

at_second_ballot : (core second : ℕ) → AtMost 550 (second_ballot 549 core second)
unfolding second_ballot
at_second_ballot core second = found (at_holds core second) (λ held. at_when (not held) (at_all (events.Ballot core second)))

at_responses : (second : ℕ) → AtMost 1650 (responses 549 second)
unfolding responses
at_responses second = both (at_all (events.Respond 0 second)) (both (at_all (events.Respond 1 second)) (at_all (events.Respond 2 second)))

at_aggregator : AtMost 1 aggregator_may_restart
unfolding aggregator_may_restart aggregator_restarts
at_aggregator = found (at_draw 8) (λ k. at_when (k == 0) (found (at_draw 6) (λ aggregator. at_happen (events.RestartAggregator aggregator))))

at_publish : (i second : ℕ) → AtMost 1 (may_publish i second)
unfolding may_publish publishes
at_publish i second = at_when (i % 16 == 15) (found (at_draw 3) (λ core. at_happen (events.Publish core second)))

at_second : (i second : ℕ) → AtMost 3875 (steps_of 549 i second)
unfolding steps_of
at_second i second = both (at_requests second) (both (at_closes second) (both (at_seals second) (found (at_first_ballot second) (λ core.
    both at_core (both (at_second_ballot core second) (both (at_all (events.Tell core second)) (both (at_responses second) (both at_aggregator (at_publish i second)))))))))

at_seconds : (n i : ℕ) → AtMost (3875 * n) (seconds_made 549 n i)
at_seconds zero i = record { each = λ m. omega arith }
at_seconds (suc n) i = record { each = λ m. omega (arith, mul-suc 3875 n, (at_second i (1700000000 + i)).each m, (at_seconds n (suc i)).each (steps_of 549 i (1700000000 + i) m).1) }

-- ---- the whole

at_seconds_all : AtMost 992000 (all_seconds 549)
unfolding all_seconds
at_seconds_all = at_seconds 256 0

pub few_events : (number : ℕ) → length (all_seconds 549 (first_making (2 ^ 64) number)).1.history.events ≤ 1000000
few_events number = omega (arith, at_seconds_all.each (first_making (2 ^ 64) number))
