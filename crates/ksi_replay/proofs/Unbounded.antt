-- The two bounds are of no account: with more messages to look at and more places in the stream, a making goes the same
-- way.
use Rattle.std.proofs.Common.{◌≡◌, ℕ, zero, suc, ◌+◌, ◌*◌, ◌%◌, ◌<◌, ◌≤◌, ◌==◌, nat_lt, not, Bool, true, false, List, None, length, refl, sym, ap, ap₂, ◌∙◌, arith, mul-suc, zero-mul, ◌^◌, ◌∷◌, mod-eq_of_lt}
use Rattle.std.specs.Int.{w64, from_be_bytes}
use Rattle.ksi_schedule.specs.declared.event.Event.{Event}
use Rattle.ksi_schedule.specs.declared.event.Event.TheVariants as events
use Rattle.ksi_world.specs.Histories.{WorldState, after}
use Rattle.ksi_replay.specs.declared.manner.Manner.{Manner}
use Rattle.ksi_replay.specs.declared.manner.Manner.TheVariants.{Once, Drawn}
use Rattle.ksi_replay.specs.Stream.{Place, byte_of, stream, further}
use Rattle.ksi_replay.specs.Making.{Making, Steps, done, ◌>>=◌, ◌>>◌, draw, digest, happen, messages, holds, when, times, each_message}
use Rattle.ksi_replay.specs.Generate.{copies, delivered, delivers, happen_and_deliver, request, requests, close, closes, seals, first_ballot, core_restarts, core_may_restart, second_ballot, responses, aggregator_restarts, aggregator_may_restart, publishes, may_publish, steps_of, seconds_made, all_seconds, first_making, generated_within, generated}
use Rattle.ksi_replay.proofs.Leading.{IsThere, led_by_event, first_thin}
use Rattle.ksi_replay.proofs.Few.{drawn_few}
use Rattle.ksi_replay.proofs.Loops.{messages_end}
use Rattle.ksi_replay.proofs.Ending.{world, IsFine, Sends, happen_sends, left, end_left, one_left_less, left_after}
use borrow.Author.Tests.{ltb-true}

-- a making of this plan, over a stream with places enough
record IsWide (m : Making) : Type 0 where
  fine : IsFine m
  many : 2097152 ≤ m.place.places

abbrev takes_of : Manner → ℕ
takes_of Once = 0
takes_of Drawn = 8

-- before the stream's end a place is the count of the bytes that are taken
taken_is : (p : Place) (n : ℕ) → 2097152 ≤ p.places → p.taken + n < 2097152 → (further p n).taken ≡ p.taken + n
taken_is p n many early = mod-eq_of_lt (omega (arith, many, early))

module _ (places more : ℕ) (many : 2097152 ≤ places) (enough : 549 ≤ more) where
  -- a place, and a making, over so many places
  abbrev over_place : Place → Place
  over_place p = record p { places = places }

  abbrev over : Making → Making
  over m = record m { place = over_place m.place }

  further_over : (p : Place) (n : ℕ) → 2097152 ≤ p.places → p.taken + n < 2097152 → further (over_place p) n ≡ over_place (further p n)
  further_over p n some early =
      let at : ℕ → Place = λ taken. record { number = p.number; places = places; taken = taken } in
      ap at (taken_is (over_place p) n many early ∙ sym (taken_is p n some early))

  stream_over : (n : ℕ) (p : Place) → 2097152 ≤ p.places → p.taken + n < 2097152 → stream (over_place p) n ≡ stream p n
  stream_over zero p some early = refl
  stream_over (suc n) p some early =
      ap (λ rest. byte_of p.number p.taken ∷ rest)
      (ap (λ next. stream next n) (further_over p 1 some (omega (arith, early))) ∙ stream_over n (further p 1) some (omega (arith, taken_is p 1 some (omega (arith, early)), early)))

  -- Steps come to the same from a making and from the same over so many places. They take no more than so many bytes.
  record Agree {A : Type 0} (bytes : ℕ) (m : Making) (x y : A × Making) : Type 0 where
    same : y ≡ (x.0, over x.1)
    fine : IsWide x.1
    takes : x.1.place.taken ≤ m.place.taken + bytes

  record Alike {A : Type 0} (bytes : ℕ) (steps other : Steps A) : Type 0 where
    each : (m : Making) → IsWide m → m.place.taken + bytes < 2097152 → Agree bytes m (steps m) (other (over m))

  -- ---- how steps join

  found : {A B : Type 0} {a b : ℕ} {first first' : Steps A} {next next' : A → Steps B} → Alike a first first' → ((x : A) → Alike b (next x) (next' x)) → Alike (a + b) (first >>= next) (first' >>= next')
  found {A} {B} {a} {b} {first} {first'} {next} {next'} p q = record { each = each }
    where
      each : (m : Making) → IsWide m → m.place.taken + (a + b) < 2097152 → Agree (a + b) m ((first >>= next) m) ((first' >>= next') (over m))
      each m fine room =
          let one : Agree a m (first m) (first' (over m)) = p.each m fine (omega (arith, room)) in
          let two : Agree b (first m).1 (next (first m).0 (first m).1) (next' (first m).0 (over (first m).1)) = (q (first m).0).each (first m).1 one.fine (omega (arith, one.takes, room)) in
          record {
            same = ap (λ (x : A × Making). next' x.0 x.1) one.same ∙ two.same;
            fine = two.fine;
            takes = omega (arith, one.takes, two.takes);
          }

  both : {A B : Type 0} {a b : ℕ} {first first' : Steps A} {next next' : Steps B} → Alike a first first' → Alike b next next' → Alike (a + b) (first >> next) (first' >> next')
  both {A} {B} {a} {b} {first} {first'} {next} {next'} p q = found {next = λ x. next} {next' = λ x. next'} p (λ x. q)

  none : {A : Type 0} (found : A) → Alike 0 (done found) (done found)
  none found = record { each = λ m fine room. record { same = refl; fine = fine; takes = omega arith } }

  less : {A : Type 0} (a b : ℕ) (steps other : Steps A) → a ≤ b → Alike a steps other → Alike b steps other
  less a b steps other le p = record { each = each }
    where
      each : (m : Making) → IsWide m → m.place.taken + b < 2097152 → Agree b m (steps m) (other (over m))
      each m fine room =
          let one : Agree a m (steps m) (other (over m)) = p.each m fine (omega (arith, le, room)) in
          record { same = one.same; fine = one.fine; takes = omega (arith, le, one.takes) }

  at_when : (b : Bool) {a : ℕ} {steps other : Steps (Unit {0})} → Alike a steps other → Alike a (when b steps) (when b other)
  at_when true p = p
  at_when false p = record { each = λ m fine room. record { same = refl; fine = fine; takes = omega arith } }

  at_times : (n a : ℕ) (steps : Steps (Unit {0})) → Alike a steps steps → Alike (a * n) (times n steps) (times n steps)
  at_times zero a steps p = record { each = λ m fine room. record { same = refl; fine = fine; takes = omega arith } }
  at_times (suc n) a steps p = less (a + a * n) (a * suc n) (times (suc n) steps) (times (suc n) steps) (omega (arith, mul-suc a n)) (both p (at_times n a steps p))

  -- ---- single steps

  at_happen : (event : Event) → IsThere event → Alike 0 (happen event) (happen event)
  at_happen event there = record { each = λ m fine room. record { same = refl; fine = record { fine = (happen_sends m event there fine.fine).fine; many = fine.many }; takes = omega arith } }

  draw_agrees : (modulo : ℕ) (m : Making) → IsWide m → m.place.taken + 8 < 2097152 → Agree 8 m (draw modulo m) (draw modulo (over m))
  unfolding draw
  draw_agrees modulo m fine room =
      let pair : List ℕ → Place → ℕ × Making = λ eight place. (from_be_bytes w64 eight % modulo, record m { place = place }) in
      record {
        same = ap₂ pair (stream_over 8 m.place fine.many room) (further_over m.place 8 fine.many room);
        fine = record { fine = record { plan = fine.fine.plan; thin = fine.fine.thin }; many = fine.many };
        takes = omega (arith, taken_is m.place 8 fine.many room);
      }

  at_draw : (modulo : ℕ) → Alike 8 (draw modulo) (draw modulo)
  at_draw modulo = record { each = λ m fine room. draw_agrees modulo m fine room }

  digest_agrees : (m : Making) → IsWide m → m.place.taken + 32 < 2097152 → Agree 32 m (digest m) (digest (over m))
  unfolding digest
  digest_agrees m fine room =
      let pair : List ℕ → Place → List ℕ × Making = λ all place. (1 ∷ all, record m { place = place }) in
      record {
        same = ap₂ pair (stream_over 32 m.place fine.many room) (further_over m.place 32 fine.many room);
        fine = record { fine = record { plan = fine.fine.plan; thin = fine.fine.thin }; many = fine.many };
        takes = omega (arith, taken_is m.place 32 fine.many room);
      }

  at_digest : Alike 32 digest digest
  at_digest = record { each = λ m fine room. digest_agrees m fine room }

  at_messages : Alike 0 messages messages
  at_messages = record { each = λ m fine room. record { same = refl; fine = fine; takes = omega arith } }

  at_holds : (core second : ℕ) → Alike 0 (holds core second) (holds core second)
  at_holds core second = record { each = λ m fine room. record { same = refl; fine = fine; takes = omega arith } }

  -- ---- deliveries

  at_copies : (k number : ℕ) → Alike 0 (times (copies k) (happen (events.Deliver number))) (times (copies k) (happen (events.Deliver number)))
  at_copies k number = less (0 * copies k) 0 (times (copies k) (happen (events.Deliver number))) (times (copies k) (happen (events.Deliver number))) (omega (arith, zero-mul (copies k))) (at_times (copies k) 0 (happen (events.Deliver number)) (at_happen (events.Deliver number) tt))

  at_delivered : (manner : Manner) (number : ℕ) → Alike (takes_of manner) (delivered manner number) (delivered manner number)
  at_delivered Once number = at_happen (events.Deliver number) tt
  at_delivered Drawn number = found {b = 0} {next = λ k. times (copies k) (happen (events.Deliver number))} {next' = λ k. times (copies k) (happen (events.Deliver number))} (at_draw 8) (λ k. at_copies k number)

  -- where no more are left than may be looked at, a greater bound makes no difference
  ends : (most most' : ℕ) (manner : Manner) (first : ℕ) (m : Making) → IsWide m → left first m ≤ most → most ≤ most' → m.place.taken + takes_of manner * most < 2097152 →
      Agree (takes_of manner * most) m (each_message most first (delivered manner) m) (each_message most' first (delivered manner) (over m))
  ends zero most' manner first m fine few le room = record {
    same = ap (λ (next : Making). (tt, next)) (messages_end most' first (delivered manner) (over m) (end_left (world m).wire first few));
    fine = fine;
    takes = omega arith;
  }
  ends (suc most) zero manner first m fine few le room = absurd (omega (arith, le))
  ends (suc most) (suc most') manner first m fine few le room = by (nat_lt first (length (world m).wire)) refl (ends most most' manner (suc first) (delivered manner first m).1)
    where
      next : Making
      next = (delivered manner first m).1

      goes_on : (n : ℕ) → Steps (Unit {0})
      goes_on n = λ m. each_message n (suc first) (delivered manner) (delivered manner first m).1

      by : (b : Bool) → b ≡ nat_lt first (length (world m).wire) →
          (IsWide next → left (suc first) next ≤ most → most ≤ most' → next.place.taken + takes_of manner * most < 2097152 → Agree (takes_of manner * most) next (each_message most (suc first) (delivered manner) next) (each_message most' (suc first) (delivered manner) (over next))) →
          Agree (takes_of manner * suc most) m (when b (goes_on most) m) (when b (goes_on most') (over m))
      by true is rest =
          let total : takes_of manner * suc most ≡ takes_of manner + takes_of manner * most = omega (arith, mul-suc (takes_of manner) most) in
          let one : Agree (takes_of manner) m (delivered manner first m) (delivered manner first (over m)) = (at_delivered manner first).each m fine (omega (arith, room, total)) in
          let less_left : left (suc first) next < left first m = (one_left_less manner first m (omega (arith, ltb-true first (length (world m).wire) (sym is))) fine.fine).1 in
          let two : Agree (takes_of manner * most) next (each_message most (suc first) (delivered manner) next) (each_message most' (suc first) (delivered manner) (over next)) =
          rest one.fine (omega (arith, less_left, few)) (omega (arith, le)) (omega (arith, one.takes, room, total)) in
          record {
            same = ap (λ (x : Unit {0} × Making). each_message most' (suc first) (delivered manner) x.1) one.same ∙ two.same;
            fine = two.fine;
            takes = omega (arith, one.takes, two.takes, total);
          }
      by false is rest = record { same = refl; fine = fine; takes = omega arith }

  -- an event that leads to no more than a ballot does, and what was sent since
  after_event : (manner : Manner) (e : Event) (m : Making) → IsThere e → led_by_event (world m) e ≤ 549 → IsWide m → m.place.taken + takes_of manner * 549 < 2097152 →
      Agree (takes_of manner * 549) m (each_message 549 (length (world m).wire) (delivered manner) (happen e m).1) (each_message more (length (world m).wire) (delivered manner) (happen e (over m)).1)
  after_event manner e m there few fine room =
      let next : Making = (happen e m).1 in
      let sends : Sends (led_by_event (world m) e) m next = happen_sends m e there fine.fine in
      let all : Agree (takes_of manner * 549) next (each_message 549 (length (world m).wire) (delivered manner) next) (each_message more (length (world m).wire) (delivered manner) (over next)) =
      ends 549 more manner (length (world m).wire) next (record { fine = sends.fine; many = fine.many }) (omega (arith, left_after (led_by_event (world m) e) m next sends, few)) enough room in
      record { same = all.same; fine = all.fine; takes = all.takes }

  -- ---- the ten steps of a second

  at_request : (second : ℕ) → Alike 40 (request second) (request second)
  unfolding request
  at_request second = found {b = 32} (at_draw 6) (λ aggregator. found {b = 0} at_digest (λ imprint. at_happen (events.Request aggregator second imprint None) tt))

  requests_agree : (second : ℕ) (m : Making) → IsWide m → m.place.taken + 328 < 2097152 → Agree 328 m (requests second m) (requests second (over m))
  unfolding requests
  requests_agree second m fine room =
      let count : ℕ = (draw 9 m).0 in
      let next : Making = (draw 9 m).1 in
      let few : count < 9 = drawn_few 9 m (omega arith) in
      let one : Agree 8 m (draw 9 m) (draw 9 (over m)) = draw_agrees 9 m fine (omega (arith, room)) in
      let two : Agree (40 * count) next (times count (request second) next) (times count (request second) (over next)) = (at_times count 40 (request second) (at_request second)).each next one.fine (omega (arith, few, one.takes, room)) in
      record {
        same = ap (λ (x : ℕ × Making). times x.0 (request second) x.1) one.same ∙ two.same;
        fine = two.fine;
        takes = omega (arith, few, one.takes, two.takes);
      }

  at_requests : (second : ℕ) → Alike 328 (requests second) (requests second)
  at_requests second = record { each = λ m fine room. requests_agree second m fine room }

  at_close : (aggregator second : ℕ) → aggregator < 6 → Alike 0 (close aggregator second) (close aggregator second)
  unfolding close
  at_close aggregator second lt = found {b = 0} at_messages (λ first. both (at_happen (events.Close aggregator second) lt) (found {b = 0} at_messages (λ sent. at_when (nat_lt first sent) (at_happen (events.Deliver first) tt))))

  at_closes : (second : ℕ) → Alike 0 (closes second) (closes second)
  unfolding closes
  at_closes second = both (at_close 5 second (omega arith)) (both (at_close 3 second (omega arith)) (both (at_close 4 second (omega arith)) (both (at_close 0 second (omega arith)) (both (at_close 1 second (omega arith)) (at_close 2 second (omega arith))))))

  at_seals : (second : ℕ) → Alike 0 (seals second) (seals second)
  unfolding seals
  at_seals second = both (at_happen (events.Seal 0 second) tt) (both (at_happen (events.Seal 1 second) tt) (at_happen (events.Seal 2 second) tt))

  at_core : Alike 16 core_may_restart core_may_restart
  unfolding core_may_restart core_restarts
  at_core = found {b = 8} (at_draw 4) (λ k. at_when (k == 0) (found {b = 0} (at_draw 3) (λ core. at_happen (events.RestartCore core) tt)))

  at_aggregator : Alike 16 aggregator_may_restart aggregator_may_restart
  unfolding aggregator_may_restart aggregator_restarts
  at_aggregator = found {b = 8} (at_draw 8) (λ k. at_when (k == 0) (found {b = 0} (at_draw 6) (λ aggregator. at_happen (events.RestartAggregator aggregator) tt)))

  at_publish : (i second : ℕ) → Alike 8 (may_publish i second) (may_publish i second)
  unfolding may_publish publishes
  at_publish i second = at_when (i % 16 == 15) (found {b = 0} (at_draw 3) (λ core. at_happen (events.Publish core second) tt))

  at_all : (event : Event) → IsThere event → ((w : WorldState) → led_by_event w event ≤ 549) → Alike 0 (happen_and_deliver 549 event) (happen_and_deliver more event)
  unfolding happen_and_deliver delivers
  at_all event there few = record { each = λ m fine room. after_event Once event m there (few (world m)) fine room }

  at_ballot : (core second : ℕ) → Alike 0 (happen_and_deliver 549 (events.Ballot core second)) (happen_and_deliver more (events.Ballot core second))
  at_ballot core second = at_all (events.Ballot core second) tt (λ w. omega arith)

  at_tell : (core second : ℕ) → Alike 0 (happen_and_deliver 549 (events.Tell core second)) (happen_and_deliver more (events.Tell core second))
  at_tell core second = at_all (events.Tell core second) tt (λ w. omega arith)

  at_respond : (core second : ℕ) → Alike 0 (happen_and_deliver 549 (events.Respond core second)) (happen_and_deliver more (events.Respond core second))
  at_respond core second = at_all (events.Respond core second) tt (λ w. omega arith)

  -- the core's ballot, whose messages are delivered as often as draws say
  abbrev ballot_of : (most core second : ℕ) → Steps ℕ
  ballot_of most core second = messages >>= (λ first. happen (events.Ballot core second) >> (delivers most Drawn first >> done core))

  drawn_agrees : (core second : ℕ) (m : Making) → IsWide m → m.place.taken + 4392 < 2097152 → Agree 4392 m (ballot_of 549 core second m) (ballot_of more core second (over m))
  unfolding delivers
  drawn_agrees core second m fine room =
      let all : Agree 4392 m (each_message 549 (length (world m).wire) (delivered Drawn) (happen (events.Ballot core second) m).1) (each_message more (length (world m).wire) (delivered Drawn) (happen (events.Ballot core second) (over m)).1) =
      after_event Drawn (events.Ballot core second) m tt (omega arith) fine room in
      record { same = ap (λ (x : Unit {0} × Making). (core, x.1)) all.same; fine = all.fine; takes = all.takes }

  at_drawn : (core second : ℕ) → Alike 4392 (ballot_of 549 core second) (ballot_of more core second)
  at_drawn core second = record { each = λ m fine room. drawn_agrees core second m fine room }

  at_first_ballot : (second : ℕ) → Alike 4400 (first_ballot 549 second) (first_ballot more second)
  unfolding first_ballot
  at_first_ballot second = found {b = 4392} {next = λ core. ballot_of 549 core second} {next' = λ core. ballot_of more core second} (at_draw 3) (λ core. at_drawn core second)

  at_second_ballot : (core second : ℕ) → Alike 0 (second_ballot 549 core second) (second_ballot more core second)
  unfolding second_ballot
  at_second_ballot core second = found {b = 0} (at_holds core second) (λ held. at_when (not held) (at_ballot core second))

  at_responses : (second : ℕ) → Alike 0 (responses 549 second) (responses more second)
  unfolding responses
  at_responses second = both (at_respond 0 second) (both (at_respond 1 second) (at_respond 2 second))

  at_second : (i second : ℕ) → Alike 4768 (steps_of 549 i second) (steps_of more i second)
  unfolding steps_of
  at_second i second = both (at_requests second) (both (at_closes second) (both (at_seals second) (found {b = 40} (at_first_ballot second) (λ core.
      both at_core (both (at_second_ballot core second) (both (at_tell core second) (both (at_responses second) (both at_aggregator (at_publish i second)))))))))

  at_seconds : (n i : ℕ) → Alike (4768 * n) (seconds_made 549 n i) (seconds_made more n i)
  at_seconds zero i = record { each = λ m fine room. record { same = refl; fine = fine; takes = omega arith } }
  at_seconds (suc n) i = less (4768 + 4768 * n) (4768 * suc n) (seconds_made 549 (suc n) i) (seconds_made more (suc n) i) (omega (arith, mul-suc 4768 n)) (both (at_second i (1700000000 + i)) (at_seconds n (suc i)))

  at_seconds_all : Alike 1220608 (all_seconds 549) (all_seconds more)
  unfolding all_seconds
  at_seconds_all = at_seconds 256 0

first_fine : (number : ℕ) → IsWide (first_making (2 ^ 64) number)
unfolding after
first_fine number = record { fine = record { plan = refl; thin = first_thin }; many = omega arith }

pub same_within : (places most number : ℕ) → 2 ^ 21 ≤ places → 549 ≤ most → generated_within places most number ≡ generated number
unfolding generated
same_within places most number many enough =
    let all = (at_seconds_all places most (omega (arith, many)) enough).each (first_making (2 ^ 64) number) (first_fine number) (omega arith) in
    ap (λ (x : Unit {0} × Making). x.1.history) all.same
