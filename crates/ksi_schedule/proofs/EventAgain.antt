-- The printed lines of events and aggregators are read again.
use Rattle.std.proofs.Common.{◌≡◌, ℕ, ◌-◌, ◌^◌, ◌<◌, ◌≤◌, true, List, [], ◌∷◌, length, codes, Bool, false, ◌&&◌, Option, Some, None, Result, Ok, Err, refl, arith, ltb}
use Rattle.std.specs.Fmt.{decimal}
use Rattle.std.specs.List.{list_all}
use Rattle.std.specs.Prelude.{IfSome}
use Rattle.std.proofs.lemmas.Bool.{lt-ltb, le-leb}
use Rattle.ksi_imprint.specs.Reading.{hex_at}
use Rattle.ksi_aggtree.specs.Names.{IsName, is_name_byte, are_name_bytes}
use Rattle.ksi_schedule.specs.declared.version.Version.{Version}
use Rattle.ksi_schedule.specs.declared.version.Version.TheVariants.{One, Two}
use Rattle.ksi_schedule.specs.declared.parent.Parent.{Parent}
use Rattle.ksi_schedule.specs.declared.actor.Actor.{Actor}
use Rattle.ksi_schedule.specs.declared.actor.Actor.TheVariants as actors
use Rattle.ksi_schedule.specs.declared.event.Event.{Event}
use Rattle.ksi_schedule.specs.declared.event.Event.TheVariants as events
use Rattle.ksi_schedule.specs.declared.fault.LineFault.{LineFault}
use Rattle.ksi_schedule.specs.declared.fault.LineFault.TheVariants.{Word}
use Rattle.ksi_schedule.specs.Pieces.{Text}
use Rattle.ksi_schedule.specs.Plans.{PlanState, IsParent, InRange}
use Rattle.ksi_schedule.specs.Events.{IsEvent}
use Rattle.ksi_schedule.specs.Words.{core_at, aggregator_at, time_word, digest_at, name_at, form_at, kind_at, Kind}
use Rattle.ksi_schedule.specs.Forms.{event_kinds, request_line, aggregator_line}
use Rattle.ksi_schedule.specs.Printed.{event_words, name_words, under_words, actor_word, hex_of, IsTyped}
use Rattle.ksi_schedule.proofs.Digests.{hex_digits, hex_lacks}
use Rattle.ksi_schedule.proofs.Again.{IsClean, IsCleanWord, number_again, number-clean, plain, lettered, more, two, three}
use Rattle.ksi_schedule.proofs.Versions.{Allows, AllowsEvent}

-- the numbers of actors and seconds fit 64 bits
pub record IsSmall (plan : PlanState) : Type 0 where
  pub cores : plan.cores ≤ 9
  pub parents : length plan.parents ≤ 4096
  pub start : plan.start ≤ 2 ^ 63 - 2 ^ 24

pub core_again : (plan : PlanState) (j : ℕ) → IsSmall plan → j < plan.cores → core_at plan (decimal j) ≡ Ok j
core_again plan j h lt = rw (number_again j (omega (arith, h.cores)), lt-ltb _ _ lt) refl

aggregator_again : (plan : PlanState) (k : ℕ) → IsSmall plan → k < length plan.parents → aggregator_at plan (decimal k) ≡ Ok k
aggregator_again plan k h lt = rw (number_again k (omega (arith, h.parents)), lt-ltb _ _ lt) refl

pub second_again : (plan : PlanState) (t : ℕ) → IsSmall plan → InRange plan t → time_word plan (decimal t) ≡ Ok t
second_again plan t h is = rw (number_again t (omega (arith, h.start, is.1)), le-leb _ _ is.0, lt-ltb _ _ is.1) refl

digest_again : (imprint : List ℕ) → hex_at (hex_of imprint) ≡ Ok imprint → digest_at (hex_of imprint) ≡ Ok imprint
digest_again imprint is = rw is refl

name_again : (name : Text) → IsName name → name_at name ≡ Ok name
name_again name is = rw (le-leb _ _ is.some, le-leb _ _ is.few, is.each) refl

-- what a line of these words stands for
abbrev pub line_at : {A : Type 0} → PlanState → List (Kind A) → List Text → Result A LineFault
line_at plan kinds [] = Err Word
line_at plan kinds (name ∷ words) = kind_at plan kinds name words

request_again : (version : Version) (plan : PlanState) (k t : ℕ) (imprint : Text) (name : Option Text) → IsSmall plan → IsEvent plan (events.Request k t imprint name) → hex_at (hex_of imprint) ≡ Ok imprint → Allows version name
    → form_at plan (request_line version).forms (decimal k ∷ decimal t ∷ hex_of imprint ∷ name_words name) ≡ Ok (events.Request k t imprint name)
unfolding form_at
request_again version plan k t imprint None h is typed allowed = rw (aggregator_again plan k h is.0, second_again plan t h is.1, digest_again imprint typed) refl
request_again One plan k t imprint (Some name) h is typed allowed = absurd allowed
request_again Two plan k t imprint (Some name) h is typed allowed =
    rw (aggregator_again plan k h is.0, second_again plan t h is.1, digest_again imprint typed, name_again name is.2) refl

pub event_again : (version : Version) (plan : PlanState) (e : Event) → IsSmall plan → IsEvent plan e → IsTyped e → AllowsEvent version e → line_at plan (event_kinds version) (event_words e) ≡ Ok e
unfolding form_at
event_again version plan (events.Request k t imprint name) h is typed allowed = request_again version plan k t imprint name h is typed allowed
event_again version plan (events.Close k t) h is typed allowed = rw (aggregator_again plan k h is.0, second_again plan t h is.1) refl
event_again version plan (events.Seal j t) h is typed allowed = rw (core_again plan j h is.0, second_again plan t h is.1) refl
event_again version plan (events.Ballot j t) h is typed allowed = rw (core_again plan j h is.0, second_again plan t h is.1) refl
event_again version plan (events.Deliver number) h is typed allowed = rw (number_again number typed) refl
event_again version plan (events.Tell j t) h is typed allowed = rw (core_again plan j h is.0, second_again plan t h is.1) refl
event_again version plan (events.Respond j t) h is typed allowed = rw (core_again plan j h is.0, second_again plan t h is.1) refl
event_again version plan (events.Publish j p) h is typed allowed = rw (core_again plan j h is.0, second_again plan p h is.1) refl
event_again version plan (events.RestartCore j) h is typed allowed = rw (core_again plan j h is) refl
event_again version plan (events.RestartAggregator k) h is typed allowed = rw (aggregator_again plan k h is) refl

again : (version : Version) (plan : PlanState) (k : ℕ) (a : Actor) (name : Option Text) → IsSmall plan → k < 2 ^ 64 → IsParent plan.cores (length plan.parents) a → IfSome name IsName → Allows version name
    → form_at plan (aggregator_line version).forms (decimal k ∷ codes "parent" ∷ actor_word a ∷ under_words name) ≡ Ok (k, record { actor = a; name = name })
unfolding form_at
again version plan k (actors.Core j) None h small there named allowed = rw (number_again k small, core_again plan j h there) refl
again version plan k (actors.Aggregator i) None h small there named allowed = rw (number_again k small, aggregator_again plan i h there) refl
again One plan k a (Some name) h small there named allowed = absurd allowed
again Two plan k (actors.Core j) (Some name) h small there named allowed = rw (number_again k small, core_again plan j h there, name_again name named) refl
again Two plan k (actors.Aggregator i) (Some name) h small there named allowed = rw (number_again k small, aggregator_again plan i h there, name_again name named) refl

pub parent_again : (version : Version) (plan : PlanState) (k : ℕ) (p : Parent) → IsSmall plan → k < 2 ^ 64 → IsParent plan.cores (length plan.parents) p.actor → IfSome p.name IsName → Allows version p.name
    → form_at plan (aggregator_line version).forms (decimal k ∷ codes "parent" ∷ actor_word p.actor ∷ under_words p.name) ≡ Ok (k, p)
parent_again version plan k p h small there named allowed = again version plan k p.actor p.name h small there named allowed

-- ---- clean words

pub core-clean : (plan : PlanState) (j : ℕ) → IsSmall plan → j < plan.cores → IsCleanWord (decimal j)
core-clean plan j h lt = number-clean j (omega (arith, h.cores))

number_of-clean : (plan : PlanState) (k : ℕ) → IsSmall plan → k < length plan.parents → IsCleanWord (decimal k)
number_of-clean plan k h lt = number-clean k (omega (arith, h.parents))

pub second-clean : (plan : PlanState) (t : ℕ) → IsSmall plan → InRange plan t → IsCleanWord (decimal t)
second-clean plan t h is = number-clean t (omega (arith, h.start, is.1))

digest-clean : (imprint : List ℕ) → hex_at (hex_of imprint) ≡ Ok imprint → IsCleanWord (hex_of imprint)
digest-clean imprint is =
    let all = hex_digits (hex_of imprint) imprint is in
    (hex_lacks 32 (hex_of imprint) (omega arith) all, hex_lacks 10 (hex_of imprint) (omega arith) all)

pub actor-clean : (plan : PlanState) (a : Actor) → IsSmall plan → IsParent plan.cores (length plan.parents) a → IsCleanWord (actor_word a)
actor-clean plan (actors.Core j) h is = lettered 99 (decimal j) refl (core-clean plan j h is)
actor-clean plan (actors.Aggregator k) h is = lettered 97 (decimal k) refl (number_of-clean plan k h is)

visible_byte : (b : ℕ) → is_name_byte b ≡ true → ltb 32 b ≡ true
visible_byte b is = grind arith

both : (b c : Bool) → (b && c) ≡ true → (b ≡ true) × (c ≡ true)
both true c e = (refl, e)
both false c e = absurd cc

visible : (name : Text) → are_name_bytes name ≡ true → list_all (λ b. ltb 32 b) name ≡ true
visible [] each = refl
visible (b ∷ name) each = let o = both (is_name_byte b) (are_name_bytes name) each in rw (visible_byte b o.0) (visible name o.1)

name-clean : (name : Text) → IsName name → IsCleanWord name
name-clean name is = plain name (visible name is.each)

named-clean : (name : Option Text) → IfSome name IsName → IsClean (name_words name)
named-clean None is = tt
named-clean (Some name) is = more name [] (name-clean name is) tt

under-clean : (name : Option Text) → IfSome name IsName → IsClean (under_words name)
under-clean None is = tt
under-clean (Some name) is = two (codes "name") name (plain (codes "name") refl) (name-clean name is)

pub aggregator-clean : (plan : PlanState) (k : ℕ) (p : Parent) → IsSmall plan → k < 2 ^ 64 → IsParent plan.cores (length plan.parents) p.actor → IfSome p.name IsName
    → IsClean (codes "aggregator" ∷ decimal k ∷ codes "parent" ∷ actor_word p.actor ∷ under_words p.name)
aggregator-clean plan k p h lt there named =
    more (codes "aggregator") (decimal k ∷ codes "parent" ∷ actor_word p.actor ∷ under_words p.name) (plain (codes "aggregator") refl)
    (more (decimal k) (codes "parent" ∷ actor_word p.actor ∷ under_words p.name) (number-clean k lt)
    (more (codes "parent") (actor_word p.actor ∷ under_words p.name) (plain (codes "parent") refl)
    (more (actor_word p.actor) (under_words p.name) (actor-clean plan p.actor h there) (under-clean p.name named))))

at_core-clean : (plan : PlanState) (name : Text) (j t : ℕ) → IsSmall plan → list_all (λ b. ltb 32 b) name ≡ true → j < plan.cores → InRange plan t → IsClean (name ∷ decimal j ∷ decimal t ∷ [])
at_core-clean plan name j t h all there in_range = three name (decimal j) (decimal t) (plain name all) (core-clean plan j h there) (second-clean plan t h in_range)

pub event-clean : (plan : PlanState) (e : Event) → IsSmall plan → IsEvent plan e → IsTyped e → IsClean (event_words e)
event-clean plan (events.Request k t imprint name) h is typed =
    more (codes "request") (decimal k ∷ decimal t ∷ hex_of imprint ∷ name_words name) (plain (codes "request") refl)
    (more (decimal k) (decimal t ∷ hex_of imprint ∷ name_words name) (number_of-clean plan k h is.0)
    (more (decimal t) (hex_of imprint ∷ name_words name) (second-clean plan t h is.1)
    (more (hex_of imprint) (name_words name) (digest-clean imprint typed) (named-clean name is.2))))
event-clean plan (events.Close k t) h is typed = three (codes "close") (decimal k) (decimal t) (plain (codes "close") refl) (number_of-clean plan k h is.0) (second-clean plan t h is.1)
event-clean plan (events.Seal j t) h is typed = at_core-clean plan (codes "seal") j t h refl is.0 is.1
event-clean plan (events.Ballot j t) h is typed = at_core-clean plan (codes "ballot") j t h refl is.0 is.1
event-clean plan (events.Deliver number) h is typed = two (codes "deliver") (decimal number) (plain (codes "deliver") refl) (number-clean number typed)
event-clean plan (events.Tell j t) h is typed = at_core-clean plan (codes "tell") j t h refl is.0 is.1
event-clean plan (events.Respond j t) h is typed = at_core-clean plan (codes "respond") j t h refl is.0 is.1
event-clean plan (events.Publish j p) h is typed = at_core-clean plan (codes "publish") j p h refl is.0 is.1
event-clean plan (events.RestartCore j) h is typed = two (codes "restart") (actor_word (actors.Core j)) (plain (codes "restart") refl) (actor-clean plan (actors.Core j) h is)
event-clean plan (events.RestartAggregator k) h is typed = two (codes "restart") (actor_word (actors.Aggregator k)) (plain (codes "restart") refl) (actor-clean plan (actors.Aggregator k) h is)
