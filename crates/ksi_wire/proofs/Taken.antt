-- Printed lines are taken.
use Rattle.std.proofs.Common.{◌≡◌, ℕ, ◌^◌, ◌<◌, ◌≤◌, true, false, Bool, eqb, List, [], ◌∷◌, length, codes, ◌&&◌, Option, Some, None, Ok, refl, ap, sym, ◌∙◌, subst, arith, ltb}
use Rattle.std.specs.Fmt.{decimal}
use Rattle.std.specs.List.{list_all}
use Rattle.std.specs.Prelude.{IfSome, if◌then◌else◌}
use Rattle.std.specs.Str.{bytes_eq}
use Rattle.std.proofs.lemmas.Bool.{lt-ltb, le-leb}
use Rattle.std.proofs.lemmas.Slice.Eq.{bytes_eq-Decides}
use Rattle.ksi_aggtree.specs.Names.{IsName, is_name_byte, are_name_bytes}
use Rattle.ksi_aggtree.specs.declared.item.Item.{Item}
use Rattle.ksi_schedule.specs.Pieces.{Text, words}
use Rattle.ksi_schedule.specs.Plans.{PlanState, IsPlan, InRange, parent_of}
use Rattle.ksi_schedule.specs.Printed.{hex_of, name_words, line_of}
use Rattle.ksi_schedule.specs.declared.actor.Actor.{Actor}
use Rattle.ksi_schedule.specs.declared.actor.Actor.TheVariants as actors
use Rattle.ksi_schedule.proofs.Digests.{hex_digits, hex_lacks}
use Rattle.ksi_schedule.proofs.Again.{IsClean, IsCleanWord, number_again, number-clean, plain, more, two, three, words-line_of}
use Rattle.ksi_synod.specs.declared.messages.Vote.{Vote}
use Rattle.ksi_synod.specs.declared.messages.SynodMessage.{SynodMessage}
use Rattle.ksi_synod.specs.declared.messages.SynodMessage.TheVariants as votes
use Rattle.ksi_corenode.specs.declared.event.CoreEvent.{CoreEvent}
use Rattle.ksi_corenode.specs.declared.event.CoreEvent.TheVariants as events
use Rattle.ksi_aggregator.specs.declared.event.RoundEvent.TheVariants as rounds
use Rattle.ksi_wire.specs.declared.event.AggregatorLine.{AggregatorLine}
use Rattle.ksi_wire.specs.declared.event.AggregatorLine.TheVariants as lines
use Rattle.ksi_wire.specs.Lines.{item_words, cast_words, vote_words, core_words}
use Rattle.ksi_wire.specs.RoundLines.{asked_words}
use Rattle.ksi_wire.specs.Asked.{Got, number_in, imprint_in, second_in, core_in, lower_in, is_same, ballot_in, name_in, is_same_name, item_in, cast_in, vote_in, core_event_in, core_event_of, if_spelled}
use Rattle.ksi_wire.specs.AskedRounds.{asked_in, aggregator_line_of}
use Rattle.ksi_wire.specs.Responses.{above_text}
use Rattle.ksi_wire.specs.declared.questions.ChainEnds.{ChainEnds}
use Rattle.ksi_wire.specs.declared.questions.CoreLine.{CoreLine}
use Rattle.ksi_wire.specs.declared.questions.CoreLine.TheVariants as questions
use Rattle.ksi_wire.specs.declared.questions.Span.{Span}
use Rattle.ksi_wire.specs.Questions.{as_chain, as_event, as_question, asks, chain_of, chain_words, core_line_of, core_line_words, ends_in, held_of, held_words, span_in}
use Rattle.ksi_wire.specs.Taken.{IsDigest, IsSubmitted, IsBallotOf, IsCast, IsVote, ComesToCore, ComesToAggregator, IsAskedOfCore}
use Rattle.ksi_wire.proofs.AboveSaid.{above_again, above_clean, AreRead}

-- ---- words

pub same_bytes : (text : Text) → bytes_eq text text ≡ true
same_bytes text = (bytes_eq-Decides text text).1 refl

number_taken : (n : ℕ) (rest : List Text) → n < 2 ^ 64 → number_in (decimal n ∷ rest) ≡ Ok (n, rest)
number_taken n rest lt = rw (number_again n lt) refl

imprint_taken : (imprint : List ℕ) (rest : List Text) → IsDigest imprint → imprint_in (hex_of imprint ∷ rest) ≡ Ok (imprint, rest)
imprint_taken imprint rest is = rw is refl

second_taken : (plan : PlanState) (t : ℕ) (rest : List Text) → IsPlan plan → InRange plan t → second_in plan (decimal t ∷ rest) ≡ Ok (t, rest)
second_taken plan t rest h is = rw (number_again t (omega (arith, h.core_plan.early, is.1)), le-leb _ _ is.0, lt-ltb _ _ is.1) refl

core_taken : (plan : PlanState) (j : ℕ) (rest : List Text) → IsPlan plan → j < plan.cores → core_in plan (decimal j ∷ rest) ≡ Ok (j, rest)
core_taken plan j rest h lt = rw (number_again j (omega (arith, h.core_plan.few)), lt-ltb _ _ lt) refl

same_actor : (actor : Actor) → is_same actor actor ≡ true
same_actor (actors.Core j) = by_number j
  where
    by_number : (n : ℕ) → eqb n n ≡ true
    by_number n = (Rattle.std.proofs.lemmas.Bool.Decides.Decides-eqb n n).1 refl
same_actor (actors.Aggregator k) = (Rattle.std.proofs.lemmas.Bool.Decides.Decides-eqb k k).1 refl

lower_taken : (plan : PlanState) (me : Actor) (k : ℕ) (rest : List Text) → IsPlan plan → k < length plan.parents → parent_of plan k ≡ me → lower_in plan me (decimal k ∷ rest) ≡ Ok (k, rest)
lower_taken plan me k rest h lt below = rw (number_again k (omega (arith, h.many)), lt-ltb _ _ lt, below, same_actor me) refl

ballot_taken : (plan : PlanState) (b : ℕ) (rest : List Text) → IsBallotOf plan b → ballot_in plan (decimal b ∷ rest) ≡ Ok (b, rest)
ballot_taken plan b rest is = rw (number_again b (omega (arith, is.0.1)), le-leb _ _ is.0.0, lt-ltb _ _ is.0.1, lt-ltb _ _ is.1) refl

name_taken : (name : Option Text) → IfSome name IsName → name_in (name_words name) ≡ Ok (name, [])
name_taken None is = refl
name_taken (Some name) is = rw (le-leb _ _ is.some, le-leb _ _ is.few, is.each) refl

same_name : (name : Option Text) → is_same_name name name ≡ true
same_name None = refl
same_name (Some name) = same_bytes name

item_taken : (plan : PlanState) (me : Actor) (from second : ℕ) (item : Item) → IsPlan plan → IsSubmitted plan me from second item → item_in plan from (item_words item) ≡ Ok (item, [])
item_taken plan me from second item h is =
    let named : IfSome item.name IsName = subst (λ (name : Option Text). IfSome name IsName) (sym is.named) (h.names from) in
    rw (is.digest, number_again item.level (omega (arith, is.level)), lt-ltb _ _ is.level, name_taken item.name named, sym is.named, same_name item.name) refl

-- ---- the lines to a core

cast_taken : (plan : PlanState) (promised : ℕ) (vote : Option Vote) → IfSome vote (IsCast plan) → cast_in plan promised (cast_words vote) ≡ Ok (votes.LastVote (record { ballot = promised; vote = vote }), [])
cast_taken plan promised None is = refl
cast_taken plan promised (Some vote) is = rw (ballot_taken plan vote.ballot (hex_of vote.imprint ∷ []) is.0, imprint_taken vote.imprint [] is.1) refl

vote_taken : (plan : PlanState) (m : SynodMessage) → IsVote plan m → vote_in plan (vote_words m) ≡ Ok (m, [])
vote_taken plan (votes.NextBallot b) is = rw (ballot_taken plan b [] is) refl
vote_taken plan (votes.LastVote last) is = rw (ballot_taken plan last.ballot (cast_words last.vote) is.0, cast_taken plan last.ballot last.vote is.1) refl
vote_taken plan (votes.BeginBallot b decree) is = rw (ballot_taken plan b (hex_of decree ∷ []) is.0, imprint_taken decree [] is.1) refl
vote_taken plan (votes.Voted b) is = rw (ballot_taken plan b [] is) refl
vote_taken plan (votes.Success decree) is = rw (imprint_taken decree [] is) refl

core_event_taken : (plan : PlanState) (me : ℕ) (event : CoreEvent) → IsPlan plan → ComesToCore plan me event → core_event_in plan me (core_words event) ≡ Ok (event, [])
core_event_taken plan me (events.Submission from second item) h is =
    rw (lower_taken plan (actors.Core me) from (decimal second ∷ item_words item) h is.there is.below, second_taken plan second (item_words item) h is.in_range, item_taken plan (actors.Core me) from second item h is) refl
core_event_taken plan me (events.Seal t) h is = rw (second_taken plan t [] h is) refl
core_event_taken plan me (events.Ballot t) h is = rw (second_taken plan t [] h is) refl
core_event_taken plan me (events.Receive from second m) h is =
    rw (core_taken plan from (decimal second ∷ vote_words m) h is.0, second_taken plan second (vote_words m) h is.1, vote_taken plan m is.2) refl
core_event_taken plan me (events.Tell t) h is = rw (second_taken plan t [] h is) refl
core_event_taken plan me (events.Respond t) h is = rw (second_taken plan t [] h is) refl
core_event_taken plan me (events.Publish t) h is = rw (second_taken plan t [] h is) refl

-- ---- clean words

second_clean : (plan : PlanState) (t : ℕ) → IsPlan plan → InRange plan t → IsCleanWord (decimal t)
second_clean plan t h is = number-clean t (omega (arith, h.core_plan.early, is.1))

digest_clean : (imprint : List ℕ) → IsDigest imprint → IsCleanWord (hex_of imprint)
digest_clean imprint is =
    let all = hex_digits (hex_of imprint) imprint is in
    (hex_lacks 32 (hex_of imprint) (omega arith) all, hex_lacks 10 (hex_of imprint) (omega arith) all)

visible_byte : (b : ℕ) → is_name_byte b ≡ true → ltb 32 b ≡ true
visible_byte b is = grind arith

both : (b c : Bool) → (b && c) ≡ true → (b ≡ true) × (c ≡ true)
both true c e = (refl, e)
both false c e = absurd cc

visible : (name : Text) → are_name_bytes name ≡ true → list_all (λ b. ltb 32 b) name ≡ true
visible [] each = refl
visible (b ∷ name) each = let o = both (is_name_byte b) (are_name_bytes name) each in rw (visible_byte b o.0) (visible name o.1)

name_clean : (name : Option Text) → IfSome name IsName → IsClean (name_words name)
name_clean None is = tt
name_clean (Some name) is = more name [] (plain name (visible name is.each)) tt

item_clean : (plan : PlanState) (me : Actor) (from second : ℕ) (item : Item) → IsPlan plan → IsSubmitted plan me from second item → IsClean (item_words item)
item_clean plan me from second item h is =
    more (hex_of item.imprint) (decimal item.level ∷ name_words item.name) (digest_clean item.imprint is.digest)
    (more (decimal item.level) (name_words item.name) (number-clean item.level (omega (arith, is.level)))
    (name_clean item.name (subst (λ (name : Option Text). IfSome name IsName) (sym is.named) (h.names from))))

submission_clean : (plan : PlanState) (me : Actor) (from second : ℕ) (item : Item) → IsPlan plan → IsSubmitted plan me from second item → IsClean (codes "submission" ∷ decimal from ∷ decimal second ∷ item_words item)
submission_clean plan me from second item h is =
    more (codes "submission") (decimal from ∷ decimal second ∷ item_words item) (plain (codes "submission") refl)
    (more (decimal from) (decimal second ∷ item_words item) (number-clean from (omega (arith, h.many, is.there)))
    (more (decimal second) (item_words item) (second_clean plan second h is.in_range) (item_clean plan me from second item h is)))

ballot_clean : (plan : PlanState) (b : ℕ) → IsBallotOf plan b → IsCleanWord (decimal b)
ballot_clean plan b is = number-clean b (omega (arith, is.0.1))

cast_clean : (plan : PlanState) (vote : Option Vote) → IfSome vote (IsCast plan) → IsClean (cast_words vote)
cast_clean plan None is = tt
cast_clean plan (Some vote) is = two (decimal vote.ballot) (hex_of vote.imprint) (ballot_clean plan vote.ballot is.0) (digest_clean vote.imprint is.1)

vote_clean : (plan : PlanState) (m : SynodMessage) → IsVote plan m → IsClean (vote_words m)
vote_clean plan (votes.NextBallot b) is = two (codes "next") (decimal b) (plain (codes "next") refl) (ballot_clean plan b is)
vote_clean plan (votes.LastVote last) is =
    more (codes "last") (decimal last.ballot ∷ cast_words last.vote) (plain (codes "last") refl) (more (decimal last.ballot) (cast_words last.vote) (ballot_clean plan last.ballot is.0) (cast_clean plan last.vote is.1))
vote_clean plan (votes.BeginBallot b decree) is = three (codes "begin") (decimal b) (hex_of decree) (plain (codes "begin") refl) (ballot_clean plan b is.0) (digest_clean decree is.1)
vote_clean plan (votes.Voted b) is = two (codes "voted") (decimal b) (plain (codes "voted") refl) (ballot_clean plan b is)
vote_clean plan (votes.Success decree) is = two (codes "success") (hex_of decree) (plain (codes "success") refl) (digest_clean decree is)

of_second_clean : (plan : PlanState) (name : Text) (t : ℕ) → IsPlan plan → list_all (λ b. ltb 32 b) name ≡ true → InRange plan t → IsClean (name ∷ decimal t ∷ [])
of_second_clean plan name t h all is = two name (decimal t) (plain name all) (second_clean plan t h is)

core_clean : (plan : PlanState) (me : ℕ) (event : CoreEvent) → IsPlan plan → ComesToCore plan me event → IsClean (core_words event)
core_clean plan me (events.Submission from second item) h is = submission_clean plan (actors.Core me) from second item h is
core_clean plan me (events.Seal t) h is = of_second_clean plan (codes "seal") t h refl is
core_clean plan me (events.Ballot t) h is = of_second_clean plan (codes "ballot") t h refl is
core_clean plan me (events.Receive from second m) h is =
    more (codes "synod") (decimal from ∷ decimal second ∷ vote_words m) (plain (codes "synod") refl)
    (more (decimal from) (decimal second ∷ vote_words m) (number-clean from (omega (arith, h.core_plan.few, is.0)))
    (more (decimal second) (vote_words m) (second_clean plan second h is.1) (vote_clean plan m is.2)))
core_clean plan me (events.Tell t) h is = of_second_clean plan (codes "tell") t h refl is
core_clean plan me (events.Respond t) h is = of_second_clean plan (codes "respond") t h refl is
core_clean plan me (events.Publish t) h is = of_second_clean plan (codes "publish") t h refl is

-- ---- whole lines

-- what is read of words that are printed so is taken of their line
spelled_taken : {A : Type 0} (printed : A → List Text) (x : A) (got : Got A) → got ≡ Ok (x, []) → if_spelled printed (line_of (printed x)) got ≡ Ok x
spelled_taken printed x got is = rw (is, same_bytes (line_of (printed x))) refl

line_words : (ws : List Text) (word : Text) (rest : List Text) → ws ≡ word ∷ rest → IsClean ws → words (line_of ws) ≡ ws
line_words ws word rest is clean =
    let clean' : IsClean (word ∷ rest) = subst IsClean is clean in
    ap (λ (ws : List Text). words (line_of ws)) is ∙ words-line_of word rest clean' ∙ sym is

core_first : (event : CoreEvent) → (word : Text) × (rest : List Text) × (core_words event ≡ word ∷ rest)
core_first (events.Submission from second item) = (_, _, refl)
core_first (events.Seal t) = (_, _, refl)
core_first (events.Ballot t) = (_, _, refl)
core_first (events.Receive from second m) = (_, _, refl)
core_first (events.Tell t) = (_, _, refl)
core_first (events.Respond t) = (_, _, refl)
core_first (events.Publish t) = (_, _, refl)

pub core_line_taken : (plan : PlanState) (me : ℕ) (event : CoreEvent) → IsPlan plan → ComesToCore plan me event → core_event_of plan me (line_of (core_words event)) ≡ Ok event
unfolding core_event_of
core_line_taken plan me event h is =
    let first = core_first event in
    let cut : words (line_of (core_words event)) ≡ core_words event = line_words (core_words event) first.0 first.1 first.2 (core_clean plan me event h is) in
    spelled_taken core_words event (core_event_in plan me (words (line_of (core_words event)))) (ap (core_event_in plan me) cut ∙ core_event_taken plan me event h is)

-- ---- questions to a core

is_no_question : (event : CoreEvent) → (asks (codes "held") (core_words event) ≡ false) × (asks (codes "chain") (core_words event) ≡ false)
is_no_question (events.Submission from second item) = (refl, refl)
is_no_question (events.Seal t) = (refl, refl)
is_no_question (events.Ballot t) = (refl, refl)
is_no_question (events.Receive from second m) = (refl, refl)
is_no_question (events.Tell t) = (refl, refl)
is_no_question (events.Respond t) = (refl, refl)
is_no_question (events.Publish t) = (refl, refl)

held_clean : (plan : PlanState) (span : Span) → IsPlan plan → InRange plan span.from → span.count < 2 ^ 64 → IsClean (held_words span)
held_clean plan span h is small = three (codes "held") (decimal span.from) (decimal span.count) (plain (codes "held") refl) (second_clean plan span.from h is) (number-clean span.count small)

held_taken : (plan : PlanState) (span : Span) → IsPlan plan → InRange plan span.from → 1 ≤ span.count → span.count ≤ 1024 → held_of plan (line_of (held_words span)) ≡ Ok span
unfolding held_of
held_taken plan span h is some few =
    let small : span.count < 2 ^ 64 = omega (arith, few) in
    let cut : words (line_of (held_words span)) ≡ held_words span = line_words (held_words span) (codes "held") (decimal span.from ∷ decimal span.count ∷ []) refl (held_clean plan span h is small) in
    let read : span_in plan (held_words span) ≡ Ok (span, []) = rw (second_taken plan span.from (decimal span.count ∷ []) h is, number_taken span.count [] small, le-leb _ _ some, le-leb _ _ few) refl in
    spelled_taken held_words span (span_in plan (words (line_of (held_words span)))) (ap (span_in plan) cut ∙ read)

chain_clean : (plan : PlanState) (ends : ChainEnds) → IsPlan plan → InRange plan ends.from → InRange plan ends.to → IsClean (chain_words ends)
chain_clean plan ends h from to = three (codes "chain") (decimal ends.from) (decimal ends.to) (plain (codes "chain") refl) (second_clean plan ends.from h from) (second_clean plan ends.to h to)

chain_taken : (plan : PlanState) (ends : ChainEnds) → IsPlan plan → InRange plan ends.from → InRange plan ends.to → chain_of plan (line_of (chain_words ends)) ≡ Ok ends
unfolding chain_of
chain_taken plan ends h from to =
    let cut : words (line_of (chain_words ends)) ≡ chain_words ends = line_words (chain_words ends) (codes "chain") (decimal ends.from ∷ decimal ends.to ∷ []) refl (chain_clean plan ends h from to) in
    let read : ends_in plan (chain_words ends) ≡ Ok (ends, []) = rw (second_taken plan ends.from (decimal ends.to ∷ []) h from, second_taken plan ends.to [] h to) refl in
    spelled_taken chain_words ends (ends_in plan (words (line_of (chain_words ends)))) (ap (ends_in plan) cut ∙ read)

first_asked : {A : Type 0} (b c : Bool) (x y z : A) → b ≡ true → (if b then x else if c then y else z) ≡ x
first_asked b c x y z one = rw one refl

second_asked : {A : Type 0} (b c : Bool) (x y z : A) → b ≡ false → c ≡ true → (if b then x else if c then y else z) ≡ y
second_asked b c x y z one other = rw (one, other) refl

third_asked : {A : Type 0} (b c : Bool) (x y z : A) → b ≡ false → c ≡ false → (if b then x else if c then y else z) ≡ z
third_asked b c x y z one other = rw (one, other) refl

module _ (plan : PlanState) (me : ℕ) (line : Text) where
  -- what a line of these words asks
  as_held : (span : Span) → words line ≡ held_words span → held_of plan line ≡ Ok span → core_line_of plan me line ≡ Ok (questions.Held span)
  as_held span cut is =
      first_asked (asks (codes "held") (words line)) (asks (codes "chain") (words line)) (as_question (held_of plan line)) (as_chain (chain_of plan line)) (as_event (core_event_of plan me line))
      (ap (asks (codes "held")) cut)
      ∙ ap as_question is

  as_ends : (ends : ChainEnds) → words line ≡ chain_words ends → chain_of plan line ≡ Ok ends → core_line_of plan me line ≡ Ok (questions.Chain ends)
  as_ends ends cut is =
      second_asked (asks (codes "held") (words line)) (asks (codes "chain") (words line)) (as_question (held_of plan line)) (as_chain (chain_of plan line)) (as_event (core_event_of plan me line))
      (ap (asks (codes "held")) cut) (ap (asks (codes "chain")) cut)
      ∙ ap as_chain is

  as_core_event : (event : CoreEvent) → words line ≡ core_words event → core_event_of plan me line ≡ Ok event → core_line_of plan me line ≡ Ok (questions.Event event)
  as_core_event event cut is =
      third_asked (asks (codes "held") (words line)) (asks (codes "chain") (words line)) (as_question (held_of plan line)) (as_chain (chain_of plan line)) (as_event (core_event_of plan me line))
      (ap (asks (codes "held")) cut ∙ (is_no_question event).0) (ap (asks (codes "chain")) cut ∙ (is_no_question event).1)
      ∙ ap as_event is

pub core_asked_taken : (plan : PlanState) (me : ℕ) (asked : CoreLine) → IsPlan plan → IsAskedOfCore plan me asked → core_line_of plan me (line_of (core_line_words asked)) ≡ Ok asked
core_asked_taken plan me (questions.Event event) h is =
    let first = core_first event in
    as_core_event plan me (line_of (core_words event)) event (line_words (core_words event) first.0 first.1 first.2 (core_clean plan me event h is)) (core_line_taken plan me event h is)
core_asked_taken plan me (questions.Held span) h is =
    let small : span.count < 2 ^ 64 = omega (arith, is.2) in
    as_held plan me (line_of (held_words span)) span (line_words (held_words span) (codes "held") (decimal span.from ∷ decimal span.count ∷ []) refl (held_clean plan span h is.0 small)) (held_taken plan span h is.0 is.1 is.2)
core_asked_taken plan me (questions.Chain ends) h is =
    as_ends plan me (line_of (chain_words ends)) ends (line_words (chain_words ends) (codes "chain") (decimal ends.from ∷ decimal ends.to ∷ []) refl (chain_clean plan ends h is.0 is.1)) (chain_taken plan ends h is.0 is.1)

-- ---- the lines to an aggregator

asked_taken : AreRead → (plan : PlanState) (me : ℕ) (asked : AggregatorLine) → IsPlan plan → ComesToAggregator plan me asked → asked_in plan me (asked_words asked) ≡ Ok (asked, [])
asked_taken read plan me (lines.Sign number) h is = rw (number_taken number [] is) refl
asked_taken read plan me (lines.Event (rounds.Request number second imprint name)) h is =
    rw (number_taken number (decimal second ∷ hex_of imprint ∷ name_words name) is.0, second_taken plan second (hex_of imprint ∷ name_words name) h is.1, imprint_taken imprint (name_words name) is.2, name_taken name is.3) refl
asked_taken read plan me (lines.Event (rounds.Submission from second item)) h is =
    rw (lower_taken plan (actors.Aggregator me) from (decimal second ∷ item_words item) h is.there is.below, second_taken plan second (item_words item) h is.in_range, item_taken plan (actors.Aggregator me) from second item h is) refl
asked_taken read plan me (lines.Event (rounds.Close t)) h is = rw (second_taken plan t [] h is) refl
asked_taken read plan me (lines.Event (rounds.Response second above)) h is =
    rw (second_taken plan second (above_text second above ∷ []) h is.0, above_again read second above is.1) refl

asked_clean : (plan : PlanState) (me : ℕ) (asked : AggregatorLine) → IsPlan plan → ComesToAggregator plan me asked → IsClean (asked_words asked)
asked_clean plan me (lines.Sign number) h is = two (codes "sign") (decimal number) (plain (codes "sign") refl) (number-clean number is)
asked_clean plan me (lines.Event (rounds.Request number second imprint name)) h is =
    more (codes "request") (decimal number ∷ decimal second ∷ hex_of imprint ∷ name_words name) (plain (codes "request") refl)
    (more (decimal number) (decimal second ∷ hex_of imprint ∷ name_words name) (number-clean number is.0)
    (more (decimal second) (hex_of imprint ∷ name_words name) (second_clean plan second h is.1)
    (more (hex_of imprint) (name_words name) (digest_clean imprint is.2) (name_clean name is.3))))
asked_clean plan me (lines.Event (rounds.Submission from second item)) h is = submission_clean plan (actors.Aggregator me) from second item h is
asked_clean plan me (lines.Event (rounds.Close t)) h is = of_second_clean plan (codes "close") t h refl is
asked_clean plan me (lines.Event (rounds.Response second above)) h is =
    three (codes "response") (decimal second) (above_text second above) (plain (codes "response") refl) (second_clean plan second h is.0) (above_clean second above is.1)

asked_first : (asked : AggregatorLine) → (word : Text) × (rest : List Text) × (asked_words asked ≡ word ∷ rest)
asked_first (lines.Sign number) = (_, _, refl)
asked_first (lines.Event (rounds.Request number second imprint name)) = (_, _, refl)
asked_first (lines.Event (rounds.Submission from second item)) = (_, _, refl)
asked_first (lines.Event (rounds.Close t)) = (_, _, refl)
asked_first (lines.Event (rounds.Response second above)) = (_, _, refl)

pub aggregator_line_taken : AreRead → (plan : PlanState) (me : ℕ) (asked : AggregatorLine) → IsPlan plan → ComesToAggregator plan me asked → aggregator_line_of plan me (line_of (asked_words asked)) ≡ Ok asked
unfolding aggregator_line_of
aggregator_line_taken read plan me asked h is =
    let first = asked_first asked in
    let cut : words (line_of (asked_words asked)) ≡ asked_words asked = line_words (asked_words asked) first.0 first.1 first.2 (asked_clean plan me asked h is) in
    spelled_taken asked_words asked (asked_in plan me (words (line_of (asked_words asked)))) (ap (asked_in plan me) cut ∙ asked_taken read plan me asked h is)
