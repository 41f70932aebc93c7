use Rattle.std.proofs.Common.{◌≡◌, ◌+◌, ◌-◌, ◌++◌, [], ◌∙◌, ℕ, List, ◌∷◌, ◌<◌, false, sym, ap, arith, refl, append_assoc, append-nil, rules}
use Rattle.ksi_calendar.specs.Climbing.{calendar_join}
use Rattle.ksi_calendar.specs.Calendar.{calendar_leaf}
use Rattle.ksi_consistency.specs.Front.{front_of}
use Rattle.ksi_consistency.proofs.Fronts.{front_all, front_down_left, front_down_right}
use Rattle.ksi_consistency.proofs.Parts.{left_part, right_part, inside}
use Rattle.ksi_consistency.proofs.proving.+prove_part.Goals as goal

-- one imprint more
one_more : (old middle new inner all : List (List ℕ)) (x : List ℕ) → middle ≡ old ++ inner → new ≡ middle ++ x ∷ [] → all ≡ inner ++ x ∷ [] → new ≡ old ++ all
one_more old middle new inner all x so_far next is =
    next ∙ ap (λ (xs : List (List ℕ)). xs ++ x ∷ []) so_far ∙ append_assoc old inner (x ∷ []) ∙ ap (λ (xs : List (List ℕ)). old ++ xs) (sym is)

pub returns-in_ok-push : goal.returns-in_ok-push
returns-in_ok-push g t c =
    c.in_ok-push.ensures.items
    ∙ ap (λ (xs : List (List ℕ)). c.args.front.now.items ++ xs)
    (ap (λ (x : List ℕ). x ∷ []) c.part.ensures
    ∙ sym (front_all c.one_split.ensures.split (calendar_join g.C.Compress.image) (calendar_leaf c.args.kept.now.calendar.now) (c.args.old + 1) c.args.first (c.args.new + 1) c.args.given (omega arith) (omega (arith, c.if-old-new.true)) ∙ rw c.if-not-given.true refl))

pub returns-else-not-given : goal.returns-else-not-given
returns-else-not-given g t c =
    sym (append-nil c.args.front.now.items)
    ∙ ap (λ (xs : List (List ℕ)). c.args.front.now.items ++ xs)
    (sym (front_all c.one_split.ensures.split (calendar_join g.C.Compress.image) (calendar_leaf c.args.kept.now.calendar.now) (c.args.old + 1) c.args.first (c.args.new + 1) c.args.given (omega arith) (omega (arith, c.if-old-new.true)) ∙ rw c.if-not-given.false refl))

pub prove_part-requires : goal.prove_part-requires
prove_part-requires g t c = λ κs live. (omega arith, (search rules, (omega (arith, c.if-old-half.true), left_part (c.args.kept.now.last + 1) c.args.first (c.args.new + 1) (c.high_bit-half.result - 1 + 1) c.requires.part (λ e. omega (arith, e, c.if-old-new.false, c.requires.within)) (omega (arith, c.high_bit-half.ensures.value, c.if-old-half.true)))))

pub overflow_add-first : goal.overflow_add-first
overflow_add-first g t c = let fits = inside c.one_split.ensures.split (c.args.kept.now.last + 1) c.args.first (c.args.new + 1) (omega arith) c.requires.part in omega (arith, fits, c.high_bit-half.ensures.most)

pub part-requires-then-old-half : goal.part-requires-then-old-half
part-requires-then-old-half g t c = right_part (c.args.kept.now.last + 1) c.args.first (c.args.new + 1) (c.args.first + c.high_bit-half.result) (c.args.new - c.high_bit-half.result + 1) c.requires.part (λ e. omega (arith, e, c.if-old-new.false, c.requires.within)) (ap (λ (x : ℕ). c.args.first + x) c.high_bit-half.ensures.value) (omega (arith, c.high_bit-half.ensures.value, c.high_bit-half.ensures.most))

pub overflow_add-first-else-old-half : goal.overflow_add-first-else-old-half
overflow_add-first-else-old-half g t c = let fits = inside c.one_split.ensures.split (c.args.kept.now.last + 1) c.args.first (c.args.new + 1) (omega arith) c.requires.part in omega (arith, fits, c.high_bit-half.ensures.most)

pub prove_part-requires-else-old-half : goal.prove_part-requires-else-old-half
prove_part-requires-else-old-half g t c = λ κs live. (omega (arith, c.high_bit-half.ensures.greatest, c.requires.within, c.if-old-new.false), (search rules, (omega (arith, c.requires.within), right_part (c.args.kept.now.last + 1) c.args.first (c.args.new + 1) (c.args.first + c.high_bit-half.result) (c.args.new - c.high_bit-half.result + 1) c.requires.part (λ e. omega (arith, e, c.if-old-new.false, c.requires.within)) (ap (λ (x : ℕ). c.args.first + x) c.high_bit-half.ensures.value) (omega (arith, c.high_bit-half.ensures.value, c.high_bit-half.ensures.most)))))

pub part-requires-else-old-half : goal.part-requires-else-old-half
part-requires-else-old-half g t c = left_part (c.args.kept.now.last + 1) c.args.first (c.args.new + 1) (c.high_bit-half.result - 1 + 1) c.requires.part (λ e. omega (arith, e, c.if-old-new.false, c.requires.within)) (omega (arith, c.high_bit-half.ensures.value, c.high_bit-half.ensures.greatest, c.requires.within, c.if-old-new.false))

pub returns-in_ok-push-2 : goal.returns-in_ok-push-2
returns-in_ok-push-2 g t c =
    let join = calendar_join g.C.Compress.image in
    let leaf = calendar_leaf c.args.kept.now.calendar.now in
    let m = c.args.old + 1 in
    let n = c.args.new + 1 in
    let lo = c.args.first in
    let half = c.high_bit-half.result in
    let h = c.high_bit-half.ensures in
    one_more c.args.front.now.items c.prove_part.new.front.items c.push-then-old-half.new.self.items (front_of join leaf m lo (half - 1 + 1) c.args.given) (front_of join leaf m lo n c.args.given) c.part-then-old-half.result
    c.in_ok-prove_part.ensures c.in_ok-push-2.ensures.items
    (front_down_left c.one_split.ensures.split join leaf m lo n (half - 1 + 1) (lo + half) (c.args.new - half + 1) c.args.given (omega arith) (omega (arith, h.value, c.if-old-half.true)) (omega (arith, c.if-old-half.true)) (omega (arith, h.most, c.if-old-half.true)) (omega (arith, c.if-old-half.true)) (omega (arith, h.most, c.if-old-half.true))
    ∙ ap (λ (x : List ℕ). front_of join leaf m lo (half - 1 + 1) c.args.given ++ x ∷ []) (sym c.part-then-old-half.ensures))

pub returns-in_ok-push-3 : goal.returns-in_ok-push-3
returns-in_ok-push-3 g t c =
    let join = calendar_join g.C.Compress.image in
    let leaf = calendar_leaf c.args.kept.now.calendar.now in
    let m = c.args.old + 1 in
    let n = c.args.new + 1 in
    let lo = c.args.first in
    let half = c.high_bit-half.result in
    let h = c.high_bit-half.ensures in
    let some : 0 < half = omega (arith, h.greatest, c.requires.within, c.if-old-new.false) in
    one_more c.args.front.now.items c.prove_part-else-old-half.new.front.items c.push-else-old-half.new.self.items (front_of join leaf (c.args.old - half + 1) (lo + half) (c.args.new - half + 1) false) (front_of join leaf m lo n c.args.given) c.part-else-old-half.result
    c.in_ok-prove_part-2.ensures c.in_ok-push-3.ensures.items
    (front_down_right c.one_split.ensures.split join leaf m lo n (half - 1 + 1) (c.args.old - half + 1) (lo + half) (c.args.new - half + 1) c.args.given (omega (arith, h.value, some)) (omega (arith, c.if-old-half.false, some)) (omega (arith, c.requires.within, c.if-old-new.false)) (omega (arith, c.if-old-half.false, some)) (omega (arith, some)) (omega (arith, h.most, some))
    ∙ ap (λ (x : List ℕ). front_of join leaf (c.args.old - half + 1) (lo + half) (c.args.new - half + 1) false ++ x ∷ []) (sym c.part-else-old-half.ensures))
