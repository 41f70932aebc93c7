use Rattle.std.proofs.Common.{inl, inr, ◌≡◌, ◌+◌, ◌-◌, ◌<◌, ℕ, reverse, true, ap, sym, subst, ◌∙◌, arith, rules}
use Rattle.ksi_imprint.specs.declared.clash.Clash.{Clash}
use Rattle.ksi_split.specs.Powers.{split_of}
use Rattle.ksi_calendar.specs.Climbing.{calendar_join_text}
use Rattle.ksi_calendar.specs.Calendar.{calendar_tree}
use Rattle.ksi_consistency.specs.Parts.{IsPart}
use Rattle.ksi_consistency.specs.Compared.{IsHalves, IsKeptText, IsNodeClash}
use Rattle.ksi_consistency.specs.Answering.{clash_to, front_clash, or_below, part_text}
use Rattle.ksi_consistency.specs.Checked.{roots_from}
use Rattle.ksi_consistency.specs.declared.roots.Roots.{Roots}
use Rattle.ksi_consistency.proofs.Finding as finding
use Rattle.ksi_consistency.proofs.Fronts.{count_left, count_down_right}
use Rattle.ksi_consistency.proofs.Meeting.{meet_none, meet_all, meet_left_old, meet_left_new, meet_right_old, meet_right_new, all_of, given_fewer, split_same, on_none, on_some, left_first, left_behind, right_old, right_new, right_behind}
use Rattle.ksi_consistency.proofs.Parts.{left_part, right_part}
use Rattle.ksi_consistency.proofs.clashing.+clash_in_front.Goals as goal

-- ---- no imprint is left

pub clash_below-requires-clause-new_part : goal.clash_below-requires-clause-new_part
clash_below-requires-clause-new_part g t c =
    let all : c.args.old + 1 ≡ c.args.new + 1 = all_of c.one_split.ensures.split (c.args.old + 1) (c.args.new + 1) (omega arith) (omega (arith, c.requires.within)) (omega (arith, c.requires.enough, c.in-None.ensures.cases)) in
    subst (λ (n : ℕ). IsPart (c.args.two.now.new.last + 1) c.args.first n) (sym all) c.requires.new_part

pub clash_below-requires-clause-same : goal.clash_below-requires-clause-same
clash_below-requires-clause-same g t c =
    let image = g.C.Compress.image in
    let m = c.args.old + 1 in
    let n = c.args.new + 1 in
    let a = calendar_tree image c.args.two.now.old.calendar.now c.args.first m in
    let b = calendar_tree image c.args.two.now.new.calendar.now c.args.first n in
    let all : m ≡ n = all_of c.one_split.ensures.split m n (omega arith) (omega (arith, c.requires.within)) (omega (arith, c.requires.enough, c.in-None.ensures.cases)) in
    meet_none image c.args.two.now.given m n c.args.front.now a b c.requires.roots c.in-None.ensures.cases ∙ ap (calendar_tree image c.args.two.now.new.calendar.now c.args.first) (sym all)

-- ---- an imprint stands for all leaves

pub clash_below-requires-then-old-new-clause-same : goal.clash_below-requires-then-old-new-clause-same
clash_below-requires-then-old-new-clause-same g t c =
    let image = g.C.Compress.image in
    let m = c.args.old + 1 in
    let n = c.args.new + 1 in
    let a = calendar_tree image c.args.two.now.old.calendar.now c.args.first m in
    let b = calendar_tree image c.args.two.now.new.calendar.now c.args.first n in
    let all : m ≡ n = omega (arith, c.if-old-new.true) in
    meet_all image c.args.two.now.given m n c.args.front.now a b c.requires.roots c.in-Some.last.1.now c.in-Some.last.0.now c.in-Some.ensures.cases.0 all ∙ ap (calendar_tree image c.args.two.now.new.calendar.now c.args.first) (sym all)

-- ---- the first leaves are in the left part

pub lay-requires-clause-same : goal.lay-requires-clause-same
lay-requires-clause-same g t c =
    let image = g.C.Compress.image in
    let m = c.args.old + 1 in
    let n = c.args.new + 1 in
    let k = c.high_bit-half.result - 1 + 1 in
    let h = c.high_bit-half.ensures in
    meet_left_new image c.args.two.now.given m n c.args.front.now (calendar_tree image c.args.two.now.old.calendar.now c.args.first m) (calendar_tree image c.args.two.now.new.calendar.now c.args.first n) c.requires.roots
    c.in-Some.last.1.now c.in-Some.last.0.now c.in-Some.ensures.cases.0 k c.check_part-part.result (λ e. c.if-old-new.false (omega (arith, e))) (omega (arith, h.value, c.if-old-half.true)) c.check_part-part.ensures (omega (arith, c.if-old-half.true))

pub clash_in_front-requires : goal.clash_in_front-requires
clash_in_front-requires g t c κs within =
    let image = g.C.Compress.image in
    let m = c.args.old + 1 in
    let n = c.args.new + 1 in
    let k = c.high_bit-half.result - 1 + 1 in
    let h = c.high_bit-half.ensures in
    let first = c.args.first in
    let is : k ≡ split_of n = omega (arith, h.value, c.if-old-half.true) in
    let some : 0 < c.args.new = omega (arith, h.most, c.if-old-half.true) in
    let part = c.check_part-part.result in
    let old = meet_left_old image c.args.two.now.given m n c.args.front.now (calendar_tree image c.args.two.now.old.calendar.now first m) (calendar_tree image c.args.two.now.new.calendar.now first n) c.requires.roots
    c.in-Some.last.1.now c.in-Some.last.0.now c.in-Some.ensures.cases.0 k part (λ e. c.if-old-new.false (omega (arith, e))) is c.check_part-part.ensures (omega (arith, c.if-old-half.true)) in
    let halves = on_none c.in_ok-clash.field-0 (IsHalves (record { left = part.new; right = c.in-Some.last.0.now }) (calendar_tree image c.args.two.now.new.calendar.now first (split_of n)) (calendar_tree image c.args.two.now.new.calendar.now (first + split_of n) (n - split_of n))) c.in-None-2.is c.in_ok-clash.ensures.none in
    let new : part.new ≡ calendar_tree image c.args.two.now.new.calendar.now first k = halves.left ∙ ap (calendar_tree image c.args.two.now.new.calendar.now first) (sym is) in
    let count = count_left c.one_split.ensures.split m n k true (omega arith) is (omega (arith, c.if-old-half.true)) (omega (arith, some)) in (
      omega (arith, h.most, some),
      (
        search rules,
        (
          omega (arith, c.if-old-half.true),
          (
            c.requires.old_part,
            (
              left_part (c.args.two.now.new.last + 1) first n k c.requires.new_part (λ e. omega (arith, e, some)) is,
              (
                c.requires.from,
                (c.requires.to, (omega (arith, c.requires.enough, count, c.in-Some.ensures.cases.1), (λ text has. c.requires.texts text (left_behind image c.args.two.now.given m n k c.args.front.now c.in-Some.last.1.now c.in-Some.last.0.now c.in-Some.ensures.cases.0 (λ e. c.if-old-new.false (omega (arith, e))) is text part c.check_part-part.ensures (omega (arith, c.if-old-half.true)) has), sym c.check_part-part.ensures ∙ (λ i. record { old = old i; new = new i })))),
              ),
            ),
          ),
        ),
      ),
    )

-- ---- they go on in the right part

pub lay-requires-else-old-half-clause-same : goal.lay-requires-else-old-half-clause-same
lay-requires-else-old-half-clause-same g t c =
    let image = g.C.Compress.image in
    let m = c.args.old + 1 in
    let n = c.args.new + 1 in
    let half = c.high_bit-half.result in
    let h = c.high_bit-half.ensures in
    meet_right_old image c.args.two.now.given m n c.args.front.now (calendar_tree image c.args.two.now.old.calendar.now c.args.first m) (calendar_tree image c.args.two.now.new.calendar.now c.args.first n) c.requires.roots
    c.in-Some.last.1.now c.in-Some.last.0.now c.in-Some.ensures.cases.0 half (c.args.old - half + 1) (c.args.new - half + 1) c.check_part-part-else-old-half.result (λ e. c.if-old-new.false (omega (arith, e))) h.value
    (omega (arith, c.if-old-half.false)) (omega (arith, c.if-old-half.false)) (omega (arith, h.most)) c.check_part-part-else-old-half.ensures

pub lay-requires-else-old-half-2-clause-same : goal.lay-requires-else-old-half-2-clause-same
lay-requires-else-old-half-2-clause-same g t c =
    let image = g.C.Compress.image in
    let m = c.args.old + 1 in
    let n = c.args.new + 1 in
    let half = c.high_bit-half.result in
    let h = c.high_bit-half.ensures in
    meet_right_new image c.args.two.now.given m n c.args.front.now (calendar_tree image c.args.two.now.old.calendar.now c.args.first m) (calendar_tree image c.args.two.now.new.calendar.now c.args.first n) c.requires.roots
    c.in-Some.last.1.now c.in-Some.last.0.now c.in-Some.ensures.cases.0 half (c.args.old - half + 1) (c.args.new - half + 1) c.check_part-part-else-old-half.result (λ e. c.if-old-new.false (omega (arith, e))) h.value
    (omega (arith, c.if-old-half.false)) (omega (arith, c.if-old-half.false)) (omega (arith, h.most)) c.check_part-part-else-old-half.ensures

pub clash_below-requires-then-two-first-clause-old_part : goal.clash_below-requires-then-two-first-clause-old_part
clash_below-requires-then-two-first-clause-old_part g t c =
    let h = c.high_bit-half.ensures in
    let half = c.high_bit-half.result in
    let some : 0 < half = omega (arith, h.greatest) in
    let same = split_same c.one_split.ensures.split (c.args.old + 1) (c.args.new + 1) half h.value some (omega (arith, c.if-old-half.false)) (omega (arith, c.requires.within)) in
    left_part (c.args.two.now.old.last + 1) c.args.first (c.args.old + 1) (half - 1 + 1) c.requires.old_part (λ e. omega (arith, e, some, c.if-old-half.false)) (omega (arith, same, some))

pub clash_below-requires-then-two-first-clause-new_part : goal.clash_below-requires-then-two-first-clause-new_part
clash_below-requires-then-two-first-clause-new_part g t c =
    let h = c.high_bit-half.ensures in
    let half = c.high_bit-half.result in
    let some : 0 < half = omega (arith, h.greatest) in
    left_part (c.args.two.now.new.last + 1) c.args.first (c.args.new + 1) (half - 1 + 1) c.requires.new_part (λ e. omega (arith, e, some, h.most)) (omega (arith, h.value, some))

pub clash_below-requires-then-two-first-clause-same : goal.clash_below-requires-then-two-first-clause-same
clash_below-requires-then-two-first-clause-same g t c =
    let image = g.C.Compress.image in
    let olds = c.args.two.now.old.calendar.now in
    let news = c.args.two.now.new.calendar.now in
    let m = c.args.old + 1 in
    let n = c.args.new + 1 in
    let first = c.args.first in
    let h = c.high_bit-half.ensures in
    let half = c.high_bit-half.result in
    let some : 0 < half = omega (arith, h.greatest) in
    let same = split_same c.one_split.ensures.split m n half h.value some (omega (arith, c.if-old-half.false)) (omega (arith, c.requires.within)) in
    let part = c.check_part-part-else-old-half.result in
    let x = c.in-Some.last.0.now in
    let one = on_none c.in_ok-clash-2.field-0 (IsHalves (record { left = x; right = part.old }) (calendar_tree image olds first (split_of m)) (calendar_tree image olds (first + split_of m) (m - split_of m))) c.in-None-3.is c.in_ok-clash-2.ensures.none in
    let two = on_none c.in_ok-clash-3.field-0 (IsHalves (record { left = x; right = part.new }) (calendar_tree image news first (split_of n)) (calendar_tree image news (first + split_of n) (n - split_of n))) c.in-None-4.is c.in_ok-clash-3.ensures.none in
    let k : half - 1 + 1 ≡ split_of m = omega (arith, same, some) in
    let l : half - 1 + 1 ≡ split_of n = omega (arith, h.value, some) in
    ap (calendar_tree image olds first) k ∙ sym one.left ∙ two.left ∙ ap (calendar_tree image news first) (sym l)

pub clash_in_front-requires-else-two-first : goal.clash_in_front-requires-else-two-first
clash_in_front-requires-else-two-first g t c κs within =
    let image = g.C.Compress.image in
    let olds = c.args.two.now.old.calendar.now in
    let news = c.args.two.now.new.calendar.now in
    let m = c.args.old + 1 in
    let n = c.args.new + 1 in
    let first = c.args.first in
    let h = c.high_bit-half.ensures in
    let half = c.high_bit-half.result in
    let some : 0 < half = omega (arith, h.greatest) in
    let same = split_same c.one_split.ensures.split m n half h.value some (omega (arith, c.if-old-half.false)) (omega (arith, c.requires.within)) in
    let part = c.check_part-part-else-old-half.result in
    let x = c.in-Some.last.0.now in
    let one = on_none c.in_ok-clash-2.field-0 (IsHalves (record { left = x; right = part.old }) (calendar_tree image olds first (split_of m)) (calendar_tree image olds (first + split_of m) (m - split_of m))) c.in-None-3.is c.in_ok-clash-2.ensures.none in
    let two = on_none c.in_ok-clash-3.field-0 (IsHalves (record { left = x; right = part.new }) (calendar_tree image news first (split_of n)) (calendar_tree image news (first + split_of n) (n - split_of n))) c.in-None-4.is c.in_ok-clash-3.ensures.none in
    let at_old : first + half ≡ first + split_of m = ap (λ (y : ℕ). first + y) (sym same) in
    let at_new : first + half ≡ first + split_of n = ap (λ (y : ℕ). first + y) h.value in
    let rest_old : c.args.old - half + 1 ≡ m - split_of m = omega (arith, same, c.if-old-half.false) in
    let rest_new : c.args.new - half + 1 ≡ n - split_of n = omega (arith, h.value, h.most) in
    let old : part.old ≡ calendar_tree image olds (first + half) (c.args.old - half + 1) = one.right ∙ sym (ap (λ (y : ℕ). calendar_tree image olds y (c.args.old - half + 1)) at_old ∙ ap (calendar_tree image olds (first + split_of m)) rest_old) in
    let new : part.new ≡ calendar_tree image news (first + half) (c.args.new - half + 1) = two.right ∙ sym (ap (λ (y : ℕ). calendar_tree image news y (c.args.new - half + 1)) at_new ∙ ap (calendar_tree image news (first + split_of n)) rest_new) in
    let count = count_down_right c.one_split.ensures.split m n half (c.args.old - half + 1) (c.args.new - half + 1) true h.value (omega (arith, c.if-old-half.false)) (omega (arith, c.requires.within, c.if-old-new.false)) (omega (arith, c.if-old-half.false)) (omega (arith, h.most)) in
    let less = given_fewer (c.args.old - half + 1) (c.args.new - half + 1) in (
      omega (arith, h.most, some),
      (
        search rules,
        (
          omega (arith, c.requires.within),
          (
            right_part (c.args.two.now.old.last + 1) first m (first + half) (c.args.old - half + 1) c.requires.old_part (λ e. omega (arith, e, some, c.if-old-half.false)) at_old rest_old,
            (
              right_part (c.args.two.now.new.last + 1) first n (first + half) (c.args.new - half + 1) c.requires.new_part (λ e. omega (arith, e, some, h.most)) at_new rest_new,
              (
                omega (arith, c.if-two-first.false, c.requires.from),
                (omega (arith, c.requires.to, c.if-two-first.false, c.if-old-half.false), (omega (arith, c.requires.enough, count, less, c.in-Some.ensures.cases.1), (λ text has. c.requires.texts text (right_behind image c.args.two.now.given m n half c.args.front.now c.in-Some.last.1.now x c.in-Some.ensures.cases.0 (λ e. c.if-old-new.false (omega (arith, e))) h.value text (c.args.old - half + 1) (c.args.new - half + 1) part c.check_part-part-else-old-half.ensures (omega (arith, c.if-old-half.false)) (omega (arith, c.if-old-half.false)) (omega (arith, h.most)) has), sym c.check_part-part-else-old-half.ensures ∙ (λ i. record { old = old i; new = new i })))),
              ),
            ),
          ),
        ),
      ),
    )

-- ---- a string differs

pub returns-in-Some-2-clause-shown : goal.returns-in-Some-2-clause-shown
returns-in-Some-2-clause-shown g t c =
    let image = g.C.Compress.image in
    let two = c.args.two.now in
    let clash = c.in-Some-2.clash in
    let x = c.in-Some.last.0.now in
    let part = c.check_part-part.result in
    let said = c.in_ok-clash.ensures in
    let h = c.high_bit-half.ensures in
    record {
      nodes = on_some c.in_ok-clash.field-0 clash (IsNodeClash image) c.in-Some-2.is said.clash;
      shown = inr (c.requires.texts clash.one (left_first image two.given (c.args.old + 1) (c.args.new + 1) (c.high_bit-half.result - 1 + 1) c.args.front.now c.in-Some.last.1.now x c.in-Some.ensures.cases.0 (λ e. c.if-old-new.false (omega (arith, e))) (omega (arith, h.value, c.if-old-half.true)) clash.one part c.check_part-part.ensures (omega (arith, c.if-old-half.true))
          (on_some c.in_ok-clash.field-0 clash (λ (clash : Clash). clash.one ≡ calendar_join_text part.new x) c.in-Some-2.is said.one)));
      kept = inr (on_some c.in_ok-clash.field-0 clash (λ (clash : Clash). IsKeptText image two.new.calendar.now two.new.last clash.two) c.in-Some-2.is said.two);
    }

pub returns-in-Some-3-clause-shown : goal.returns-in-Some-3-clause-shown
returns-in-Some-3-clause-shown g t c =
    let image = g.C.Compress.image in
    let two = c.args.two.now in
    let clash = c.in-Some-3.clash in
    let x = c.in-Some.last.0.now in
    let part = c.check_part-part-else-old-half.result in
    let said = c.in_ok-clash-2.ensures in
    let h = c.high_bit-half.ensures in
    let half = c.high_bit-half.result in
    record {
      nodes = on_some c.in_ok-clash-2.field-0 clash (IsNodeClash image) c.in-Some-3.is said.clash;
      shown = inr (c.requires.texts clash.one (right_old image two.given (c.args.old + 1) (c.args.new + 1) half c.args.front.now c.in-Some.last.1.now x c.in-Some.ensures.cases.0 (λ e. c.if-old-new.false (omega (arith, e))) h.value clash.one (c.args.old - half + 1) (c.args.new - half + 1) part c.check_part-part-else-old-half.ensures (omega (arith, c.if-old-half.false)) (omega (arith, c.if-old-half.false)) (omega (arith, h.most))
          (on_some c.in_ok-clash-2.field-0 clash (λ (clash : Clash). clash.one ≡ calendar_join_text x part.old) c.in-Some-3.is said.one)));
      kept = inl (on_some c.in_ok-clash-2.field-0 clash (λ (clash : Clash). IsKeptText image two.old.calendar.now two.old.last clash.two) c.in-Some-3.is said.two);
    }

pub returns-in-Some-4-clause-shown : goal.returns-in-Some-4-clause-shown
returns-in-Some-4-clause-shown g t c =
    let image = g.C.Compress.image in
    let two = c.args.two.now in
    let clash = c.in-Some-4.clash in
    let x = c.in-Some.last.0.now in
    let part = c.check_part-part-else-old-half.result in
    let said = c.in_ok-clash-3.ensures in
    let h = c.high_bit-half.ensures in
    let half = c.high_bit-half.result in
    record {
      nodes = on_some c.in_ok-clash-3.field-0 clash (IsNodeClash image) c.in-Some-4.is said.clash;
      shown = inr (c.requires.texts clash.one (right_new image two.given (c.args.old + 1) (c.args.new + 1) half c.args.front.now c.in-Some.last.1.now x c.in-Some.ensures.cases.0 (λ e. c.if-old-new.false (omega (arith, e))) h.value clash.one (c.args.old - half + 1) (c.args.new - half + 1) part c.check_part-part-else-old-half.ensures (omega (arith, c.if-old-half.false)) (omega (arith, c.if-old-half.false)) (omega (arith, h.most))
          (on_some c.in_ok-clash-3.field-0 clash (λ (clash : Clash). clash.one ≡ calendar_join_text x part.new) c.in-Some-4.is said.one)));
      kept = inr (on_some c.in_ok-clash-3.field-0 clash (λ (clash : Clash). IsKeptText image two.new.calendar.now two.new.last clash.two) c.in-Some-4.is said.two);
    }

-- ---- which clash it is

pub returns-in-None-clause-which : goal.returns-in-None-clause-which
returns-in-None-clause-which g t c =
    let image = g.C.Compress.image in
    let two = c.args.two.now in
    let olds = two.old.calendar.now in
    let news = two.new.calendar.now in
    let given = two.given in
    let second = two.second in
    let first = c.args.first in
    let m = c.args.old + 1 in
    let n = c.args.new + 1 in
    finding.same_clash c.clash_below.result (clash_to image olds news second first m) (front_clash image olds news given second first m n (reverse c.args.front.now)) c.clash_below.ensures.which
    (sym (finding.front_none image olds news given second first m n c.args.front.now c.in-None.ensures.cases))

pub returns-then-old-new-clause-which : goal.returns-then-old-new-clause-which
returns-then-old-new-clause-which g t c =
    let image = g.C.Compress.image in
    let two = c.args.two.now in
    let olds = two.old.calendar.now in
    let news = two.new.calendar.now in
    let given = two.given in
    let second = two.second in
    let first = c.args.first in
    let m = c.args.old + 1 in
    let n = c.args.new + 1 in
    finding.same_clash c.clash_below-then-old-new.result (clash_to image olds news second first m) (front_clash image olds news given second first m n (reverse c.args.front.now)) c.clash_below-then-old-new.ensures.which
    (sym (finding.front_all image olds news given second first m n c.args.front.now c.in-Some.last.1.now c.in-Some.last.0.now c.in-Some.ensures.cases.0 (omega (arith, c.if-old-new.true))))

pub returns-in-Some-2-clause-which : goal.returns-in-Some-2-clause-which
returns-in-Some-2-clause-which g t c =
    let image = g.C.Compress.image in
    let two = c.args.two.now in
    let olds = two.old.calendar.now in
    let news = two.new.calendar.now in
    let given = two.given in
    let second = two.second in
    let first = c.args.first in
    let m = c.args.old + 1 in
    let n = c.args.new + 1 in
    let x = c.in-Some.last.0.now in
    let inner = c.in-Some.last.1.now in
    let is = c.in-Some.ensures.cases.0 in
    let h = c.high_bit-half.ensures in
    let half = c.high_bit-half.result in
    let k = half - 1 + 1 in
    let part = c.check_part-part.result in
    let step = finding.front_left image olds news given second first m n c.args.front.now inner x is k (λ e. c.if-old-new.false (omega (arith, e))) (omega (arith, h.value, c.if-old-half.true)) (omega (arith, c.if-old-half.true)) in
    let led : calendar_join_text part.new x ≡ calendar_join_text (roots_from image given m k (reverse inner)).new x = ap (λ (r : Roots). calendar_join_text r.new x) c.check_part-part.ensures in
    let one = calendar_join_text (roots_from image given m k (reverse inner)).new x in
    let other = part_text image news first n in
    let below = front_clash image olds news given second first m k (reverse inner) in
    let clash = c.in-Some-2.clash in
    let said = c.in_ok-clash.ensures in
    let found = c.in_ok-clash.field-0 in
    let nodes = on_some found clash (IsNodeClash image) c.in-Some-2.is said.clash in
    let first_text = on_some found clash (λ (clash : Clash). clash.one ≡ calendar_join_text part.new x) c.in-Some-2.is said.one in
    let other_text = on_some found clash (λ (clash : Clash). clash.two ≡ part_text image news first n) c.in-Some-2.is said.text in
    finding.apart one other below clash (first_text ∙ led) other_text nodes.strings.differ ∙ sym step

pub returns-in-None-2-clause-which : goal.returns-in-None-2-clause-which
returns-in-None-2-clause-which g t c =
    let image = g.C.Compress.image in
    let two = c.args.two.now in
    let olds = two.old.calendar.now in
    let news = two.new.calendar.now in
    let given = two.given in
    let second = two.second in
    let first = c.args.first in
    let m = c.args.old + 1 in
    let n = c.args.new + 1 in
    let x = c.in-Some.last.0.now in
    let inner = c.in-Some.last.1.now in
    let is = c.in-Some.ensures.cases.0 in
    let h = c.high_bit-half.ensures in
    let half = c.high_bit-half.result in
    let k = half - 1 + 1 in
    let part = c.check_part-part.result in
    let step = finding.front_left image olds news given second first m n c.args.front.now inner x is k (λ e. c.if-old-new.false (omega (arith, e))) (omega (arith, h.value, c.if-old-half.true)) (omega (arith, c.if-old-half.true)) in
    let led : calendar_join_text part.new x ≡ calendar_join_text (roots_from image given m k (reverse inner)).new x = ap (λ (r : Roots). calendar_join_text r.new x) c.check_part-part.ensures in
    let one = calendar_join_text (roots_from image given m k (reverse inner)).new x in
    let other = part_text image news first n in
    let below = front_clash image olds news given second first m k (reverse inner) in
    let halves = on_none c.in_ok-clash.field-0 (IsHalves (record { left = part.new; right = x }) (calendar_tree image news first (split_of n)) (calendar_tree image news (first + split_of n) (n - split_of n))) c.in-None-2.is c.in_ok-clash.ensures.none in
    let same : one ≡ other = sym led ∙ finding.text_of image news first n (record { left = part.new; right = x }) halves.left halves.right in
    finding.same_clash c.clash_in_front.result below (front_clash image olds news given second first m n (reverse c.args.front.now)) c.clash_in_front.ensures.which
    (sym (finding.passed one other below same) ∙ sym step)

pub returns-in-Some-3-clause-which : goal.returns-in-Some-3-clause-which
returns-in-Some-3-clause-which g t c =
    let image = g.C.Compress.image in
    let two = c.args.two.now in
    let olds = two.old.calendar.now in
    let news = two.new.calendar.now in
    let given = two.given in
    let second = two.second in
    let first = c.args.first in
    let m = c.args.old + 1 in
    let n = c.args.new + 1 in
    let x = c.in-Some.last.0.now in
    let inner = c.in-Some.last.1.now in
    let is = c.in-Some.ensures.cases.0 in
    let h = c.high_bit-half.ensures in
    let half = c.high_bit-half.result in
    let a = c.args.old - half + 1 in
    let b = c.args.new - half + 1 in
    let part = c.check_part-part-else-old-half.result in
    let inside = roots_from image given a b (reverse inner) in
    let below = finding.further image olds news given second first half a b (reverse inner) in
    let step = finding.front_right image olds news given second first m n c.args.front.now inner x is half a b (λ e. c.if-old-new.false (omega (arith, e))) h.value (omega (arith, c.if-old-half.false)) (omega (arith, c.if-old-half.false)) (omega (arith, h.most)) in
    let led_old : calendar_join_text x part.old ≡ calendar_join_text x inside.old = ap (λ (r : Roots). calendar_join_text x r.old) c.check_part-part-else-old-half.ensures in
    let led_new : calendar_join_text x part.new ≡ calendar_join_text x inside.new = ap (λ (r : Roots). calendar_join_text x r.new) c.check_part-part-else-old-half.ensures in
    let lower = or_below (calendar_join_text x inside.new) (part_text image news first n) below in
    let clash = c.in-Some-3.clash in
    let said = c.in_ok-clash-2.ensures in
    let found = c.in_ok-clash-2.field-0 in
    let nodes = on_some found clash (IsNodeClash image) c.in-Some-3.is said.clash in
    let first_text = on_some found clash (λ (clash : Clash). clash.one ≡ calendar_join_text x part.old) c.in-Some-3.is said.one in
    let other_text = on_some found clash (λ (clash : Clash). clash.two ≡ part_text image olds first m) c.in-Some-3.is said.text in
    finding.apart (calendar_join_text x inside.old) (part_text image olds first m) lower clash (first_text ∙ led_old) other_text nodes.strings.differ ∙ sym step

pub returns-in-Some-4-clause-which : goal.returns-in-Some-4-clause-which
returns-in-Some-4-clause-which g t c =
    let image = g.C.Compress.image in
    let two = c.args.two.now in
    let olds = two.old.calendar.now in
    let news = two.new.calendar.now in
    let given = two.given in
    let second = two.second in
    let first = c.args.first in
    let m = c.args.old + 1 in
    let n = c.args.new + 1 in
    let x = c.in-Some.last.0.now in
    let inner = c.in-Some.last.1.now in
    let is = c.in-Some.ensures.cases.0 in
    let h = c.high_bit-half.ensures in
    let half = c.high_bit-half.result in
    let a = c.args.old - half + 1 in
    let b = c.args.new - half + 1 in
    let part = c.check_part-part-else-old-half.result in
    let inside = roots_from image given a b (reverse inner) in
    let below = finding.further image olds news given second first half a b (reverse inner) in
    let step = finding.front_right image olds news given second first m n c.args.front.now inner x is half a b (λ e. c.if-old-new.false (omega (arith, e))) h.value (omega (arith, c.if-old-half.false)) (omega (arith, c.if-old-half.false)) (omega (arith, h.most)) in
    let led_old : calendar_join_text x part.old ≡ calendar_join_text x inside.old = ap (λ (r : Roots). calendar_join_text x r.old) c.check_part-part-else-old-half.ensures in
    let led_new : calendar_join_text x part.new ≡ calendar_join_text x inside.new = ap (λ (r : Roots). calendar_join_text x r.new) c.check_part-part-else-old-half.ensures in
    let lower = or_below (calendar_join_text x inside.new) (part_text image news first n) below in
    let halves_old = on_none c.in_ok-clash-2.field-0 (IsHalves (record { left = x; right = part.old }) (calendar_tree image olds first (split_of m)) (calendar_tree image olds (first + split_of m) (m - split_of m))) c.in-None-3.is c.in_ok-clash-2.ensures.none in
    let same_old : calendar_join_text x inside.old ≡ part_text image olds first m = sym led_old ∙ finding.text_of image olds first m (record { left = x; right = part.old }) halves_old.left halves_old.right in
    let up_old = sym (finding.passed (calendar_join_text x inside.old) (part_text image olds first m) lower same_old) ∙ sym step in
    let clash = c.in-Some-4.clash in
    let said = c.in_ok-clash-3.ensures in
    let found = c.in_ok-clash-3.field-0 in
    let nodes = on_some found clash (IsNodeClash image) c.in-Some-4.is said.clash in
    let first_text = on_some found clash (λ (clash : Clash). clash.one ≡ calendar_join_text x part.new) c.in-Some-4.is said.one in
    let other_text = on_some found clash (λ (clash : Clash). clash.two ≡ part_text image news first n) c.in-Some-4.is said.text in
    finding.apart (calendar_join_text x inside.new) (part_text image news first n) below clash (first_text ∙ led_new) other_text nodes.strings.differ ∙ up_old

pub returns-then-two-first-clause-which : goal.returns-then-two-first-clause-which
returns-then-two-first-clause-which g t c =
    let image = g.C.Compress.image in
    let two = c.args.two.now in
    let olds = two.old.calendar.now in
    let news = two.new.calendar.now in
    let given = two.given in
    let second = two.second in
    let first = c.args.first in
    let m = c.args.old + 1 in
    let n = c.args.new + 1 in
    let x = c.in-Some.last.0.now in
    let inner = c.in-Some.last.1.now in
    let is = c.in-Some.ensures.cases.0 in
    let h = c.high_bit-half.ensures in
    let half = c.high_bit-half.result in
    let a = c.args.old - half + 1 in
    let b = c.args.new - half + 1 in
    let part = c.check_part-part-else-old-half.result in
    let inside = roots_from image given a b (reverse inner) in
    let below = finding.further image olds news given second first half a b (reverse inner) in
    let step = finding.front_right image olds news given second first m n c.args.front.now inner x is half a b (λ e. c.if-old-new.false (omega (arith, e))) h.value (omega (arith, c.if-old-half.false)) (omega (arith, c.if-old-half.false)) (omega (arith, h.most)) in
    let led_old : calendar_join_text x part.old ≡ calendar_join_text x inside.old = ap (λ (r : Roots). calendar_join_text x r.old) c.check_part-part-else-old-half.ensures in
    let led_new : calendar_join_text x part.new ≡ calendar_join_text x inside.new = ap (λ (r : Roots). calendar_join_text x r.new) c.check_part-part-else-old-half.ensures in
    let lower = or_below (calendar_join_text x inside.new) (part_text image news first n) below in
    let halves_old = on_none c.in_ok-clash-2.field-0 (IsHalves (record { left = x; right = part.old }) (calendar_tree image olds first (split_of m)) (calendar_tree image olds (first + split_of m) (m - split_of m))) c.in-None-3.is c.in_ok-clash-2.ensures.none in
    let same_old : calendar_join_text x inside.old ≡ part_text image olds first m = sym led_old ∙ finding.text_of image olds first m (record { left = x; right = part.old }) halves_old.left halves_old.right in
    let up_old = sym (finding.passed (calendar_join_text x inside.old) (part_text image olds first m) lower same_old) ∙ sym step in
    let halves_new = on_none c.in_ok-clash-3.field-0 (IsHalves (record { left = x; right = part.new }) (calendar_tree image news first (split_of n)) (calendar_tree image news (first + split_of n) (n - split_of n))) c.in-None-4.is c.in_ok-clash-3.ensures.none in
    let same_new : calendar_join_text x inside.new ≡ part_text image news first n = sym led_new ∙ finding.text_of image news first n (record { left = x; right = part.new }) halves_new.left halves_new.right in
    let up_new = sym (finding.passed (calendar_join_text x inside.new) (part_text image news first n) below same_new) ∙ up_old in
    let size : half - 1 + 1 ≡ half = omega (arith, h.greatest) in
    let back = sym (finding.before_split (second - first) half (clash_to image olds news second first half) (front_clash image olds news given second (first + half) a b (reverse inner)) (omega (arith, c.if-two-first.true))) in
    finding.same_clash c.clash_below-then-two-first.result (clash_to image olds news second first (half - 1 + 1)) (front_clash image olds news given second first m n (reverse c.args.front.now)) c.clash_below-then-two-first.ensures.which
    (ap (clash_to image olds news second first) size ∙ back ∙ up_new)

pub returns-else-two-first-clause-which : goal.returns-else-two-first-clause-which
returns-else-two-first-clause-which g t c =
    let image = g.C.Compress.image in
    let two = c.args.two.now in
    let olds = two.old.calendar.now in
    let news = two.new.calendar.now in
    let given = two.given in
    let second = two.second in
    let first = c.args.first in
    let m = c.args.old + 1 in
    let n = c.args.new + 1 in
    let x = c.in-Some.last.0.now in
    let inner = c.in-Some.last.1.now in
    let is = c.in-Some.ensures.cases.0 in
    let h = c.high_bit-half.ensures in
    let half = c.high_bit-half.result in
    let a = c.args.old - half + 1 in
    let b = c.args.new - half + 1 in
    let part = c.check_part-part-else-old-half.result in
    let inside = roots_from image given a b (reverse inner) in
    let below = finding.further image olds news given second first half a b (reverse inner) in
    let step = finding.front_right image olds news given second first m n c.args.front.now inner x is half a b (λ e. c.if-old-new.false (omega (arith, e))) h.value (omega (arith, c.if-old-half.false)) (omega (arith, c.if-old-half.false)) (omega (arith, h.most)) in
    let led_old : calendar_join_text x part.old ≡ calendar_join_text x inside.old = ap (λ (r : Roots). calendar_join_text x r.old) c.check_part-part-else-old-half.ensures in
    let led_new : calendar_join_text x part.new ≡ calendar_join_text x inside.new = ap (λ (r : Roots). calendar_join_text x r.new) c.check_part-part-else-old-half.ensures in
    let lower = or_below (calendar_join_text x inside.new) (part_text image news first n) below in
    let halves_old = on_none c.in_ok-clash-2.field-0 (IsHalves (record { left = x; right = part.old }) (calendar_tree image olds first (split_of m)) (calendar_tree image olds (first + split_of m) (m - split_of m))) c.in-None-3.is c.in_ok-clash-2.ensures.none in
    let same_old : calendar_join_text x inside.old ≡ part_text image olds first m = sym led_old ∙ finding.text_of image olds first m (record { left = x; right = part.old }) halves_old.left halves_old.right in
    let up_old = sym (finding.passed (calendar_join_text x inside.old) (part_text image olds first m) lower same_old) ∙ sym step in
    let halves_new = on_none c.in_ok-clash-3.field-0 (IsHalves (record { left = x; right = part.new }) (calendar_tree image news first (split_of n)) (calendar_tree image news (first + split_of n) (n - split_of n))) c.in-None-4.is c.in_ok-clash-3.ensures.none in
    let same_new : calendar_join_text x inside.new ≡ part_text image news first n = sym led_new ∙ finding.text_of image news first n (record { left = x; right = part.new }) halves_new.left halves_new.right in
    let up_new = sym (finding.passed (calendar_join_text x inside.new) (part_text image news first n) below same_new) ∙ up_old in
    let back = sym (finding.behind_split (second - first) half (clash_to image olds news second first half) (front_clash image olds news given second (first + half) a b (reverse inner)) (omega (arith, c.if-two-first.false))) in
    finding.same_clash c.clash_in_front-else-two-first.result (front_clash image olds news given second (first + half) a b (reverse inner)) (front_clash image olds news given second first m n (reverse c.args.front.now)) c.clash_in_front-else-two-first.ensures.which
    (back ∙ up_new)
