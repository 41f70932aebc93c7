use Rattle.std.proofs.Common.{◌≡◌, ◌+◌, ◌-◌, ℕ, ◌<◌, ap, sym, ◌∙◌, arith, rules}
use Rattle.ksi_split.specs.Powers.{split_of}
use Rattle.ksi_calendar.specs.Calendar.{calendar_tree}
use Rattle.ksi_consistency.specs.declared.halves.Halves.{Halves}
use Rattle.ksi_consistency.specs.Compared.{halves_text, IsNodeClash}
use Rattle.ksi_consistency.specs.Answering.{clash_to, part_text}
use Rattle.ksi_consistency.proofs.Finding.{Ways, apart, at_top, passed, same_clash, text_of, to_left, to_right}
use Rattle.ksi_consistency.proofs.Meeting.{all_three}
use Rattle.ksi_consistency.proofs.Parts.{left_part, right_part}
use Rattle.ksi_consistency.proofs.clashing.+clash_below.Goals as goal

pub clash_below-requires : goal.clash_below-requires
clash_below-requires g t c κs within =
    let image = g.C.Compress.image in
    let last = c.args.last in
    let first = c.args.first in
    let h = c.high_bit-half.ensures in
    let some : 0 < last = omega (arith, h.most, c.if-two-first.true) in
    let size : c.high_bit-half.result - 1 + 1 ≡ split_of (last + 1) = omega (arith, h.value, h.greatest, some) in
    let same : c.halves-old.result ≡ c.halves-new.result = c.is_same.ensures.0 c.if-not-is_same.false in
    let trees : calendar_tree image c.args.two.now.old.calendar.now first (c.high_bit-half.result - 1 + 1) ≡ calendar_tree image c.args.two.now.new.calendar.now first (c.high_bit-half.result - 1 + 1)
    = ap (calendar_tree image c.args.two.now.old.calendar.now first) size ∙ sym c.halves-old.ensures.left ∙ ap (λ (x : Halves). x.left) same ∙ c.halves-new.ensures.left ∙ ap (calendar_tree image c.args.two.now.new.calendar.now first) (sym size) in (
      omega (arith, h.most, some),
      (
        search rules,
        (
          left_part (c.args.two.now.old.last + 1) first (last + 1) (c.high_bit-half.result - 1 + 1) c.requires.old_part (λ e. omega (arith, e, some)) size,
          (
            left_part (c.args.two.now.new.last + 1) first (last + 1) (c.high_bit-half.result - 1 + 1) c.requires.new_part (λ e. omega (arith, e, some)) size,
            (c.requires.from, (omega (arith, c.if-two-first.true, c.requires.from), trees)),
          ),
        ),
      ),
    )

pub clash_below-requires-else-two-first : goal.clash_below-requires-else-two-first
clash_below-requires-else-two-first g t c κs within =
    let image = g.C.Compress.image in
    let last = c.args.last in
    let first = c.args.first in
    let half = c.high_bit-half.result in
    let h = c.high_bit-half.ensures in
    let some : 0 < half = omega (arith, h.greatest) in
    let at : first + half ≡ first + split_of (last + 1) = ap (λ (x : ℕ). first + x) h.value in
    let rest : last - half + 1 ≡ last + 1 - split_of (last + 1) = omega (arith, h.value, h.most) in
    let tree_at = λ (x y : ℕ). calendar_tree image c.args.two.now.old.calendar.now x y in
    let same : c.halves-old.result ≡ c.halves-new.result = c.is_same.ensures.0 c.if-not-is_same.false in
    let trees : calendar_tree image c.args.two.now.old.calendar.now (first + half) (last - half + 1) ≡ calendar_tree image c.args.two.now.new.calendar.now (first + half) (last - half + 1)
    = rw (at, rest) (sym c.halves-old.ensures.right ∙ ap (λ (x : Halves). x.right) same ∙ c.halves-new.ensures.right) in (
      omega (arith, h.most, some),
      (
        search rules,
        (
          right_part (c.args.two.now.old.last + 1) first (last + 1) (first + half) (last - half + 1) c.requires.old_part (λ e. omega (arith, e, some, h.most)) at rest,
          (
            right_part (c.args.two.now.new.last + 1) first (last + 1) (first + half) (last - half + 1) c.requires.new_part (λ e. omega (arith, e, some, h.most)) at rest,
            (omega (arith, c.if-two-first.false, c.requires.from), (omega (arith, c.requires.to, h.most, c.if-two-first.false), trees)),
          ),
        ),
      ),
    )

-- ---- which clash it is

pub returns-then-not-is_same-clause-which : goal.returns-then-not-is_same-clause-which
returns-then-not-is_same-clause-which g t c =
    let image = g.C.Compress.image in
    let olds = c.args.two.now.old.calendar.now in
    let news = c.args.two.now.new.calendar.now in
    let first = c.args.first in
    let n = c.args.last + 1 in
    let h = c.high_bit-half.ensures in
    let ways : Ways = record { left = c.one_way.ensures.left; right = c.one_way.ensures.right } in
    let top = at_top image olds news ways c.args.two.now.second first n (omega (arith, h.most, h.greatest)) in
    all_three c.clash_of.result (IsNodeClash image) (λ clash. clash.one ≡ halves_text c.halves-old.result) (λ clash. clash.two ≡ halves_text c.halves-new.result)
    (λ clash. clash ≡ clash_to image olds news c.args.two.now.second first n)
    c.clash_of.ensures.clash c.clash_of.ensures.one c.clash_of.ensures.two
    (λ clash nodes one two. apart (part_text image olds first n) (part_text image news first n) top.0 clash
    (one ∙ text_of image olds first n c.halves-old.result c.halves-old.ensures.left c.halves-old.ensures.right)
    (two ∙ text_of image news first n c.halves-new.result c.halves-new.ensures.left c.halves-new.ensures.right) nodes.strings.differ ∙ sym top.1)

pub returns-then-two-first-clause-which : goal.returns-then-two-first-clause-which
returns-then-two-first-clause-which g t c =
    let image = g.C.Compress.image in
    let olds = c.args.two.now.old.calendar.now in
    let news = c.args.two.now.new.calendar.now in
    let second = c.args.two.now.second in
    let first = c.args.first in
    let n = c.args.last + 1 in
    let h = c.high_bit-half.ensures in
    let ways : Ways = record { left = c.one_way.ensures.left; right = c.one_way.ensures.right } in
    let size : c.high_bit-half.result - 1 + 1 ≡ split_of n = omega (arith, h.value, h.most, h.greatest) in
    let same : c.halves-old.result ≡ c.halves-new.result = c.is_same.ensures.0 c.if-not-is_same.false in
    let texts : part_text image olds first n ≡ part_text image news first n
    = sym (text_of image olds first n c.halves-old.result c.halves-old.ensures.left c.halves-old.ensures.right) ∙ ap halves_text same ∙ text_of image news first n c.halves-new.result c.halves-new.ensures.left c.halves-new.ensures.right in
    same_clash c.clash_below.result (clash_to image olds news second first (c.high_bit-half.result - 1 + 1)) (clash_to image olds news second first n) c.clash_below.ensures.which
    (ap (clash_to image olds news second first) size
    ∙ sym (passed (part_text image olds first n) (part_text image news first n) (clash_to image olds news second first (split_of n)) texts)
    ∙ sym (to_left image olds news ways second first n (omega (arith, h.most, h.greatest)) (omega (arith, c.if-two-first.true, h.value))))

pub returns-else-two-first-clause-which : goal.returns-else-two-first-clause-which
returns-else-two-first-clause-which g t c =
    let image = g.C.Compress.image in
    let olds = c.args.two.now.old.calendar.now in
    let news = c.args.two.now.new.calendar.now in
    let second = c.args.two.now.second in
    let first = c.args.first in
    let last = c.args.last in
    let n = last + 1 in
    let half = c.high_bit-half.result in
    let h = c.high_bit-half.ensures in
    let ways : Ways = record { left = c.one_way.ensures.left; right = c.one_way.ensures.right } in
    let at : first + half ≡ first + split_of n = ap (λ (x : ℕ). first + x) h.value in
    let rest : last - half + 1 ≡ n - split_of n = omega (arith, h.value, h.most) in
    let same : c.halves-old.result ≡ c.halves-new.result = c.is_same.ensures.0 c.if-not-is_same.false in
    let texts : part_text image olds first n ≡ part_text image news first n
    = sym (text_of image olds first n c.halves-old.result c.halves-old.ensures.left c.halves-old.ensures.right) ∙ ap halves_text same ∙ text_of image news first n c.halves-new.result c.halves-new.ensures.left c.halves-new.ensures.right in
    same_clash c.clash_below-else-two-first.result (clash_to image olds news second (first + half) (last - half + 1)) (clash_to image olds news second first n) c.clash_below-else-two-first.ensures.which
    (ap (λ (x : ℕ). clash_to image olds news second x (last - half + 1)) at ∙ ap (clash_to image olds news second (first + split_of n)) rest
    ∙ sym (passed (part_text image olds first n) (part_text image news first n) (clash_to image olds news second (first + split_of n) (n - split_of n)) texts)
    ∙ sym (to_right image olds news ways second first n (omega (arith, h.most, h.greatest)) (omega (arith, c.if-two-first.false, h.value))))
