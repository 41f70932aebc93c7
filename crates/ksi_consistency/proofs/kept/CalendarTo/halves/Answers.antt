use Rattle.std.proofs.Common.{◌≡◌, ◌+◌, ◌-◌, ℕ, List, ap, sym, ◌∙◌, arith, refl}
use Rattle.ksi_split.specs.Powers.{split_of}
use Rattle.ksi_calendar.specs.Climbing.{calendar_join}
use Rattle.ksi_calendar.specs.Calendar.{calendar_tree}
use Rattle.ksi_consistency.proofs.Parts.{left_part, right_part, inside}
use Rattle.ksi_consistency.proofs.kept.CalendarTo.halves.Goals as goal

pub part-requires : goal.part-requires
part-requires g c = left_part (c.args.self.now.last + 1) c.args.first (c.args.last + 1) (c.high_bit-half.result - 1 + 1) c.requires.part (λ e. omega (arith, e, c.requires.some)) (omega (arith, c.high_bit-half.ensures.value, c.high_bit-half.ensures.greatest, c.requires.some))

pub overflow_add-first : goal.overflow_add-first
overflow_add-first g c = let fits = inside c.one_split.ensures.split (c.args.self.now.last + 1) c.args.first (c.args.last + 1) (omega arith) c.requires.part in omega (arith, fits, c.high_bit-half.ensures.most)

pub part-requires-2 : goal.part-requires-2
part-requires-2 g c = right_part (c.args.self.now.last + 1) c.args.first (c.args.last + 1) (c.args.first + c.high_bit-half.result) (c.args.last - c.high_bit-half.result + 1) c.requires.part (λ e. omega (arith, e, c.requires.some)) (ap (λ (x : ℕ). c.args.first + x) c.high_bit-half.ensures.value) (omega (arith, c.high_bit-half.ensures.value, c.high_bit-half.ensures.most))

pub returns-clause-left : goal.returns-clause-left
returns-clause-left g c =
    let size : c.high_bit-half.result - 1 + 1 ≡ split_of (c.args.last + 1) = omega (arith, c.high_bit-half.ensures.value, c.high_bit-half.ensures.greatest, c.requires.some) in
    c.part.ensures ∙ ap (calendar_tree g.C.Compress.image c.args.self.now.calendar.now c.args.first) size

pub returns-clause-right : goal.returns-clause-right
returns-clause-right g c =
    let image = g.C.Compress.image in
    let seconds = c.args.self.now.calendar.now in
    let from : c.args.first + c.high_bit-half.result ≡ c.args.first + split_of (c.args.last + 1) = ap (λ (x : ℕ). c.args.first + x) c.high_bit-half.ensures.value in
    let rest : c.args.last - c.high_bit-half.result + 1 ≡ c.args.last + 1 - split_of (c.args.last + 1) = omega (arith, c.high_bit-half.ensures.value, c.high_bit-half.ensures.most) in
    c.part-2.ensures ∙ ap (λ (x : ℕ). calendar_tree image seconds x (c.args.last - c.high_bit-half.result + 1)) from ∙ ap (calendar_tree image seconds (c.args.first + split_of (c.args.last + 1))) rest

pub returns-clause-joined : goal.returns-clause-joined
returns-clause-joined g c =
    let image = g.C.Compress.image in
    let seconds = c.args.self.now.calendar.now in
    let n = c.args.last + 1 in
    let k = split_of n in
    let lo = c.args.first in
    let size : c.high_bit-half.result - 1 + 1 ≡ k = omega (arith, c.high_bit-half.ensures.value, c.high_bit-half.ensures.greatest, c.requires.some) in
    let from : lo + c.high_bit-half.result ≡ lo + k = ap (λ (x : ℕ). lo + x) c.high_bit-half.ensures.value in
    let rest : c.args.last - c.high_bit-half.result + 1 ≡ n - k = omega (arith, c.high_bit-half.ensures.value, c.high_bit-half.ensures.most) in
    ap (λ (x : List ℕ). calendar_join image x c.part-2.result) (c.part.ensures ∙ ap (calendar_tree image seconds lo) size)
    ∙ ap (λ (x : List ℕ). calendar_join image (calendar_tree image seconds lo k) x) (c.part-2.ensures ∙ ap (λ (x : ℕ). calendar_tree image seconds x (c.args.last - c.high_bit-half.result + 1)) from ∙ ap (calendar_tree image seconds (lo + k)) rest)
    ∙ sym (c.one_calendar.ensures.cut image seconds lo n k ((c.one_split.ensures.split n k (omega (arith, c.requires.some))).1 refl))
