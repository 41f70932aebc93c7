use Rattle.std.proofs.Common.{◌≡◌, ◌∙◌, ◌+◌, ◌*◌, ◌-◌, ℕ, List, take, drop, Ok, Err, ap, sym, subst, arith, length, length-append, ◌∷◌, []}
use Rattle.std.proofs.lemmas.List.{drop-drop}
use Rattle.ksi_imprint.specs.Reading.{imprint_at}
use Rattle.std.specs.List.{AllByRecursion}
use Rattle.ksi_imprint.specs.Imprints.{IsImprint}
use Rattle.ksi_calendar_files.proofs.Roots.{next_root, no_root, one_more}
use Rattle.ksi_calendar_files.proofs.reader.read_roots.Goals as goal

pub returns-in-Err-clause-fault : goal.returns-in-Err-clause-fault
returns-in-Err-clause-fault c =
    let done = c.reading.done in
    let rest = drop (33 * done) c.args.bytes.now in
    let one : imprint_at (take 33 rest) ≡ Err c.in-Err.field-0 = ap (λ (l : List ℕ). imprint_at (take 33 l)) (sym c.split_at.ensures.back) ∙ ap imprint_at (sym c.split_at-in-reading.ensures.front) ∙ sym c.read.ensures ∙ c.in-Err.is in
    c.reading.invariant.so_far ∙ no_root c.reading.roots.items (61 + 33 * done) (c.args.count - done) (c.args.count - (done + 1)) rest c.in-Err.field-0 (omega arith) one

pub reading-preserved : goal.reading-preserved
reading-preserved c =
    let done = c.reading.done in
    let rest = drop (33 * done) c.args.bytes.now in
    let root = c.in-Ok.root in
    let one : imprint_at (take 33 rest) ≡ Ok root = ap (λ (l : List ℕ). imprint_at (take 33 l)) (sym c.split_at.ensures.back) ∙ ap imprint_at (sym c.split_at-in-reading.ensures.front) ∙ sym c.read.ensures ∙ c.in-Ok.is in
    let place : 33 * (done + 1) ≡ 33 * done + 33 = omega arith in
    record {
      so_far = c.reading.invariant.so_far
          ∙ next_root c.reading.roots.items c.keep.new.roots.items (61 + 33 * done) (61 + 33 * (done + 1)) (c.args.count - done) (c.args.count - (done + 1)) rest (drop (33 * (done + 1)) c.args.bytes.now) root
          (omega arith) (omega arith) c.in_ok-keep-in-Ok.ensures.kept (ap (λ (n : ℕ). drop n c.args.bytes.now) place ∙ sym (drop-drop 33 (33 * done) c.args.bytes.now)) one;
      count = omega (arith, ap length c.in_ok-keep-in-Ok.ensures.kept, length-append c.reading.roots.items (root ∷ []), c.reading.invariant.count);
      imprints = subst (AllByRecursion IsImprint) (sym c.in_ok-keep-in-Ok.ensures.kept) (one_more c.reading.roots.items root c.reading.invariant.imprints c.in_ok-keep-in-Ok.ensures.imprint);
    }
