use Rattle.std.proofs.Common.{◌≡◌, ℕ, zero, suc, ◌+◌, true, eqb, List, [], ◌∷◌, ◌++◌, length, drop, refl, sym, ap, subst, ◌∙◌, arith, append_assoc, length-append}
use Rattle.std.specs.List.{AllByRecursion}
use Rattle.std.proofs.lemmas.Bool.{eq-eqb}
use Rattle.std.proofs.lemmas.List.{drop_more}
use Rattle.ksi_calendar.specs.Calendar.{Seconds}
use Rattle.ksi_aggtree.specs.declared.second.Second.{Second}
use Rattle.ksi_journal.specs.Journal.{IsSecond}
use Rattle.ksi_journal.specs.Calendar.{roots_from}
use Rattle.ksi_journal.proofs.calendar.add_roots.Invariants.{Adding}
use Rattle.ksi_journal.proofs.calendar.add_roots.Goals as goal

each_left : {A : Type 0} (P : A → Type 0) (k : ℕ) (xs : List A) → AllByRecursion P xs → AllByRecursion P (drop k xs)
each_left P zero xs all = all
each_left P (suc k) [] all = tt
each_left P (suc k) (x ∷ xs) all = each_left P k xs all.1

-- one second more
root_added : (image : List ℕ → List ℕ) (start : ℕ) (old new : Seconds) (left others : List Second) (kept : Second) (all : List (List ℕ)) → left ≡ kept ∷ others → AllByRecursion (IsSecond image) left
    → kept.second ≡ start + length old.roots → new ≡ record { start = old.start; roots = old.roots ++ kept.root ∷ [] } → Adding start old (roots_from (start + length old.roots) left) all
    → Adding start new (roots_from (start + length new.roots) others) all
root_added image start old new left others kept all is each at next so =
    let kept_is : AllByRecursion (IsSecond image) (kept ∷ others) = subst (AllByRecursion (IsSecond image)) is each in
    let early = kept_is.0.early in
    let first = so.first in
    let here : eqb kept.second (start + length old.roots) ≡ true = eq-eqb kept.second (start + length old.roots) at in
    let split : roots_from (start + length old.roots) left ≡ kept.root ∷ roots_from (start + length old.roots + 1) others = ap (roots_from (start + length old.roots)) is ∙ rw here refl in
    let size = length-append old.roots (kept.root ∷ []) in
    let count : start + length (old.roots ++ kept.root ∷ []) ≡ start + length old.roots + 1 = omega (arith, size) in
    subst (λ (n : Seconds). Adding start n (roots_from (start + length n.roots) others) all) (sym next) (record {
      first = first;
      early = omega (arith, early, at, first, size);
      whole =
          append_assoc old.roots (kept.root ∷ []) (roots_from (start + length (old.roots ++ kept.root ∷ [])) others)
          ∙ ap (λ (n : ℕ). old.roots ++ kept.root ∷ roots_from n others) count ∙ ap (λ (roots : List (List ℕ)). old.roots ++ roots) (sym split) ∙ so.whole;
    })

pub adding-preserved : goal.adding-preserved
adding-preserved g c =
    let image = g.C.Compress.image in
    let k = c.adding.kept-index in
    let left = drop_more c.args.seconds.now k c.kept-item.result c.adding-test.true ∙ ap (λ (s : Second). s ∷ drop (k + 1) c.args.seconds.now) (sym c.kept-item.is) in
    root_added image c.args.start c.adding.calendar c.append.new.self (drop k c.args.seconds.now) (drop (k + 1) c.args.seconds.now) c.kept-item.result _ left
    (each_left (IsSecond image) k c.args.seconds.now c.requires.early) (let at = c.if-kept-start.false in let count = c.count.ensures in omega (arith, at, count)) (c.in_ok-append.ensures.added) c.adding.invariant
