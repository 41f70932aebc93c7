use Rattle.std.proofs.Common.{◌≡◌, inl, inr, ◌+◌, length, [], ◌∷◌, ◌∙◌, sym, ap, arith, Option, Some}
use Rattle.std.proofs.lemmas.Option.{none-some}
use Rattle.ksi_split.specs.declared.side.Side.TheVariants.{Left, Right}
use Rattle.ksi_split.specs.Upward.{node, halves}
use Rattle.ksi_split.proofs.Powers.{lt_cases, halves_rise, halves_quotient}
use Rattle.ksi_split.proofs.Upward.{link_right_at, link_left_at, link_border_at, link_none_at}
use Rattle.ksi_split.specs.Leaves.{leaf_of}
use Rattle.ksi_split.proofs.rows.Rows.link_up.Goals as goal

some_is : {A : Type 0} → (o : Option A) (x y : A) → o ≡ Some x → o ≡ Some y → x ≡ y
some_is o x y is wanted = cc (is, wanted)

pub part-requires-clause-within : goal.part-requires-clause-within
part-requires-clause-within g c =
    let rise = halves_rise c.args.level c.args.last (c.args.self.now.start + length c.args.self.now.items) (omega (arith, c.requires.covered)) in
    omega (arith, rise, c.requires.within, c.if-at-eq1.true)

pub part-requires-then-at-end-clause-within : goal.part-requires-then-at-end-clause-within
part-requires-then-at-end-clause-within g c =
    let rise = halves_rise c.args.level c.args.last (c.args.self.now.start + length c.args.self.now.items) (omega (arith, c.requires.covered)) in
    omega (arith, rise, halves_quotient c.args.level c.args.last, c.if-at-end.true)

pub returns-then-at-eq1-clause-link : goal.returns-then-at-eq1-clause-link
returns-then-at-eq1-clause-link g c =
    ap (λ (x : g.row.N.Denot). record { side = Right; sibling = x } ∷ []) c.part.ensures.part
    ∙ link_right_at g.J.Joins.joined (leaf_of c.args.self.now) c.args.last c.args.level c.args.at c.if-at-eq1.true c.requires.within

pub returns-then-at-end-clause-link : goal.returns-then-at-end-clause-link
returns-then-at-end-clause-link g c =
    let q = halves_quotient c.args.level c.args.last in
    ap (λ (x : g.row.N.Denot). record { side = Left; sibling = x } ∷ []) c.part-then-at-end.ensures.part
    ∙ link_left_at g.J.Joins.joined (leaf_of c.args.self.now) c.args.last c.args.level c.args.at c.if-at-eq1.false (omega (arith, q, c.if-at-end.true))

pub returns-then-at-end-clause-free : goal.returns-then-at-end-clause-free
returns-then-at-end-clause-free g c even last = absurd (omega (arith, last, halves_quotient c.args.level c.args.last, c.if-at-end.true))

pub returns-in-Some-clause-link : goal.returns-in-Some-clause-link
returns-in-Some-clause-link g c =
    let end = halves c.args.level c.args.last in
    let border = node g.J.Joins.joined (leaf_of c.args.self.now) c.args.last c.args.level end in
    elim (lt_cases c.args.at end) [
      | inl lt ↦ (let sibling : c.in-Some.sibling ≡ border = some_is c.args.border c.in-Some.sibling border c.in-Some.is (c.requires.border lt.1) in
          ap (λ (x : g.row.N.Denot). record { side = Left; sibling = x } ∷ []) sibling
          ∙ link_border_at g.J.Joins.joined (leaf_of c.args.self.now) c.args.last c.args.level c.args.at c.if-at-eq1.false (omega (arith, halves_quotient c.args.level c.args.last, c.if-at-end.false, lt.1)))
      | inr ge ↦ absurd (none-some c.in-Some.sibling (sym (c.requires.none ge.1) ∙ c.in-Some.is))
    ]

pub returns-in-Some-clause-read : goal.returns-in-Some-clause-read
returns-in-Some-clause-read g c above =
    elim (lt_cases c.args.at (halves c.args.level c.args.last)) [
      | inl lt ↦ absurd (omega (arith, above, lt.1, halves_quotient c.args.level c.args.last, c.if-at-end.false))
      | inr ge ↦ absurd (none-some c.in-Some.sibling (sym (c.requires.none ge.1) ∙ c.in-Some.is))
    ]

pub returns-in-None-clause-link : goal.returns-in-None-clause-link
returns-in-None-clause-link g c =
    let end = halves c.args.level c.args.last in
    elim (lt_cases c.args.at end) [
      | inl lt ↦ absurd (none-some (node g.J.Joins.joined (leaf_of c.args.self.now) c.args.last c.args.level end) (sym c.in-None.is ∙ c.requires.border lt.1))
      | inr ge ↦ link_none_at g.J.Joins.joined (leaf_of c.args.self.now) c.args.last c.args.level c.args.at c.if-at-eq1.false ge.1
    ]
