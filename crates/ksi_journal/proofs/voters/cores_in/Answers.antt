use Rattle.std.proofs.Common.{◌<◌, ◌++◌, ◌∷◌, [], List, ℕ, sym, ap, subst, ◌∙◌}
use Rattle.std.specs.List.{AllByRecursion}
use Rattle.std.proofs.lemmas.Bool.{eq-eqb, ne_eqb}
use Rattle.std.proofs.lemmas.Nat.Bits.{shr_and_one}
use Rattle.ksi_journal.specs.Voters.{is_bit}
use Rattle.ksi_journal.proofs.Bits.{filter_below, filter_in, filter_out}
use Rattle.ksi_journal.proofs.voters.cores_in.Goals as goal
use Rattle.ksi_journal.proofs.voters.cores_in.Goals.{then-bits-core-eq1, else-bits-core-eq1}

pub with-voters-requires-clause-above : goal.with-voters-requires-clause-above
with-voters-requires-clause-above c =
    subst (AllByRecursion (λ voter. voter < c.loop-core.core)) (sym c.loop-core.invariant) (filter_below (is_bit c.args.bits) c.loop-core.core)

pub loop-core-preserved : goal.loop-core-preserved
loop-core-preserved c =
    let core = c.loop-core.core in
    let same = shr_and_one c.args.bits core in
    elim c.if-bits-core-eq1.branch [
      | then-bits-core-eq1 w ↦
          w.voters-is ∙ w.with-voters.ensures ∙ ap (λ (xs : List ℕ). xs ++ core ∷ []) c.loop-core.invariant
          ∙ sym (filter_in (is_bit c.args.bits) core (eq-eqb _ 1 (sym same ∙ w.if-bits-core-eq1.true)))
      | else-bits-core-eq1 w ↦
          w.voters-is ∙ c.loop-core.invariant ∙ sym (filter_out (is_bit c.args.bits) core (ne_eqb _ 1 (λ e. w.if-bits-core-eq1.false (same ∙ e))))
    ]
