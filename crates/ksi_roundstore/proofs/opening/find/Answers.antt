use Rattle.std.proofs.Common.{◌≡◌, ℕ, List, ◌∙◌, ap, sym, subst, arith, length}
use Rattle.ksi_disk.specs.declared.ending.Ending.TheVariants.{Closed}
use Rattle.ksi_disk.specs.Gates.{reading_of}
use Rattle.ksi_roundstore.specs.Folds.{IsAggregatorOf}
use Rattle.ksi_roundstore.proofs.opening.find.Goals as goal

pub returns-in-Closed-clause-found : goal.returns-in-Closed-clause-found
returns-in-Closed-clause-found g c = λ file head fits records_is ending_is.
    let gate = c.in-Closed.gate in
    let closed : (reading_of 20 file).ending ≡ Closed gate = sym ending_is ∙ c.in-Closed.is in
    let inside = c.closed_gates_are_in_the_file.ensures 20 file gate closed in
    record {
      head = head;
      folded = subst (λ (rs : List (List ℕ)). IsAggregatorOf c.args.plan.now c.args.me rs c.in_ok-aggregator.aggregator) records_is c.in_ok-aggregator.ensures;
      closed = closed;
      within = omega (arith, inside, fits);
      counted = omega (arith, c.len-records.ensures, ap length records_is);
    }
