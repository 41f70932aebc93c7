use Rattle.std.proofs.Common.{◌≡◌, ℕ, List, ◌∙◌, ap, sym, subst, arith, length}
use Rattle.ksi_disk.specs.declared.ending.Ending.TheVariants.{Closed}
use Rattle.ksi_disk.specs.Gates.{reading_of}
use Rattle.ksi_nodestore.specs.Stores.{IsCoreOf}
use Rattle.ksi_nodestore.proofs.opening.find.Goals as goal

pub returns-in-Closed-clause-found : goal.returns-in-Closed-clause-found
returns-in-Closed-clause-found g c = λ file head fits records_is ending_is.
    let gate = c.in-Closed.gate in
    let closed : (reading_of 18 file).ending ≡ Closed gate = sym ending_is ∙ c.in-Closed.is in
    let inside = c.closed_gates_are_in_the_file.ensures 18 file gate closed in
    record {
      head = head;
      folded = subst (λ (rs : List (List ℕ)). IsCoreOf g.C.Compress.image c.args.me c.args.plan.now rs c.in_ok-core.core) records_is c.in_ok-core.ensures;
      closed = closed;
      within = omega (arith, inside, fits);
      counted = omega (arith, c.len-records.ensures, ap length records_is);
    }
