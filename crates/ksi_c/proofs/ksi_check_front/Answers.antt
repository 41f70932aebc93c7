use Rattle.std.proofs.Common.{◌≡◌, ◌∷◌, List, ℕ, Ok, subst}
use Rattle.std.specs.Prelude.{◌↔◌}
use Rattle.ksi_imprint.specs.Imprints.{imprint_of}
use Rattle.ksi_consistency.specs.Few.{IsFileBetween}
use Rattle.ksi_c.proofs.Deciding.{is_between}
use Rattle.ksi_c.proofs.ksi_check_front.Goals as goal

pub returns-clause-accepted : goal.returns-clause-accepted
returns-clause-accepted c =
    let told = is_between c.check_file-checked.result in
    let between = subst (λ (r2 : List ℕ). (c.check_file-checked.result ≡ Ok tt) ↔ IsFileBetween imprint_of c.args.p1 c.args.p2 (1 ∷ c.args.root1.now) r2 c.args.front.now) c.of_digest-r2.ensures
    (subst (λ (r1 : List ℕ). (c.check_file-checked.result ≡ Ok tt) ↔ IsFileBetween imprint_of c.args.p1 c.args.p2 r1 c.of_digest-r2.result c.args.front.now) c.of_digest-r1.ensures c.check_file-checked.ensures.accepted) in
    rw c.front_answered-told.ensures (λ is. between.0 (told.0 is), λ is. told.1 (between.1 is))
