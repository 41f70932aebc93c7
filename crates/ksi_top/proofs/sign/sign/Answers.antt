use Rattle.std.proofs.Common.{ℕ, List, Option, Some, None, refl, arith, rules}
use Rattle.ksi_top.specs.Sign.{signature_of, signed}
use Rattle.ksi_top.proofs.Ends.{IsEnd, ends_as, nothing_of}
use Rattle.ksi_top.proofs.Performing.{halted_last, performed_last}
use Rattle.ksi_top.proofs.sign.sign.Goals as goal

signed_ends : (number : ℕ) (out : List ℕ) (signature : Option (List ℕ)) → IsEnd 1 (signed number out signature)
signed_ends number out (Some bytes) = record { judged = tt; few = omega arith }
signed_ends number out None = record { judged = refl; few = omega arith }

pub returns-in_err-journal : goal.returns-in_err-journal
returns-in_err-journal g c =
    halted_last g.F.Files _ _ _ _ (λ j held. signed c.args.number c.args.out.now (signature_of c.args.number j.issued)) _ _ _ _ _ (λ j. signed_ends _ _ _) c.in_err-journal.ensures.loaded (search rules)

pub returns : goal.returns
returns g c =
    performed_last g.F.Files _ _ _ _ (λ j held. signed c.args.number c.args.out.now (signature_of c.args.number j.issued)) _ _ _ _ c.signed.result _
    (signed_ends _ _ _) c.in_ok-journal.ensures.loaded c.ended.ensures (ends_as 1 _ _ c.signed.ensures (signed_ends _ _ _)) (λ tells. rw (c.signature_of-signature.ensures, c.issued.ensures) at c.signed.ensures) (λ tells. nothing_of c.signed.result)
