use Rattle.std.proofs.Common.{◌≡◌, ◌≤◌, List, ℕ, length, rules, subst, sym}
use Rattle.std.specs.List.{AllByRecursion}
use Rattle.ksi_imprint.specs.Imprints.{IsImprint}
use Rattle.ksi_logblock.specs.declared.line_proof.LineLink.{LineLink}
use Rattle.ksi_logblock.specs.File.{IsProofFile, proof_text}
use Rattle.ksi_logblock.specs.Kept.{IsLineLink}
use Rattle.ksi_logblock.proofs.writing.write_proof.Goals as goal

pub returns-clause-again : goal.returns-clause-again
returns-clause-again c =
    let text : c.from_vec.result ≡ proof_text c.args.proof.now = search rules in
    let mask = subst IsImprint c.bytes.ensures.value c.bytes.ensures.imprint in
    let few = subst (λ (l : List LineLink). length l ≤ 63) c.as_slice.ensures.links c.as_slice.ensures.few in
    let all = subst (AllByRecursion IsLineLink) c.as_slice.ensures.links c.in_ok-put_links.ensures.links in
    subst (λ (t : List ℕ). IsProofFile t c.args.proof.now) (sym text) (c.text_is_proof.ensures c.args.proof.now mask few all)
