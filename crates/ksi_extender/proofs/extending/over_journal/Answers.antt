use Rattle.std.proofs.Common.{◌∙◌, sym, arith}
use Rattle.std.proofs.lemmas.Result.{IfOk-weaker}
use Rattle.ksi_journal.specs.Journal.{root_at}
use Rattle.ksi_extender.proofs.Kept.{is_kept}
use Rattle.ksi_signature.specs.Seen.{seen, bytes_seen}
use Rattle.ksi_extender.proofs.Told.{not_kept, all_passed}
use Rattle.ksi_extender.proofs.Whole.{read_again}
use Rattle.ksi_extender.proofs.extending.over_journal.Goals as goal

pub returns-in-Err-clause-answer : goal.returns-in-Err-clause-answer
returns-in-Err-clause-answer g c =
    let are = c.requires.chains in
    sym (not_kept g.C.Compress.image c.args.journal.now (bytes_seen c.args.signature.now) c.args.p c.args.chains.now c.in-Err.refusal are c.in-Err.ensures.kept)

pub proof_to-requires-clause-to : goal.proof_to-requires-clause-to
proof_to-requires-clause-to g c = (is_kept c.args.journal.now c.args.chains.now c.args.p (sym c.in_default.ensures.kept)).to

pub proof_to-requires-clause-covered : goal.proof_to-requires-clause-covered
proof_to-requires-clause-covered g c =
    let journal = c.args.journal.now in
    let kept = is_kept journal c.args.chains.now c.args.p (sym c.in_default.ensures.kept) in
    record { from = omega (arith, kept.from, kept.to); each = (c.one_first_missing.ensures.none (root_at journal) journal.start c.args.p).0 kept.missing }

pub proof_to-requires-clause-root : goal.proof_to-requires-clause-root
proof_to-requires-clause-root g c = (is_kept c.args.journal.now c.args.chains.now c.args.p (sym c.in_default.ensures.kept)).root

pub returns-clause-answer : goal.returns-clause-answer
returns-clause-answer g c =
    all_passed g.C.Compress.image c.args.journal.now (bytes_seen c.args.signature.now) c.args.p c.args.chains.now _ _ c.renewed_with.result
    c.requires.chains c.in_default.ensures.kept c.in_ok-chain.ensures.chain c.in_ok-chain.ensures.published c.renewed_with.ensures.answer

pub returns-clause-again : goal.returns-clause-again
returns-clause-again g c =
    let kept = is_kept c.args.journal.now c.args.chains.now c.args.p (sym c.in_default.ensures.kept) in
    IfOk-weaker c.renewed_with.result _ _ (λ text again.
    read_again g.C.Compress.image (λ signature chains some. c.aggregation.ensures g.C.Compress.image signature chains some) c.args.journal.now (bytes_seen c.args.signature.now) text c.args.p c.args.chains.now _ _
    (seen c.args.signature.now) c.shown_is_of_bytes.ensures.read c.requires.chains kept.some c.in_ok-chain.ensures.chain c.in_ok-chain.ensures.published again
    ) c.renewed_with.ensures.again
