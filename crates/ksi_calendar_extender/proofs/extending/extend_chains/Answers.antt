use Rattle.std.proofs.Common.{sym}
use Rattle.ksi_signature.specs.Seen.{bytes_seen}
use Rattle.ksi_calendar_extender.specs.Kept.{journal_of}
use Rattle.ksi_calendar_extender.proofs.Told.{is_kept, not_kept, all_passed}
use Rattle.ksi_calendar_extender.proofs.extending.extend_chains.Goals as goal

pub returns-in-Err : goal.returns-in-Err
returns-in-Err g c =
    sym (not_kept g.C.Compress.image (journal_of c.args.calendar.now) (bytes_seen c.args.signature.now) c.args.p c.args.chains.now c.in-Err.refusal c.requires.chains c.in-Err.ensures)

pub proof_to-requires-clause-to : goal.proof_to-requires-clause-to
proof_to-requires-clause-to g c = (is_kept (journal_of c.args.calendar.now) c.args.chains.now c.args.p (sym c.in_default.ensures)).to

pub proof_to-requires-clause-root : goal.proof_to-requires-clause-root
proof_to-requires-clause-root g c = (is_kept (journal_of c.args.calendar.now) c.args.chains.now c.args.p (sym c.in_default.ensures)).root

pub returns : goal.returns
returns g c =
    all_passed g.C.Compress.image (journal_of c.args.calendar.now) (bytes_seen c.args.signature.now) c.args.p c.args.chains.now _ _ c.renewed_with.result
    c.requires.chains c.in_default.ensures c.in_ok-chain.ensures.chain c.in_ok-chain.ensures.published c.renewed_with.ensures
