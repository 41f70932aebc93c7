use Rattle.std.proofs.Common.{Result, ap, ◌∙◌}
use Rattle.ksi_signature.specs.Seen.{seen, bytes_seen}
use Rattle.ksi_verifier.specs.declared.aggregated.Aggregated.{Aggregated}
use Rattle.ksi_verifier.specs.declared.refusal.Refusal.{Refusal}
use Rattle.ksi_extender.specs.Extended.{or_refused}
use Rattle.ksi_calendar_extender.proofs.Steps.{read_then}
use Rattle.ksi_calendar_extender.proofs.extending.chains_in.Goals as goal

pub returns-in-Ok : goal.returns-in-Ok
returns-in-Ok g c =
    ap (λ (r : Result Aggregated Refusal). or_refused r) c.in-Ok.ensures ∙ read_then g.C.Compress.image (bytes_seen c.args.signature.now) (seen c.args.signature.now) c.shown_is_of_bytes.ensures.read

pub returns-in-Err : goal.returns-in-Err
returns-in-Err g c =
    ap (λ (r : Result Aggregated Refusal). or_refused r) c.in-Err.ensures ∙ read_then g.C.Compress.image (bytes_seen c.args.signature.now) (seen c.args.signature.now) c.shown_is_of_bytes.ensures.read
