use Rattle.std.proofs.Common.{◌∙◌}
use Rattle.ksi_signature.proofs.Indexes.{content_is}
use Rattle.ksi_signature.proofs.issuing.content.Goals as goal

pub returns-clause-text : goal.returns-clause-text
returns-clause-text c =
    content_is c.args.second c.args.input.now c.args.links.now c.args.above.now c.as_slice-chains.result.now c.as_slice-calendar.result.now
    c.new-content.result c.put_all.new.writer c.put_short.new.writer c.bytes.result.now
    c.new-content.ensures c.as_slice-chains.ensures.chains c.as_slice-calendar.ensures.links c.in_ok-put_all.ensures.text (c.bytes.ensures ∙ c.in_ok-body.ensures.text) c.in_ok-put_short.ensures.ok
