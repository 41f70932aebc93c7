use Rattle.std.proofs.Common.{◌+◌, List, take, map, ap, ◌∙◌}
use Rattle.std.specs.Prelude.{insert}
use Rattle.ksi_signature.specs.Values.{Aggregation}
use Rattle.ksi_signature.specs.Places.{place_of}
use Rattle.ksi_signature.specs.PartsSeen.{chain_seen}
use Rattle.ksi_signature.proofs.Order.{put_at}
use Rattle.ksi_signature.proofs.Inserted.{map-insert}
use Rattle.ksi_signature.proofs.chain_list.ChainList.put.Goals as goal

pub returns : goal.returns
returns c =
    let place = c.place_among-place.result in
    put_at (chain_seen c.args.chain) (map chain_seen (take (c.self.inside.count + 1) c.insert_at.new.items)) c.args.self.now place c.parts.result
    (ap (map chain_seen) c.insert_at.ensures ∙ map-insert chain_seen place (take c.self.inside.count c.self.inside.chains) c.args.chain
    ∙ ap (λ (old : List Aggregation). insert old place (chain_seen c.args.chain)) c.self.view_is)
    (c.place_among-place.ensures.value ∙ ap (place_of c.parts.result) c.as_slice.ensures)
    c.parts.ensures.value
