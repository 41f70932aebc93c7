use Rattle.std.proofs.Common.{rules}
use Rattle.ksi_aggregator.specs.Rows.{round_close}
use Rattle.ksi_aggregator.specs.Rounds.{round_at, ChangesOnly}
use Rattle.ksi_aggregator.proofs.Listing.{turned, turn_left, close_left}
use Rattle.ksi_aggregator.proofs.rounds.Rounds.close.Goals as goal

pub invariant_of-self-2 : goal.invariant_of-self-2
invariant_of-self-2 g c =
    let changes : ChangesOnly (round_at c.self.inside.map.entries) (round_at (c.get_mut.follows.lender c.close.new.self).entries) c.args.second c.close.new.self = search rules in
    let before = round_at c.self.inside.map.entries c.args.second in
    turned c.self.inside.listed.items c.self.inside.listed.items c.self.inside.map.entries (c.get_mut.follows.lender c.close.new.self).entries c.args.second c.close.new.self
    c.self.invariant (λ t none. none) changes (λ none.
    turn_left c.close.result before c.close.new.self (round_close g.C.Compress.image before).after (search rules) (search rules)
    (c.self.invariant c.args.second none) (close_left g.C.Compress.image before))
