use Rattle.std.proofs.Common.{◌≡◌, ◌++◌, ◌∷◌, [], rules, ◌∙◌}
use Rattle.ksi_aggregator.proofs.Listing.{looked_at, restarted_same}
use Rattle.ksi_aggregator.proofs.rounds.Rounds.restart.Goals as goal

pub forgetting-preserved : goal.forgetting-preserved
forgetting-preserved g c =
    let was = c.forgetting.self-inside in
    let popped : was.listed.items ≡ c.pop.new.self.items ++ c.in-Some.second ∷ [] = search rules in (
      looked_at c.in-Some.second c.pop.new.self.items was.listed.items was.map.entries c.forget_open.new.map.entries popped c.forgetting.invariant.0 c.forget_open.ensures,
      λ t. restarted_same c.in-Some.second was.map.entries c.forget_open.new.map.entries c.forget_open.ensures t ∙ c.forgetting.invariant.1 t,
    )
