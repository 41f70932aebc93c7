use Rattle.std.proofs.Common.{ap, sym, refl, ◌∙◌}
use Rattle.ksi_aggregator.specs.Listed.{is_among}
use Rattle.ksi_aggregator.proofs.Listing.{fewer, there}
use Rattle.ksi_aggregator.proofs.rounds.list.Goals as goal

pub returns-in_ok-push-clause-more : goal.returns-in_ok-push-clause-more
returns-in_ok-push-clause-more c = λ t none. fewer t c.args.second c.args.listed.now.items (ap (is_among t) (sym c.in_ok-push.ensures.items) ∙ none)

pub returns-in_ok-push-clause-there : goal.returns-in_ok-push-clause-there
returns-in_ok-push-clause-there c = λ count. ap (is_among c.args.second) c.in_ok-push.ensures.items ∙ there c.args.second c.args.second c.args.listed.now.items refl
