use Rattle.std.proofs.Common.{◌≡◌, rules, length, sym, ap, ◌∙◌}
use Rattle.std.specs.Prelude.{option_map}
use Rattle.std.proofs.lemmas.Bool.{false≢true}
use Rattle.ksi_aggregator.specs.Rounds.{round_at, ChangesOnly, fact_of, items_in}
use Rattle.ksi_aggregator.specs.Rows.{round_restarted, round_request}
use Rattle.ksi_aggregator.proofs.Listing.{turned, row_left, request_still}
use Rattle.ksi_aggregator.proofs.Storing.{request_fact, request_sends}
use Rattle.ksi_aggregator.proofs.rounds.Rounds.request.Goals as goal

pub returns-clause-step : goal.returns-clause-step
returns-clause-step g c =
    let round = round_at c.args.self.now c.args.second in
    record {
      after = search rules;
      answer = search rules;
      fact = c.without_sends.ensures.fact ∙ sym (ap (option_map (fact_of c.args.second)) (request_fact c.args.number c.args.imprint c.args.name round));
      sends = c.without_sends.ensures.sends ∙ sym (request_sends c.args.number c.args.imprint c.args.name round);
    }

pub invariant_of-self-2 : goal.invariant_of-self-2
invariant_of-self-2 g c =
    let changes : ChangesOnly (round_at c.self.inside.map.entries) (round_at (c.get_mut.follows.lender c.request.new.self).entries) c.args.second c.request.new.self = search rules in
    let before = round_at c.self.inside.map.entries c.args.second in
    let after : c.request.new.self ≡ (round_request c.args.number c.args.imprint c.args.name before).after = search rules in
    let count : c.count-count.result ≡ length (items_in before) = search rules in
    turned c.self.inside.listed.items c.list.new.listed.items c.self.inside.map.entries (c.get_mut.follows.lender c.request.new.self).entries c.args.second c.request.new.self
    c.self.invariant c.list.ensures.more changes (λ none.
    ap round_restarted after
    ∙ row_left (round_request c.args.number c.args.imprint c.args.name) before (request_still c.args.number c.args.imprint c.args.name before) (c.self.invariant c.args.second (c.list.ensures.more c.args.second none))
    (λ zero. absurd (false≢true (sym none ∙ c.in_ok-list.ensures.there (count ∙ zero)))) ∙ sym after)
