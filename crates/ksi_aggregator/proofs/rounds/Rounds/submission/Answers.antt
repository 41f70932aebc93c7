use Rattle.std.proofs.Common.{◌≡◌, rules, length, sym, ap, ◌∙◌}
use Rattle.std.specs.Prelude.{option_map}
use Rattle.std.proofs.lemmas.Bool.{false≢true}
use Rattle.ksi_aggregator.specs.Rounds.{round_at, ChangesOnly, fact_of, items_in}
use Rattle.ksi_aggregator.specs.Rows.{round_restarted, round_submission}
use Rattle.ksi_aggregator.proofs.Listing.{turned, row_left, submission_still}
use Rattle.ksi_aggregator.proofs.Storing.{submission_fact, submission_sends}
use Rattle.ksi_aggregator.proofs.rounds.Rounds.submission.Goals as goal

pub returns-clause-step : goal.returns-clause-step
returns-clause-step g c =
    let round = round_at c.args.self.now c.args.second in
    record {
      after = search rules;
      answer = search rules;
      fact = c.without_sends.ensures.fact ∙ sym (ap (option_map (fact_of c.args.second)) (submission_fact c.args.aggregator c.args.item round));
      sends = c.without_sends.ensures.sends ∙ sym (submission_sends c.args.aggregator c.args.item round);
    }

pub invariant_of-self-2 : goal.invariant_of-self-2
invariant_of-self-2 g c =
    let changes : ChangesOnly (round_at c.self.inside.map.entries) (round_at (c.get_mut.follows.lender c.submission.new.self).entries) c.args.second c.submission.new.self = search rules in
    let before = round_at c.self.inside.map.entries c.args.second in
    let after : c.submission.new.self ≡ (round_submission c.args.aggregator c.args.item before).after = search rules in
    let count : c.count-count.result ≡ length (items_in before) = search rules in
    turned c.self.inside.listed.items c.list.new.listed.items c.self.inside.map.entries (c.get_mut.follows.lender c.submission.new.self).entries c.args.second c.submission.new.self
    c.self.invariant c.list.ensures.more changes (λ none.
    ap round_restarted after
    ∙ row_left (round_submission c.args.aggregator c.args.item) before (submission_still c.args.aggregator c.args.item before) (c.self.invariant c.args.second (c.list.ensures.more c.args.second none))
    (λ zero. absurd (false≢true (sym none ∙ c.in_ok-list.ensures.there (count ∙ zero)))) ∙ sym after)
