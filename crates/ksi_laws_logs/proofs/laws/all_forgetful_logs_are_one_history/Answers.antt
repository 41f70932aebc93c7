use Rattle.std.proofs.Common.{List, sym, subst}
use Rattle.ksi_records.specs.Logs.{Deed, AggregatorAgrees}
use Rattle.ksi_laws_logs.proofs.laws.all_forgetful_logs_are_one_history.Goals as goal

pub returns : goal.returns
returns c = λ image plan name w rounds forgot entries horizon recent round_entries deeds named are agree logs from rounds_agree round_logs given.
    c.forgetful_logs_are_one_history.ensures.renamed image plan name w rounds forgot entries deeds named are agree logs
    (c.logs_are_put_together.ensures.aggregators image plan rounds deeds
    (λ k. subst (λ (l : List Deed). AggregatorAgrees image plan k (rounds k) l) (sym (round_logs k))
    (c.forgetful_round_logs_are_logs.ensures image plan k (horizon k) (rounds k) (recent k) (round_entries k) (from k) (rounds_agree k))))
    given
