use Rattle.ksi_records.proofs.Merging.{core_among, round_among}
use Rattle.ksi_records.proofs.laws.logs_are_put_together.Goals as goal

pub returns-clause-cores : goal.returns-clause-cores
returns-clause-cores c = λ image plan seconds deeds agree j. core_among image plan j (seconds j) deeds (agree j)

pub returns-clause-aggregators : goal.returns-clause-aggregators
returns-clause-aggregators c = λ image plan rounds deeds agree k. round_among image plan k (rounds k) deeds (agree k)
