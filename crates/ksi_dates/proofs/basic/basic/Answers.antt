use Rattle.std.proofs.Common.{◌≡◌, ◌∙◌, List, ℕ, slice_index_or, ap}
use Rattle.ksi_dates.specs.Dates.{month_by}
use Rattle.ksi_dates.proofs.BasicLemmas.{basic_by, from_http}
use Rattle.ksi_dates.proofs.basic.basic.Goals as goal

pub returns : goal.returns
returns c =
    ap (λ (m : ℕ). basic_by c.to_bytes-http.result m) c.month_by-month.ensures.month
    ∙ ap (λ (h : List ℕ). basic_by h (month_by (slice_index_or h 9 0) (slice_index_or h 10 0))) c.to_bytes-http.ensures
    ∙ from_http c.args.date.now
