use Rattle.ksi_imprint.specs.Imprints.{imprint_of}
use Rattle.ksi_laws_records.proofs.Fitting.{one_history}
use Rattle.ksi_laws_records.proofs.laws.agreeing_logs_hold.Goals as goal

pub returns-clause-history : goal.returns-clause-history
returns-clause-history c = λ image plan log_of name deeds is fit.
    one_history image plan is (record {
      renamed_is = c.logs_are_one_history.ensures.renamed image plan;
      cores = c.logs_are_put_together.ensures.cores image plan;
      aggregators = c.logs_are_put_together.ensures.aggregators image plan;
    }) log_of name deeds fit

pub returns-clause-any : goal.returns-clause-any
returns-clause-any c = λ image plan deeds history images bytes is. c.all_holds.ensures.any image history images bytes is.follows

pub returns-clause-sha : goal.returns-clause-sha
returns-clause-sha c = λ plan deeds history is. returns-clause-any c imprint_of plan deeds history c.hashes_are_bytes.ensures.imprints c.hashes_are_bytes.ensures.bytes is
