use Rattle.ksi_world.proofs.OwnSeconds.{RowsKeep, happens_own, after_own}
use Rattle.ksi_world.proofs.laws.seconds_are_kept.Goals as goal

pub returns-clause-event : goal.returns-clause-event
returns-clause-event c = λ image plan w e are.
    let keep : RowsKeep = record {
      first = c.rows_keep_states.ensures.first;
      seal = c.rows_keep_states.ensures.seal;
      ballot = c.rows_keep_states.ensures.ballot;
      message = c.rows_keep_states.ensures.message;
      restart = c.rows_keep_states.ensures.restart;
    } in
    happens_own keep image plan w e are

pub returns-clause-history : goal.returns-clause-history
returns-clause-history c = λ image plan events.
    let keep : RowsKeep = record {
      first = c.rows_keep_states.ensures.first;
      seal = c.rows_keep_states.ensures.seal;
      ballot = c.rows_keep_states.ensures.ballot;
      message = c.rows_keep_states.ensures.message;
      restart = c.rows_keep_states.ensures.restart;
    } in
    after_own keep image plan events
