use Rattle.ksi_laws_records.proofs.Staying.{after_asked, after_issued}
use Rattle.ksi_laws_records.proofs.laws.issued_stays.Goals as goal

pub returns-clause-request : goal.returns-clause-request
returns-clause-request c = λ image plan before later number asked. after_asked image plan before later number asked

pub returns-clause-issued : goal.returns-clause-issued
returns-clause-issued c = λ image plan before later number text.
    after_issued image plan (record {
      row = c.settled_rounds_stay.ensures.row image;
      restart = c.settled_rounds_stay.ensures.restart;
      rounds = c.rounds_are_turns.ensures.rounds image plan;
      still = c.rounds_are_turns.ensures.still image plan;
      restarted = c.rounds_are_turns.ensures.restarted image plan;
    }) before later number text
