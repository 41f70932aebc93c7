use Rattle.ksi_replay.proofs.Gathered.{world_laws, orders_merge}
use Rattle.ksi_replay.proofs.Wholeness.{journal_is, one_result}
use Rattle.ksi_replay.proofs.laws.mirrors_of_a_history_merge.Goals as goal

pub returns-clause-merge : goal.returns-clause-merge
returns-clause-merge c = λ image h is are.
    let laws = world_laws image (c.agreement.ensures image) (c.validity.ensures.range image) (c.held_stays.ensures image) (c.sealed_stays.ensures image) (c.sealed_is_listed.ensures.core image) (c.sealed_is_listed.ensures.range image) in
    orders_merge image laws h is are

pub returns-clause-once : goal.returns-clause-once
returns-clause-once c = λ image h is are order other one two comes too ends all so so_too.
    let laws = world_laws image (c.agreement.ensures image) (c.validity.ensures.range image) (c.held_stays.ensures image) (c.sealed_stays.ensures image) (c.sealed_is_listed.ensures.core image) (c.sealed_is_listed.ensures.range image) in
    one_result image laws h is are (c.validity.ensures.root image h is are) (c.validity.ensures.kept image h is are) c.mirror_is_what_it_has.ensures order one comes ends so other two too all so_too

pub returns-clause-whole : goal.returns-clause-whole
returns-clause-whole c = λ image h is are order merged comes ends so.
    let laws = world_laws image (c.agreement.ensures image) (c.validity.ensures.range image) (c.held_stays.ensures image) (c.sealed_stays.ensures image) (c.sealed_is_listed.ensures.core image) (c.sealed_is_listed.ensures.range image) in
    journal_is image laws h is are (c.validity.ensures.root image h is are) (c.validity.ensures.kept image h is are) c.mirror_is_what_it_has.ensures order merged comes ends so
