use Rattle.ksi_mirror.proofs.JoiningMirrors.{merge_same, merge_either, merge_on, merge_back, merge_absorbs, merge_once, may_either}
use Rattle.ksi_mirror.proofs.laws.merging_is_a_join.Goals as goal

pub returns-clause-same : goal.returns-clause-same
returns-clause-same c = λ one is. merge_same one

pub returns-clause-either : goal.returns-clause-either
returns-clause-either c = merge_either

pub returns-clause-any_order : goal.returns-clause-any_order
returns-clause-any_order c = λ one two three first second merged a b. (merge_on one two three first second merged a b, merge_back one two three first second merged a b)

pub returns-clause-both_refused : goal.returns-clause-both_refused
returns-clause-both_refused c = may_either

pub returns-clause-once : goal.returns-clause-once
returns-clause-once c = merge_once

pub returns-clause-absorbs : goal.returns-clause-absorbs
returns-clause-absorbs c = merge_absorbs
