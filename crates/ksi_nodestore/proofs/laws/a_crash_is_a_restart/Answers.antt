use Rattle.std.proofs.Common.{List, sym, subst}
use Rattle.ksi_corenode.specs.declared.fact.Fact.{Fact}
use Rattle.ksi_corenode.specs.Restored.{IsOfFacts}
use Rattle.ksi_nodestore.proofs.Onward.{one_file}
use Rattle.ksi_nodestore.proofs.Crashed.{left_either}
use Rattle.ksi_nodestore.proofs.laws.a_crash_is_a_restart.Goals as goal

pub returns : goal.returns
returns c = record {
  one = one_file;
  restarted = λ image plan facts others file core other has file_is found of.
      c.one_core_of_facts.ensures.restarted image plan facts core other has
      (subst (λ (fs : List Fact). IsOfFacts image core.me plan fs other) (sym (one_file core.me plan facts others file file_is found)) of);
  left = λ image plan facts others file core other event has may left found of.
      left_either image (record {
        restarted = λ plan facts core other has of. c.one_core_of_facts.ensures.restarted image plan facts core other has of;
        taken = λ plan facts core other event has may of. c.steps_come_back.ensures image plan facts core other event has may of;
      }) plan facts others file core other event has may left found of;
}
