-- A node file as a core writes it: the exact bytes.
use Rattle.std.specs.Prelude.{ℕ, List, [], ◌∷◌, ◌++◌, map}
use Rattle.ksi_synod.specs.CorePlans.{CorePlanState}
use Rattle.ksi_corenode.specs.declared.fact.Fact.{Fact}
use Rattle.ksi_disk.specs.Gates.{records_text}
use Rattle.ksi_nodestore.specs.Headers.{header_text}
use Rattle.ksi_nodestore.specs.Texts.{fact_text}

-- the header of core me of a plan, a record for each fact, and a closed commit byte
unfoldable pub node_text : (me : ℕ) → CorePlanState → List Fact → List ℕ
node_text me plan facts = header_text me plan.cores plan.start ++ (records_text (map fact_text facts) ++ 0 ∷ [])
