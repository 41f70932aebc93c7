-- The report on a node file: its core, its number of facts, and the number of seconds they are for; or what is wrong with it.
use Rattle.std.specs.Prelude.{◌≡◌, ℕ, ◌^◌, is_some, List, [], length, take, Result, Ok, Err, ⊤}
use Rattle.ksi_imprint.specs.declared.refused.Refused.{Refused}
use Rattle.ksi_imprint.specs.declared.refused.Refused.TheVariants as refused
use Rattle.ksi_synod.specs.CorePlans.{CorePlanState}
use Rattle.ksi_corenode.specs.declared.fact.Fact.{Fact}
use Rattle.ksi_corenode.specs.Counted.{count_below}
use Rattle.ksi_corenode.specs.Lawful.{stored_by}
use Rattle.ksi_disk.specs.declared.ending.Ending.{Ending}
use Rattle.ksi_disk.specs.declared.ending.Ending.TheVariants.{Closed, Broken}
use Rattle.ksi_disk.specs.Gates.{reading_of}
use Rattle.ksi_nodestore.specs.declared.heads.Header.{Header}
use Rattle.ksi_nodestore.specs.declared.heads.HeaderFault.{HeaderFault}
use Rattle.ksi_nodestore.specs.declared.heads.HeaderFault.TheVariants as heads
use Rattle.ksi_nodestore.specs.declared.inspected.Inspected.{Inspected}
use Rattle.ksi_nodestore.specs.declared.inspected.NodeFault.{NodeFault}
use Rattle.ksi_nodestore.specs.declared.inspected.NodeFault.TheVariants as faults
use Rattle.ksi_nodestore.specs.declared.refusal.OpenRefusal.{OpenRefusal}
use Rattle.ksi_nodestore.specs.declared.refusal.OpenRefusal.TheVariants as opens
use Rattle.ksi_nodestore.specs.declared.store.Counts.{Counts}
use Rattle.ksi_nodestore.specs.Headers.{header_at}
use Rattle.ksi_nodestore.specs.FactReading.{facts_read}
use Rattle.ksi_nodestore.specs.Stores.{IsFileOf, IsMalformedAt}

-- the number of facts, of seconds with sealed items, and of seconds with a held root
abbrev pub counts_of : List Fact → Counts
counts_of facts = record {
  records = length facts;
  sealed = count_below (λ t. is_some (stored_by facts t).sealed) (2 ^ 63);
  held = count_below (λ t. is_some (stored_by facts t).held) (2 ^ 63);
}

abbrev pub inspected_facts : (core : ℕ) → Ending → Result (List Fact) ℕ → Result Inspected NodeFault
inspected_facts core ending (Err place) = Err (faults.Malformed place)
inspected_facts core (Broken place) (Ok facts) = Err (faults.Malformed place)
inspected_facts core (Closed gate) (Ok facts) = Ok (record { core = core; counts = counts_of facts })

abbrev pub inspected_behind : List ℕ → Result Header HeaderFault → Result Inspected NodeFault
inspected_behind file (Err heads.NotFormatted) = Err faults.NotFormatted
inspected_behind file (Err (heads.Bad core cores start)) = Err (faults.Bad core cores start)
inspected_behind file (Ok header) = inspected_facts header.core (reading_of 18 file).ending (facts_read header.cores header.start (reading_of 18 file).records [] 18)

-- the report on a file: its header first, then its records, then how they end
unfoldable pub inspected : List ℕ → Result Inspected NodeFault
inspected file = inspected_behind file (header_at (take 18 file))

-- ITS MEANING

-- it is the file of this core, with this many facts. The plan is that of the header, without voters
pub record IsInspected (file : List ℕ) (said : Inspected) : Type 0 where
  pub plan : CorePlanState
  pub facts : List Fact
  pub without_voters : plan.voters ≡ []
  pub file_is : IsFileOf said.core plan facts file
  pub counted : said.counts ≡ counts_of facts

-- there is no header, or its numbers are out of bounds; or the file is broken after it
abbrev pub IsNodeFault : List ℕ → NodeFault → Type 0
IsNodeFault file faults.NotFormatted = header_at (take 18 file) ≡ Err heads.NotFormatted
IsNodeFault file (faults.Malformed place) = (header : Header) × (header_at (take 18 file) ≡ Ok header) × IsMalformedAt header.cores header.start file place
IsNodeFault file (faults.Bad core cores start) = header_at (take 18 file) ≡ Err (heads.Bad core cores start)

-- the result for a file
abbrev pub Inspects : List ℕ → Result Inspected (Refused NodeFault) → Type 0
Inspects file (Ok said) = (inspected file ≡ Ok said) × IsInspected file said
Inspects file (Err (refused.Fault fault)) = (inspected file ≡ Err fault) × IsNodeFault file fault
Inspects file (Err refused.NoMemory) = ⊤

-- ---- in the code

-- a refusal to open a file by its own header, on a disk that does not fail
abbrev pub IsBroken : OpenRefusal → Type 0
IsBroken opens.Failed = ⊥
IsBroken opens.NotFormatted = ⊥
IsBroken (opens.Foreign core cores start) = ⊥
IsBroken (opens.Malformed place) = ⊤
IsBroken opens.NoMemory = ⊤

-- the refusal reported as this fault
abbrev pub refused_for : Refused NodeFault → OpenRefusal
refused_for (refused.Fault faults.NotFormatted) = opens.NotFormatted
refused_for (refused.Fault (faults.Malformed place)) = opens.Malformed place
refused_for (refused.Fault (faults.Bad core cores start)) = opens.Foreign core cores start
refused_for refused.NoMemory = opens.NoMemory
