-- What is answered of a node file is what it says.
use Rattle.std.proofs.Common.{◌≡◌, ◌⊎◌, ℕ, zero, suc, ◌+◌, ◌^◌, Bool, if◌then◌else◌, List, [], length, take, is_some, Result, Ok, Err, inl, inr, refl, sym, ap, subst, ◌∙◌}
use Rattle.ksi_synod.specs.CorePlans.{CorePlanState}
use Rattle.ksi_corenode.specs.declared.fact.Fact.{Fact}
use Rattle.ksi_corenode.specs.Counted.{count_below}
use Rattle.ksi_corenode.specs.CoreState.{CoreState, state_of}
use Rattle.ksi_corenode.specs.Facts.{StableState, stable_state}
use Rattle.ksi_corenode.specs.Lawful.{stored_by}
use Rattle.ksi_disk.specs.declared.ending.Ending.{Ending}
use Rattle.ksi_disk.specs.declared.ending.Ending.TheVariants.{Closed, Broken}
use Rattle.ksi_disk.specs.Gates.{reading_of}
use Rattle.ksi_imprint.specs.declared.refused.Refused.{Refused}
use Rattle.ksi_imprint.specs.declared.refused.Refused.TheVariants as refused
use Rattle.ksi_nodestore.specs.declared.heads.Header.{Header}
use Rattle.ksi_nodestore.specs.declared.heads.HeaderFault.{HeaderFault}
use Rattle.ksi_nodestore.specs.declared.heads.HeaderFault.TheVariants as heads
use Rattle.ksi_nodestore.specs.declared.inspected.NodeFault.{NodeFault}
use Rattle.ksi_nodestore.specs.declared.inspected.NodeFault.TheVariants as faults
use Rattle.ksi_nodestore.specs.declared.refusal.OpenRefusal.{OpenRefusal}
use Rattle.ksi_nodestore.specs.declared.refusal.OpenRefusal.TheVariants as opens
use Rattle.ksi_nodestore.specs.declared.store.Counts.{Counts}
use Rattle.ksi_nodestore.specs.Headers.{header_at}
use Rattle.ksi_nodestore.specs.FactReading.{facts_read}
use Rattle.ksi_nodestore.specs.Stores.{IsFileOf, IsMalformedAt}
use Rattle.ksi_nodestore.specs.Opens.{HasNotFailed, IsOutside, IsRefused}
use Rattle.ksi_nodestore.specs.Takes.{is_held_at, is_sealed_at}
use Rattle.ksi_nodestore.specs.Inspecting.{counts_of, inspected, inspected_behind, inspected_facts, refused_for, Inspects, IsBroken, IsNodeFault}
use Rattle.ksi_nodestore.proofs.Folded.{read_fault, read_whole}

-- COUNTS

count_same : (one other : ℕ → Bool) → ((t : ℕ) → one t ≡ other t) → (n : ℕ) → count_below one n ≡ count_below other n
unfolding count_below
count_same one other same zero = refl
count_same one other same (suc n) = λ i. count_same one other same n i + (if same n i then 1 else 0)

module _ (facts : List Fact) (core : CoreState) (stored : (t : ℕ) → stable_state (state_of core t) ≡ stored_by facts t) where
  sealed_same : count_below (is_sealed_at core) (2 ^ 63) ≡ count_below (λ t. is_some (stored_by facts t).sealed) (2 ^ 63)
  sealed_same = count_same (is_sealed_at core) (λ t. is_some (stored_by facts t).sealed) (λ t. ap (λ (s : StableState). is_some s.sealed) (stored t)) (2 ^ 63)

  held_same : count_below (is_held_at core) (2 ^ 63) ≡ count_below (λ t. is_some (stored_by facts t).held) (2 ^ 63)
  held_same = count_same (is_held_at core) (λ t. is_some (stored_by facts t).held) (λ t. ap (λ (s : StableState). is_some s.held) (stored t)) (2 ^ 63)

  pub counts_are : (counts : Counts) (records : ℕ) → records ≡ length facts → counts.records ≡ records → counts.sealed ≡ count_below (is_sealed_at core) (2 ^ 63) → counts.held ≡ count_below (is_held_at core) (2 ^ 63)
      → counts ≡ counts_of facts
  counts_are counts records many has_records has_sealed has_held =
      λ i. record { records = (has_records ∙ many) i; sealed = (has_sealed ∙ sealed_same) i; held = (has_held ∙ held_same) i }

-- A FILE THAT IS OPENED

pub said_of : (file : List ℕ) (header : Header) (plan : CorePlanState) (facts : List Fact) (counts : Counts) → plan.cores ≡ header.cores → plan.start ≡ header.start → plan.voters ≡ [] → header_at (take 18 file) ≡ Ok header → IsFileOf header.core plan facts file → counts ≡ counts_of facts
    → Inspects file (Ok (record { core = header.core; counts = counts }))
unfolding inspected
said_of file header plan facts counts cores start without head is counted = (
  ap (λ (h : Result Header HeaderFault). inspected_behind file h) head
      ∙ ap (λ (read : Result (List Fact) ℕ). inspected_facts header.core (reading_of 18 file).ending read)
      ((λ i. facts_read (sym cores i) (sym start i) (reading_of 18 file).records [] 18) ∙ read_whole plan.cores plan.start facts (reading_of 18 file).records is.are)
      ∙ ap (λ (ending : Ending). inspected_facts header.core ending (Ok facts)) is.closed
      ∙ ap (λ (c : Counts). Ok (record { core = header.core; counts = c })) (sym counted),
  record { plan = plan; facts = facts; without_voters = without; file_is = is; counted = counted },
)

-- A FILE THAT IS BROKEN

facts_fault : (core cores start : ℕ) (file : List ℕ) (place : ℕ) → IsMalformedAt cores start file place
    → inspected_facts core (reading_of 18 file).ending (facts_read cores start (reading_of 18 file).records [] 18) ≡ Err (faults.Malformed place)
facts_fault core cores start file place (inl fault) = ap (λ (read : Result (List Fact) ℕ). inspected_facts core (reading_of 18 file).ending read) (read_fault cores start (reading_of 18 file).records place fault)
facts_fault core cores start file place (inr ends) =
    ap (λ (read : Result (List Fact) ℕ). inspected_facts core (reading_of 18 file).ending read) (read_whole cores start ends.0 (reading_of 18 file).records ends.1)
    ∙ ap (λ (ending : Ending). inspected_facts core ending (Ok ends.0)) ends.2

broken_of : (file : List ℕ) (header : Header) (place : ℕ) → header_at (take 18 file) ≡ Ok header → IsMalformedAt header.cores header.start file place → (inspected file ≡ Err (faults.Malformed place)) × IsNodeFault file (faults.Malformed place)
unfolding inspected
broken_of file header place head is = (
  ap (λ (h : Result Header HeaderFault). inspected_behind file h) head ∙ facts_fault header.core header.cores header.start file place is,
  (header, head, is),
)

-- with its own header no file is another's
pub own_header : (file : List ℕ) (header : Header) (plan : CorePlanState) (refusal : OpenRefusal) → plan.cores ≡ header.cores → plan.start ≡ header.start → header_at (take 18 file) ≡ Ok header → (refusal ≡ opens.Failed → ⊥) → IsRefused header.core plan file refusal → IsBroken refusal
own_header file header plan opens.Failed cores start head sure is = absurd (sure refl)
own_header file header plan opens.NotFormatted cores start head sure is = absurd (let no : Ok header ≡ Err heads.NotFormatted = sym head ∙ is in cc no)
own_header file header plan (opens.Foreign core others begin) cores start head sure is = by is.0
  where
    by : (header_at (take 18 file) ≡ Ok (record { core = core; cores = others; start = begin })) ⊎ (header_at (take 18 file) ≡ Err (heads.Bad core others begin)) → ⊥
    by (inl one) = let same : Ok header ≡ Ok (record { core = core; cores = others; start = begin }) = sym head ∙ one in let here : header ≡ record { core = core; cores = others; start = begin } = cc same in
        is.1 (sym (ap (λ (h : Header). h.core) here)) (sym (ap (λ (h : Header). h.cores) here) ∙ sym cores) (sym (ap (λ (h : Header). h.start) here) ∙ sym start)
    by (inr bad) = absurd (let no : Ok header ≡ Err (heads.Bad core others begin) = sym head ∙ bad in cc no)
own_header file header plan (opens.Malformed place) cores start head sure is = tt
own_header file header plan opens.NoMemory cores start head sure is = tt

pub not_failed : (D : Type 0) (refusal : OpenRefusal) (disk : D) → HasNotFailed {D = D} (Err (refusal, disk)) → refusal ≡ opens.Failed → ⊥
not_failed D opens.Failed disk has is = has
not_failed D opens.NotFormatted disk has is = absurd (cc is)
not_failed D (opens.Foreign core cores start) disk has is = absurd (cc is)
not_failed D (opens.Malformed place) disk has is = absurd (cc is)
not_failed D opens.NoMemory disk has is = absurd (cc is)

pub fault_said : (file : List ℕ) (header : Header) (plan : CorePlanState) (refusal : OpenRefusal) (told : Refused NodeFault) → plan.cores ≡ header.cores → plan.start ≡ header.start → header_at (take 18 file) ≡ Ok header → IsBroken refusal → IsRefused header.core plan file refusal
    → refusal ≡ refused_for told → Inspects file (Err told)
fault_said file header plan refusal (refused.Fault faults.NotFormatted) cores start head broken is same = absurd (subst IsBroken same broken)
fault_said file header plan refusal (refused.Fault (faults.Malformed place)) cores start head broken is same =
    let here : IsRefused header.core plan file (opens.Malformed place) = subst (λ (r : OpenRefusal). IsRefused header.core plan file r) same is in
    broken_of file header place head (subst (λ (n : ℕ). IsMalformedAt header.cores n file place) start (subst (λ (n : ℕ). IsMalformedAt n plan.start file place) cores here.1))
fault_said file header plan refusal (refused.Fault (faults.Bad core others begin)) cores start head broken is same = absurd (subst IsBroken same broken)
fault_said file header plan refusal refused.NoMemory cores start head broken is same = tt

-- A FILE WITHOUT A HEADER

pub headless : (file : List ℕ) (fault : HeaderFault) (told : NodeFault) → header_at (take 18 file) ≡ Err fault → inspected_behind file (Err fault) ≡ Err told → inspected file ≡ Err told
unfolding inspected
headless file fault told head is = ap (λ (h : Result Header HeaderFault). inspected_behind file h) head ∙ is

-- A FILE OF FACTS

-- is opened, unless the disk fails or memory is wanting
pub always_opened : (me : ℕ) (plan : CorePlanState) (facts : List Fact) (file : List ℕ) (refusal : OpenRefusal) → IsFileOf me plan facts file → IsRefused me plan file refusal → IsOutside refusal
always_opened me plan facts file opens.Failed is refused = tt
always_opened me plan facts file opens.NotFormatted is refused = absurd (let no : Ok (record { core = me; cores = plan.cores; start = plan.start }) ≡ Err heads.NotFormatted = sym is.head ∙ refused in cc no)
always_opened me plan facts file (opens.Foreign core cores start) is refused = own_header file (record { core = me; cores = plan.cores; start = plan.start }) plan (opens.Foreign core cores start) refl refl is.head (λ no. cc no) refused
always_opened me plan facts file (opens.Malformed place) is refused = by refused.1
  where
    by : IsMalformedAt plan.cores plan.start file place → ⊥
    by (inl fault) = absurd (let no : Ok facts ≡ Err place = sym (read_whole plan.cores plan.start facts (reading_of 18 file).records is.are) ∙ read_fault plan.cores plan.start (reading_of 18 file).records place fault in cc no)
    by (inr ends) = absurd (let no : Closed is.gate ≡ Broken place = sym is.closed ∙ ends.2 in cc no)
always_opened me plan facts file opens.NoMemory is refused = tt
