-- The verdict on the log of a node: what follows the entries that agree with the node's own run.
use Rattle.std.specs.Prelude.{◌≡◌, ◌≢◌, ℕ, ◌+◌, List, [], ◌∷◌, ◌++◌, Err, Ok, ◌⊎◌}
use Rattle.std.specs.Io.Iter.{u64_saturate}
use Rattle.std.specs.List.{AllByRecursion}
use Rattle.ksi_records.specs.Blocks.{lines_in, IsCutBlock, IsLine}
use Rattle.ksi_records.specs.declared.blocks.place.Place.{Place}
use Rattle.ksi_schedule.specs.Pieces.{Text}
use Rattle.ksi_schedule.specs.Plans.{PlanState}
use Rattle.ksi_schedule.specs.declared.actor.Actor.{Actor}
use Rattle.ksi_wire.specs.declared.fault.WireFault.TheVariants.{Taken}
use Rattle.ksi_records.specs.Logs.{Deed}
use Rattle.ksi_records.specs.declared.node.fault.LogFault.{LogFault}
use Rattle.ksi_records.specs.declared.node.fault.LogFault.TheVariants as faults
use Rattle.ksi_records.specs.declared.node.head.Head.{Head}
use Rattle.ksi_records.specs.declared.node.verdict.Verdict.{Verdict}
use Rattle.ksi_records.specs.declared.node.verdict.Verdict.TheVariants as verdicts
use Rattle.ksi_records.specs.Node.Heads.{head_at}
use Rattle.ksi_records.specs.Node.Entries.{Entry, entry_text, log_text, HasBlock, WantsBlock}
use Rattle.ksi_records.specs.Node.Runs.{NodeState, first_state, state_behind, AreWritten, IsOf, IsTold, LogAgrees, MayCome}

-- ---- what comes next in a text

-- its first line is a line, and says this head, of this node; its block is one
pub record IsEntry (plan : PlanState) (me : Actor) (entry : Entry) : Type 0 where
  pub line : IsLine entry.line
  pub taken : head_at plan me entry.line ≡ Ok entry.head
  pub own : IsOf me entry.head
  pub block : HasBlock entry.head entry.block

-- nothing, a whole entry and what follows it, or what is no entry
pub data Standing : Type 0 where
  Nothing : Standing
  Whole : Entry → (more : Text) → Standing
  Refused : LogFault → Standing

-- a line that is not whole, or a head without its whole block
abbrev pub IsCut : PlanState → (me : Actor) → Text → Type 0
IsCut plan me text =
    (text ≢ []) × IsLine text
    ⊎ (line : Text) × (more : Text) × (head : Head) × (text ≡ line ++ 10 ∷ more) × IsLine line × (head_at plan me line ≡ Ok head) × WantsBlock head × IsCutBlock more

abbrev pub StandsIn : PlanState → (me : Actor) → Text → Standing → Type 0
StandsIn plan me text Nothing = text ≡ []
StandsIn plan me text (Whole entry more) = (text ≡ entry_text entry ++ more) × IsEntry plan me entry
StandsIn plan me text (Refused (faults.Line fault)) = (line : Text) × (more : Text) × (text ≡ line ++ 10 ∷ more) × IsLine line × (head_at plan me line ≡ Err fault)
StandsIn plan me text (Refused faults.Cut) = IsCut plan me text

-- ---- places, none beyond 2^64 - 1

-- of the first entry: its number from 0 on, and its first line from 1 on
abbrev pub first_place : Place
first_place = record { entry = 0; line = 1 }

-- of what follows an entry with this block
abbrev pub place_behind : Place → (block : Text) → Place
place_behind place block = record { entry = u64_saturate (place.entry + 1); line = u64_saturate (u64_saturate (place.line + 1) + lines_in block) }

module _ (image : List ℕ → List ℕ) (plan : PlanState) (me : Actor) where
  -- ---- the verdict

  -- the node has this, and this text is at this place, after entries that agree: the verdict is this
  abbrev pub EndsIn : NodeState → Place → (rest : Text) → Verdict → Type 0
  EndsIn it place rest (verdicts.Agrees entries) = StandsIn plan me rest Nothing × (entries ≡ place.entry)
  EndsIn it place rest (verdicts.Differs at) =
      (entry : Entry) × (more : Text) × StandsIn plan me rest (Whole entry more) × MayCome image plan it entry.head × (¬ IsTold image plan it entry.head entry.block) × (at ≡ place)
  EndsIn it place rest (verdicts.Refused fault at) =
      (StandsIn plan me rest (Refused fault)
      ⊎ ((entry : Entry) × (more : Text) × StandsIn plan me rest (Whole entry more) × (¬ MayCome image plan it entry.head) × (fault ≡ faults.Line Taken)))
      × (at ≡ place)

  -- These are the first entries of a text, and each block is the node's own at its place. After them follows what the verdict
  -- is of.
  abbrev pub IsVerdict : NodeState → Place → List Entry → (text : Text) → Verdict → Type 0
  IsVerdict it place [] text verdict = EndsIn it place text verdict
  IsVerdict it place (entry ∷ entries) text verdict =
      (more : Text) × StandsIn plan me text (Whole entry more) × MayCome image plan it entry.head × IsTold image plan it entry.head entry.block
      × IsVerdict (state_behind image plan it entry.head) (place_behind place entry.block) entries more verdict

  -- the same of a whole log
  abbrev pub HasVerdict : List Entry → (text : Text) → Verdict → Type 0
  HasVerdict entries text verdict = IsVerdict (first_state plan me) first_place entries text verdict

  -- The text is the log of the node: entries, the values of whose texts agree with the rows of this node alone.
  pub record IsLog (text : Text) : Type 0 where
    pub entries : List Entry
    pub deeds : List Deed
    pub spelled : text ≡ log_text entries
    pub entries_are : AllByRecursion (IsEntry plan me) entries
    pub written : AreWritten me entries deeds
    pub agrees : LogAgrees image plan me (first_state plan me) deeds

-- it agrees
abbrev pub DoesAgree : Verdict → Type 0
DoesAgree (verdicts.Agrees entries) = Unit {0}
DoesAgree _ = ⊥
