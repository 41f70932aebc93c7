-- The verdict on a record: what follows the entries that agree with the world of a plan.
use Rattle.std.specs.Prelude.{◌≡◌, ◌≢◌, ◌<◌, ◌^◌, ℕ, ◌+◌, ◌&&◌, List, [], ◌∷◌, ◌++◌, codes, length, Bool, true, false, Err, Ok, if◌then◌else◌, ◌⊎◌, nat_eq}
use Rattle.std.specs.Io.BufRead.{take_through}
use Rattle.std.specs.Io.Iter.{u64_saturate}
use Rattle.std.specs.List.{AllByRecursion, starts_with}
use Rattle.std.specs.Fmt.{decimal}
use Rattle.ksi_schedule.specs.Pieces.{Text}
use Rattle.ksi_schedule.specs.Printed.{line_of}
use Rattle.ksi_schedule.specs.Plans.{PlanState}
use Rattle.ksi_schedule.specs.Events.{AreEvents}
use Rattle.ksi_schedule.specs.declared.event.Event.{Event}
use Rattle.ksi_records.specs.declared.fault.RecordFault.{RecordFault}
use Rattle.ksi_records.specs.declared.fault.RecordFault.TheVariants as faults
use Rattle.ksi_records.specs.declared.head.Head.{Head}
use Rattle.ksi_records.specs.declared.head.Head.TheVariants as heads
use Rattle.ksi_records.specs.declared.blocks.place.Place.{Place}
use Rattle.ksi_records.specs.declared.verdict.Counts.{Counts}
use Rattle.ksi_records.specs.declared.verdict.Retraced.{Retraced}
use Rattle.ksi_records.specs.declared.verdict.Retraced.TheVariants as retraced
use Rattle.ksi_records.specs.declared.version.Version.{Version}
use Rattle.ksi_records.specs.declared.version.Version.TheVariants as versions
use Rattle.ksi_records.specs.Heads.{came_in, head_at}
use Rattle.ksi_records.specs.Blocks.{lines_in, IsLine, IsCutBlock}
use Rattle.ksi_records.specs.Entries.{Entry, entry_text, first_line, record_text, HasBlock, WantsBlock}
use Rattle.ksi_records.specs.Told.{with_head, unsaid_block, AreTold, IsTold, IsMissing, MayCome}

-- ---- what comes next in a text

-- its first line is a line, and says this head and the line that came; its block is one
pub record IsEntry (plan : PlanState) (version : Version) (entry : Entry) : Type 0 where
  pub line : IsLine (first_line version entry.head entry.came)
  pub taken : head_at plan version (first_line version entry.head entry.came) ≡ Ok entry.head
  pub came : entry.came ≡ came_in version (first_line version entry.head entry.came)
  pub block : HasBlock entry.head entry.block

-- nothing, a whole entry and what follows it, or what is no entry
pub data Standing : Type 0 where
  Nothing : Standing
  Whole : Entry → (more : Text) → Standing
  Refused : RecordFault → Standing

-- a line that is not whole, or a head without its whole block
abbrev pub IsCut : PlanState → Version → Text → Type 0
IsCut plan version text =
    (text ≢ []) × IsLine text
    ⊎ (line : Text) × (more : Text) × (head : Head) × (text ≡ line ++ 10 ∷ more) × IsLine line × (head_at plan version line ≡ Ok head) × WantsBlock head × IsCutBlock more

abbrev pub StandsIn : PlanState → Version → Text → Standing → Type 0
StandsIn plan version text Nothing = text ≡ []
StandsIn plan version text (Whole entry more) = (text ≡ entry_text version entry ++ more) × IsEntry plan version entry
StandsIn plan version text (Refused (faults.Line fault)) = (line : Text) × (more : Text) × (text ≡ line ++ 10 ∷ more) × IsLine line × (head_at plan version line ≡ Err fault)
StandsIn plan version text (Refused faults.Cut) = IsCut plan version text
StandsIn plan version text (Refused _) = ⊥

-- ---- counts, none beyond 2^64 - 1

-- lines of entries: the first of each, and its block's
abbrev pub lines_of : List Entry → ℕ
lines_of [] = 0
lines_of (entry ∷ entries) = (1 + lines_in entry.block) + lines_of entries

-- where the entry after these is: its number from 0 on, and its first line from 1 on
abbrev pub place_behind : List Entry → Place
place_behind entries = record { entry = u64_saturate (length entries); line = u64_saturate (lines_of entries + 1) }

abbrev pub is_unsaid : Head → Bool
is_unsaid (heads.Unsaid it) = true
is_unsaid _ = false

abbrev pub is_sign : Head → Bool
is_sign (heads.Sign step) = true
is_sign _ = false

-- a signature was handed out
abbrev pub is_signature : Head → (block : Text) → Bool
is_signature head block = is_sign head && starts_with nat_eq block (codes "signature ")

abbrev pub how_many : (Entry → Bool) → List Entry → ℕ
how_many test [] = 0
how_many test (entry ∷ entries) = (if test entry then 1 else 0) + how_many test entries

abbrev pub counts_of : Version → (steps : ℕ) → List Entry → Counts
counts_of version steps entries = record {
  version = version;
  steps = steps;
  unsaid = u64_saturate (how_many (λ entry. is_unsaid entry.head) entries);
  signatures = u64_saturate (how_many (λ entry. is_signature entry.head entry.block) entries);
}

-- a place, and the block there
abbrev pub shown_block : Place → (block : Text) → Text
shown_block place block = line_of (codes "unsaid" ∷ decimal place.entry ∷ decimal place.line ∷ []) ++ 10 ∷ block

module _ (image : List ℕ → List ℕ) (plan : PlanState) (version : Version) where
  -- ---- the verdict on entries

  -- after entries that agree, whose events these are, follows this text: the verdict is this
  abbrev pub EndsIn : List Entry → List Event → (rest : Text) → Retraced → Type 0
  EndsIn entries es rest (retraced.Agrees counts) = StandsIn plan version rest Nothing × (counts ≡ counts_of version (length es) entries)
  EndsIn entries es rest (retraced.Differs place) =
      (entry : Entry) × (more : Text) × StandsIn plan version rest (Whole entry more) × MayCome image plan es entry.head
      × (¬ IsTold image plan version es entry.head entry.came entry.block) × (place ≡ place_behind entries)
  EndsIn entries es rest (retraced.Refused fault place) =
      (StandsIn plan version rest (Refused fault) ⊎ ((entry : Entry) × (more : Text) × StandsIn plan version rest (Whole entry more) × IsMissing image plan es entry.head fault))
      × (place ≡ place_behind entries)

  -- These are the first entries of a text, each of them one. The block of each is what the world of the plan says at its place in
  -- the history of these events, fewer than 2^64, each of which the plan allows; and in version 2 each line that came is the text of its message.
  -- After them follows what the verdict is of.
  pub record AreEntries (text : Text) (entries : List Entry) (verdict : Retraced) : Type 0 where
    pub events : List Event
    pub rest : Text
    pub spelled : text ≡ record_text version entries ++ rest
    pub entries_are : AllByRecursion (IsEntry plan version) entries
    pub told : AreTold image plan version [] entries events
    pub allowed : AreEvents plan events
    pub few : length events < 2 ^ 64
    pub ends : EndsIn entries events rest verdict

-- ---- the verdict on a record

-- the line of version 2
abbrev pub title : Text
title = codes "ksi-record 2\n"

-- the text of a record of a version, and its entries: version 2 begins with its line, and version 1 with no such line
abbrev pub BeginsWith : Version → (text entries : Text) → Type 0
BeginsWith versions.One text entries = (entries ≡ text) × (take_through 10 text ≢ title)
BeginsWith versions.Two text entries = text ≡ title ++ entries

-- The text is a record of this version, and this is the verdict on its entries.
pub record IsVerdict (image : List ℕ → List ℕ) (plan : PlanState) (version : Version) (text : Text) (entries : List Entry) (verdict : Retraced) : Type 0 where
  pub body : Text
  pub begins : BeginsWith version text body
  pub are : AreEntries image plan version body entries verdict

module _ (image : List ℕ → List ℕ) (plan : PlanState) where
  -- ---- what is shown

  -- the place of a step whose reply was lost, and the world's block there
  abbrev pub shown_of : (before : List Entry) → List Event → Head → Text
  shown_of before es (heads.Unsaid it) = shown_block (place_behind before) (unsaid_block image plan es it)
  shown_of before es _ = []

  abbrev pub shown_from : (before : List Entry) → List Event → List Entry → Text
  shown_from before es [] = []
  shown_from before es (entry ∷ entries) = shown_of before es entry.head ++ shown_from (before ++ entry ∷ []) (with_head image plan es entry.head) entries

  abbrev pub shown : List Entry → Text
  shown entries = shown_from [] [] entries
