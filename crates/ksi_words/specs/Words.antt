-- The command that the words of a command line ask for.
use Rattle.std.specs.Prelude.{◌≡◌, ℕ, ◌+◌, ◌<◌, ◌^◌, List, [], ◌∷◌, map, length, Bool, false, ◌==◌, codes, Option, Some, None, Result, Ok, Err, if◌then◌else◌, String, string_bytes, ⊤}
use Rattle.std.specs.List.{list_any}
use Rattle.std.specs.Str.{bytes_eq}
use Rattle.std.specs.declared.alloc.Global.{Global}
use Rattle.ksi_imprint.specs.declared.refused.Refused.{Refused}
use Rattle.ksi_imprint.specs.declared.refused.Refused.TheVariants.{Fault, NoMemory}
use Rattle.ksi_words.specs.Sorts.{Sort, file_word, hash_word, number_word, time_word, seed_word, Of, value_of}
use Rattle.ksi_words.specs.declared.asked.Command.{Command}
use Rattle.ksi_words.specs.declared.asked.Command.TheVariants.{Replay, Sign, Publish, Extend, Verify, Audit, Make, Drill, Migrate, Front, Compare, Block, Line, CheckLine, Locate, Merge, Whole, Inspect, Mirror, Node}
use Rattle.ksi_words.specs.declared.asked.WordsRefusal.{WordsRefusal}
use Rattle.ksi_words.specs.declared.asked.WordsRefusal.TheVariants.{Words, BadWord}

-- a command: its file words as they are, and its other words read
pub data Asked : Type 0 where
  replay : List ℕ → List ℕ → Asked
  sign : List ℕ → ℕ → List ℕ → Asked
  publish : List ℕ → List ℕ → Asked
  extend : List ℕ → List ℕ → ℕ → List ℕ → Asked
  verify : List ℕ → List ℕ → List ℕ → Asked
  audit : List ℕ → List ℕ → List ℕ → List ℕ → Asked
  make : ℕ → List ℕ → Asked
  drill : ℕ → Asked
  migrate : List ℕ → List ℕ → Asked
  front : List ℕ → ℕ → ℕ → List ℕ → Asked
  compare : List ℕ → List ℕ → List ℕ → Asked
  block : List ℕ → List ℕ → Asked
  line : List ℕ → List ℕ → ℕ → List ℕ → Asked
  checkline : List ℕ → List ℕ → List ℕ → List ℕ → Asked
  locate : List ℕ → List ℕ → List ℕ → List ℕ → Asked
  merge : List ℕ → List ℕ → List ℕ → Asked
  whole : List ℕ → List ℕ → Asked
  inspect : List ℕ → Asked
  mirror : List ℕ → ℕ → List ℕ → Asked
  node : List ℕ → ℕ → List ℕ → Asked

-- a command as a function of the values of words of these sorts
abbrev pub From : List Sort → Type 0
From [] = Asked
From (sort ∷ sorts) = Of sort → From sorts

-- a command's name, the sorts of the words after it, and the command of what they stand for
pub record CommandForm : Type 0 where
  pub name : List ℕ
  pub sorts : List Sort
  pub asks : From sorts

abbrev pub replay_row : CommandForm
replay_row = record { name = codes "replay"; sorts = file_word ∷ file_word ∷ []; asks = replay }

abbrev pub sign_row : CommandForm
sign_row = record { name = codes "sign"; sorts = file_word ∷ number_word ∷ file_word ∷ []; asks = sign }

abbrev pub publish_row : CommandForm
publish_row = record { name = codes "publish"; sorts = file_word ∷ file_word ∷ []; asks = publish }

abbrev pub extend_row : CommandForm
extend_row = record { name = codes "extend"; sorts = file_word ∷ file_word ∷ time_word ∷ file_word ∷ []; asks = extend }

abbrev pub verify_row : CommandForm
verify_row = record { name = codes "verify"; sorts = file_word ∷ hash_word ∷ file_word ∷ []; asks = verify }

abbrev pub audit_row : CommandForm
audit_row = record { name = codes "audit"; sorts = file_word ∷ file_word ∷ hash_word ∷ file_word ∷ []; asks = audit }

abbrev pub make_row : CommandForm
make_row = record { name = codes "make"; sorts = number_word ∷ file_word ∷ []; asks = make }

abbrev pub drill_row : CommandForm
drill_row = record { name = codes "drill"; sorts = number_word ∷ []; asks = drill }

abbrev pub migrate_row : CommandForm
migrate_row = record { name = codes "migrate"; sorts = file_word ∷ file_word ∷ []; asks = migrate }

abbrev pub front_row : CommandForm
front_row = record { name = codes "front"; sorts = file_word ∷ time_word ∷ time_word ∷ file_word ∷ []; asks = front }

abbrev pub compare_row : CommandForm
compare_row = record { name = codes "compare"; sorts = file_word ∷ file_word ∷ file_word ∷ []; asks = compare }

abbrev pub block_row : CommandForm
block_row = record { name = codes "block"; sorts = file_word ∷ seed_word ∷ []; asks = block }

abbrev pub line_row : CommandForm
line_row = record { name = codes "line"; sorts = file_word ∷ seed_word ∷ number_word ∷ file_word ∷ []; asks = line }

abbrev pub checkline_row : CommandForm
checkline_row = record { name = codes "checkline"; sorts = file_word ∷ file_word ∷ file_word ∷ file_word ∷ []; asks = checkline }

abbrev pub locate_row : CommandForm
locate_row = record { name = codes "locate"; sorts = file_word ∷ seed_word ∷ file_word ∷ file_word ∷ []; asks = locate }

abbrev pub merge_row : CommandForm
merge_row = record { name = codes "merge"; sorts = file_word ∷ file_word ∷ file_word ∷ []; asks = merge }

abbrev pub whole_row : CommandForm
whole_row = record { name = codes "whole"; sorts = file_word ∷ file_word ∷ []; asks = whole }

abbrev pub inspect_row : CommandForm
inspect_row = record { name = codes "inspect"; sorts = file_word ∷ []; asks = inspect }

abbrev pub mirror_row : CommandForm
mirror_row = record { name = codes "mirror"; sorts = file_word ∷ number_word ∷ file_word ∷ []; asks = mirror }

abbrev pub node_row : CommandForm
node_row = record { name = codes "node"; sorts = file_word ∷ number_word ∷ file_word ∷ []; asks = node }

abbrev pub table : List CommandForm
table = replay_row ∷ sign_row ∷ publish_row ∷ extend_row ∷ verify_row ∷ audit_row ∷ make_row ∷ drill_row ∷ migrate_row ∷ front_row ∷ compare_row ∷ block_row ∷ line_row ∷ checkline_row ∷ locate_row ∷ merge_row ∷ whole_row ∷ inspect_row ∷ mirror_row ∷ node_row ∷ []

abbrev pub texts : List (String Global) → List (List ℕ)
texts words = map string_bytes words

abbrev pub begins_with_dash : List ℕ → Bool
begins_with_dash [] = false
begins_with_dash (b ∷ bs) = b == 45

-- the meaning of word n, if it has one
abbrev pub word_at : {T : Type 0} → ℕ → Option T → Result T WordsRefusal
word_at n (Some value) = Ok value
word_at n None = Err (BadWord n)

infixl 10 ◌>>=◌
abbrev pub ◌>>=◌ : {T : Type 0} → Result T WordsRefusal → (T → Result Asked WordsRefusal) → Result Asked WordsRefusal
(Ok value) >>= next = next value
(Err refusal) >>= next = Err refusal

-- the words from word n on, read from left to right
abbrev pub asked_from : ℕ → (sorts : List Sort) → From sorts → List (List ℕ) → Result Asked WordsRefusal
asked_from n [] command [] = Ok command
asked_from n [] command (word ∷ words) = Err Words
asked_from n (sort ∷ sorts) command [] = Err Words
asked_from n (sort ∷ sorts) command (word ∷ words) = word_at n (value_of sort word) >>= λ value. asked_from (n + 1) sorts (command value) words

-- as many words as the row has sorts, of which the first bad one is reported
abbrev pub asked_by : CommandForm → List (List ℕ) → Result Asked WordsRefusal
asked_by row words = if length words == length row.sorts then asked_from 1 row.sorts row.asks words else Err Words

-- by the command's name
abbrev pub command_named : List CommandForm → List ℕ → List (List ℕ) → Result Asked WordsRefusal
command_named [] name words = Err Words
command_named (row ∷ rows) name words = if bytes_eq row.name name then asked_by row words else command_named rows name words

abbrev pub command_form : List (List ℕ) → Result Asked WordsRefusal
command_form [] = Err Words
command_form (name ∷ words) = command_named table name words

-- the command that words ask for; none of them begins with a dash
unfoldable pub command_of : List (List ℕ) → Result Asked WordsRefusal
command_of words = if list_any begins_with_dash words then Err Words else command_form words

-- what a command stands for
abbrev pub asked : Command → Asked
asked (Replay schedule journal) = replay schedule.now journal.now
asked (Sign journal number out) = sign journal.now number out.now
asked (Publish journal out) = publish journal.now out.now
asked (Extend journal signature second out) = extend journal.now signature.now second out.now
asked (Verify signature hash publications) = verify signature.now hash publications.now
asked (Audit journal signature hash publications) = audit journal.now signature.now hash publications.now
asked (Make number out) = make number out.now
asked (Drill number) = drill number
asked (Migrate old new) = migrate old.now new.now
asked (Front journal p1 p2 out) = front journal.now p1 p2 out.now
asked (Compare old new proof) = compare old.now new.now proof.now
asked (Block log seed) = block log.now seed
asked (Line log seed k out) = line log.now seed k out.now
asked (CheckLine signature publications entry proof) = checkline signature.now publications.now entry.now proof.now
asked (Locate log seed entry proof) = locate log.now seed entry.now proof.now
asked (Merge one two out) = merge one.now two.now out.now
asked (Whole of journal) = whole of.now journal.now
asked (Inspect of) = inspect of.now
asked (Mirror schedule core out) = mirror schedule.now core out.now
asked (Node schedule core out) = node schedule.now core out.now

-- the seconds of a command, where it has some, are below 2^63
abbrev pub IsEarly : Command → Type 0
IsEarly (Extend journal signature second out) = second < 2 ^ 63
IsEarly (Front journal p1 p2 out) = (p1 < 2 ^ 63) × (p2 < 2 ^ 63)
IsEarly _ = Unit {0}

-- the words were read as they are, and the seconds of the command are below 2^63
abbrev pub Asks : Result Asked WordsRefusal → Result Command WordsRefusal → Type 0
Asks expected (Ok command) = (expected ≡ Ok (asked command)) × IsEarly command
Asks expected (Err refusal) = expected ≡ Err refusal

-- or there was no memory to read them
abbrev pub Reads : Result Asked WordsRefusal → Result Command (Refused WordsRefusal) → Type 0
Reads expected (Ok command) = expected ≡ Ok (asked command)
Reads expected (Err (Fault refusal)) = expected ≡ Err refusal
Reads expected (Err NoMemory) = ⊤
