-- Lines and blocks of a text.
use Rattle.std.proofs.Common.{◌≡◌, ◌≢◌, ℕ, ◌+◌, ◌-◌, ◌<◌, Bool, true, false, List, [], ◌∷◌, ◌++◌, None, Some, IfSome, Option, cond, eqb, length, take, drop, get_or, refl, sym, ap, subst, ◌∙◌, arith, append_assoc, length-append, take_all, codes}
use Rattle.std.proofs.lemmas.Bool.{eqb-true}
use Rattle.std.proofs.lemmas.List.{take_more, take-append-drop}
use Rattle.std.proofs.lemmas.List.Elements.{All-head, All-tail, All-cons, All-append}
use Rattle.std.proofs.lemmas.Grind.{common_steps}
use Rattle.std.specs.List.{AllByRecursion}
use Rattle.std.specs.Io.{StartsWith, StopsAt}
use Rattle.std.specs.Io.KnownBytes.{Consumes}
use Rattle.std.specs.Io.BufRead.{take_through}
use Rattle.ksi_schedule.specs.Pieces.{Text}
use Rattle.ksi_records.specs.Blocks.{IsLine, IsInner, IsBlock, IsCutBlock, lines_text}

abbrev IsNoFeed : ℕ → Type 0
IsNoFeed b = b ≢ 10

-- ---- lines

-- what has a line feed is no line
pub no_feed : (line rest : Text) → IsLine (line ++ 10 ∷ rest) → ⊥
no_feed [] rest is = All-head IsNoFeed 10 rest is refl
no_feed (b ∷ line) rest is = no_feed line rest (All-tail IsNoFeed b (line ++ 10 ∷ rest) is)

pub same_line : (one other rest more : Text) → IsLine one → IsLine other → one ++ 10 ∷ rest ≡ other ++ 10 ∷ more → (one ≡ other) × (rest ≡ more)
same_line [] [] rest more is are same = (refl, cc)
same_line [] (c ∷ other) rest more is are same = let feed : c ≡ 10 = cc in absurd (All-head IsNoFeed c other are feed)
same_line (b ∷ one) [] rest more is are same = let feed : b ≡ 10 = cc in absurd (All-head IsNoFeed b one is feed)
same_line (b ∷ one) (c ∷ other) rest more is are same =
    let first : b ≡ c = cc in
    let behind : one ++ 10 ∷ rest ≡ other ++ 10 ∷ more = cc in
    let others = same_line one other rest more (All-tail IsNoFeed b one is) (All-tail IsNoFeed c other are) behind in
    ((λ i. first i ∷ others.0 i), others.1)

no_bytes : IsLine []
no_bytes k d lt = absurd (omega arith)

stop_is_line : IsLine (46 ∷ [])
stop_is_line = All-cons IsNoFeed 46 [] (λ is. absurd (omega (arith, is))) no_bytes

-- what was read to a line feed
pub all_through : (bytes : Text) → IsLine (take_through 10 bytes) → take_through 10 bytes ≡ bytes
all_through [] is = refl
all_through (b ∷ bytes) is = by (eqb b 10) refl (λ line. all_through bytes line)
  where
    by : (feed : Bool) → eqb b 10 ≡ feed → (IsLine (take_through 10 bytes) → take_through 10 bytes ≡ bytes) → take_through 10 (b ∷ bytes) ≡ b ∷ bytes
    by true feed rest =
        let one = subst IsLine (ap (λ (feed : Bool). cond feed (b ∷ []) (b ∷ take_through 10 bytes)) feed) is in
        absurd (All-head IsNoFeed b [] one (eqb-true b 10 feed))
    by false feed rest =
        let taken = ap (λ (feed : Bool). cond feed (b ∷ []) (b ∷ take_through 10 bytes)) feed in
        taken ∙ ap (λ (rest : Text). b ∷ rest) (rest (All-tail IsNoFeed b (take_through 10 bytes) (subst IsLine taken is)))

-- the last byte, and those before it
pub front_and_last : (line : Text) → 0 < length line → line ≡ take (length line - 1) line ++ get_or line (length line - 1) 0 ∷ []
front_and_last line some = sym (take_all (length line - 1 + 1) line (omega arith)) ∙ take_more line (length line - 1) 0 (omega arith)

-- a line that ends by its line feed
pub ended : (line : Text) → StopsAt line 10 → 0 < length line → get_or line (length line - 1) 0 ≡ 10 → line ≡ take (length line - 1) line ++ 10 ∷ []
ended line stops some last = front_and_last line some ∙ ap (λ (b : ℕ). take (length line - 1) line ++ b ∷ []) last

-- one that has none
pub unended : (line : Text) → StopsAt line 10 → (0 < length line → get_or line (length line - 1) 0 ≢ 10) → IsLine line
unended [] stops last = no_bytes
unended (b ∷ bytes) stops last =
    let some : 0 < length (b ∷ bytes) = omega arith in
    subst IsLine (sym (front_and_last (b ∷ bytes) some)) (All-append IsNoFeed _ _ stops (All-cons IsNoFeed _ [] (last some) no_bytes))

-- ---- blocks

pub lines_more : (lines : List Text) (line : Text) → lines_text (lines ++ line ∷ []) ≡ lines_text lines ++ (line ++ 10 ∷ [])
lines_more [] line = refl
lines_more (x ∷ lines) line = ap (λ (rest : Text). x ++ 10 ∷ rest) (lines_more lines line) ∙ sym (append_assoc x (10 ∷ lines_text lines) (line ++ 10 ∷ []))

pub inner_more : (lines : List Text) (line : Text) → AllByRecursion IsInner lines → IsInner line → AllByRecursion IsInner (lines ++ line ∷ [])
inner_more [] line are is = (is, tt)
inner_more (x ∷ lines) line are is = (are.0, inner_more lines line are.1 is)

-- a line of a text, and what follows it
line_first : (line rest more : Text) → (line ++ 10 ∷ rest) ++ more ≡ line ++ 10 ∷ (rest ++ more)
line_first line rest more = append_assoc line (10 ∷ rest) more

same_lines : (ones others : List Text) (rest more : Text) → AllByRecursion IsInner ones → AllByRecursion IsInner others
    → lines_text ones ++ 46 ∷ 10 ∷ rest ≡ lines_text others ++ 46 ∷ 10 ∷ more → (ones ≡ others) × (rest ≡ more)
same_lines [] [] rest more is are same = (refl, cc)
same_lines [] (o ∷ others) rest more is are same =
    let stop = same_line (46 ∷ []) o rest (lines_text others ++ 46 ∷ 10 ∷ more) stop_is_line are.0.0 (same ∙ line_first o (lines_text others) (46 ∷ 10 ∷ more)) in
    absurd (are.0.1 (sym stop.0))
same_lines (l ∷ ones) [] rest more is are same =
    let stop = same_line l (46 ∷ []) (lines_text ones ++ 46 ∷ 10 ∷ rest) more is.0.0 stop_is_line (sym (line_first l (lines_text ones) (46 ∷ 10 ∷ rest)) ∙ same) in
    absurd (is.0.1 stop.0)
same_lines (l ∷ ones) (o ∷ others) rest more is are same =
    let first = same_line l o (lines_text ones ++ 46 ∷ 10 ∷ rest) (lines_text others ++ 46 ∷ 10 ∷ more) is.0.0 are.0.0
    (sym (line_first l (lines_text ones) (46 ∷ 10 ∷ rest)) ∙ same ∙ line_first o (lines_text others) (46 ∷ 10 ∷ more)) in
    let behind = same_lines ones others rest more is.1 are.1 first.1 in
    ((λ i. first.0 i ∷ behind.0 i), behind.1)

-- a block that a text begins with, if any, is one
pub one_block : (block other rest more : Text) → IsBlock block → IsBlock other → block ++ rest ≡ other ++ more → (block ≡ other) × (rest ≡ more)
one_block block other rest more is are same =
    let lines = same_lines is.0 are.0 rest more is.1 are.1
    (sym (append_assoc (lines_text is.0) (46 ∷ 10 ∷ []) rest) ∙ ap (λ (text : Text). text ++ rest) (sym is.2) ∙ same
    ∙ ap (λ (text : Text). text ++ more) are.2 ∙ append_assoc (lines_text are.0) (46 ∷ 10 ∷ []) more) in
    (is.2 ∙ ap (λ (lines : List Text). lines_text lines ++ codes ".\n") lines.0 ∙ sym are.2, lines.1)

not_cut : (ones others : List Text) (last rest : Text) → AllByRecursion IsInner ones → AllByRecursion IsInner others → IsLine last
    → lines_text others ++ last ≡ lines_text ones ++ 46 ∷ 10 ∷ rest → ⊥
not_cut [] [] last rest is are line same = no_feed (46 ∷ []) rest (subst IsLine same line)
not_cut (l ∷ ones) [] last rest is are line same = no_feed l (lines_text ones ++ 46 ∷ 10 ∷ rest) (subst IsLine (same ∙ line_first l (lines_text ones) (46 ∷ 10 ∷ rest)) line)
not_cut [] (o ∷ others) last rest is are line same =
    let stop = same_line o (46 ∷ []) (lines_text others ++ last) rest are.0.0 stop_is_line (sym (line_first o (lines_text others) last) ∙ same) in
    are.0.1 stop.0
not_cut (l ∷ ones) (o ∷ others) last rest is are line same =
    let first = same_line o l (lines_text others ++ last) (lines_text ones ++ 46 ∷ 10 ∷ rest) are.0.0 is.0.0
    (sym (line_first o (lines_text others) last) ∙ same ∙ line_first l (lines_text ones) (46 ∷ 10 ∷ rest)) in
    not_cut ones others last rest is.1 are.1 line first.1

-- what begins with a block is not cut off
pub whole_is_not_cut : (block rest text : Text) → IsBlock block → IsCutBlock text → text ≡ block ++ rest → ⊥
whole_is_not_cut block rest text is cut same =
    not_cut is.0 cut.0 cut.1 rest is.1 cut.2 cut.3
    (sym cut.4 ∙ same ∙ ap (λ (text : Text). text ++ rest) is.2 ∙ append_assoc (lines_text is.0) (46 ∷ 10 ∷ []) rest)

-- ---- what is read

drop_front : (old new : Text) → drop (length old) (old ++ new) ≡ new
drop_front [] new = refl
drop_front (b ∷ old) new = drop_front old new

-- a front that is nothing
nothing_before : (old new : Text) → old ≡ [] → StopsAt (drop (length old) new) 10 → StopsAt new 10
nothing_before old new none stops = subst (λ (text : Text). StopsAt text 10) (ap (λ (old : Text). drop (length old) new) none) stops

last_of : (front : Text) (last : ℕ) → get_or (front ++ last ∷ []) (length (front ++ last ∷ []) - 1) 0 ≡ last
last_of front last = grind (arith, common_steps)

-- a line without its line feed is all that was left
pub line_is_cut : (known : Option Text) (old read : Text) → old ≡ [] → IfSome known (λ bytes. read ≡ old ++ take_through 10 bytes) → StopsAt (drop (length old) read) 10 → (front : Text) → (last : ℕ) → read ≡ front ++ last ∷ []
    → last ≢ 10 → IfSome known (λ bytes. (bytes ≢ []) × IsLine bytes)
line_is_cut None old read none is stops front last whole other = tt
line_is_cut (Some bytes) old read none is stops front last whole other =
    let some : 0 < length read = omega (arith, ap (λ (text : Text). length text) whole, length-append front (last ∷ [])) in
    let at : get_or read (length read - 1) 0 ≡ last = ap (λ (text : Text). get_or text (length text - 1) 0) whole ∙ last_of front last in
    let line = unended read (nothing_before old read none stops) (λ _ is. other (sym at ∙ is)) in
    let taken : read ≡ take_through 10 bytes = is ∙ ap (λ (old : Text). old ++ take_through 10 bytes) none in
    let all : read ≡ bytes = taken ∙ all_through bytes (subst IsLine taken line) in
    ((λ empty. absurd (omega (arith, some, ap (λ (text : Text). length text) (all ∙ empty)))), subst IsLine all line)

-- the same behind lines of a block
pub block_is_cut : (first known : Option Text) (old read line : Text) → Consumes first known old → IfSome known (λ bytes. read ≡ old ++ take_through 10 bytes)
    → StopsAt (drop (length old) read) 10 → line ≡ drop (length old) read → (0 < length line → get_or line (length line - 1) 0 ≢ 10)
    → ((lines : List Text) × AllByRecursion IsInner lines × (old ≡ lines_text lines)) → IfSome first IsCutBlock
block_is_cut None known old read line was is stops same last lines = tt
block_is_cut (Some text) None old read line was is stops same last lines = absurd was
block_is_cut (Some text) (Some bytes) old read line was is stops same last lines =
    let behind : line ≡ take_through 10 bytes = same ∙ ap (λ (text : Text). drop (length old) text) is ∙ drop_front old (take_through 10 bytes) in
    let whole = unended line (subst (λ (text : Text). StopsAt text 10) (sym same) stops) last in
    let all : line ≡ bytes = behind ∙ all_through bytes (subst IsLine behind whole) in
    (lines.0, line, lines.1, whole, was ∙ (λ i. lines.2 i ++ sym all i))

-- one line more of a block
pub block_goes_on : (old read line : Text) → StopsAt (drop (length old) read) 10 → read ≡ old ++ drop (length old) read → line ≡ drop (length old) read
    → 0 < length line → get_or line (length line - 1) 0 ≡ 10 → line ≢ codes ".\n"
    → ((lines : List Text) × AllByRecursion IsInner lines × (old ≡ lines_text lines)) → (lines : List Text) × AllByRecursion IsInner lines × (read ≡ lines_text lines)
block_goes_on old read line stops whole same some last other lines =
    let inner = take (length line - 1) line in
    let ends : line ≡ inner ++ 10 ∷ [] = ended line (subst (λ (text : Text). StopsAt text 10) (sym same) stops) some last in
    let is_line : IsLine inner = subst (λ (text : Text). StopsAt text 10) (sym same) stops in
    let is_other : inner ≢ codes "." = λ stop. other (ends ∙ ap (λ (text : Text). text ++ 10 ∷ []) stop) in (
      lines.0 ++ inner ∷ [],
      inner_more lines.0 inner lines.1 (is_line, is_other),
      whole ∙ (λ i. lines.2 i ++ (sym same ∙ ends) i) ∙ sym (lines_more lines.0 inner),
    )

pub appended : (old read : Text) → StartsWith read old → read ≡ old ++ drop (length old) read
appended old read starts = sym (take-append-drop (length old) read) ∙ ap (λ (front : Text). front ++ drop (length old) read) starts

pub reads_more : (first before now : Option Text) (old read : Text) → Consumes first before old → StartsWith read old → Consumes before now (drop (length old) read) → Consumes first now read
reads_more None before now old read was starts is = tt
reads_more (Some text) None now old read was starts is = absurd was
reads_more (Some text) (Some more) None old read was starts is = absurd is
reads_more (Some text) (Some more) (Some rest) old read was starts is =
    was ∙ ap (λ (more : Text). old ++ more) is ∙ sym (append_assoc old (drop (length old) read) rest) ∙ ap (λ (front : Text). front ++ rest) (sym (appended old read starts))
