-- A text has one verdict.
use Rattle.std.proofs.Common.{◌≡◌, List, [], ◌∷◌, ◌++◌, ℕ, Option, Some, None, IfSome, Result, Ok, Err, IfOk, inl, inr, refl, sym, ap, subst, ◌∙◌, append_assoc}
use Rattle.std.specs.List.{AllByRecursion}
use Rattle.std.specs.Io.BufRead.{take_through}
use Rattle.std.specs.Io.KnownBytes.{Appends}
use Rattle.ksi_schedule.specs.Pieces.{Text}
use Rattle.ksi_schedule.specs.Plans.{PlanState}
use Rattle.ksi_schedule.specs.declared.event.Event.{Event}
use Rattle.ksi_records.specs.declared.fault.RecordFault.{RecordFault}
use Rattle.ksi_records.specs.declared.fault.RecordFault.TheVariants as faults
use Rattle.ksi_records.specs.declared.head.Given.{Given}
use Rattle.ksi_records.specs.declared.head.Head.{Head}
use Rattle.ksi_records.specs.declared.head.Head.TheVariants as heads
use Rattle.ksi_records.specs.declared.blocks.place.Place.{Place}
use Rattle.ksi_records.specs.declared.verdict.Counts.{Counts}
use Rattle.ksi_records.specs.declared.verdict.Retraced.{Retraced}
use Rattle.ksi_records.specs.declared.verdict.Retraced.TheVariants as retraced
use Rattle.ksi_records.specs.declared.version.Version.{Version}
use Rattle.ksi_records.specs.declared.version.Version.TheVariants as versions
use Rattle.ksi_records.specs.Entries.{Entry, entry_text, record_text}
use Rattle.ksi_records.specs.Told.{with_head, AreTold, IsMissing, IsTold, IsUnaccepted, IsUnnamed, MayCome}
use Rattle.ksi_records.specs.Verdicts.{AreEntries, IsEntry, Nothing, Whole, Refused, StandsIn, EndsIn, IsVerdict, shown, title}
use Rattle.ksi_records.proofs.StandingLemmas.{one_entry, one_standing}

nothing_is_not_whole : {P : Type 0} (entry : Entry) (more : Text) → Nothing ≡ Whole entry more → P
nothing_is_not_whole entry more is = absurd cc

nothing_is_not_refused : {P : Type 0} (fault : RecordFault) → Nothing ≡ Refused fault → P
nothing_is_not_refused fault is = absurd cc

whole_is_not_refused : {P : Type 0} (entry : Entry) (more : Text) (fault : RecordFault) → Whole entry more ≡ Refused fault → P
whole_is_not_refused entry more fault is = absurd cc

module _ (image : List ℕ → List ℕ) (plan : PlanState) where
  unnamed_is : (es : List Event) (it : Given) (fault : RecordFault) → IsUnnamed image plan es it fault → fault ≡ faults.Message
  unnamed_is es it (faults.Line fault) is = absurd is
  unnamed_is es it faults.Message is = refl
  unnamed_is es it faults.Request is = absurd is
  unnamed_is es it faults.Cut is = absurd is

  unaccepted_is : (es : List Event) (step : ℕ) (fault : RecordFault) → IsUnaccepted image plan es step fault → fault ≡ faults.Request
  unaccepted_is es step (faults.Line fault) is = absurd is
  unaccepted_is es step faults.Message is = absurd is
  unaccepted_is es step faults.Request is = refl
  unaccepted_is es step faults.Cut is = absurd is

  one_missing : (es : List Event) (head : Head) (fault faulty : RecordFault) → IsMissing image plan es head fault → IsMissing image plan es head faulty → fault ≡ faulty
  one_missing es (heads.Said it) fault faulty is are = unnamed_is es it fault is ∙ sym (unnamed_is es it faulty are)
  one_missing es (heads.Unsaid it) fault faulty is are = unnamed_is es it fault is ∙ sym (unnamed_is es it faulty are)
  one_missing es (heads.Restarted actor) fault faulty is are = absurd is
  one_missing es (heads.Sign step) fault faulty is are = unaccepted_is es step fault is ∙ sym (unaccepted_is es step faulty are)

  named : (es : List Event) (it : Given) (fault : RecordFault) → MayCome image plan es (heads.Said it) → IsUnnamed image plan es it fault → ⊥
  named es it fault may is = subst (λ (fault : RecordFault). IsUnnamed image plan es it fault) (unnamed_is es it fault is) is may

  may_not_miss : (es : List Event) (head : Head) (fault : RecordFault) → MayCome image plan es head → IsMissing image plan es head fault → ⊥
  may_not_miss es (heads.Said it) fault may is = named es it fault may is
  may_not_miss es (heads.Unsaid it) fault may is = named es it fault may is
  may_not_miss es (heads.Restarted actor) fault may is = is
  may_not_miss es (heads.Sign step) fault may is = subst (λ (fault : RecordFault). IsUnaccepted image plan es step fault) (unaccepted_is es step fault is) is may

module _ (image : List ℕ → List ℕ) (plan : PlanState) (version : Version) where
  told_may_come : (es : List Event) (head : Head) (came block : Text) → IsTold image plan version es head came block → MayCome image plan es head
  told_may_come es (heads.Said it) came block is = is.0
  told_may_come es (heads.Unsaid it) came block is = is.0
  told_may_come es (heads.Restarted actor) came block is = tt
  told_may_come es (heads.Sign step) came block is = is.0

  -- the same entry stands there
  same_whole : (rest : Text) (one other : Entry) (more behind : Text) → StandsIn plan version rest (Whole one more) → StandsIn plan version rest (Whole other behind) → one ≡ other
  same_whole rest one other more behind is are = let whole = one_standing plan version rest (Whole one more) (Whole other behind) is are in cc whole

  same_end : (entries : List Entry) (es : List Event) (rest : Text) (one other : Retraced) → EndsIn image plan version entries es rest one → EndsIn image plan version entries es rest other → one ≡ other
  same_end entries es rest (retraced.Agrees counts) (retraced.Agrees others) is are = ap (λ (counts : Counts). retraced.Agrees counts) (is.1 ∙ sym are.1)
  same_end entries es rest (retraced.Agrees counts) (retraced.Differs place) is are =
      nothing_is_not_whole are.0 are.1 (one_standing plan version rest Nothing (Whole are.0 are.1) is.0 are.2)
  same_end entries es rest (retraced.Agrees counts) (retraced.Refused fault place) is (inl stands, at) =
      nothing_is_not_refused fault (one_standing plan version rest Nothing (Refused fault) is.0 stands)
  same_end entries es rest (retraced.Agrees counts) (retraced.Refused fault place) is (inr misses, at) =
      nothing_is_not_whole misses.0 misses.1 (one_standing plan version rest Nothing (Whole misses.0 misses.1) is.0 misses.2)
  same_end entries es rest (retraced.Differs place) (retraced.Agrees counts) is are =
      nothing_is_not_whole is.0 is.1 (one_standing plan version rest Nothing (Whole is.0 is.1) are.0 is.2)
  same_end entries es rest (retraced.Differs place) (retraced.Differs other) is are = ap (λ (place : Place). retraced.Differs place) (is.5 ∙ sym are.5)
  same_end entries es rest (retraced.Differs place) (retraced.Refused fault other) is (inl stands, at) =
      whole_is_not_refused is.0 is.1 fault (one_standing plan version rest (Whole is.0 is.1) (Refused fault) is.2 stands)
  same_end entries es rest (retraced.Differs place) (retraced.Refused fault other) is (inr misses, at) =
      let same = same_whole rest misses.0 is.0 misses.1 is.1 misses.2 is.2 in
      absurd (may_not_miss image plan es is.0.head fault is.3 (subst (λ (entry : Entry). IsMissing image plan es entry.head fault) same misses.3))
  same_end entries es rest (retraced.Refused fault place) (retraced.Agrees counts) (inl stands, at) are =
      nothing_is_not_refused fault (one_standing plan version rest Nothing (Refused fault) are.0 stands)
  same_end entries es rest (retraced.Refused fault place) (retraced.Agrees counts) (inr misses, at) are =
      nothing_is_not_whole misses.0 misses.1 (one_standing plan version rest Nothing (Whole misses.0 misses.1) are.0 misses.2)
  same_end entries es rest (retraced.Refused fault place) (retraced.Differs other) (inl stands, at) are =
      whole_is_not_refused are.0 are.1 fault (one_standing plan version rest (Whole are.0 are.1) (Refused fault) are.2 stands)
  same_end entries es rest (retraced.Refused fault place) (retraced.Differs other) (inr misses, at) are =
      let same = same_whole rest misses.0 are.0 misses.1 are.1 misses.2 are.2 in
      absurd (may_not_miss image plan es are.0.head fault are.3 (subst (λ (entry : Entry). IsMissing image plan es entry.head fault) same misses.3))
  same_end entries es rest (retraced.Refused fault place) (retraced.Refused faulty other) (inl stands, at) (inl stood, there) =
      let refused : Refused fault ≡ Refused faulty = one_standing plan version rest (Refused fault) (Refused faulty) stands stood in
      let same : fault ≡ faulty = cc refused in
      λ i. retraced.Refused (same i) ((at ∙ sym there) i)
  same_end entries es rest (retraced.Refused fault place) (retraced.Refused faulty other) (inl stands, at) (inr misses, there) =
      whole_is_not_refused misses.0 misses.1 fault (one_standing plan version rest (Whole misses.0 misses.1) (Refused fault) misses.2 stands)
  same_end entries es rest (retraced.Refused fault place) (retraced.Refused faulty other) (inr misses, at) (inl stands, there) =
      whole_is_not_refused misses.0 misses.1 faulty (one_standing plan version rest (Whole misses.0 misses.1) (Refused faulty) misses.2 stands)
  same_end entries es rest (retraced.Refused fault place) (retraced.Refused faulty other) (inr misses, at) (inr missed, there) =
      let same = same_whole rest misses.0 missed.0 misses.1 missed.1 misses.2 missed.2 in
      let both = one_missing image plan es missed.0.head fault faulty (subst (λ (entry : Entry). IsMissing image plan es entry.head fault) same misses.3) missed.3 in
      λ i. retraced.Refused (both i) ((at ∙ sym there) i)

  -- where an entry agrees, the verdict is not of it
  told_goes_on : (entries : List Entry) (es : List Event) (rest : Text) (verdict : Retraced) (entry : Entry) (more : Text) → StandsIn plan version rest (Whole entry more)
      → IsTold image plan version es entry.head entry.came entry.block → EndsIn image plan version entries es rest verdict → ⊥
  told_goes_on entries es rest (retraced.Agrees counts) entry more stands told ends =
      nothing_is_not_whole entry more (one_standing plan version rest Nothing (Whole entry more) ends.0 stands)
  told_goes_on entries es rest (retraced.Differs place) entry more stands told ends =
      let same = same_whole rest entry ends.0 more ends.1 stands ends.2 in
      ends.4 (subst (λ (entry : Entry). IsTold image plan version es entry.head entry.came entry.block) same told)
  told_goes_on entries es rest (retraced.Refused fault place) entry more stands told (inl refused, at) =
      whole_is_not_refused entry more fault (one_standing plan version rest (Whole entry more) (Refused fault) stands refused)
  told_goes_on entries es rest (retraced.Refused fault place) entry more stands told (inr misses, at) =
      let same = same_whole rest misses.0 entry misses.1 more misses.2 stands in
      may_not_miss image plan es entry.head fault (told_may_come es entry.head entry.came entry.block told) (subst (λ (entry : Entry). IsMissing image plan es entry.head fault) same misses.3)

  ends_once : (before ones others : List Entry) (es end other_end : List Event) (rest more : Text) (verdict other : Retraced)
      → AllByRecursion (IsEntry plan version) ones → AllByRecursion (IsEntry plan version) others → record_text version ones ++ rest ≡ record_text version others ++ more
      → AreTold image plan version es ones end → AreTold image plan version es others other_end
      → EndsIn image plan version (before ++ ones) end rest verdict → EndsIn image plan version (before ++ others) other_end more other → verdict ≡ other
  ends_once before [] [] es end other_end rest more verdict other is are same told said ends ended =
      let one = subst (λ (es : List Event). EndsIn image plan version (before ++ []) es rest verdict) (sym told) ends in
      let two = subst (λ (es : List Event). EndsIn image plan version (before ++ []) es more other) (sym said) ended in
      same_end (before ++ []) es rest verdict other one (subst (λ (text : Text). EndsIn image plan version (before ++ []) es text other) (sym same) two)
  ends_once before [] (o ∷ others) es end other_end rest more verdict other is are same told said ends ended =
      let one = subst (λ (es : List Event). EndsIn image plan version (before ++ []) es rest verdict) (sym told) ends in
      absurd (told_goes_on (before ++ []) es rest verdict o (record_text version others ++ more) (same ∙ append_assoc (entry_text version o) (record_text version others) more, are.0) said.0 one)
  ends_once before (x ∷ ones) [] es end other_end rest more verdict other is are same told said ends ended =
      let two = subst (λ (es : List Event). EndsIn image plan version (before ++ []) es more other) (sym said) ended in
      absurd (told_goes_on (before ++ []) es more other x (record_text version ones ++ rest) (sym same ∙ append_assoc (entry_text version x) (record_text version ones) rest, is.0) told.0 two)
  ends_once before (x ∷ ones) (o ∷ others) es end other_end rest more verdict other is are same told said ends ended =
      let first = one_entry plan version x o (record_text version ones ++ rest) (record_text version others ++ more) is.0 are.0
      (sym (append_assoc (entry_text version x) (record_text version ones) rest) ∙ same ∙ append_assoc (entry_text version o) (record_text version others) more) in
      let said_behind = subst (λ (o : Entry). AreTold image plan version (with_head image plan es o.head) others other_end) (sym first.0) said.1 in
      let ended_behind = subst (λ (o : Entry). EndsIn image plan version (before ++ o ∷ others) other_end more other) (sym first.0) ended in
      ends_once (before ++ x ∷ []) ones others (with_head image plan es x.head) end other_end rest more verdict other is.1 are.1 first.1 told.1 said_behind
      (subst (λ (entries : List Entry). EndsIn image plan version entries end rest verdict) (sym (append_assoc before (x ∷ []) ones)) ends)
      (subst (λ (entries : List Entry). EndsIn image plan version entries other_end more other) (sym (append_assoc before (x ∷ []) others)) ended_behind)

  one_end : (text : Text) (ones others : List Entry) (verdict other : Retraced) → AreEntries image plan version text ones verdict → AreEntries image plan version text others other → other ≡ verdict
  one_end text ones others verdict other is are =
      sym (ends_once [] ones others [] is.events are.events is.rest are.rest verdict other is.entries_are are.entries_are (sym is.spelled ∙ are.spelled) is.told are.told is.ends are.ends)

-- a record has one version
with_title : (body : Text) → take_through 10 (title ++ body) ≡ title
with_title body = refl

not_both_versions : {P : Type 0} (text body : Text) → text ≡ title ++ body → (take_through 10 text ≡ title → ⊥) → P
not_both_versions text body is none = absurd (none (ap (take_through 10) is ∙ with_title body))

same_body : (one other : Text) → title ++ one ≡ title ++ other → one ≡ other
same_body one other is = cc

module _ (image : List ℕ → List ℕ) (plan : PlanState) where
  pub one_verdict : (version again : Version) (text : Text) (ones others : List Entry) (verdict other : Retraced) → IsVerdict image plan version text ones verdict → IsVerdict image plan again text others other → other ≡ verdict
  one_verdict versions.One versions.One text ones others verdict other is are =
      one_end image plan versions.One is.body ones others verdict other is.are
      (subst (λ (body : Text). AreEntries image plan versions.One body others other) (are.begins.0 ∙ sym is.begins.0) are.are)
  one_verdict versions.One versions.Two text ones others verdict other is are = not_both_versions text are.body are.begins is.begins.1
  one_verdict versions.Two versions.One text ones others verdict other is are = not_both_versions text is.body is.begins are.begins.1
  one_verdict versions.Two versions.Two text ones others verdict other is are =
      one_end image plan versions.Two is.body ones others verdict other is.are
      (subst (λ (body : Text). AreEntries image plan versions.Two body others other) (same_body are.body is.body (sym are.begins ∙ is.begins)) are.are)

  -- the verdict belongs to some version and entries of the record, and exactly these entries were shown
  abbrev pub Found : (first old new : Option Text) → Retraced → Type 0
  Found first old new verdict =
      IfSome first (λ text. (version : Version) × (entries : List Entry) × IsVerdict image plan version text entries verdict × Appends old new (shown image plan entries))

  abbrev pub Only : (first : Option Text) → Retraced → Type 0
  Only first verdict = IfSome first (λ text. (version : Version) (entries : List Entry) (other : Retraced) → IsVerdict image plan version text entries other → other ≡ verdict)

  -- if a verdict is found, it is the only one
  pub only_verdict : {E : Type 0} (found : Result Retraced E) (known old new : Option Text) → IfOk found (λ verdict. Found known old new verdict) → IfOk found (λ verdict. Only known verdict)
  only_verdict (Ok verdict) (Some text) old new is = λ version entries other are. one_verdict is.0 version text is.1 entries verdict other is.2 are
  only_verdict (Ok verdict) None old new is = tt
  only_verdict (Err error) known old new is = tt
