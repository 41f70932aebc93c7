-- What stands next in a text is one.
use Rattle.std.proofs.Common.{◌≡◌, ◌≢◌, [], ◌∷◌, ◌++◌, Ok, Err, inl, inr, refl, sym, ap, subst, ◌∙◌, append_assoc}
use Rattle.ksi_schedule.specs.Pieces.{Text}
use Rattle.ksi_schedule.specs.Plans.{PlanState}
use Rattle.ksi_wire.specs.declared.fault.WireFault.{WireFault}
use Rattle.ksi_records.specs.declared.fault.RecordFault.TheVariants as faults
use Rattle.ksi_records.specs.declared.head.Head.{Head}
use Rattle.ksi_records.specs.declared.head.Head.TheVariants as heads
use Rattle.ksi_records.specs.declared.version.Version.{Version}
use Rattle.ksi_records.specs.Heads.{Read, came_in, head_at}
use Rattle.ksi_records.specs.Blocks.{IsLine, IsCutBlock}
use Rattle.ksi_records.specs.Entries.{Entry, entry_text, first_line, HasBlock, WantsBlock}
use Rattle.ksi_records.specs.Verdicts.{IsEntry, Standing, Nothing, Whole, Refused, StandsIn}
use Rattle.ksi_records.proofs.TextLemmas.{no_feed, one_block, same_line, whole_is_not_cut}

abbrev ok : Head → Read Head
ok head = Ok head

abbrev err : WireFault → Read Head
err fault = Err fault

not_both : {P : Type 0} (head : Head) (fault : WireFault) → ok head ≡ err fault → P
not_both head fault is = absurd cc

no_line : (line more : Text) → [] ≡ line ++ 10 ∷ more → ⊥
no_line [] more is = absurd cc
no_line (b ∷ line) more is = absurd cc

-- the first line of an entry, and what follows it
pub entry_line : (version : Version) (entry : Entry) (more : Text) → entry_text version entry ++ more ≡ first_line version entry.head entry.came ++ 10 ∷ (entry.block ++ more)
entry_line version entry more = append_assoc (first_line version entry.head entry.came) (10 ∷ entry.block) more

same_block : (head : Head) (block other rest more : Text) → HasBlock head block → HasBlock head other → block ++ rest ≡ other ++ more → (block ≡ other) × (rest ≡ more)
same_block (heads.Said it) block other rest more is are same = one_block block other rest more is are same
same_block (heads.Unsaid it) block other rest more is are same =
    (is ∙ sym are, ap (λ (block : Text). block ++ rest) (sym is) ∙ same ∙ ap (λ (block : Text). block ++ more) are)
same_block (heads.Restarted actor) block other rest more is are same =
    (is ∙ sym are, ap (λ (block : Text). block ++ rest) (sym is) ∙ same ∙ ap (λ (block : Text). block ++ more) are)
same_block (heads.Sign step) block other rest more is are same = one_block block other rest more is are same

not_short : (head : Head) (block rest more : Text) → WantsBlock head → HasBlock head block → IsCutBlock more → more ≡ block ++ rest → ⊥
not_short (heads.Said it) block rest more wants is cut same = whole_is_not_cut block rest more is cut same
not_short (heads.Unsaid it) block rest more wants is cut same = wants
not_short (heads.Restarted actor) block rest more wants is cut same = wants
not_short (heads.Sign step) block rest more wants is cut same = whole_is_not_cut block rest more is cut same

-- what a whole line makes of what stands next, with what follows it
data Behind (plan : PlanState) (version : Version) (line more : Text) (standing : Standing) : Type 0 where
  Bad : (fault : WireFault) → head_at plan version line ≡ Err fault → standing ≡ Refused (faults.Line fault) → Behind plan version line more standing
  Good : (head : Head) → (block rest : Text) → head_at plan version line ≡ Ok head → HasBlock head block → more ≡ block ++ rest → standing ≡ Whole (record { head = head; came = came_in version line; block = block }) rest
      → Behind plan version line more standing
  Short : (head : Head) → head_at plan version line ≡ Ok head → WantsBlock head → IsCutBlock more → standing ≡ Refused faults.Cut → Behind plan version line more standing

data View (plan : PlanState) (version : Version) (text : Text) (standing : Standing) : Type 0 where
  Empty : text ≡ [] → standing ≡ Nothing → View plan version text standing
  Broken : text ≢ [] → IsLine text → standing ≡ Refused faults.Cut → View plan version text standing
  Lined : (line more : Text) → text ≡ line ++ 10 ∷ more → IsLine line → Behind plan version line more standing → View plan version text standing

module _ (plan : PlanState) (version : Version) where
  view : (text : Text) (standing : Standing) → StandsIn plan version text standing → View plan version text standing
  view text Nothing is = Empty is refl
  view text (Whole entry more) is =
      Lined (first_line version entry.head entry.came) (entry.block ++ more) (is.0 ∙ entry_line version entry more) is.1.line
      (Good entry.head entry.block more is.1.taken is.1.block refl (λ i. Whole (record { head = entry.head; came = is.1.came i; block = entry.block }) more))
  view text (Refused (faults.Line fault)) is = Lined is.0 is.1 is.2 is.3 (Bad fault is.4 refl)
  view text (Refused faults.Message) is = absurd is
  view text (Refused faults.Request) is = absurd is
  view text (Refused faults.Cut) (inl is) = Broken is.0 is.1 refl
  view text (Refused faults.Cut) (inr is) = Lined is.0 is.1 is.3 is.4 (Short is.2 is.5 is.6 is.7 refl)

  same_behind : (line more : Text) (one other : Standing) → Behind plan version line more one → Behind plan version line more other → one ≡ other
  same_behind line more one other (Bad fault is so) (Bad faulty are as_well) =
      let same : err fault ≡ err faulty = sym is ∙ are in
      let both : fault ≡ faulty = cc same in
      so ∙ ap (λ (fault : WireFault). Refused (faults.Line fault)) both ∙ sym as_well
  same_behind line more one other (Bad fault is so) (Good head block rest are has same as_well) = not_both head fault (sym are ∙ is)
  same_behind line more one other (Bad fault is so) (Short head are wants cut as_well) = not_both head fault (sym are ∙ is)
  same_behind line more one other (Good head block rest is has same so) (Bad fault are as_well) = not_both head fault (sym is ∙ are)
  same_behind line more one other (Good head block rest is has same so) (Good first text behind are had before as_well) =
      let heads_are : ok head ≡ ok first = sym is ∙ are in
      let both : head ≡ first = cc heads_are in
      let blocks = same_block head block text rest behind has (subst (λ (head : Head). HasBlock head text) (sym both) had) (sym same ∙ before) in
      so ∙ (λ i. Whole (record { head = both i; came = came_in version line; block = blocks.0 i }) (blocks.1 i)) ∙ sym as_well
  same_behind line more one other (Good head block rest is has same so) (Short first are wants cut as_well) =
      let heads_are : ok first ≡ ok head = sym are ∙ is in
      let both : first ≡ head = cc heads_are in
      absurd (not_short head block rest more (subst WantsBlock both wants) has cut same)
  same_behind line more one other (Short first is wants cut so) (Bad fault are as_well) = not_both first fault (sym is ∙ are)
  same_behind line more one other (Short first is wants cut so) (Good head block rest are has same as_well) =
      let heads_are : ok first ≡ ok head = sym is ∙ are in
      let both : first ≡ head = cc heads_are in
      absurd (not_short head block rest more (subst WantsBlock both wants) has cut same)
  same_behind line more one other (Short head is wants cut so) (Short first are wanted cuts as_well) = so ∙ sym as_well

  same_view : (text : Text) (one other : Standing) → View plan version text one → View plan version text other → one ≡ other
  same_view text one other (Empty is so) (Empty are as_well) = so ∙ sym as_well
  same_view text one other (Empty is so) (Broken some line as_well) = absurd (some is)
  same_view text one other (Empty is so) (Lined line more are first behind) = absurd (no_line line more (sym is ∙ are))
  same_view text one other (Broken some line so) (Empty are as_well) = absurd (some are)
  same_view text one other (Broken some line so) (Broken any like as_well) = so ∙ sym as_well
  same_view text one other (Broken some whole so) (Lined line more are first behind) = absurd (no_feed line more (subst IsLine are whole))
  same_view text one other (Lined line more is first behind) (Empty are as_well) = absurd (no_line line more (sym are ∙ is))
  same_view text one other (Lined line more is first behind) (Broken any whole as_well) = absurd (no_feed line more (subst IsLine is whole))
  same_view text one other (Lined line more is first behind) (Lined again rest are second after) =
      let lines = same_line line again more rest first second (sym is ∙ are) in
      same_behind line more one other behind (subst (λ (rest : Text). Behind plan version line rest other) (sym lines.1) (subst (λ (line : Text). Behind plan version line rest other) (sym lines.0) after))

  pub one_standing : (text : Text) (one other : Standing) → StandsIn plan version text one → StandsIn plan version text other → one ≡ other
  one_standing text one other is are = same_view text one other (view text one is) (view text other are)

  pub one_entry : (one other : Entry) (rest more : Text) → IsEntry plan version one → IsEntry plan version other → entry_text version one ++ rest ≡ entry_text version other ++ more → (one ≡ other) × (rest ≡ more)
  one_entry one other rest more is are same =
      let whole : Whole one rest ≡ Whole other more = one_standing (entry_text version one ++ rest) (Whole one rest) (Whole other more) (refl, is) (same, are) in
      (cc whole, cc whole)
