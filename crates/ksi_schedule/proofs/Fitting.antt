-- Lines with and without a name have other counts of words.
use Rattle.std.proofs.Common.{◌≡◌, Bool, true, false, cond, ◌&&◌, List, [], ◌∷◌, ◌++◌, length, Result, Ok, Err, refl, sym, ap, ◌∙◌, arith}
use Rattle.std.specs.List.{AllByRecursion}
use Rattle.ksi_schedule.specs.declared.fault.LineFault.{LineFault}
use Rattle.ksi_schedule.specs.declared.fault.LineFault.TheVariants.{Word}
use Rattle.ksi_schedule.specs.declared.version.Version.{Version}
use Rattle.ksi_schedule.specs.declared.version.Version.TheVariants.{One, Two}
use Rattle.ksi_schedule.specs.Pieces.{Text}
use Rattle.ksi_schedule.specs.Plans.{PlanState}
use Rattle.ksi_schedule.specs.Words.{Sort, Form, looks_like, fits, form_at, ◌>>=◌}
use Rattle.ksi_schedule.specs.Forms.{in_two}

second_false : (a b : Bool) → b ≡ false → (a && b) ≡ false
second_false true b is = is
second_false false b is = refl

other_count : (sorts : List Sort) (ws : List Text) → ¬ (length ws ≡ length sorts) → fits sorts ws ≡ false
other_count [] [] not = absurd (not refl)
other_count [] (w ∷ ws) not = refl
other_count (sort ∷ sorts) [] not = refl
other_count (sort ∷ sorts) (w ∷ ws) not = second_false (looks_like sort w) (fits sorts ws) (other_count sorts ws (λ same. not (omega (arith, same))))

-- none of the forms has so many words
abbrev pub HaveOthers : {A : Type 0} → List Text → List (Form A) → Type 0
HaveOthers ws forms = AllByRecursion (λ form. ¬ (length ws ≡ length form.sorts)) forms

pub none_fits : {A : Type 0} (plan : PlanState) (forms : List (Form A)) (ws : List Text) → HaveOthers ws forms → form_at plan forms ws ≡ Err Word
unfolding form_at
none_fits plan [] ws others = refl
none_fits plan (form ∷ forms) ws others = rw (other_count form.sorts ws others.0) (none_fits plan forms ws others.1)

-- forms that do not fit may be left out, before the others and behind them
before : {A : Type 0} (plan : PlanState) (forms more : List (Form A)) (ws : List Text) → HaveOthers ws forms → form_at plan (forms ++ more) ws ≡ form_at plan more ws
unfolding form_at
before plan [] more ws others = refl
before plan (form ∷ forms) more ws others = rw (other_count form.sorts ws others.0) (before plan forms more ws others.1)

behind : {A : Type 0} (plan : PlanState) (forms more : List (Form A)) (ws : List Text) → HaveOthers ws more → form_at plan (forms ++ more) ws ≡ form_at plan forms ws
unfolding form_at
behind plan [] more ws others = none_fits plan more ws others
behind plan (form ∷ forms) more ws others = ap (λ r. cond (fits form.sorts ws) (Rattle.ksi_schedule.specs.Words.values_at plan form.sorts ws >>= λ vs. Ok (form.makes vs)) r) (behind plan forms more ws others)

left_out : {A : Type 0} (version : Version) (forms : List (Form A)) (ws : List Text) → HaveOthers ws forms → HaveOthers ws (in_two version forms)
left_out One forms ws others = tt
left_out Two forms ws others = others

-- ---- by the count of words

pub bare_is : {A : Type 0} (plan : PlanState) (version : Version) (bare named : List (Form A)) (ws three : List Text) (r : Result A LineFault) → ws ≡ three → HaveOthers three named
    → r ≡ form_at plan bare three → r ≡ form_at plan (bare ++ in_two version named) ws
bare_is plan version bare named ws three r is others read =
    read ∙ sym (behind plan bare (in_two version named) three (left_out version named three others)) ∙ ap (form_at plan (bare ++ in_two version named)) (sym is)

pub none_is : {A : Type 0} (plan : PlanState) (version : Version) (bare named : List (Form A)) (ws : List Text) (r : Result A LineFault) → HaveOthers ws bare
    → version ≡ One → r ≡ Err Word → r ≡ form_at plan (bare ++ in_two version named) ws
unfolding form_at
none_is plan version bare named ws r others one is =
    is ∙ sym (before plan bare [] ws others) ∙ ap (λ version. form_at plan (bare ++ in_two version named) ws) (sym one)

pub named_is : {A : Type 0} (plan : PlanState) (version : Version) (bare named : List (Form A)) (ws : List Text) (r : Result A LineFault) → HaveOthers ws bare
    → version ≡ Two → r ≡ form_at plan named ws → r ≡ form_at plan (bare ++ in_two version named) ws
named_is plan version bare named ws r others two read =
    read ∙ sym (before plan bare named ws others) ∙ ap (λ version. form_at plan (bare ++ in_two version named) ws) (sym two)
