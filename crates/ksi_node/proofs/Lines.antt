-- One line more came.
use Rattle.std.proofs.Common.{◌≡◌, ℕ, List, [], ◌∷◌, ◌++◌, true, false, Option, Some, None, refl, subst}
use Rattle.ksi_node.specs.declared.inlet.Came.{Came}
use Rattle.ksi_node.specs.declared.inlet.Came.TheVariants as cames
use Rattle.ksi_node.specs.Inlet.{came_line, is_end, is_long, AreLinesOf, HasCome, HaveCome, LinesCame, NoFeed, OneCame}

abbrev Text : Type 0
Text = List ℕ

one_more : (lines : List (Option Text)) (one : Option Text) (input mid left : Text) → LinesCame lines input mid → OneCame one mid left → LinesCame (lines ++ one ∷ []) input left
one_more [] one input mid left was is = (left, subst (λ i. OneCame one i left) was is, refl)
one_more (first ∷ lines) one input mid left was is = (was.0, was.1, one_more lines one was.0 mid left was.2 is)

one_came : (came : Came) (line input left : Text) → is_end came ≡ false → HasCome came line (Some input) (Some left) → OneCame (came_line (is_long came) line) input left
one_came cames.Line line input left not is = is
one_came cames.Long line input left not is = is
one_came cames.End line input left not is = absurd cc

none_came : (came : Came) (line input left : Text) (lines : List (Option Text)) (all : Text) → is_end came ≡ true → HasCome came line (Some input) (Some left) → LinesCame lines all input → AreLinesOf (Some all) lines
none_came cames.Line line input left lines all end is was = absurd cc
none_came cames.Long line input left lines all end is was = absurd cc
none_came cames.End line input left lines all end is was = (input, was, is.0, is.1)

-- a line that came has no line feed
pub line_free : (came : Came) (line : Text) (input left : Option Text) → is_end came ≡ false → HasCome came line input left → is_long came ≡ false → NoFeed line
line_free cames.Line line None left not is short = is
line_free cames.Line line (Some i) None not is short = absurd is
line_free cames.Line line (Some i) (Some l) not is short = is.0
line_free cames.Long line input left not is short = absurd cc
line_free cames.End line input left not is short = absurd cc

pub none_yet : (input : Option Text) → HaveCome [] input input
none_yet None = tt
none_yet (Some input) = refl

pub have_come : (lines : List (Option Text)) (came : Came) (line : Text) (input mid left : Option Text) → is_end came ≡ false → HaveCome lines input mid → HasCome came line mid left → HaveCome (lines ++ came_line (is_long came) line ∷ []) input left
have_come lines came line None mid left not was is = tt
have_come lines came line (Some i) None left not was is = absurd was
have_come lines came line (Some i) (Some m) None not was is = is
have_come lines came line (Some i) (Some m) (Some l) not was is = one_more lines (came_line (is_long came) line) i m l was (one_came came line m l not is)

pub all_came : (lines : List (Option Text)) (came : Came) (line : Text) (input mid left : Option Text) → is_end came ≡ true → HaveCome lines input mid → HasCome came line mid left → AreLinesOf input lines
all_came lines came line None mid left end was is = tt
all_came lines came line (Some i) None left end was is = absurd was
all_came lines came line (Some i) (Some m) None end was is = absurd is
all_came lines came line (Some i) (Some m) (Some l) end was is = none_came came line m l lines i end is was
