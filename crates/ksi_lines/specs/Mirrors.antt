-- The lines of mirrors: why two are not merged, and why the journal of one is not made.
use Rattle.std.specs.Prelude.{ℕ, List, [], ◌∷◌, codes}
use Rattle.std.specs.Fmt.{decimal}
use Rattle.ksi_schedule.specs.Printed.{hex_of}
use Rattle.ksi_mirror.specs.declared.refusal.MergeRefusal.{MergeRefusal}
use Rattle.ksi_mirror.specs.declared.refusal.MergeRefusal.TheVariants.{Starts, Conflict, Trees}
use Rattle.ksi_mirror.specs.declared.refusal.WholeRefusal.{WholeRefusal}
use Rattle.ksi_mirror.specs.declared.refusal.WholeRefusal.TheVariants.{NoTree}
use Rattle.ksi_lines.specs.Lines.{refused_for}

abbrev pub not_merged_line : MergeRefusal → List ℕ
not_merged_line (Starts one two) = refused_for (codes "M1" ∷ decimal one ∷ decimal two ∷ [])
not_merged_line (Conflict second one two) = refused_for (codes "M2" ∷ decimal second ∷ hex_of one ∷ hex_of two ∷ [])
not_merged_line (Trees second core place) = refused_for (codes "M3" ∷ decimal second ∷ decimal core ∷ decimal place ∷ [])

abbrev pub not_whole_line : WholeRefusal → List ℕ
not_whole_line (NoTree second) = refused_for (codes "M4" ∷ decimal second ∷ [])
