-- Rows behind rows, and the rows of links and of chains.
use Rattle.std.proofs.Common.{◌≡◌, ℕ, ◌+◌, List, [], ◌∷◌, ◌++◌, Ok, Err, inl, inr, refl, sym, ap, ◌∙◌, append_assoc}
use Rattle.std.proofs.lemmas.Bool.Decides.{leb_tells}
use Rattle.ksi_imprint.specs.Imprints.{imprint_of}
use Rattle.ksi_schedule.specs.Printed.{line_of, text_of_lines}
use Rattle.ksi_aggtree.specs.Links.{PlainLink, level_above}
use Rattle.ksi_aggtree.specs.Climbing.{above, climbed}
use Rattle.ksi_aggtree.specs.declared.chains.node.Node.{Node}
use Rattle.ksi_aggtree.specs.declared.chains.climbing.LevelFault.{LevelFault}
use Rattle.ksi_texts.specs.Chains.{link_row, link_rows, over_row}

pub rows_append : (rows more : List (List (List ℕ))) → text_of_lines (rows ++ more) ≡ text_of_lines rows ++ text_of_lines more
rows_append [] more = refl
rows_append (row ∷ rows) more =
    ap (λ (rest : List ℕ). line_of row ++ 10 ∷ rest) (rows_append rows more) ∙ sym (append_assoc (line_of row) (10 ∷ text_of_lines rows) (text_of_lines more))

-- rows are put behind a text, and more behind these
pub then_rows : (a b c : List ℕ) (rows more : List (List (List ℕ))) → b ≡ a ++ text_of_lines rows → c ≡ b ++ text_of_lines more → c ≡ a ++ text_of_lines (rows ++ more)
then_rows a b c rows more one two =
    two ∙ ap (λ (text : List ℕ). text ++ text_of_lines more) one ∙ append_assoc a (text_of_lines rows) (text_of_lines more)
    ∙ ap (λ (text : List ℕ). a ++ text) (sym (rows_append rows more))

-- what is left to be put was the rows and more
pub left_rows : (a b : List ℕ) (rows more left : List (List (List ℕ))) → left ≡ rows ++ more → b ≡ a ++ text_of_lines rows → b ++ text_of_lines more ≡ a ++ text_of_lines left
left_rows a b rows more left is one = then_rows a b (b ++ text_of_lines more) rows more one refl ∙ ap (λ (all : List (List (List ℕ))). a ++ text_of_lines all) (sym is)

-- ---- links

pub goes_on : (place : ℕ) (below top : Node) (link : PlainLink) (links : List PlainLink) → climbed imprint_of place below (link ∷ []) ≡ Ok top
    → link_rows place below (link ∷ links) ≡ link_row place top link ∷ link_rows (place + 1) top links
goes_on place below top link links climbs = elim (leb_tells 256 (level_above below.level link)) [
  | inl t ↦ (let here = rw t.0 at climbs in absurd cc)
  | inr f ↦ (let here = rw f.0 at climbs in
      let same : above imprint_of below link ≡ top = cc in
      rw f.0 (ap (λ (node : Node). link_row place node link ∷ link_rows (place + 1) node links) same))
]

pub stops : (place : ℕ) (below : Node) (link : PlainLink) (links : List PlainLink) (fault : LevelFault) → climbed imprint_of place below (link ∷ []) ≡ Err fault
    → link_rows place below (link ∷ links) ≡ over_row place ∷ []
stops place below link links fault climbs = elim (leb_tells 256 (level_above below.level link)) [
  | inl t ↦ (rw t.0 refl)
  | inr f ↦ (let here = rw f.0 at climbs in absurd cc)
]
